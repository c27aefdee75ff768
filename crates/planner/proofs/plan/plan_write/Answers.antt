-- `planner::plan::plan_write` meets its contract: the refusal of the image, or what `write_on` answers and leaves for the sets that load_into left.
use Rattle.planner.proofs.AnswerLaws.{write-passed}
use Rattle.image.proofs.Loads.{into-known}
use Rattle.planner.proofs.plan.plan_write.Goals as goal

pub write_on-requires-clause-limits : goal.write_on-requires-clause-limits
write_on-requires-clause-limits c = (into-known c.args.image.now _ _ _ c.load_into.ensures _ c.in_ok-g.was).shaped.limits

pub returns-clause-value : goal.returns-clause-value
returns-clause-value c =
    let a = c.args in
    let k = into-known a.image.now _ _ _ c.load_into.ensures _ c.in_ok-g.was in
    (write-passed a.image.now _ k a.out.now _ _ a.chunk a.size c.write_on.ensures).0

pub returns-clause-out_after : goal.returns-clause-out_after
returns-clause-out_after c =
    let a = c.args in
    let k = into-known a.image.now _ _ _ c.load_into.ensures _ c.in_ok-g.was in
    (write-passed a.image.now _ k a.out.now _ _ a.chunk a.size c.write_on.ensures).1
