-- `planner::plan::plan_discard` meets its contract: the refusal of the image, or what `discard_on` answers and leaves.
use Rattle.planner.proofs.AnswerLaws.{discard-passed}
use Rattle.image.proofs.Loads.{outcome-known}
use Rattle.planner.proofs.plan.plan_discard.Goals as goal

pub invariant_of-image : goal.invariant_of-image
invariant_of-image c = record { shaped = (outcome-known c.args.image.now _ c.check_image.ensures _ c.in_ok-shape.was).shaped }

pub returns-clause-value : goal.returns-clause-value
returns-clause-value c =
    let a = c.args in
    let k = outcome-known a.image.now _ c.check_image.ensures _ c.in_ok-shape.was in
    (discard-passed a.image.now _ k.passed k.shape a.out.now _ _ a.chunk _ c.is_mapped.ensures c.discard_on.ensures).0

pub returns-clause-out_after : goal.returns-clause-out_after
returns-clause-out_after c =
    let a = c.args in
    let k = outcome-known a.image.now _ c.check_image.ensures _ c.in_ok-shape.was in
    (discard-passed a.image.now _ k.passed k.shape a.out.now _ _ a.chunk _ c.is_mapped.ensures c.discard_on.ensures).1
