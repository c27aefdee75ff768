-- `planner::plan::write_to` meets its contract: 10, or the steps of the plan.
use Rattle.planner.proofs.Storing.{length-write_steps}
use Rattle.planner.proofs.AnswerLaws.{stored-plan}
use Rattle.planner.proofs.plan.write_to.Goals as goal

pub returns : goal.returns
returns c =
    let words = c.map_words in
    let heads = c.head in
    let a = c.args in
    let long = length-write_steps heads.result a.size a.units.now a.map words.result a.chunk in
    rw (← words.ensures.0, ← heads.ensures.0) (stored-plan a.out.now _ _ _ _ long c.in_ok-steps.ensures c.put_write.ensures)
