-- `planner::plan::put_link` meets its contract.
use Rattle.planner.proofs.Storing.{link-stored}
use Rattle.planner.proofs.plan.put_link.Goals as goal

pub returns : goal.returns
returns c =
    let a = c.args in
    cc (link-stored a.out.now a.at a.chunk a.map)
