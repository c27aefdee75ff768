-- `planner::plan::put_write` meets its contract: the three parts, one after the other.
use Rattle.planner.proofs.Storing.{write-stored}
use Rattle.planner.proofs.plan.put_write.Goals as goal

pub returns : goal.returns
returns c =
    let m = c.args.filled.now in
    cc (write-stored c.args.out.now m.heads m.size m.units.now m.map m.words c.args.chunk)
