-- `indexed::lent::report` meets its contract: an index that is admitted has the words of both sets.
use Rattle.std.proofs.Common.{arith}
use Rattle.indexed.specs.Admitting.{shape_from}
use Rattle.indexed.proofs.Admitting.{admitted}
use Rattle.indexed.proofs.Answering.{maps-few}
use Rattle.indexed.proofs.lent.report.Goals as goal

pub free_in-requires : goal.free_in-requires
free_in-requires c = (admitted (shape_from c.args.h) _ _ _ c.in_ok-g.ensures).room

pub report_on-requires : goal.report_on-requires
report_on-requires c =
    let k = admitted (shape_from c.args.h) _ _ _ c.in_ok-g.ensures in
    record { limits = k.shaped.limits; maps_bound = rw c.free_in.ensures.maps (omega (arith, maps-few c.args.sets.now k.room)) }
