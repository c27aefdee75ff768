-- `indexed::lent::alarm` meets its contract: an index that is admitted has the words of both sets.
use Rattle.indexed.specs.Admitting.{shape_from}
use Rattle.indexed.proofs.Admitting.{admitted}
use Rattle.indexed.proofs.lent.alarm.Goals as goal

pub free_in-requires : goal.free_in-requires
free_in-requires c = (admitted (shape_from c.args.h) _ _ _ c.in_ok-g.ensures).room
