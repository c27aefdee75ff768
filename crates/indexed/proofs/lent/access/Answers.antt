-- `indexed::lent::access` meets its contract: an image that is admitted has the shape that its trailer says.
use Rattle.indexed.specs.Admitting.{shape_from}
use Rattle.indexed.proofs.Admitting.{admitted}
use Rattle.indexed.proofs.lent.access.Goals as goal

pub invariant_of-access_on : goal.invariant_of-access_on
invariant_of-access_on c = record { shaped = (admitted (shape_from c.args.h) _ _ _ c.in_ok-g.ensures).shaped }
