-- `indexed::lent::find_held` meets its contract: an image that is admitted has the shape that its trailer says, and the chunk's entry is good.
use Rattle.indexed.specs.Admitting.{shape_from}
use Rattle.indexed.proofs.Admitting.{admitted-chunk, admitted-entry}
use Rattle.indexed.proofs.lent.find_held.Goals as goal

pub invariant_of-held_on : goal.invariant_of-held_on
invariant_of-held_on c = record { shaped = (admitted-chunk (shape_from c.args.h) _ _ _ _ c.in_ok-g.ensures).shaped }

pub held_on-requires : goal.held_on-requires
held_on-requires c = record { chunk_value = admitted-entry (shape_from c.args.h) _ _ _ _ c.in_ok-g.ensures }
