-- `indexed::lent::stored_size` meets its contract: an image that is admitted has the shape that its trailer says, and the chunk's entry is good.
use Rattle.indexed.specs.Admitting.{shape_from}
use Rattle.indexed.proofs.Admitting.{admitted-chunk, admitted-entry}
use Rattle.indexed.proofs.lent.stored_size.Goals as goal

pub invariant_of-size_on : goal.invariant_of-size_on
invariant_of-size_on c = record { shaped = (admitted-chunk (shape_from c.args.h) _ _ _ _ c.in_ok-g.ensures).shaped }

pub size_on-requires : goal.size_on-requires
size_on-requires c = record { chunk_value = admitted-entry (shape_from c.args.h) _ _ _ _ c.in_ok-g.ensures }
