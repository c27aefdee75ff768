-- `index::Index::stored_size` meets its contract: the answer of `lent::stored_size` for the shape and the words of the index, which is given back.
use Rattle.std.proofs.Common.{refl}
use Rattle.index.proofs.Index.stored_size.Goals as goal

pub returns : goal.returns
returns c = (rw c.from.ensures at c.stored_size-answer.ensures, refl)
