-- `index::Index::access` meets its contract: the answer of `lent::access` for the shape and the words of the index, which is given back.
use Rattle.std.proofs.Common.{refl}
use Rattle.index.proofs.Index.access.Goals as goal

pub returns : goal.returns
returns c = (rw c.from.ensures at c.access-answer.ensures, refl)
