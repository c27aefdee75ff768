-- `index::Index::check` meets its contract: the answer of `lent::check` for the shape and the words of the index, which is given back.
use Rattle.std.proofs.Common.{refl}
use Rattle.index.proofs.Index.check.Goals as goal

pub returns : goal.returns
returns c = (rw c.from.ensures at c.check-answer.ensures, refl)
