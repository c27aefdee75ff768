-- `index::Index::alarm` meets its contract: the answer of `lent::alarm` for the shape and the words of the index, which is given back.
use Rattle.std.proofs.Common.{refl}
use Rattle.index.proofs.Index.alarm.Goals as goal

pub returns : goal.returns
returns c = (rw c.from.ensures at c.alarm-answer.ensures, refl)
