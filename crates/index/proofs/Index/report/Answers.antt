-- `index::Index::report` meets its contract: the answer of `lent::report` for the shape and the words of the index, which is given back.
use Rattle.std.proofs.Common.{refl}
use Rattle.index.proofs.Index.report.Goals as goal

pub returns : goal.returns
returns c = (rw c.from.ensures at c.report-answer.ensures, refl)
