-- `index::Index::plan_write` meets its contract: the answer of `lent::plan_write` for the shape and the words of the index, which is given back.
use Rattle.std.proofs.Common.{refl}
use Rattle.index.proofs.Index.plan_write.Goals as goal

pub returns-clause-planned_value : goal.returns-clause-planned_value
returns-clause-planned_value c = (rw c.from.ensures at c.plan_write-answer.ensures.value, refl)
