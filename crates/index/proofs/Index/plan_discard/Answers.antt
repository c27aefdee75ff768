-- `index::Index::plan_discard` meets its contract: the answer of `lent::plan_discard` for the shape and the words of the index, which is given back.
use Rattle.std.proofs.Common.{refl}
use Rattle.index.proofs.Index.plan_discard.Goals as goal

pub returns-clause-planned_value : goal.returns-clause-planned_value
returns-clause-planned_value c = (rw c.from.ensures at c.plan_discard-answer.ensures.value, refl)
