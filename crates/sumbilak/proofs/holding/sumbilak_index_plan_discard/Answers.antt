-- `sumbilak::indexed::sumbilak_index_plan_discard` meets its contract: the answer of `index::lent::plan_discard` as numbers, and the buffer that it leaves.
use Rattle.answers.specs.Numbers.{counted_answer}
use mathlib.Core.Path.{ap, ◌∙◌}
use Rattle.sumbilak.proofs.holding.sumbilak_index_plan_discard.Goals as goal

pub returns : goal.returns
returns c = record {
  value = c.counted.ensures ∙ ap counted_answer c.plan_discard-x.ensures.value;
  out_after = c.plan_discard-x.ensures.out_after;
}
