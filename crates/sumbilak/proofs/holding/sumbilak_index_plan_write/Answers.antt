-- `sumbilak::indexed::sumbilak_index_plan_write` meets its contract: the answer of `index::lent::plan_write` as numbers, and the buffer that it leaves.
use Rattle.answers.specs.Numbers.{counted_answer}
use mathlib.Core.Path.{ap, ◌∙◌}
use Rattle.sumbilak.proofs.holding.sumbilak_index_plan_write.Goals as goal

pub returns : goal.returns
returns c = record {
  value = c.counted.ensures ∙ ap counted_answer c.plan_write-x.ensures.value;
  out_after = c.plan_write-x.ensures.out_after;
}
