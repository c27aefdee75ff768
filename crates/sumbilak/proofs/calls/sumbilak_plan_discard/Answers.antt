-- `sumbilak::calls::sumbilak_plan_discard` meets its contract: the answer of `planner::plan::plan_discard` as numbers, and the buffer that it leaves.
use mathlib.Core.Path.{ap, ◌∙◌}
use Rattle.answers.specs.Numbers.{counted_answer}
use Rattle.sumbilak.proofs.calls.sumbilak_plan_discard.Goals as goal

pub returns : goal.returns
returns c = record {
  value = c.counted.ensures ∙ ap counted_answer c.plan_discard-x.ensures.value;
  out_after = c.plan_discard-x.ensures.out_after;
}
