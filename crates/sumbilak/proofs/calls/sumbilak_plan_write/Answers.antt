-- `sumbilak::calls::sumbilak_plan_write` meets its contract: the answer of `planner::plan::plan_write` as numbers, and the buffer that it leaves.
use mathlib.Core.Path.{ap, ◌∙◌}
use Rattle.answers.specs.Numbers.{counted_answer}
use Rattle.sumbilak.proofs.calls.sumbilak_plan_write.Goals as goal

pub returns : goal.returns
returns c = record {
  value = c.counted.ensures ∙ ap counted_answer c.plan_write-x.ensures.value;
  out_after = c.plan_write-x.ensures.out_after;
}
