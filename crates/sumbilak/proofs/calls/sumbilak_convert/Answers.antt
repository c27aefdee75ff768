-- `sumbilak::calls::sumbilak_convert` meets its contract: the answer of `convert::upgrade::convert` as numbers, and the buffer that it leaves.
use Rattle.answers.specs.Numbers.{counted_answer}
use mathlib.Core.Path.{ap, ◌∙◌}
use Rattle.sumbilak.proofs.calls.sumbilak_convert.Goals as goal

pub returns : goal.returns
returns c = record {
  value = c.counted.ensures ∙ ap counted_answer c.convert-x.ensures.value;
  out_after = c.convert-x.ensures.out_after;
}
