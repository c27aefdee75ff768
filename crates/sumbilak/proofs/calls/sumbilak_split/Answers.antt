-- `sumbilak::calls::sumbilak_split` meets its contract: the answer of `access::ranges::split` as numbers, and the buffer that it leaves.
use mathlib.Core.Path.{ap, ◌∙◌}
use Rattle.answers.specs.Numbers.{counted_answer}
use Rattle.sumbilak.proofs.calls.sumbilak_split.Goals as goal

pub returns : goal.returns
returns c = record {
  value = c.counted.ensures ∙ ap counted_answer c.split-x.ensures.value;
  out_after = c.split-x.ensures.out_after;
}
