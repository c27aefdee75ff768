-- `sumbilak::calls::sumbilak_format` meets its contract: the answer of `layout::format::format` as numbers, and the image that it leaves.
use mathlib.Core.Path.{ap, ◌∙◌}
use Rattle.answers.specs.Numbers.{done_answer}
use Rattle.sumbilak.proofs.calls.sumbilak_format.Goals as goal

pub returns : goal.returns
returns c = record {
  value = c.done.ensures ∙ ap done_answer c.format-x.ensures.value;
  image_after = c.format-x.ensures.image_after;
}
