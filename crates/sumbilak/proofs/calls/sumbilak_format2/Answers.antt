-- `sumbilak::calls::sumbilak_format2` meets its contract: the answer of `layout::format::format2` as numbers, and the image that it leaves.
use Rattle.answers.specs.Numbers.{done_answer}
use mathlib.Core.Path.{ap, ◌∙◌}
use Rattle.sumbilak.proofs.calls.sumbilak_format2.Goals as goal

pub returns : goal.returns
returns c = record {
  value = c.done.ensures ∙ ap done_answer c.format2-x.ensures.value;
  image_after = c.format2-x.ensures.image_after;
}
