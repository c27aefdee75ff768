-- `sumbilak::calls::sumbilak_carry_write` meets its contract: the answer of `carry::carry` as numbers, and the image that it leaves.
use mathlib.Core.Path.{ap, ◌∙◌}
use Rattle.answers.specs.Numbers.{done_answer}
use Rattle.sumbilak.proofs.calls.sumbilak_carry_write.Goals as goal

pub returns : goal.returns
returns c = record {
  value = c.done.ensures ∙ ap done_answer c.carry-x.ensures.value;
  image_after = c.carry-x.ensures.image_after;
}
