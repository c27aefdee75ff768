-- `sumbilak::calls::sumbilak_repair` meets its contract: the answer of `repair::mend::repair` as numbers, and the image and the list that it leaves.
use Rattle.answers.specs.Numbers.{counted_answer}
use mathlib.Core.Path.{ap, ◌∙◌}
use Rattle.sumbilak.proofs.calls.sumbilak_repair.Goals as goal

pub returns : goal.returns
returns c = record {
  value = c.counted.ensures ∙ ap counted_answer c.repair-x.ensures.value;
  image_after = c.repair-x.ensures.image_after;
  out_after = c.repair-x.ensures.out_after;
}
