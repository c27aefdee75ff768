-- `sumbilak::indexed::sumbilak_index_carry_discard` meets its contract: the answer of `index::lent::carry` as numbers, and the image and the words that it leaves.
use Rattle.answers.specs.Numbers.{done_answer}
use mathlib.Core.Path.{ap, ◌∙◌}
use Rattle.sumbilak.proofs.holding.sumbilak_index_carry_discard.Goals as goal

pub returns : goal.returns
returns c =
    let x = c.carry-x.ensures in
    record {
      value = c.done.ensures ∙ ap done_answer x.value;
      image_after = x.image_after;
      sets_after = x.sets_after;
    }
