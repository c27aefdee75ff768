-- `sumbilak::indexed::sumbilak_open` meets its contract: the answer of `index::opening::open` as numbers, and the words that it leaves.
use Rattle.answers.specs.Numbers.{opened_answer}
use mathlib.Core.Path.{ap, ◌∙◌}
use Rattle.sumbilak.proofs.holding.sumbilak_open.Goals as goal

pub returns : goal.returns
returns c = record {
  value = c.opened.ensures ∙ ap opened_answer c.open-x.ensures.value;
  sets_after = c.open-x.ensures.sets_after;
}
