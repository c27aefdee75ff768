-- `sumbilak::indexed::sumbilak_index_held` meets its contract: the answer of `index::lent::find_held` as numbers.
use Rattle.answers.specs.Numbers.{held_answer}
use mathlib.Core.Path.{ap, ◌∙◌}
use Rattle.sumbilak.proofs.holding.sumbilak_index_held.Goals as goal

pub returns : goal.returns
returns c = c.held.ensures ∙ ap held_answer c.find_held-x.ensures.value
