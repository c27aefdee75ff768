-- `sumbilak::indexed::sumbilak_index_check_discard` meets its contract: the answer of `index::lent::check` as numbers.
use Rattle.answers.specs.Numbers.{done_answer}
use mathlib.Core.Path.{ap, ◌∙◌}
use Rattle.sumbilak.proofs.holding.sumbilak_index_check_discard.Goals as goal

pub returns : goal.returns
returns c = c.done.ensures ∙ ap done_answer c.check-x.ensures
