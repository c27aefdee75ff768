-- `sumbilak::indexed::sumbilak_index_stored_size` meets its contract: the answer of `index::lent::stored_size` as numbers.
use Rattle.answers.specs.Numbers.{counted_answer}
use mathlib.Core.Path.{ap, ◌∙◌}
use Rattle.sumbilak.proofs.holding.sumbilak_index_stored_size.Goals as goal

pub returns : goal.returns
returns c = c.stored.ensures ∙ ap counted_answer c.stored_size-x.ensures
