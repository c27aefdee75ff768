-- `sumbilak::indexed::sumbilak_index_access` meets its contract: the answer of `index::lent::access` as numbers.
use Rattle.answers.specs.Numbers.{access_answers}
use mathlib.Core.Path.{ap, ◌∙◌}
use Rattle.sumbilak.proofs.holding.sumbilak_index_access.Goals as goal

pub returns : goal.returns
returns c = c.access.ensures ∙ ap access_answers c.access-x.ensures
