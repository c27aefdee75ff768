-- `sumbilak::calls::sumbilak_access` meets its contract: the answer of `access::ranges::access` as numbers.
use mathlib.Core.Path.{ap, ◌∙◌}
use Rattle.answers.specs.Numbers.{access_answers}
use Rattle.sumbilak.proofs.calls.sumbilak_access.Goals as goal

pub returns : goal.returns
returns c = c.access.ensures ∙ ap access_answers c.access-x.ensures
