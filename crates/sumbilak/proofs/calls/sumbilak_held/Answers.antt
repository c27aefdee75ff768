-- `sumbilak::calls::sumbilak_held` meets its contract: the answer of `access::parts::find_held` as numbers.
use mathlib.Core.Path.{ap, ◌∙◌}
use Rattle.answers.specs.Numbers.{held_answer}
use Rattle.sumbilak.proofs.calls.sumbilak_held.Goals as goal

pub returns : goal.returns
returns c = c.held.ensures ∙ ap held_answer c.find_held-x.ensures.value
