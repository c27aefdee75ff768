-- `sumbilak::calls::sumbilak_stored_size` meets its contract: the answer of `access::sizes::stored_size` as numbers.
use Rattle.answers.specs.Numbers.{counted_answer}
use mathlib.Core.Path.{ap, ◌∙◌}
use Rattle.sumbilak.proofs.calls.sumbilak_stored_size.Goals as goal

pub returns : goal.returns
returns c = c.stored.ensures ∙ ap counted_answer c.stored_size-x.ensures
