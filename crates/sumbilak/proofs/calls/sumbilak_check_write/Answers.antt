-- `sumbilak::calls::sumbilak_check_write` meets its contract: the answer of `checker::check::check` as numbers.
use mathlib.Core.Path.{ap, ◌∙◌}
use Rattle.answers.specs.Numbers.{done_answer}
use Rattle.sumbilak.proofs.calls.sumbilak_check_write.Goals as goal

pub returns : goal.returns
returns c = c.done.ensures ∙ ap done_answer c.check-x.ensures
