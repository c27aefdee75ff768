-- `sumbilak::indexed::sumbilak_index_alarm_count` meets its contract: the answer of `index::lent::alarm` as numbers.
use Rattle.answers.specs.Numbers.{alarm_answers}
use mathlib.Core.Path.{ap, ◌∙◌}
use Rattle.sumbilak.proofs.holding.sumbilak_index_alarm_count.Goals as goal

pub returns : goal.returns
returns c = c.alarm.ensures ∙ ap alarm_answers c.alarm-x.ensures
