-- `sumbilak::calls::sumbilak_alarm_count` meets its contract: the answer of `report::alarms::alarm` as numbers.
use mathlib.Core.Path.{ap, ◌∙◌}
use Rattle.answers.specs.Numbers.{alarm_answers}
use Rattle.sumbilak.proofs.calls.sumbilak_alarm_count.Goals as goal

pub returns : goal.returns
returns c = c.alarm.ensures ∙ ap alarm_answers c.alarm-x.ensures
