-- `report::alarms::alarm_on` meets its contract: what the set has below N is what is free.
use Rattle.report.specs.Alarms.{alarm_on}
use Rattle.report.proofs.alarms.alarm_on.Goals as goal

pub returns : goal.returns
unfolding alarm_on
returns c = rw (← c.count_below-free.ensures) c.alarm_at.ensures
