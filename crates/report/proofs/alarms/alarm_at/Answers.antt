-- `report::alarms::alarm_at` meets its contract.
use Rattle.std.proofs.Common.{arith}
use Rattle.std.proofs.lemmas.Bool.Decides.{nat_tests}
use lib.Ieee.{of_bits}
use Rattle.report.specs.Alarms.{alarm_at}
use Rattle.report.proofs.alarms.alarm_at.Goals as goal

pub returns-in-Fraction : goal.returns-in-Fraction
unfolding alarm_at of_bits
returns-in-Fraction c = grind (arith, nat_tests)

pub returns-then-sounds : goal.returns-then-sounds
unfolding alarm_at of_bits
returns-then-sounds c = grind (arith, nat_tests)

pub returns-else-sounds : goal.returns-else-sounds
unfolding alarm_at of_bits
returns-else-sounds c = grind (arith, nat_tests)
