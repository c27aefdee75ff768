-- `access::ranges::good_range` meets its contract.
use Rattle.std.proofs.Common.{arith}
use Rattle.std.proofs.lemmas.Bool.Decides.{nat_tests}
use Rattle.access.specs.Ranges.{good_range}
use Rattle.access.proofs.ranges.good_range.Goals as goal

pub returns-then-offset-total : goal.returns-then-offset-total
unfolding good_range
returns-then-offset-total c = grind (arith, nat_tests)

pub returns-else-offset-total : goal.returns-else-offset-total
unfolding good_range
returns-else-offset-total c = grind (arith, nat_tests)
