-- `report::reports::report_on` meets its contract: a set has no more below M than M.
use native.Mathlib.Omega.{arith}
use Rattle.bitset.proofs.Members.{members-few}
use Rattle.report.specs.Reports.{report_on}
use Rattle.report.proofs.reports.report_on.Goals as goal

pub overflow_sub-mapped : goal.overflow_sub-mapped
overflow_sub-mapped c =
    let a = c.args in
    omega (arith, c.count_below-unnamed.ensures, members-few a.free.now.maps.now a.g.m)

pub returns : goal.returns
unfolding report_on
returns c = rw (← c.count_below-units.ensures, ← c.count_below-unnamed.ensures) c.report_in.ensures
