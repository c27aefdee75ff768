-- `report::reports::ratio` meets its contract.
use Rattle.std.proofs.Common.{rules}
use Rattle.report.specs.Reports.{ratio}
use Rattle.report.proofs.reports.ratio.Goals as goal

pub returns : goal.returns
unfolding ratio
returns c = search rules
