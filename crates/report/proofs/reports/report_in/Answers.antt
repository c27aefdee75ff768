-- `report::reports::report_in` meets its contract.
use Rattle.report.specs.Reports.{report_from}
use Rattle.report.proofs.reports.report_in.Goals as goal

pub returns : goal.returns
unfolding report_from
returns c = cc
