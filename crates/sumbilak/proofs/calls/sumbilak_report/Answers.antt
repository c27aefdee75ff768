-- `sumbilak::calls::sumbilak_report` meets its contract: the answer of `report::reports::report` as numbers.
use mathlib.Core.Path.{ap, ◌∙◌}
use Rattle.answers.specs.Numbers.{reported_answer}
use Rattle.sumbilak.proofs.calls.sumbilak_report.Goals as goal

pub returns : goal.returns
returns c = c.reported.ensures ∙ ap reported_answer c.report-x.ensures
