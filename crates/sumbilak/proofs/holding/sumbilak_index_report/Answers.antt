-- `sumbilak::indexed::sumbilak_index_report` meets its contract: the answer of `index::lent::report` as numbers.
use Rattle.answers.specs.Numbers.{reported_answer}
use mathlib.Core.Path.{ap, ◌∙◌}
use Rattle.sumbilak.proofs.holding.sumbilak_index_report.Goals as goal

pub returns : goal.returns
returns c = c.reported.ensures ∙ ap reported_answer c.report-x.ensures
