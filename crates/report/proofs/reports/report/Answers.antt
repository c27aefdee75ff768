-- `report::reports::report` meets its contract: the sets that were lent are those of the free units and of the free maps of a sound image.
use mathlib.Core.Path.{ap, ◌∙◌, refl, sym}
use borrow.Author.Rules.{rules}
use Rattle.std.specs.Prelude.{Result, Ok}
use Rattle.std.proofs.lemmas.Result.{err_from_is_err_and}
use Rattle.layout.specs.declared.Refusal.{Refusal}
use Rattle.image.proofs.Loads.{into-known, outcome-answer-refused, outcome-answer-sound}
use Rattle.report.specs.declared.Report.{Report}
use Rattle.report.proofs.CountLaws.{report-known}
use Rattle.report.proofs.reports.report.Goals as goal

pub report_on-requires-clause-limits : goal.report_on-requires-clause-limits
report_on-requires-clause-limits c = (into-known c.args.image.now _ _ _ c.in_ok-g.ensures _ refl).shaped.limits

pub returns : goal.returns
returns c =
    let s = c.args.image.now in
    let o = c.in_ok-g.ensures in
    ap (λ (r : Report). Ok r) (c.report_on.ensures ∙ report-known s _ (into-known s _ _ _ o _ refl))
    ∙ outcome-answer-sound s _ o.right _ _ _ refl
