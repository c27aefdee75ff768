-- `loader::load::load_into` meets its contract: the trailer, the pass, and where it says no the scans, by the laws of Loads.
use Rattle.image.proofs.Loads.{trailer-outcome, chunks-outcome, surveyed-into, refused-into}
use Rattle.layout.proofs.Limits.{fits_on, on-shaped}
use Rattle.std.proofs.lemmas.Result.{err_from_is_err_and}
use mathlib.Core.Path.{sym}
use Rattle.loader.proofs.load.load_into.Goals as goal

pub returns-in_err-shape : goal.returns-in_err-shape
returns-in_err-shape c =
    let s = c.args.image.now in
    let p = err_from_is_err_and c.from_residual.result c.from_residual.ensures.1 in
    rw (p.1, p.2) (refused-into s _ _ _ (trailer-outcome s _ (sym c.in_err-shape.ensures)))

pub invariant_of-image : goal.invariant_of-image
invariant_of-image c = record { shaped = on-shaped _ _ (fits_on _ _ (sym c.in_ok-shape.ensures)) }

pub returns-then-survey : goal.returns-then-survey
returns-then-survey c = surveyed-into c.args.image.now _ (sym c.in_ok-shape.ensures) _ _ _ c.survey.ensures c.if-survey.true

pub returns : goal.returns
returns c =
    let s = c.args.image.now in
    refused-into s _ _ _ (chunks-outcome s _ (sym c.in_ok-shape.ensures) _ c.refusal.ensures)
