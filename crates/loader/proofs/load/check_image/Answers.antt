-- `loader::load::check_image` meets its contract: the trailer, the pass, and where it says no the scans, by the laws of Loads.
use Rattle.image.proofs.Loads.{trailer-outcome, chunks-outcome, sound-outcome}
use Rattle.layout.proofs.Limits.{fits_on, on-shaped}
use Rattle.std.proofs.lemmas.Result.{err_from_is_err_and}
use mathlib.Core.Path.{sym, ◌∙◌}
use Rattle.loader.proofs.load.check_image.Goals as goal

pub returns-in_err-shape : goal.returns-in_err-shape
returns-in_err-shape c =
    let s = c.args.image.now in
    let p = err_from_is_err_and c.from_residual.result c.from_residual.ensures.1 in
    rw (p.1, p.2) (trailer-outcome s _ (sym c.in_err-shape.ensures))

pub invariant_of-image : goal.invariant_of-image
invariant_of-image c = record { shaped = on-shaped _ _ (fits_on _ _ (sym c.in_ok-shape.ensures)) }

pub returns-then-passes : goal.returns-then-passes
returns-then-passes c = sound-outcome c.args.image.now _ (sym c.in_ok-shape.ensures) (sym c.passes.ensures ∙ c.if-passes.true)

pub returns : goal.returns
returns c = chunks-outcome c.args.image.now _ (sym c.in_ok-shape.ensures) _ c.refusal.ensures
