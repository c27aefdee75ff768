-- `checker::check::check` meets its contract: the refusal of the image, or what `judge` answers by the shape and the sets that load_into left.
use Rattle.std.specs.Prelude.{Err}
use Rattle.std.proofs.lemmas.Result.{err_from_is_err_and}
use Rattle.rules.proofs.Knowing.{judged-loaded}
use Rattle.rules.specs.Rules.{checked}
use Rattle.image.proofs.Loads.{into-known, outcome-answer-refused, outcome-answer-sound}
use mathlib.Core.Path.{◌∙◌}
use Rattle.checker.proofs.check.check.Goals as goal

pub returns-in_err-shape : goal.returns-in_err-shape
unfolding checked
returns-in_err-shape c =
    let p = err_from_is_err_and c.from_residual.result c.from_residual.ensures.1 in
    rw (p.1, p.2) (outcome-answer-refused c.args.image.now _ c.load_into.ensures.right Err _ _ c.in_err-shape.was)

pub invariant_of-image : goal.invariant_of-image
invariant_of-image c = record { shaped = (into-known c.args.image.now _ _ _ c.load_into.ensures _ c.in_ok-shape.was).shaped }

pub returns : goal.returns
unfolding checked
returns c =
    let a = c.args in
    let s = a.image.now in
    let e = c.load_into.ensures in
    let k = into-known s _ _ _ e _ c.in_ok-shape.was in
    let is = rw c.chunk_of.ensures at c.is_mapped.ensures in
    c.judge.ensures ∙ judged-loaded s _ k a.request a.plan.now _ is ∙ outcome-answer-sound s _ e.right Err _ _ c.in_ok-shape.was
