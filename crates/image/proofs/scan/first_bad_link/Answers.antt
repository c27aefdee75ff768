use mathlib.Core.Path.{◌≡◌, ◌∙◌, ap, sym}
use mathlib.Core.Bool.{not}
use native.Mathlib.Omega.{arith}
use Rattle.layout.specs.declared.Shape.{Shape}
use Rattle.image.specs.Verdicts.{bad_link}
use Rattle.search.proofs.Ranges.{lowest_start, lowest-more, lowest-found, lowest-end}
use Rattle.image.proofs.scan.first_bad_link.Goals as goal

pub loop-i-init : goal.loop-i-init
unfolding bad_link
loop-i-init c = lowest_start _ _ _ (ap (λ (g : Shape). g.c) c.args.image.now.shaped.same)

pub loop-i-preserved : goal.loop-i-preserved
loop-i-preserved c =
    let l = c.loop-i in
    l.invariant ∙ lowest-more _ c.args.image.now.shape.c l.i (omega arith) (ap not (sym c.good_link.ensures ∙ c.if-not-good_link.false))

pub returns-then-not-good_link : goal.returns-then-not-good_link
returns-then-not-good_link c =
    let l = c.loop-i in
    sym (l.invariant ∙ lowest-found _ c.args.image.now.shape.c l.i (omega arith) (ap not (sym c.good_link.ensures ∙ c.if-not-good_link.true)))

pub returns : goal.returns
returns c =
    let l = c.loop-i in
    let e : l.i ≡ c.args.image.now.shape.c = omega arith in
    sym (l.invariant ∙ lowest-end _ c.args.image.now.shape.c l.i (omega arith) ∙ e)
