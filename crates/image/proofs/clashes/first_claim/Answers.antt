use mathlib.Core.Path.{◌≡◌, refl, ◌∙◌, sym}
use native.Mathlib.Omega.{arith}
use Rattle.image.specs.Verdicts.{clash, first_claim}
use Rattle.search.proofs.Ranges.{lowest_start, lowest-more, lowest-found, lowest-end}
use Rattle.image.proofs.clashes.first_claim.Goals as goal

pub loop-i-init : goal.loop-i-init
unfolding first_claim
loop-i-init c = lowest_start (λ k. clash c.args.image.now.bytes.now k c.args.j) c.args.j _ refl

pub returns-then-clashes : goal.returns-then-clashes
returns-then-clashes c =
    let l = c.loop-i in
    sym (l.invariant ∙ lowest-found _ c.args.j l.i (omega arith) (sym c.clashes.ensures ∙ c.if-clashes.true))

pub loop-i-preserved : goal.loop-i-preserved
loop-i-preserved c =
    let l = c.loop-i in
    l.invariant ∙ lowest-more _ c.args.j l.i (omega arith) (sym c.clashes.ensures ∙ c.if-clashes.false)

pub returns : goal.returns
returns c =
    let l = c.loop-i in
    let e : l.i ≡ c.args.j = omega arith in
    sym (l.invariant ∙ lowest-end _ c.args.j l.i (omega arith) ∙ e)
