use mathlib.Core.Path.{◌≡◌, ◌∙◌, ap, sym}
use mathlib.Core.Bool.{true, false}
use native.Mathlib.Omega.{arith}
use borrow.Author.Tests.{not-true, not-false}
use Rattle.layout.specs.declared.Shape.{Shape}
use Rattle.image.specs.Verdicts.{contested, double_claim}
use Rattle.image.specs.Loading.{unit_set_words, map_set_words}
use Rattle.search.proofs.Ranges.{lowest_start, lowest-more, lowest-found, lowest-end}
use Rattle.bitset.proofs.BitSets.{bit_set-ext}
use Rattle.image.proofs.Claiming.{unheld-start, unnamed-start, scanned-all, scanned-part}
use Rattle.image.proofs.claims.first_double_claim.Goals as goal

pub loop-j-init : goal.loop-j-init
unfolding double_claim
loop-j-init c =
    let i = c.args.image.now in
    let s = i.bytes.now in
    let same = i.shaped.same in (
      c.fill_units.ensures ∙ rw c.requires.units_len.0 (bit_set-ext _ _ unit_set_words (λ y h. unheld-start s i.shape same y)),
      c.fill.ensures ∙ rw c.requires.units_len.1 (bit_set-ext _ _ map_set_words (λ y h. unnamed-start s i.shape same y)),
      lowest_start _ _ _ (ap (λ (g : Shape). g.c) same),
    )

pub loop-j-preserved : goal.loop-j-preserved
loop-j-preserved c =
    let i = c.args.image.now in
    let l = c.loop-j in
    let h = c.claim.ensures in
    let apart : contested i.bytes.now l.j ≡ false = not-true _ (sym h.right ∙ c.if-not-claim.false) in (
      h.units-left c.if-not-claim.false,
      h.maps-left c.if-not-claim.false,
      l.invariant.2 ∙ lowest-more _ i.shape.c l.j (omega arith) apart,
    )

pub returns-then-not-claim : goal.returns-then-not-claim
returns-then-not-claim c =
    let i = c.args.image.now in
    let l = c.loop-j in
    let h = c.claim.ensures in
    let twice : contested i.bytes.now l.j ≡ true = not-false _ (sym h.right ∙ c.if-not-claim.true) in
    scanned-part i.bytes.now i.shape i.shaped.same l.j _ _ (omega arith)
    (sym (l.invariant.2 ∙ lowest-found _ i.shape.c l.j (omega arith) twice))

pub returns : goal.returns
returns c =
    let i = c.args.image.now in
    let l = c.loop-j in
    scanned-all i.bytes.now i.shape i.shaped.same l.j _ _ (omega arith)
    (sym (l.invariant.2 ∙ lowest-end _ i.shape.c l.j (omega arith))) l.invariant.0 l.invariant.1
