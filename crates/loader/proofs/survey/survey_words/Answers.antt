use Rattle.bitset.proofs.Members.{members-most}
use Rattle.image.proofs.Surveying.{claims-none, units-start, maps-start, put-few, put-bad, put-good, put_count}
use Rattle.image.proofs.Surveyed.{survey-bad, survey-done}
use Rattle.layout.specs.declared.Shape.{Shape}
use Rattle.layout.proofs.Limits.{units-high}
use Rattle.bitset.proofs.BitSets.{length-bit_set}
use Rattle.bitset.specs.Bits.{words_for}
use borrow.Author.Count.{below_more}
use lib.ListN.{length}
use native.Mathlib.Omega.{arith}
use mathlib.Core.Path.{sym, ap, ◌∙◌}
use Prim.Native.Nat.{ℕ, ◌+◌}
use Rattle.loader.proofs.survey.survey_words.Goals as goal

pub loop-i-init : goal.loop-i-init
loop-i-init c =
    let m = c.args.image.now in
    let s = m.bytes.now in (
      units-start s m.shape _ m.shaped.same c.fill_outside.ensures,
      maps-start s m.shape _ m.shaped.same c.fill_outside-2.ensures,
      claims-none s,
      omega arith,
      λ y h. absurd (omega arith),
    )

pub returns-in_default : goal.returns-in_default
returns-in_default c =
    let m = c.args.image.now in
    survey-bad m.bytes.now m.shape m.shaped _ _ _ _ c.loop-i.i (omega arith) (put-bad m.bytes.now c.loop-i.i c.in_default.ensures.value)

pub overflow_add-claimed : goal.overflow_add-claimed
overflow_add-claimed c =
    let m = c.args.image.now in
    let p = ap (λ (g : Shape). g.p) m.shaped.same in
    omega (arith, m.shaped.limits.c-high, m.shaped.limits.p-high, put-few m.bytes.now c.loop-i.i _ c.in-Some.ensures.value)

pub loop-i-preserved : goal.loop-i-preserved
loop-i-preserved c =
    let m = c.args.image.now in
    let s = m.bytes.now in
    let i = c.loop-i.i in
    let p = ap (λ (g : Shape). g.p) m.shaped.same in
    let e = c.in-Some.ensures.value in
    let good = put-good s i _ e in (
      c.in-Some.ensures.units_after good,
      c.in-Some.ensures.maps_after good,
      ap (λ (k : ℕ). k + c.in-Some.words) c.loop-i.invariant.2 ∙ sym (put_count s i _ e),
      omega (arith, m.shaped.limits.p-high, put-few s i _ e, c.loop-i.invariant.3),
      below_more _ i c.loop-i.invariant.4 good,
    )

pub overflow_add-result : goal.overflow_add-result
overflow_add-result c =
    let m = c.args.image.now in
    let z = ap length c.loop-i.invariant.0 ∙ length-bit_set _ (words_for m.shape.n) in
    omega (arith, c.count.ensures, members-most c.invert.new.set, c.invert.auto.set, units-high m.shape m.shaped.limits, m.shaped.limits.c-high)

pub returns : goal.returns
returns c =
    let m = c.args.image.now in
    survey-done m.bytes.now m.shape m.shaped c.loop-i.i (omega arith) c.loop-i.invariant.4 _ _ _ _ c.loop-i.invariant.0 c.invert.ensures
    c.loop-i.invariant.1 c.invert-2.ensures _ _ c.loop-i.invariant.2 c.count.ensures
