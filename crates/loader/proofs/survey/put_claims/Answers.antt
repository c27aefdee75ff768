-- `loader::survey::put_claims` meets its contract: each return is one of the laws of Surveying on what the chunk claims.
use Rattle.image.proofs.Surveying.{put-absent, put-refused, put-empty, put_rest, put-size, put-named}
use Rattle.image.proofs.Leading.{length-leading}
use Rattle.image.proofs.MapWords.{length-units_in}
use Rattle.image.specs.Survey.{has_bit, passable, units_taken, maps_taken}
use Rattle.layout.specs.Shaped.{unit_words_of}
use Rattle.layout.specs.declared.Shape.{Shape}
use Rattle.layout.specs.Layout.{shape_of}
use Rattle.bitset.proofs.BitSets.{length-bit_set, inserted-set}
use Rattle.bitset.specs.Bits.{inserted, words_for}
use lib.ListN.{length}
use native.Mathlib.Omega.{arith}
use Prim.Native.Nat.{ℕ}
use mathlib.Core.Bool.{false}
use mathlib.Core.List.{List}
use mathlib.Core.Path.{◌≡◌, refl, sym, ap, ◌∙◌}
use Rattle.loader.proofs.survey.put_claims.Goals as goal
use Rattle.loader.proofs.survey.put_claims.Goals.{then-h-eq0-via-then-h-eq0, then-h-eq0-via-else-h-eq0+then-not-rest_absent, then-h-eq0-via-else-h-eq0+else-not-rest_absent+then-not-size_fits}

pub returns-then-w : goal.returns-then-w
returns-then-w c =
    let t = put-absent c.args.image.now.bytes.now c.args.i _ c.link-w.ensures _ _ _ _ c.if-w.true c.requires.units_value c.requires.maps_value in record {
      value = t.0;
      units_after = t.1.0;
      maps_after = t.1.1;
    }

pub place-requires : goal.place-requires
place-requires c = (refl, omega (arith, ap length c.requires.maps_value ∙ length-bit_set _ (words_for c.args.image.now.shape.m)))

pub put_units-h-requires : goal.put_units-h-requires
put_units-h-requires c =
    record { k_lt_m = (omega arith, ap length c.requires.units_value ∙ length-bit_set _ (words_for c.args.image.now.shape.n)) }

pub rest_absent-requires : goal.rest_absent-requires
rest_absent-requires c =
    let m = c.args.image.now in
    let l = length-leading (has_bit (shape_of m.bytes.now)) (unit_words_of m.bytes.now c.link-w.result) in
    let w = length-units_in m.bytes.now m.shape c.link-w.result m.shaped in
    record { k_lt_m = (omega arith, omega (arith, c.put_units-h.ensures.value)) }

pub size_fits-requires : goal.size_fits-requires
size_fits-requires c =
    let m = c.args.image.now in
    let l = length-leading (has_bit (shape_of m.bytes.now)) (unit_words_of m.bytes.now c.link-w.result) in
    let w = length-units_in m.bytes.now m.shape c.link-w.result m.shaped in
    record { k_lt_m = (omega arith, omega arith, omega (arith, c.put_units-h.ensures.value)) }

pub returns-then-h-eq0 : goal.returns-then-h-eq0
returns-then-h-eq0 c =
    let m = c.args.image.now in
    let s = m.bytes.now in
    let i = c.args.i in
    let e = c.put_units-h.ensures.value in
    let bad : passable s i ≡ false = elim c.then-h-eq0.branch [
      | then-h-eq0-via-then-h-eq0 w ↦ put-empty s i _ c.link-w.ensures c.if-w.false _ e w.if-h-eq0.true
      | then-h-eq0-via-else-h-eq0+then-not-rest_absent w ↦
          put_rest s i _ c.link-w.ensures c.if-w.false _ e w.if-h-eq0.false (sym w.rest_absent.ensures ∙ w.if-not-rest_absent.true)
      | then-h-eq0-via-else-h-eq0+else-not-rest_absent+then-not-size_fits w ↦
          put-size s i _ c.link-w.ensures c.if-w.false _ e w.if-h-eq0.false (sym w.size_fits.ensures ∙ w.if-not-size_fits.true)
    ] in
    let t = put-refused s i (words_for m.shape.n) (words_for m.shape.m) c.put_units-h.new.units c.place.new.set bad in record {
      value = t.0;
      units_after = t.1.0;
      maps_after = t.1.1;
    }

pub returns : goal.returns
returns c =
    let m = c.args.image.now in
    let s = m.bytes.now in
    let i = c.args.i in
    let same = ap (λ (g : Shape). g.m) m.shaped.same in
    let named = c.place.ensures ∙ ap (λ (l : List ℕ). inserted l c.link-w.result) c.requires.maps_value ∙ inserted-set (maps_taken s i) (words_for m.shape.m) _ in
    let t = put-named s i _ c.link-w.ensures c.if-w.false _ c.put_units-h.ensures.value c.if-h-eq0.false _ _ _ _ (omega arith)
    (sym c.rest_absent.ensures ∙ c.if-not-rest_absent.false) (sym c.size_fits.ensures ∙ c.if-not-size_fits.false)
    (c.put_units-h.ensures.by_index (units_taken s i) c.requires.units_value) named in record {
      value = t.0;
      units_after = t.1.0;
      maps_after = t.1.1;
    }
