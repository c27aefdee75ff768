-- `Sound`, document 01's words, against `Tested`, what the verdict tests of each chunk: each follows from the other.
use Prim.Native.Nat.{ℕ, ◌<◌}
use native.Mathlib.Omega.{arith}
use mathlib.Core.Path.{◌≡◌, sym, ap, subst, ◌∙◌}
use mathlib.Core.Logic.{⊎_elim}
use mathlib.Core.Bool.{true, false}
use mathlib.Core.List.{List, ◌++◌}
use lib.ListN.{length, get_or, take, drop, take-append-drop}
use lib.Seq.{length-take-le}
use lib.Dec.{ltb}
use borrow.Author.Tests.{ltb-true, ltb-false, lt-ltb}
use Rattle.words.specs.Words.{Bytes}
use Rattle.search.proofs.Bools.{contradict, either, is_false}
use Rattle.search.proofs.Members.{member-place, member-get_or}
use Rattle.search.proofs.Distinct.{distinct-intro, distinct-place}
use Rattle.search.specs.Search.{below, member, distinct}
use Rattle.search.proofs.Ranges.{any_below, any-below-intro}
use Rattle.search.proofs.Joined.{member-joined}
use Rattle.image.specs.Free.{held_units}
use Rattle.layout.specs.declared.Shape.{Shape}
use Rattle.layout.specs.Layout.{first_edition, last_edition, is_unit, words_of, trailer_start, trailer_of, known_as, shape_of, known, fitting, link_of}
use Rattle.layout.proofs.Limits.{limits-hold, known_as_lem, shape-edition, fitting-limits, fitting-length, absent-no-unit}
use Rattle.layout.proofs.Told.{not_first, shape-told, known-told, fitting-told, ends-in-trailer}
use Rattle.image.specs.Soundness.{mapped, named_words, units_of, leading, NamesUnit, Sound}
use Rattle.image.specs.Verdicts.{good_map, clash}
use Rattle.image.specs.Claims.{Tested, held_in}
use Rattle.image.proofs.Leading.{leading_at, length-leading}
use Rattle.image.proofs.Order.{clashing}
use Rattle.image.proofs.Chunks.{map-form, form-good, absent-link, absent-map, is_mapped, named-link, named-map, named-below, mapped-named, unmapped-absent, units-mapped, mapped-of-unit, owner, map-owner}

-- unit a of a mapped chunk is word a of those of its map that may name units
pub unit-at : (s : List ℕ) (i a : ℕ) → i < (shape_of s).c → mapped s i ≡ true → a < length (units_of s i)
    → NamesUnit (shape_of s) s i a (get_or (units_of s i) a 0)
unit-at s i a c m h =
    let g = shape_of s in
    let ws = named_words g s i in
    let e = units-mapped s i m in
    let l : a < length (leading (is_unit g) ws) = let q = ap length e in omega arith in
    let r = leading_at (is_unit g) ws a l in
    let same : get_or (units_of s i) a 0 ≡ get_or ws a 0 = ap (λ (us : List ℕ). get_or us a 0) e ∙ r.0 in
    record {
      chunk = c;
      named = mapped-named s i m;
      place = omega (arith, length-leading (is_unit g) ws);
      word = sym same;
      unit = ap (is_unit g) same ∙ r.1;
    }

-- and so each of its units is a word of its map
pub unit-named : (s : List ℕ) (u i : ℕ) → i < (shape_of s).c → member u (units_of s i) ≡ true → (a : ℕ) × NamesUnit (shape_of s) s i a u
unit-named s u i c m =
    let p = member-place u (units_of s i) m in
    (p.0, subst (NamesUnit (shape_of s) s i p.0) p.2 (unit-at s i p.0 c (mapped-of-unit s u i m) p.1))

-- ---- from the tests to the words

-- a word of a well-formed map that is a unit is one of the chunk's units
pub unit-place : (s : List ℕ) (u i a : ℕ) → fitting s ≡ true → good_map s i ≡ true → NamesUnit (shape_of s) s i a u
    → (a < length (units_of s i)) × (get_or (units_of s i) a 0 ≡ u)
unit-place s u i a fits m n =
    let g = shape_of s in
    let ws = named_words g s i in
    let f = (map-form g (words_of g s (link_of s i)) (sym (named-map s i n.named) ∙ m)).units in
    let e = units-mapped s i (is_mapped s i n.named) in
    let k = length (leading (is_unit g) ws) in
    let l : a < k =
    ⊎_elim (λ t. ltb-true a k t)
    (λ t. let x = f.rest a (ltb-false a k t) n.place in
    contradict (ap (is_unit g) (sym x ∙ n.word) ∙ n.unit) (absent-no-unit g (fitting-limits s fits)))
    (either (ltb a k)) in
    (let q = ap length e in omega arith, ap (λ (us : List ℕ). get_or us a 0) e ∙ (leading_at (is_unit g) ws a l).0 ∙ n.word)

module _ (s : List ℕ) (z : Tested s) where
  once : (u i j a b : ℕ) → NamesUnit (shape_of s) s i a u → NamesUnit (shape_of s) s j b u → (i ≡ j) × (a ≡ b)
  once u i j a b n m =
      let pa = unit-place s u i a z.fitting (z.maps i n.chunk) n in
      let pb = unit-place s u j b z.fitting (z.maps j m.chunk) m in
      let q : i ≡ j =
      owner s z u i j n.chunk m.chunk (ap (λ (v : ℕ). member v (units_of s i)) (sym pa.1) ∙ member-get_or (units_of s i) a pa.0)
      (ap (λ (v : ℕ). member v (units_of s j)) (sym pb.1) ∙ member-get_or (units_of s j) b pb.0) in
      let back : units_of s j ≡ units_of s i = ap (units_of s) (sym q) in
      let lb : b < length (units_of s i) = let o = ap length back in omega (arith, pb.0) in
      (q, distinct-place (units_of s i) (z.single i n.chunk) a b pa.0 lb (pa.1 ∙ sym pb.1 ∙ ap (λ (us : List ℕ). get_or us b 0) back))

  -- of an image that ends in the trailer of the shape that it says
  pub trailed-sound : drop (trailer_start (shape_of s)) s ≡ trailer_of (shape_of s) → Sound (shape_of s) s
  trailed-sound t =
      let g = shape_of s in
      record {
        limits = fitting-limits s z.fitting;
        size = fitting-length s z.fitting;
        trailer = t;
        entries = λ i h m. named-below s i m (z.links i h);
        maps = λ i j h l m e. map-owner s z i j h l (is_mapped s i m) (is_mapped s j (λ x. m (e ∙ x))) e;
        forms = λ i h m. (length (held_in s (link_of s i)), map-form g (words_of g s (link_of s i)) (sym (named-map s i m) ∙ z.maps i h));
        units = once;
      }

  -- of a list of bytes, as every lent image is
  pub tested-sound : Bytes s → Sound (shape_of s) s
  tested-sound b = trailed-sound (ends-in-trailer s b z.known z.fitting)

-- ---- and from the words to the tests

module _ (s : List ℕ) (w : Sound (shape_of s) s) where
  sound-apart : (i j : ℕ) → i < j → j < (shape_of s).c → clash s i j ≡ false
  sound-apart i j h l = is_false (clash s i j) (λ e.
      let c = clashing s i j e in
      ⊎_elim (λ q. let r = w.maps i j (omega arith) l (mapped-named s i c.first) q in omega arith)
      (λ q. let a = unit-named s q.0 i (omega arith) q.1 in
      let b = unit-named s q.0 j l q.2 in
      let r = w.units q.0 i j a.0 b.0 a.1 b.1 in
      omega (arith, r.0))
      c.common)

  sound-single : (i : ℕ) → i < (shape_of s).c → distinct (units_of s i) ≡ true
  sound-single i h = distinct-intro (units_of s i) (λ a b l k e.
      let m = mapped-of-unit s (get_or (units_of s i) b 0) i (member-get_or (units_of s i) b k) in
      let n = rw e at (unit-at s i a h m (omega arith)) in
      let r = w.units (get_or (units_of s i) b 0) i i a b n (unit-at s i b h m k) in
      omega (arith, r.1))

  told-tested : known s ≡ true → fitting s ≡ true → Tested s
  told-tested k f =
      let g = shape_of s in
      let size = w.size in
      record {
        long = omega arith;
        known = k;
        fitting = f;
        links = λ i h.
            ⊎_elim (λ m. let e = mapped-named s i m in named-link s i e ∙ lt-ltb (link_of s i) g.m (w.entries i h e))
            (λ m. absent-link s i (unmapped-absent s i m))
            (either (mapped s i));
        maps = λ i h.
            ⊎_elim
            (λ m. let e = mapped-named s i m in
            let f = w.forms i h e in
            named-map s i e ∙ form-good g (words_of g s (link_of s i)) f.0 (absent-no-unit g w.limits) f.1)
            (λ m. absent-map s i (unmapped-absent s i m))
            (either (mapped s i));
        apart = sound-apart;
        single = sound-single;
      }

-- a sound image ends in the trailer of its shape, and so says that shape
module _ (g : Shape) (s : List ℕ) (w : Sound g s) where
  abbrev front : List ℕ
  front = take (trailer_start g) s

  ends : s ≡ front ++ trailer_of g
  ends = sym (take-append-drop (trailer_start g) s) ∙ ap (λ (l : List ℕ). front ++ l) w.trailer

  full : length front ≡ trailer_start g
  full = length-take-le (trailer_start g) s (let q = w.size in omega arith)

  pub sound-shape : shape_of s ≡ g
  sound-shape = ap shape_of ends ∙ shape-told front g full (limits-hold g w.limits)

  pub sound-tested : Tested s
  sound-tested =
      let l = limits-hold g w.limits in
      told-tested s (subst (λ (h : Shape). Sound h s) (sym sound-shape) w) (ap known ends ∙ known-told front g full l) (ap fitting ends ∙ fitting-told front g full l)

  -- the last 32 bytes of an edition 2 image are no edition 1 trailer
  pub sound-second : g.edition ≡ last_edition → known_as first_edition s ≡ false
  sound-second e = ap (known_as first_edition) ends ∙ not_first front g full (limits-hold g w.limits) e

  pub sound-first : g.edition ≡ first_edition → known_as first_edition s ≡ true
  sound-first e =
      ap (λ (v : ℕ). known_as v s) (sym e ∙ sym (ap (λ (h : Shape). h.edition) sound-shape) ∙ shape-edition s) ∙ sym (known_as_lem s)
      ∙ sound-tested.known

-- ---- what a sound image holds, in its own words

pub held-named : (g : Shape) (s : List ℕ) → Sound g s → (u : ℕ) → member u (held_units s) ≡ true → (i : ℕ) × (a : ℕ) × NamesUnit g s i a u
unfolding held_units
held-named g s w u m =
    let r = any_below (λ i. member u (units_of s i)) (shape_of s).c (sym (member-joined (units_of s) u (below (shape_of s).c)) ∙ m) in
    let n = unit-named s u r.0 r.1 r.2 in
    (r.0, n.0, subst (λ (h : Shape). NamesUnit h s r.0 n.0 u) (sound-shape g s w) n.1)

pub named-held : (g : Shape) (s : List ℕ) → Sound g s → (u i a : ℕ) → NamesUnit g s i a u → member u (held_units s) ≡ true
unfolding held_units
named-held g s w u i a n =
    let m : NamesUnit (shape_of s) s i a u = subst (λ (h : Shape). NamesUnit h s i a u) (sym (sound-shape g s w)) n in
    let z = sound-tested g s w in
    let p = unit-place s u i a z.fitting (z.maps i m.chunk) m in
    member-joined (units_of s) u (below (shape_of s).c)
    ∙ any-below-intro (λ j. member u (units_of s j)) (shape_of s).c i m.chunk
    (ap (λ (v : ℕ). member v (units_of s i)) (sym p.1) ∙ member-get_or (units_of s i) a p.0)
