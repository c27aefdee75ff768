-- `Fault`, document 02's words, against `unlinks`, what is computed: each follows from the other, of an image whose trailer passes.
use Prim.Native.Nat.{ℕ, ◌<◌}
use native.Mathlib.Omega.{arith}
use mathlib.Core.Path.{◌≡◌, sym, ap, ◌∙◌, subst}
use mathlib.Core.Logic.{◌≢◌, ⊎_elim}
use mathlib.Core.Bool.{true, false, not, ◌&&◌, ◌||◌}
use mathlib.Core.List.{List}
use lib.ListN.{length, get_or}
use borrow.Author.Tests.{ltb-false, lt-ltb, le-ltb, not-true}
use Rattle.search.specs.Search.{member, distinct}
use Rattle.search.proofs.Bools.{contradict, either, is_true, is_false, and_left, and_right, and_intro, or_cases, or_left, or_right, not_of_false, not-of-true}
use Rattle.search.proofs.Members.{member-get_or}
use Rattle.search.proofs.Distinct.{distinct-place}
use Rattle.search.proofs.Repeated.{repeated-some, repeated-places}
use Rattle.layout.specs.Layout.{shape_of, fitting, link_of, words_of}
use Rattle.layout.proofs.Limits.{fitting-limits, absent-no-unit}
use Rattle.image.specs.Soundness.{mapped, units_of, Named, NamesUnit}
use Rattle.image.specs.Verdicts.{good_link, good_map, clash}
use Rattle.image.proofs.Chunks.{map-form, form-good, absent-link, absent-map, is_mapped, named-link, named-map, named-below, mapped-named, unmapped-absent, mapped-of-unit}
use Rattle.image.proofs.Order.{clashing, clash-apart}
use Rattle.image.proofs.Wording.{unit-at, unit-named, unit-place}
use Rattle.repair.specs.Repair.{bad, shares, names_twice, unlinks}
use Rattle.repair.specs.Reading.{Good, Fault}
use Rattle.repair.specs.Reading.Fault.{wrong_link, wrong_map, shared_map, shared_unit, unit_twice}
use Rattle.repair.proofs.Chunks.{good-link, good-map, sharer, shared-with}

-- ---- chunks with a bad link or a bad map, and good ones

module _ (s : List ℕ) where
  not-link : (i : ℕ) → good_link s i ≡ false → Named s i
  not-link i e x = contradict (absent-link s i x) e

  not-map : (i : ℕ) → good_map s i ≡ false → Named s i
  not-map i e x = contradict (absent-map s i x) e

  good-words : (i : ℕ) → bad s i ≡ false → Good (shape_of s) s i
  good-words i e n =
      (named-below s i n (good-link s i e), (_, map-form (shape_of s) (words_of (shape_of s) s (link_of s i)) (sym (named-map s i n) ∙ good-map s i e)))

  -- a good chunk that shares something, or names a unit twice
  shares-fault : (j : ℕ) → j < (shape_of s).c → bad s j ≡ false → shares s j ≡ true → Fault (shape_of s) s j
  shares-fault j b g e =
      let r = sharer s j e in
      let i = r.0 in
      let h = r.1 in
      let c = clashing s i j h.clashes in
      ⊎_elim (λ q. shared_map i h.chunk b h.other (good-words i h.good) (good-words j g) (mapped-named s j c.second) q)
      (λ q. let na = unit-named s q.0 i h.chunk q.1 in
      let nb = unit-named s q.0 j b q.2 in
      shared_unit i q.0 na.0 nb.0 h.other (good-words i h.good) (good-words j g) na.1 nb.1)
      c.common

  twice-fault : (j : ℕ) → j < (shape_of s).c → bad s j ≡ false → names_twice s j ≡ true → Fault (shape_of s) s j
  unfolding names_twice
  twice-fault j b g e =
      let us = units_of s j in
      let r = repeated-some us (not-true (distinct us) e) in
      let p = repeated-places r.0 us r.1 in
      let m = mapped-of-unit s (get_or us p.1 0) j (member-get_or us p.1 p.3) in
      unit_twice r.0 p.0 p.1 (λ q. omega (arith, p.2)) (good-words j g)
      (subst (NamesUnit (shape_of s) s j p.0) p.4 (unit-at s j p.0 b m (omega (arith, p.2, p.3))))
      (subst (NamesUnit (shape_of s) s j p.1) p.5 (unit-at s j p.1 b m p.3))

module _ (s : List ℕ) (fits : fitting s ≡ true) where
  words-good : (i : ℕ) → Good (shape_of s) s i → (good_link s i ≡ true) × (good_map s i ≡ true)
  words-good i h = ⊎_elim
      (λ m. let n = mapped-named s i m in
      let r = h n in (
        named-link s i n ∙ lt-ltb (link_of s i) (shape_of s).m r.0,
        named-map s i n ∙ form-good (shape_of s) (words_of (shape_of s) s (link_of s i)) r.1.0 (absent-no-unit (shape_of s) (fitting-limits s fits)) r.1.1,
      ))
      (λ m. let x = unmapped-absent s i m in (absent-link s i x, absent-map s i x))
      (either (mapped s i))

  not-bad : (i : ℕ) → Good (shape_of s) s i → bad s i ≡ false
  unfolding bad
  not-bad i h = let r = words-good i h in not-of-true (good_link s i && good_map s i) (and_intro (good_link s i) (good_map s i) r.0 r.1)

  -- ---- from what is computed to the words

  bad-fault : (j : ℕ) → j < (shape_of s).c → bad s j ≡ true → Fault (shape_of s) s j
  unfolding bad
  bad-fault j b e = ⊎_elim
      (λ l. let m = is_false (good_map s j) (λ p. contradict (and_intro (good_link s j) (good_map s j) l p) (not-true (good_link s j && good_map s j) e)) in
      let n = not-map s j m in
      wrong_map b n (named-below s j n l) (λ k f.
      contradict (named-map s j n ∙ form-good (shape_of s) (words_of (shape_of s) s (link_of s j)) k (absent-no-unit (shape_of s) (fitting-limits s fits)) f) m))
      (λ l. let n = not-link s j l in wrong_link b n (ltb-false (link_of s j) (shape_of s).m (sym (named-link s j n) ∙ l)))
      (either (good_link s j))

  pub unlinks-fault : (j : ℕ) → j < (shape_of s).c → unlinks s j ≡ true → Fault (shape_of s) s j
  unfolding unlinks
  unlinks-fault j b e = ⊎_elim (bad-fault j b)
      (λ g. ⊎_elim (shares-fault s j b g) (twice-fault s j b g)
      (or_cases (shares s j) (names_twice s j) (⊎_elim (λ q. contradict q g) (λ q. q) (or_cases (bad s j) (shares s j || names_twice s j) e))))
      (either (bad s j))

  -- ---- and back

  clash-unlinks : (i j : ℕ) → i < (shape_of s).c → i ≢ j → Good (shape_of s) s i → (clash s i j ≡ false → ⊥) → unlinks s j ≡ true
  unfolding unlinks
  clash-unlinks i j h n g c =
      or_right (bad s j) (shares s j || names_twice s j) (or_left (shares s j) (names_twice s j)
      (shared-with s j i (record { chunk = h; good = not-bad i g; other = n; clashes = is_true (clash s i j) c })))

  -- a word of a good chunk's map that is a unit is a unit of the chunk
  word-unit : (u i a : ℕ) → Good (shape_of s) s i → NamesUnit (shape_of s) s i a u → (a < length (units_of s i)) × (get_or (units_of s i) a 0 ≡ u)
  word-unit u i a g n = unit-place s u i a fits (words-good i g).1 n

  word-member : (u i a : ℕ) → Good (shape_of s) s i → NamesUnit (shape_of s) s i a u → member u (units_of s i) ≡ true
  word-member u i a g n =
      let p = word-unit u i a g n in
      ap (λ (v : ℕ). member v (units_of s i)) (sym p.1) ∙ member-get_or (units_of s i) a p.0

  pub fault-unlinks : (j : ℕ) → Fault (shape_of s) s j → (j < (shape_of s).c) × (unlinks s j ≡ true)
  unfolding unlinks bad names_twice
  fault-unlinks j (wrong_link b n h) = (
    b,
    or_left (not (good_link s j && good_map s j)) (shares s j || not (distinct (units_of s j)))
        (not_of_false (good_link s j && good_map s j) (is_false _ (λ e.
        contradict (and_left (good_link s j) (good_map s j) e) (named-link s j n ∙ le-ltb (link_of s j) (shape_of s).m h)))),
  )
  fault-unlinks j (wrong_map b n h w) = (
    b,
    or_left (not (good_link s j && good_map s j)) (shares s j || not (distinct (units_of s j)))
        (not_of_false (good_link s j && good_map s j) (is_false _ (λ e.
        w _ (map-form (shape_of s) (words_of (shape_of s) s (link_of s j)) (sym (named-map s j n) ∙ and_right (good_link s j) (good_map s j) e))))),
  )
  fault-unlinks j (shared_map i h b n gi gj m e) =
      (b, clash-unlinks i j h n gi (λ c. (clash-apart s i j c).maps (is_mapped s i (λ x. m (sym e ∙ x))) (is_mapped s j m) e))
  fault-unlinks j (shared_unit i u a b n gi gj na nb) =
      (nb.chunk, clash-unlinks i j na.chunk n gi (λ c. (clash-apart s i j c).units u (word-member u i a gi na) (word-member u j b gj nb)))
  fault-unlinks j (unit_twice u a b n g na nb) =
      let pa = word-unit u j a g na in
      let pb = word-unit u j b g nb in (
        na.chunk,
        or_right (not (good_link s j && good_map s j)) _ (or_right (shares s j) _
            (not_of_false (distinct (units_of s j)) (is_false (distinct (units_of s j)) (λ d.
            n (distinct-place (units_of s j) d a b pa.0 pb.0 (pa.1 ∙ sym pb.1)))))),
      )
