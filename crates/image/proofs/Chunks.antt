-- What a chunk's entry says, what the chunk holds, and how two chunks that do not clash lie apart.
use Prim.Native.Nat.{ℕ, ◌+◌, ◌≤◌, ◌<◌}
use native.Mathlib.Omega.{arith}
use mathlib.Core.Path.{◌≡◌, refl, sym, ap, ◌∙◌}
use mathlib.Core.Logic.{⊎_elim}
use mathlib.Core.Bool.{Bool, true, false, not, ◌&&◌, ◌||◌}
use mathlib.Core.List.{List, []}
use lib.ListN.{length, get_or, drop, length-map, length-drop}
use lib.Seq.{get_or-drop, length-take-le}
use lib.Dec.{eqb, ltb}
use borrow.Author.Tests.{ltb-true, ltb-false, eqb-true, eqb-false, eq-eqb, ne_eqb, not-true, not-false}
use Rattle.search.specs.Search.{below, all, member, disjoint}
use Rattle.search.proofs.Bools.{contradict, and_left, and_right, and_intro, and-false-other, either, is_false, is_true, or_cases, or_left, or_right, or-false-left, or-false-right}
use Rattle.search.proofs.Members.{all-at, member-nil}
use Rattle.search.proofs.Ranges.{length_from}
use Rattle.search.proofs.Distinct.{disjoint-at, disjoint-intro}
use Rattle.search.proofs.Mapping.{get_or-map-from}
use Rattle.layout.specs.declared.Shape.{Shape}
use Rattle.layout.specs.Layout.{X, units_for, is_unit, head, unit_words, shape_of, fitting, link_of, words_of, map_words, word_at, map_word_place}
use Rattle.layout.specs.Shaped.{Shaped, map_of, unit_words_of}
use Rattle.layout.proofs.Limits.{fitting-limits, units-high, unit-below, unit-unreserved, map-words}
use Rattle.image.specs.Soundness.{mapped, named_words, units_of, leading, Named, MapForm}
use Rattle.image.specs.Verdicts.{well_formed, size_fits, good_form, good_link, good_map, clash}
use Rattle.image.specs.Survey.{form_by}
use Rattle.image.specs.Claims.{Tested, held_in}
use Rattle.image.proofs.Leading.{length-leading, leading-all, form-none, form-some, form_of, form-leading, well-formed}

-- ---- the words of a map

pub length-words_of : (g : Shape) (s : List ℕ) (k : ℕ) → length (words_of g s k) ≡ map_words g
unfolding words_of
length-words_of g s k = length-map (below (map_words g)) _ ∙ length_from 0 (map_words g)

pub get_or-words_of : (g : Shape) (s : List ℕ) (k j : ℕ) → j < map_words g → get_or (words_of g s k) j 0 ≡ word_at s (map_word_place g k j)
unfolding words_of
get_or-words_of g s k j h =
    let e : 0 + j ≡ j = omega arith in
    get_or-map-from (λ a. word_at s (map_word_place g k a)) 0 (map_words g) j 0 h ∙ ap (λ (a : ℕ). word_at s (map_word_place g k a)) e

-- P of them name units
pub length-unit_words : (g : Shape) (s : List ℕ) (k : ℕ) → length (unit_words g (words_of g s k)) ≡ g.p
length-unit_words g s k = length-drop (head g) (words_of g s k) ∙ (let a = length-words_of g s k in let b = map-words g in omega arith)

pub get_or-unit_words : (g : Shape) (s : List ℕ) (k j : ℕ) → j < g.p → get_or (unit_words g (words_of g s k)) j 0 ≡ word_at s (map_word_place g k (head g + j))
get_or-unit_words g s k j h = get_or-drop (head g) (words_of g s k) j 0 ∙ get_or-words_of g s k (head g + j) (omega (arith, map-words g))

-- ---- the form of a map

-- by any test of the units, of which h words pass
module _ (f : ℕ → Bool) (g : Shape) (ws : List ℕ) (h : ℕ) (e : h ≡ length (leading f (unit_words g ws))) where
  pub form-empty : h ≡ 0 → form_by f g ws ≡ false
  unfolding form_by
  form-empty z = rw (form-none f (unit_words g ws) (sym e ∙ z))

  pub form-held : (h ≡ 0 → ⊥) → form_by f g ws ≡ (all (eqb X) (drop h (unit_words g ws)) && size_fits g h ws)
  unfolding form_by
  form-held z = rw (form-some f (unit_words g ws) (λ q. z (e ∙ q)), ← e)

-- the form that row 5 asks for
pub form-by-units : (g : Shape) (ws : List ℕ) → good_form g ws ≡ form_by (is_unit g) g ws
unfolding good_form form_by
form-by-units g ws = refl

-- where the test finds a word before the units
pub has-head : (g : Shape) → eqb (head g) 0 ≡ false → 1 ≤ head g
has-head g e = let n = eqb-false (head g) 0 e in omega (arith, n)

module _ (g : Shape) (ws : List ℕ) where
  abbrev held : ℕ
  held = length (leading (is_unit g) (unit_words g ws))

  pub map-form : good_form g ws ≡ true → MapForm g held ws
  unfolding good_form size_fits
  map-form e =
      let a = well_formed (is_unit g) (unit_words g ws) in
      let b = eqb (head g) 0 in
      let d = eqb (units_for (get_or ws 0 0)) held in
      record {
        units = form_of (is_unit g) (unit_words g ws) (and_left a (b || d) e);
        size = λ h. ⊎_elim (λ q. let z = eqb-true (head g) 0 q in absurd (omega arith)) (λ q. eqb-true (units_for (get_or ws 0 0)) held q)
            (or_cases b d (and_right a (b || d) e));
      }

  pub form-good : (k : ℕ) → is_unit g X ≡ false → MapForm g k ws → good_form g ws ≡ true
  unfolding good_form size_fits
  form-good k x f =
      let q : held ≡ k =
      ap length (form-leading (is_unit g) k (unit_words g ws) x f.units) ∙ length-take-le k (unit_words g ws) f.units.high in
      and_intro (well_formed (is_unit g) (unit_words g ws)) (eqb (head g) 0 || eqb (units_for (get_or ws 0 0)) held)
      (well-formed (is_unit g) k (unit_words g ws) x f.units)
      (⊎_elim (λ z. or_left (eqb (head g) 0) (eqb (units_for (get_or ws 0 0)) held) z)
      (λ z. or_right (eqb (head g) 0) (eqb (units_for (get_or ws 0 0)) held)
      (eq-eqb (units_for (get_or ws 0 0)) held (f.size (has-head g z) ∙ sym q)))
      (either (eqb (head g) 0)))

-- ---- chunk i names no map

module _ (s : List ℕ) (i : ℕ) (e : link_of s i ≡ X) where
  pub not-mapped : mapped s i ≡ false
  not-mapped = rw (eq-eqb (link_of s i) X e)

  pub absent-link : good_link s i ≡ true
  absent-link = rw (eq-eqb (link_of s i) X e)

  pub absent-map : good_map s i ≡ true
  absent-map = rw (eq-eqb (link_of s i) X e)

  pub units-absent : units_of s i ≡ []
  unfolding units_of
  units-absent = rw (eq-eqb (link_of s i) X e)

-- ---- chunk i names a map

module _ (s : List ℕ) (i : ℕ) (e : Named s i) where
  pub is_mapped : mapped s i ≡ true
  is_mapped = rw (ne_eqb (link_of s i) X e)

  pub named-link : good_link s i ≡ ltb (link_of s i) (shape_of s).m
  named-link = rw (ne_eqb (link_of s i) X e)

  pub named-map : good_map s i ≡ good_form (shape_of s) (map_of s (link_of s i))
  named-map = rw (ne_eqb (link_of s i) X e)

  pub named-below : good_link s i ≡ true → link_of s i < (shape_of s).m
  named-below h = ltb-true _ _ (sym named-link ∙ h)

  pub units-named : units_of s i ≡ held_in s (link_of s i)
  unfolding units_of
  units-named = rw (ne_eqb (link_of s i) X e)

-- the map that chunk i names, where the code has its entry w
pub map-named : (s : List ℕ) (g : Shape) (i w : ℕ) → Shaped s g → w ≡ link_of s i → (w ≡ X → ⊥) → good_link s i ≡ true → w < g.m
map-named s g i w h e n b = let m = ap (λ (q : Shape). q.m) h.same in omega (arith, e, named-below s i (λ x. n (e ∙ x)) b)

-- the test and the statement
pub mapped-named : (s : List ℕ) (i : ℕ) → mapped s i ≡ true → Named s i
mapped-named s i m = eqb-false (link_of s i) X (not-true (eqb (link_of s i) X) m)

pub unmapped-absent : (s : List ℕ) (i : ℕ) → mapped s i ≡ false → link_of s i ≡ X
unmapped-absent s i e = eqb-true (link_of s i) X (not-false (eqb (link_of s i) X) e)

-- where the code has the chunk's entry k and the count h of the units of that map
module _ (s : List ℕ) (i k h : ℕ) (l : k ≡ link_of s i) (x : k ≡ X → ⊥) (e : h ≡ length (held_in s k)) where
  pub bad-form : h ≡ 0 → good_map s i ≡ false
  bad-form z =
      named-map s i (λ w. x (l ∙ w)) ∙ rw (← l) (form-by-units (shape_of s) (map_of s k) ∙ form-empty (is_unit (shape_of s)) (shape_of s) (map_of s k) h e z)

  pub good-form : (h ≡ 0 → ⊥) → good_map s i ≡ (all (eqb X) (drop h (unit_words_of s k)) && size_fits (shape_of s) h (map_of s k))
  good-form z =
      named-map s i (λ w. x (l ∙ w)) ∙ rw (← l) (form-by-units (shape_of s) (map_of s k) ∙ form-held (is_unit (shape_of s)) (shape_of s) (map_of s k) h e z)

-- ---- what a chunk holds

pub units-mapped : (s : List ℕ) (i : ℕ) → mapped s i ≡ true → units_of s i ≡ held_in s (link_of s i)
units-mapped s i h = units-named s i (mapped-named s i h)

pub units-unmapped : (s : List ℕ) (i : ℕ) → mapped s i ≡ false → units_of s i ≡ []
units-unmapped s i h = units-absent s i (unmapped-absent s i h)

-- a chunk with a unit is mapped
pub mapped-of-unit : (s : List ℕ) (u i : ℕ) → member u (units_of s i) ≡ true → mapped s i ≡ true
mapped-of-unit s u i m = is_true (mapped s i) (λ e. contradict m (ap (member u) (units-unmapped s i e) ∙ member-nil u))

pub length-units : (s : List ℕ) (i : ℕ) → length (units_of s i) ≤ (shape_of s).p
length-units s i = ⊎_elim
    (λ h. let e = ap length (units-mapped s i h) in
    let l = length-leading (is_unit (shape_of s)) (unit_words_of s (link_of s i)) in
    let w = length-unit_words (shape_of s) s (link_of s i) in
    omega arith)
    (λ h. let e = ap length (units-unmapped s i h) in omega arith)
    (either (mapped s i))

pub units-are-units : (s : List ℕ) (u i : ℕ) → member u (units_of s i) ≡ true → is_unit (shape_of s) u ≡ true
units-are-units s u i m =
    let ws = unit_words_of s (link_of s i) in
    all-at (is_unit (shape_of s)) (leading (is_unit (shape_of s)) ws) (leading-all (is_unit (shape_of s)) ws) u
    (sym (ap (member u) (units-mapped s i (mapped-of-unit s u i m))) ∙ m)

pub units-below : (s : List ℕ) (u i : ℕ) → member u (units_of s i) ≡ true → u < (shape_of s).n
units-below s u i m = unit-below (shape_of s) u (units-are-units s u i m)

-- a mapped chunk holds a unit, where its map has the right form
pub good-some : (s : List ℕ) (i : ℕ) → mapped s i ≡ true → good_map s i ≡ true → 0 < length (units_of s i)
good-some s i m h =
    let f = (map-form (shape_of s) (map_of s (link_of s i)) (sym (named-map s i (mapped-named s i m)) ∙ h)).units in
    omega (arith, ap length (units-mapped s i m), f.some)

-- ---- two chunks that do not clash

pub clash-links : (s : List ℕ) (i j : ℕ) → clash s i j ≡ false → mapped s i ≡ true → mapped s j ≡ true → link_of s i ≡ link_of s j → ⊥
unfolding clash
clash-links s i j e a b =
    eqb-false (link_of s i) (link_of s j)
    (or-false-left _ (not (disjoint (units_of s i) (units_of s j))) (and-false-other (mapped s i && mapped s j) _ e (and_intro (mapped s i) (mapped s j) a b)))

clash-apart : (s : List ℕ) (i j : ℕ) → clash s i j ≡ false → mapped s i ≡ true → mapped s j ≡ true → disjoint (units_of s i) (units_of s j) ≡ true
unfolding clash
clash-apart s i j e a b =
    not-false (disjoint (units_of s i) (units_of s j))
    (or-false-right (eqb (link_of s i) (link_of s j)) _ (and-false-other (mapped s i && mapped s j) _ e (and_intro (mapped s i) (mapped s j) a b)))

pub clash-units : (s : List ℕ) (i j : ℕ) → clash s i j ≡ false → disjoint (units_of s i) (units_of s j) ≡ true
clash-units s i j e = disjoint-intro (units_of s i) (units_of s j) (λ u m. is_false (member u (units_of s j)) (λ k.
    contradict k (disjoint-at (units_of s i) (units_of s j) (clash-apart s i j e (mapped-of-unit s u i m) (mapped-of-unit s u j k)) u m)))

-- ---- of an image that passes

module _ (s : List ℕ) (z : Tested s) where
  pub units-some : (i : ℕ) → i < (shape_of s).c → mapped s i ≡ true → 0 < length (units_of s i)
  units-some i h m = good-some s i m (z.maps i h)

  -- two chunks of which neither clashes with the other are one
  one_chunk : (i j : ℕ) → i < (shape_of s).c → j < (shape_of s).c → (clash s i j ≡ false → ⊥) → (clash s j i ≡ false → ⊥) → i ≡ j
  one_chunk i j h l a b =
      ⊎_elim (λ q. eqb-true i j q)
      (λ q. absurd (⊎_elim (λ o. a (z.apart i j (ltb-true i j o) l)) (λ o. b (z.apart j i (omega (arith, ltb-false i j o, eqb-false i j q)) h)) (either (ltb i j))))
      (either (eqb i j))

  -- a unit has one owner
  pub owner : (u i j : ℕ) → i < (shape_of s).c → j < (shape_of s).c → member u (units_of s i) ≡ true → member u (units_of s j) ≡ true → i ≡ j
  owner u i j h l a b =
      one_chunk i j h l (λ e. contradict b (disjoint-at (units_of s i) (units_of s j) (clash-units s i j e) u a))
      (λ e. contradict a (disjoint-at (units_of s j) (units_of s i) (clash-units s j i e) u b))

  -- and so has a map
  pub map-owner : (i j : ℕ) → i < (shape_of s).c → j < (shape_of s).c → mapped s i ≡ true → mapped s j ≡ true → link_of s i ≡ link_of s j → i ≡ j
  map-owner i j h l a b e = one_chunk i j h l (λ k. clash-links s i j k a b e) (λ k. clash-links s j i k b a (sym e))

-- ---- reserved units

-- a map that names one, in any of the words that may name units, is of the wrong form
pub reserved-bad : (s : List ℕ) (i a : ℕ) → fitting s ≡ true → Named s i → a < (shape_of s).p
    → get_or (named_words (shape_of s) s i) a 0 < (shape_of s).r → good_map s i ≡ false
reserved-bad s i a f n l low =
    is_false (good_map s i) (λ e.
    let g = shape_of s in
    let lim = fitting-limits s f in
    let word = get_or (named_words g s i) a 0 in
    let k = length (leading (is_unit g) (named_words g s i)) in
    let form = (map-form g (map_of s (link_of s i)) (sym (named-map s i n) ∙ e)).units in
    ⊎_elim (λ q. let h = unit-unreserved g word (form.units a (ltb-true a k q)) in omega arith)
    (λ q. let x = form.rest a (ltb-false a k q) (let w = length-unit_words g s (link_of s i) in omega arith) in
    omega (arith, lim.r-high, units-high g lim))
    (either (ltb a k)))
