-- The words of map k, as the code finds them: where they stand, that they are few, and loops over them.
use Prim.Native.Nat.{ℕ, ◌+◌, ◌-◌, ◌*◌, ◌<◌, ◌≤◌}
use mathlib.Core.Path.{◌≡◌, ap, sym, ◌∙◌}
use mathlib.Core.List.{List}
use mathlib.Core.Logic.{⊎_elim}
use mathlib.Core.Bool.{Bool, true, false}
use native.Mathlib.Omega.{arith}
use lib.ListN.{length, get_or}
use lib.Seq.{get_or-drop}
use lib.Dec.{ltb}
use borrow.Author.Tests.{ltb-true, ltb-false, eq-eqb, ne_eqb}
use Rattle.search.proofs.Bools.{either}
use Rattle.words.specs.Words.{number}
use Rattle.layout.specs.declared.Shape.{Shape}
use Rattle.layout.specs.Layout.{max_units, unit_bytes, units_for, is_unit, head, map_words, map_word_place, shape_of}
use Rattle.layout.specs.Shaped.{Shaped, map_of, unit_words_of}
use Rattle.layout.proofs.Limits.{units-high, unit-below}
use Rattle.image.specs.Verdicts.{size_fits}
use Rattle.image.specs.Claims.{held_in}
use Rattle.image.proofs.Leading.{length-leading, leading_at}
use Rattle.image.proofs.Chunks.{get_or-words_of, length-unit_words}

pub map_of-word : (s : List ℕ) (g : Shape) (k j at : ℕ) → Shaped s g → j < map_words g → at ≡ map_word_place g k j
    → number 8 s (8 * at) ≡ get_or (map_of s k) j 0
map_of-word s g k j at h l e = rw (e, ← h.same) (sym (get_or-words_of g s k j l))

-- word j of those that name units
pub unit-word : (s : List ℕ) (g : Shape) (k j : ℕ) → Shaped s g → get_or (map_of s k) (head g + j) 0 ≡ get_or (unit_words_of s k) j 0
unit-word s g k j h = rw h.same (sym (get_or-drop (head (shape_of s)) (map_of s k) j 0))

-- the test of one of them, by the shape that the code has
pub unit-test : (s : List ℕ) (g : Shape) (k j w : ℕ) (b : Bool) → Shaped s g → w ≡ get_or (unit_words_of s k) j 0 → b ≡ is_unit g w
    → is_unit (shape_of s) (get_or (unit_words_of s k) j 0) ≡ b
unit-test s g k j w b h e t =
    let x = get_or (unit_words_of s k) j 0 in sym (t ∙ ap (is_unit g) e ∙ ap (λ (q : Shape). is_unit q x) h.same)

pub length-units_in : (s : List ℕ) (g : Shape) (k : ℕ) → Shaped s g → length (unit_words_of s k) ≡ g.p
length-units_in s g k h = rw (← h.same) (length-unit_words g s k)

-- word j of those that may name units, where it is one of the units that the map holds
pub held_word : (s : List ℕ) (g : Shape) (k j : ℕ) → Shaped s g → k < g.m → j < length (held_in s k)
    → (j < g.p) × (get_or (unit_words_of s k) j 0 ≡ get_or (held_in s k) j 0) × (get_or (unit_words_of s k) j 0 < max_units)
held_word s g k j h l b =
    let f = is_unit (shape_of s) in
    let n = ap (λ (g : Shape). g.n) h.same in
    let w = leading_at f (unit_words_of s k) j b in
    let u = unit-below (shape_of s) (get_or (unit_words_of s k) j 0) w.1 in
    let e = length-leading f (unit_words_of s k) in
    let m = length-units_in s g k h in
    let q = units-high g h.limits in
    (omega arith, sym w.0, omega arith)

-- ---- the size of map k, against the units that it holds

module _ (s : List ℕ) (g : Shape) (k count : ℕ) (h : Shaped s g) where
  heads : head (shape_of s) ≡ head g
  heads = ap (λ (q : Shape). head q) (sym h.same)

  pub no_size : head g ≡ 0 → size_fits (shape_of s) count (map_of s k) ≡ true
  unfolding size_fits
  no_size e = rw (eq-eqb (head (shape_of s)) 0 (heads ∙ e))

  module _ (size : ℕ) (e : size ≡ get_or (map_of s k) 0 0) (n : head g ≡ 0 → ⊥) where
    size-other : (units_for size ≡ count → ⊥) → size_fits (shape_of s) count (map_of s k) ≡ false
    unfolding size_fits
    size-other q = rw (ne_eqb (head (shape_of s)) 0 (λ z. n (sym heads ∙ z)), ← e, ne_eqb (units_for size) count q)

    size_same : (units_for size ≡ count) → size_fits (shape_of s) count (map_of s k) ≡ true
    unfolding size_fits
    size_same q = rw (ne_eqb (head (shape_of s)) 0 (λ z. n (sym heads ∙ z)), ← e, eq-eqb (units_for size) count q)

    pub size-over : count * unit_bytes < size → size_fits (shape_of s) count (map_of s k) ≡ false
    size-over q = size-other (λ z. omega arith)

    -- a size that is not too high fits where it is not too low
    pub size-rest : 1 ≤ count → size ≤ count * unit_bytes → ltb (count * unit_bytes - unit_bytes) size ≡ size_fits (shape_of s) count (map_of s k)
    size-rest l q =
        ⊎_elim (λ t. let r = ltb-true (count * unit_bytes - unit_bytes) size t in t ∙ sym (size_same (omega arith)))
        (λ t. let r = ltb-false (count * unit_bytes - unit_bytes) size t in t ∙ sym (size-other (λ z. omega arith)))
        (either (ltb (count * unit_bytes - unit_bytes) size))
