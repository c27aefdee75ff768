-- The shape of the converted image, and the words of its maps: what the code has of them, and what they are.
use Prim.Native.Nat.{ℕ, zero, suc, ◌+◌, ◌-◌, ◌*◌, ◌≤◌, ◌<◌}
use native.Mathlib.Omega.{arith}
use mathlib.Core.Path.{◌≡◌, refl, sym, ap, subst, ◌∙◌}
use mathlib.Core.Bool.{true}
use mathlib.Core.List.{List, [], ◌∷◌}
use lib.ListN.{length, get_or, get_or-eq_default}
use Rattle.layout.specs.declared.Shape.{Shape}
use Rattle.layout.specs.Layout.{X, unit_bytes, max_chunk_units, max_words, is_unit, map_words, words_of, word_at, map_word_place, within_limits, shape_of}
use Rattle.layout.specs.Shaped.{Limits, Shaped, word_count, map_of, unit_words_of}
use Rattle.layout.proofs.Limits.{map-words, maps-high, limits-hold}
use Rattle.layout.proofs.Heads.{in_head, past_head}
use Rattle.layout.proofs.Place.{place_in}
use Rattle.image.specs.Claims.{held_in}
use Rattle.image.proofs.Leading.{length-leading}
use Rattle.image.proofs.Chunks.{length-words_of, get_or-words_of}
use Rattle.image.proofs.MapWords.{length-units_in}
use Rattle.convert.specs.Convert.{second_of, second_word}

-- ---- the shape

pub second-limits : (g : Shape) → Limits g → Limits (second_of g)
second-limits g l = record {
  edition-low = omega arith;
  edition-high = omega arith;
  p-low = l.p-low;
  p-high = l.p-high;
  c-low = l.c-low;
  c-high = l.c-high;
  m-low = l.m-low;
  m-high = l.m-high;
  n-low = l.n-low;
  n-high = l.n-high;
  r-high = omega (arith, l.n-low);
  r-first = λ e. absurd (omega arith);
}

-- where the code has it as h
pub second-within : (g h : Shape) → Limits g → h ≡ second_of g → within_limits h ≡ true
second-within g h l e = limits-hold h (subst Limits (sym e) (second-limits g l))

-- where the code has it as h: its limits hold, and map k is one of its maps, which have words
pub record Fits (h : Shape) (k : ℕ) : Type 0 where
  pub limits : Limits h
  pub low : k < h.m
  pub some : 0 < map_words h

pub second_fits : (g h : Shape) (k : ℕ) → h ≡ second_of g → Limits g → k < g.m → Fits h k
second_fits g h k e l b =
    subst (λ (q : Shape). Fits q k) (sym e) (record { limits = second-limits g l; low = b; some = omega (arith, map-words (second_of g)) })

-- word j of map k, where the code has the place of its first word as at, and n words in a map
pub word-in : (h : Shape) (k : ℕ) → Fits h k → (at n j : ℕ) → at ≡ map_word_place h k 0 → n ≡ map_words h → j < n
    → (at + j < word_count h) × (word_count h ≤ max_words)
word-in h k f at n j p q i =
    let a = place_in h k j f.low (omega arith) in
    (omega arith, omega (arith, f.limits.c-high, maps-high h f.limits))

-- ---- the words of map k, in an image that says the shape g

module _ (g : Shape) (t : List ℕ) (e : shape_of t ≡ g) (k : ℕ) where
  pub map-length : length (map_of t k) ≡ map_words g
  map-length = ap (λ (h : Shape). length (words_of h t k)) e ∙ length-words_of g t k

  pub map-word : (a : ℕ) → a < map_words g → get_or (map_of t k) a 0 ≡ word_at t (map_word_place g k a)
  map-word a l = ap (λ (h : Shape). get_or (words_of h t k) a 0) e ∙ get_or-words_of g t k a l

-- ---- the words of a map with the units us

-- what is there does not depend on what stands for the rest
pub unit-here : (us : List ℕ) (a : ℕ) → a < length us → get_or us a X ≡ get_or us a 0
unit-here [] a l = absurd (omega arith)
unit-here (u ∷ us) zero l = refl
unit-here (u ∷ us) (suc a) l = unit-here us a (omega arith)

module _ (us : List ℕ) where
  pub word_size : (count j : ℕ) → count ≡ length us → j ≡ 0 → count * unit_bytes ≡ second_word us j
  word_size count j e z = rw (e) (sym (in_head 1 (length us * unit_bytes) (λ i. get_or us i X) j (omega arith)))

  module _ (j : ℕ) (n : j ≡ 0 → ⊥) where
    pub word-unit : (u : ℕ) → j - 1 < length us → u ≡ get_or us (j - 1) 0 → u ≡ second_word us j
    word-unit u l e =
        e ∙ sym (past_head 1 (length us * unit_bytes) (λ i. get_or us i X) j (omega (arith, n)) ∙ unit-here us (j - 1) l)

    pub word-absent : length us ≤ j - 1 → X ≡ second_word us j
    word-absent l = sym (past_head 1 (length us * unit_bytes) (λ i. get_or us i X) j (omega (arith, n)) ∙ get_or-eq_default us X l)

-- ---- the units that map k holds

pub held-few : (s : List ℕ) (g : Shape) (k : ℕ) → Shaped s g → length (held_in s k) ≤ max_chunk_units
held-few s g k h =
    omega (arith, length-leading (is_unit (shape_of s)) (unit_words_of s k), length-units_in s g k h, h.limits.p-high)
