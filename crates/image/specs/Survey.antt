-- What the one pass over the chunks keeps and answers. Only the loader's inner functions and the proofs cite it.
use Rattle.std.specs.Prelude.{ℕ, ◌*◌, ◌≡◌, Bool, true, false, not, ◌&&◌, ◌||◌, cond, List, [], ◌∷◌, length, ltb, Result, ⊤}
use Rattle.search.specs.Search.{below, joined}
use Rattle.search.specs.Sets.{with_all}
use Rattle.bitset.specs.Bits.{bit_set, words_for}
use Rattle.layout.specs.declared.Shape.{Shape}
use Rattle.layout.specs.Layout.{is_unit, shape_of, words_of, unit_words, link_of}
use Rattle.layout.specs.Shaped.{unit_words_of}
use Rattle.image.specs.Soundness.{leading, mapped}
use Rattle.image.specs.Verdicts.{good_link, well_formed, size_fits, chunk_verdict}
use Rattle.image.specs.Free.{free_unit, free_map}
use Rattle.image.specs.Answers.{if_sound}
use Rattle.layout.specs.declared.Refusal.{Refusal}

-- ---- one chunk

-- u has a bit in the words that N needs: all that the pass asks of a word of a map. A number below R, or from N on in the last word, has one too; counting
-- finds it.
unfoldable pub has_bit : Shape → ℕ → Bool
has_bit g u = ltb u (64 * words_for g.n)

-- the words of map k before the first that has no bit, and those that chunk i claims as units
abbrev pub claimed_in : List ℕ → ℕ → List ℕ
claimed_in s k = leading (has_bit (shape_of s)) (unit_words_of s k)

unfoldable pub claimed_by : List ℕ → ℕ → List ℕ
claimed_by s i = cond (mapped s i) (claimed_in s (link_of s i)) []

-- the map that chunk i names: one number, or none
unfoldable pub names_of : List ℕ → ℕ → List ℕ
names_of s i = cond (mapped s i) (link_of s i ∷ []) []

-- the form of a map by any test of its units: `good_form g` is that by `is_unit g`
unfoldable pub form_by : (ℕ → Bool) → Shape → List ℕ → Bool
form_by f g ws = let us = unit_words g ws in well_formed f us && size_fits g (length (leading f us)) ws

-- chunk i names no map, or one of the right form by that test
abbrev pub passable_map : List ℕ → ℕ → Bool
passable_map s i = let g = shape_of s in not (mapped s i) || form_by (has_bit g) g (words_of g s (link_of s i))

-- and row 4, "entry neither X nor below M", does not hold of it
abbrev pub passable : List ℕ → ℕ → Bool
passable s i = good_link s i && passable_map s i

-- ---- the chunks below j

-- the numbers that are not free: those of which f does not hold, and those of a list
abbrev pub taken : (ℕ → Bool) → List ℕ → ℕ → Bool
taken f xs = with_all (λ u. not (f u)) xs

-- the units and the maps that are not free once these chunks have claimed theirs
abbrev pub units_taken : List ℕ → ℕ → ℕ → Bool
units_taken s j = taken (is_unit (shape_of s)) (joined (claimed_by s) (below j))

abbrev pub maps_taken : List ℕ → ℕ → ℕ → Bool
maps_taken s j = taken (λ k. ltb k (shape_of s).m) (joined (names_of s) (below j))

-- ---- all chunks

-- no row of 4 to 6 holds
abbrev pub passed : Result ⊤ Refusal → Bool
passed v = if_sound v (λ r. false) true

-- the pass says yes exactly where no row of 4 to 6 holds, and then the sets, of so many words each, hold what is free; where it says no, nothing is said of
-- them
pub record Surveyed (s : List ℕ) (ok : Bool) (unit_length map_length : ℕ) (units maps : List ℕ) : Type 0 where
  pub right : ok ≡ passed (chunk_verdict s)
  pub units-left : ok ≡ true → units ≡ bit_set (free_unit s) unit_length
  pub maps-left : ok ≡ true → maps ≡ bit_set (free_map s) map_length
