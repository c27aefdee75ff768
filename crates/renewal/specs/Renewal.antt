-- The sets of an index (02, request 7: "keep an index of free units and maps, and carry it along"), and what becomes of them when a chunk's entry changes.
use Rattle.std.specs.Borrow.{MutBor}
use Rattle.std.specs.Prelude.{◌≡◌, ℕ, ◌+◌, cond, List, [], ◌++◌, length, take, drop, ltb}
use Rattle.search.specs.Sets.{with_all, without}
use Rattle.bitset.specs.Bits.{bit_set, in_set, inserted, removed}
use Rattle.layout.specs.Layout.{shape_of}
use Rattle.image.specs.Claims.{held_in}
use Rattle.image.specs.Loading.{unit_set_words, map_set_words}

-- ---- the sets: "an index of free units and maps"

-- "72 words of 64 bits", then "maps likewise in 5 words"
abbrev pub set_words : ℕ
set_words = unit_set_words + map_set_words

-- those of the free units and those of the free maps, in a run of words
abbrev pub units_in : List ℕ → List ℕ
units_in sets = take unit_set_words sets

abbrev pub maps_in : List ℕ → List ℕ
maps_in sets = take map_set_words (drop unit_set_words sets)

-- the units of map k; none where k is no map
unfoldable pub held_by : List ℕ → ℕ → List ℕ
held_by s k = cond (ltb k (shape_of s).m) (held_in s k) []

-- a set with the numbers of a list, and without them, as far as it has bits for them
unfoldable pub put_in : List ℕ → List ℕ → List ℕ
put_in ws us = bit_set (with_all (in_set ws) us) (length ws)

unfoldable pub taken_out : List ℕ → List ℕ → List ℕ
taken_out ws us = bit_set (without (in_set ws) us) (length ws)

-- a call on the words ws with u may leave vs
abbrev pub Leaves : (MutBor (List ℕ) → ℕ → Unit {0} → MutBor (List ℕ) → Type 0) → List ℕ → ℕ → List ℕ → Type 0
Leaves post ws u vs = (lent : MutBor (List ℕ)) × (left : MutBor (List ℕ)) × (lent.now ≡ ws) × (left.now ≡ vs) × post lent u tt left

-- The sets where a chunk's entry was `old` and is `new` in the image t: the units and the number of the old map are put in, those of the new one taken out. X is
-- the number of no map.
abbrev pub renewed_units : List ℕ → List ℕ → ℕ → ℕ → List ℕ
renewed_units ws t old new = taken_out (put_in ws (held_by t old)) (held_by t new)

abbrev pub renewed_maps : List ℕ → ℕ → ℕ → List ℕ
renewed_maps ws old new = removed (inserted ws old) new

unfoldable pub renewed_sets : List ℕ → List ℕ → ℕ → ℕ → List ℕ
renewed_sets sets t old new = renewed_units (units_in sets) t old new ++ (renewed_maps (maps_in sets) old new ++ drop set_words sets)
