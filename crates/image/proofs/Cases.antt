-- Worked cases of document 01 on the 224-byte volume, computed: one statement.
use Rattle.std.specs.Prelude.{Ok, Err}
use Prim.Native.Nat.{ℕ}
use mathlib.Core.Path.{◌≡◌, refl}
use mathlib.Core.List.{List, [], ◌∷◌}
use Rattle.words.specs.Words.{number, digits}
use Rattle.search.specs.Search.{from, below, joined, all, any, keep, member, distinct, disjoint, lowest_from}
use Rattle.bitset.specs.Bits.{bits, bit_set}
use Rattle.layout.specs.declared.Shape.{Shape}
use Rattle.layout.specs.declared.Refusal.TheVariants.{Short, BadLink, BadMap, Shared}
use Rattle.layout.specs.Trailer.{trailer_outcome}
use Rattle.layout.specs.Layout.{X, edition1, is_unit, map_words, fresh, put_word, trailer_of, shape_bytes, size_bytes, added_bytes, tagged_at, known_as, edition_of, known, fitting, within_limits, max_reserved, reserved_at, shape_of, agreeing, spare_zero, words_of}
use Rattle.image.specs.Soundness.{leading, units_of}
use Rattle.image.specs.Verdicts.{verdict, chunk_verdict, bad_link, bad_map, double_claim, first_claim, contested, clash, well_formed, size_fits, good_form}
use Rattle.image.specs.Free.{free_units, free_maps, free_unit, free_map, held_units}

abbrev pub small : Shape
small = edition1 4 4 5 20

-- after the third write: chunk 2 has map 0 with units 0 and 1, chunk 0 map 2 with units 3 and 4; map 1, which no chunk names any more, still says unit 2
abbrev pub third : List ℕ
third = put_word (put_word (put_word (put_word (put_word (put_word (put_word (fresh small) 2 0) 4 0) 5 1) 8 2) 0 2) 12 3) 13 4

-- "chunks 0 and 3 both naming map 0 (a sound map)", which holds unit 7
abbrev shared : List ℕ
unfolding fresh digits
shared = put_word (put_word (put_word (fresh small) 0 0) 3 0) 4 7

-- clashes 0-3 (map 0) and 1-2 (map 1), each map with a unit of its own
abbrev two_clashes : List ℕ
unfolding fresh digits
two_clashes = put_word (put_word (put_word (put_word shared 1 1) 2 1) 8 9) 9 X

-- the third write's image with unit 3 twice in chunk 0's map, with a map that begins with X, with a link to map 5
abbrev twice : List ℕ
unfolding fresh digits
twice = put_word third 13 3

abbrev empty_map : List ℕ
unfolding fresh digits
empty_map = put_word third 12 X

abbrev bad_entry : List ℕ
unfolding fresh digits
bad_entry = put_word empty_map 1 5

worked :
    (verdict [] ≡ Err Short)
    × (verdict (fresh small) ≡ Ok tt)
    × (free_units (fresh small) ≡ below 20)
    × (free_maps (fresh small) ≡ below 5)
    × (verdict shared ≡ Err (Shared 0 3))
    × (verdict two_clashes ≡ Err (Shared 1 2))
    × (verdict twice ≡ Err (Shared 0 0))
    × (verdict empty_map ≡ Err (BadMap 0))
    × (verdict bad_entry ≡ Err (BadLink 1))
    × (verdict third ≡ Ok tt)
    × (held_units third ≡ 3 ∷ 4 ∷ 0 ∷ 1 ∷ [])
    × (free_units third ≡ 2 ∷ from 5 15)
    × (free_maps third ≡ 1 ∷ 3 ∷ 4 ∷ [])
    × (bit_set (free_unit third) 2 ≡ 1048548 ∷ 0 ∷ [])
unfolding joined verdict trailer_outcome chunk_verdict bad_link bad_map double_claim first_claim contested clash well_formed leading units_of held_units free_units free_unit free_maps free_map lowest_from all any keep member distinct disjoint known fitting within_limits max_reserved reserved_at agreeing spare_zero known_as tagged_at edition_of is_unit map_words size_fits good_form fresh trailer_of shape_bytes size_bytes added_bytes number digits from shape_of words_of bits bit_set
worked = (refl, refl, refl, refl, refl, refl, refl, refl, refl, refl, refl, refl, refl, refl)
