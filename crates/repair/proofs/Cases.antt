-- Worked cases on document 01's 224-byte volume, and on that of edition 2 with reserved units, computed: one statement.
use Rattle.std.specs.Prelude.{Ok, Err}
use Prim.Native.Nat.{ℕ}
use mathlib.Core.Path.{◌≡◌, refl}
use mathlib.Core.List.{List, [], ◌∷◌}
use Rattle.words.specs.Words.{number, digits}
use Rattle.search.specs.Search.{from, all, any, keep, member, distinct, disjoint, joined}
use Rattle.layout.specs.declared.Refusal.TheVariants.{Short, Small}
use Rattle.layout.specs.Trailer.{trailer_outcome}
use Rattle.layout.specs.Layout.{X, edition2, is_unit, map_words, added_bytes, tagged_at, known_as, edition_of, spare_zero, fresh, put_word, trailer_of, shape_bytes, size_bytes, known, fitting, within_limits, max_reserved, reserved_at, shape_of, agreeing, words_of}
use Rattle.image.specs.Soundness.{leading, units_of}
use Rattle.image.specs.Verdicts.{clash, well_formed, size_fits, good_form}
use Rattle.image.proofs.Cases.{small, third}
use Rattle.repair.specs.Repair.{bad, shares_with, shares, names_twice, unlinks, unlinked, unlink, repaired, if_room, repair_answer, repair_image, repair_list, list_bytes}

-- Chunks 0 and 3 both name map 0, which holds unit 7; chunk 1 has map 1 with unit 9; map 4, which no chunk names, says unit 7 too.
abbrev two_on_one : List ℕ
unfolding fresh digits
two_on_one = put_word (put_word (put_word (put_word (put_word (put_word (fresh small) 0 0) 1 1) 3 0) 4 7) 8 9) 20 7

-- After the third write chunk 0 has units 3 and 4 in map 2, chunk 2 units 0 and 1 in map 0. Now chunk 1 names map 3, which says unit 3 and, after an X, unit 9:
-- a bad map, so that chunk 0 shares its unit 3 with nobody.
abbrev bad_neighbour : List ℕ
unfolding fresh digits
bad_neighbour = put_word (put_word (put_word third 1 3) 16 3) 18 9

-- Chunk 3 has a link to map 5, which is not below M, and chunk 1 map 3 with unit 1 and unit 6 twice: it names a unit twice and shares one with chunk 2.
abbrev several : List ℕ
unfolding fresh digits
several = put_word (put_word (put_word (put_word (put_word third 3 5) 1 3) 16 1) 17 6) 18 6

-- Chunks 0, 1 and 2 have maps 0, 1 and 2 with units 0, 1, with units 1, 2 and with units 2, 3: without chunk 1 nobody would clash, and all three go.
abbrev chain : List ℕ
unfolding fresh digits
chain =
    put_word (put_word (put_word (put_word (put_word (put_word (put_word (put_word (put_word (fresh small) 0 0) 1 1) 2 2) 4 0) 5 1) 8 1) 9 2) 12 2) 13 3

-- Edition 2 with three units reserved: chunk 0 has map 0 with units 3 and 2, of which the second is reserved; chunk 1 has map 1 with unit 3.
abbrev on_reserved : List ℕ
unfolding fresh digits
on_reserved = put_word (put_word (put_word (put_word (put_word (put_word (put_word (fresh (edition2 4 4 5 20 3)) 0 0) 4 8192) 5 3) 6 2) 1 1) 9 4096) 10 3

worked :
    (repair_answer [] 4 ≡ Err Short)
    × (repair_answer third 0 ≡ Ok 0)
    × (repair_image third 0 ≡ third)
    × (unlinked two_on_one ≡ 0 ∷ 3 ∷ [])
    × (repair_answer two_on_one 7 ≡ Err (Small 8))
    × (repair_image two_on_one 7 ≡ two_on_one)
    × (repair_answer two_on_one 8 ≡ Ok 2)
    × (repair_image two_on_one 8 ≡ put_word (put_word two_on_one 0 X) 3 X)
    × (repair_list two_on_one (1 ∷ 2 ∷ 3 ∷ 4 ∷ 5 ∷ 6 ∷ 7 ∷ 8 ∷ 9 ∷ []) ≡ 0 ∷ 0 ∷ 0 ∷ 0 ∷ 3 ∷ 0 ∷ 0 ∷ 0 ∷ 9 ∷ [])
    × (unlinked bad_neighbour ≡ 1 ∷ [])
    × (repaired bad_neighbour ≡ put_word bad_neighbour 1 X)
    × (unlinked several ≡ 1 ∷ 2 ∷ 3 ∷ [])
    × (unlinked chain ≡ 0 ∷ 1 ∷ 2 ∷ [])
    × (unlinked on_reserved ≡ 0 ∷ [])
    × (repaired on_reserved ≡ put_word on_reserved 0 X)
unfolding unlinked unlinks bad shares_with shares names_twice unlink repaired if_room repair_answer list_bytes joined trailer_outcome clash well_formed leading units_of all any keep member distinct disjoint known fitting within_limits max_reserved reserved_at agreeing fresh trailer_of shape_bytes size_bytes is_unit map_words size_fits good_form added_bytes tagged_at known_as edition_of spare_zero number digits from shape_of words_of
worked = (refl, refl, refl, refl, refl, refl, refl, refl, refl, refl, refl, refl, refl, refl, refl)
