-- Worked cases on document 01's 224-byte volume after its third write, computed: one statement.
use Rattle.std.specs.Prelude.{Ok, Err}
use Prim.Native.Nat.{ℕ}
use mathlib.Core.Path.{◌≡◌, refl}
use mathlib.Core.List.{List, []}
use Rattle.words.specs.Words.{number, digits}
use Rattle.search.specs.Search.{from, all, any, member, distinct, disjoint, lowest_from}
use Rattle.layout.specs.declared.Refusal.TheVariants.{Short, Foreign, BadMap, Small}
use Rattle.layout.specs.Trailer.{trailer_outcome}
use Rattle.layout.specs.Layout.{X, edition2, is_unit, map_words, after_head, fresh, put_word, trailer_of, shape_bytes, size_bytes, added_bytes, tagged_at, known_as, edition_of, known, fitting, within_limits, max_reserved, reserved_at, shape_of, agreeing, spare_zero, words_of}
use Rattle.image.specs.Soundness.{leading, units_of}
use Rattle.image.specs.Verdicts.{verdict, first_verdict, chunk_verdict, bad_link, bad_map, double_claim, first_claim, contested, clash, well_formed, size_fits, good_form}
use Rattle.image.proofs.Cases.{third}
use Rattle.convert.specs.Convert.{put_words, put_map, copied, copied_below, converted, if_exact, convert_answer}

-- Chunk 2 has map 0 with units 0 and 1, chunk 0 map 2 with units 3 and 4, and the sizes 8,192. Nothing is left of unit 2 in map 1, which no chunk names.
abbrev second : List ℕ
unfolding fresh digits
second =
    put_word (put_word (put_word (put_word (put_word (put_word (put_word (put_word (fresh (edition2 4 4 5 20 0)) 2 0) 4 8192) 5 0) 6 1) 0 2) 14 8192) 15 3) 16 4

worked :
    (convert_answer [] 0 ≡ Err Short)
    × (convert_answer third 272 ≡ Ok 272)
    × (convert_answer third 271 ≡ Err (Small 272))
    × (convert_answer third 273 ≡ Err (Small 272))
    × (convert_answer (put_word third 12 X) 0 ≡ Err (BadMap 0))
    × (converted third ≡ second)
    × (convert_answer second 272 ≡ Err Foreign)
unfolding put_words put_map copied copied_below converted if_exact convert_answer after_head verdict first_verdict trailer_outcome chunk_verdict bad_link bad_map double_claim first_claim contested clash well_formed leading units_of lowest_from all any member distinct disjoint known fitting within_limits max_reserved reserved_at agreeing spare_zero known_as tagged_at edition_of is_unit map_words size_fits good_form fresh trailer_of shape_bytes size_bytes added_bytes number digits from shape_of words_of
worked = (refl, refl, refl, refl, refl, refl, refl)
