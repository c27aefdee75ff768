-- What load answers.
use Rattle.std.specs.Prelude.{ℕ, ◌+◌, ◌/◌, List, Result, Ok, Err, ⊤}
use Rattle.bitset.specs.Bits.{bit_set}
use Rattle.layout.specs.Layout.{max_units, max_maps, shape_of}
use Rattle.image.specs.declared.Loaded.{Loaded}
use Rattle.image.specs.Verdicts.{verdict}
use Rattle.image.specs.Free.{free_unit, free_map}
use Rattle.layout.specs.declared.Refusal.{Refusal}

-- "The free set is rebuilt at load and kept as 72 words of 64 bits, one bit a unit"; "maps likewise in 5 words"
abbrev pub unit_set_words : ℕ
unit_set_words = (max_units + 63) / 64

abbrev pub map_set_words : ℕ
map_set_words = (max_maps + 63) / 64

-- "Load answers P, C, M, N and both", and R, of a sound image; of any other its refusal
abbrev pub answer : Result ⊤ Refusal → List ℕ → Result Loaded Refusal
answer (Ok tt) s =
    Ok (record { shape = shape_of s; units = bit_set (free_unit s) unit_set_words; maps = bit_set (free_map s) map_set_words })
answer (Err r) s = Err r

abbrev pub loaded : List ℕ → Result Loaded Refusal
loaded s = answer (verdict s) s
