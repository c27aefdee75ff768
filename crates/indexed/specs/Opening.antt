-- What opening an image answers, and the words that it leaves (02, request 7: "Load once").
use Rattle.std.specs.Prelude.{ℕ, List, ◌++◌, length, drop, Result, Ok, Err, ⊤}
use Rattle.bitset.specs.Bits.{bit_set}
use Rattle.layout.specs.Layout.{shape_of}
use Rattle.image.specs.Verdicts.{verdict}
use Rattle.image.specs.Free.{free_unit, free_map}
use Rattle.image.specs.Loading.{unit_set_words, map_set_words}
use Rattle.image.specs.Answers.{if_sound}
use Rattle.indexed.specs.Admitting.{enough, outcome_by}
use Rattle.renewal.specs.Renewal.{set_words}
use Rattle.layout.specs.declared.Refusal.{Refusal}
use Rattle.layout.specs.declared.Shape.{Shape}

-- "every entry point checks the image then binds the load and the scanning calls only": 1 to 6, and then 10 for fewer words than the sets have
abbrev pub open_verdict : List ℕ → ℕ → Result ⊤ Refusal
open_verdict s words = if_sound (verdict s) Err (enough words)

-- the refusal, or the shape of a sound image
abbrev pub open_outcome : List ℕ → ℕ → Result Shape Refusal
open_outcome s words = outcome_by (shape_of s) (open_verdict s words)

-- its free units and its free maps, as load answers them
abbrev pub free_sets : List ℕ → List ℕ
free_sets s = bit_set (free_unit s) unit_set_words ++ bit_set (free_map s) map_set_words

-- "A refusal changes nothing lent ..; an answer changes nothing past what it writes."
abbrev pub opened_sets : Result ⊤ Refusal → List ℕ → List ℕ → List ℕ
opened_sets (Ok tt) s sets = free_sets s ++ drop set_words sets
opened_sets (Err r) s sets = sets

abbrev pub open_sets : List ℕ → List ℕ → List ℕ
open_sets s sets = opened_sets (open_verdict s (length sets)) s sets
