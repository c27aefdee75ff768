-- What load answers where the sets are lent: no set is in the answer.
use Rattle.std.specs.Prelude.{ℕ, ◌≡◌, List, Result, Ok, Err}
use Rattle.bitset.specs.Bits.{bit_set}
use Rattle.layout.specs.declared.Shape.{Shape}
use Rattle.layout.specs.Layout.{shape_of}
use Rattle.image.specs.Verdicts.{verdict}
use Rattle.image.specs.Free.{free_unit, free_map}
use Rattle.image.specs.Loading.{unit_set_words, map_set_words}
use Rattle.image.specs.Answers.{if_sound}
use Rattle.layout.specs.declared.Refusal.{Refusal}

-- "Every entry point first applies 1 to 6 to its image": the first refusal, or the shape of a sound image
abbrev pub outcome : List ℕ → Result Shape Refusal
outcome s = if_sound (verdict s) Err (Ok (shape_of s))

-- o is that outcome, and of a sound image the sets that were lent hold what is free; of any other nothing is said of them
pub record LoadedInto (s : List ℕ) (o : Result Shape Refusal) (units maps : List ℕ) : Type 0 where
  pub right : o ≡ outcome s
  pub units-left : (g : Shape) → o ≡ Ok g → units ≡ bit_set (free_unit s) unit_set_words
  pub maps-left : (g : Shape) → o ≡ Ok g → maps ≡ bit_set (free_map s) map_set_words
