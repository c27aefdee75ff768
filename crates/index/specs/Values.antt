-- The index as a value: "index struct with methods taking self or mut self .. answering its length and the next index by value" (01, of 02's request 7).
use Rattle.std.specs.Prelude.{ℕ, ◌≡◌, List, Result, Ok, Err, ⊤}
use Rattle.layout.specs.Layout.{shape_of}
use Rattle.image.specs.Verdicts.{verdict}
use Rattle.indexed.specs.Admitting.{Index}
use Rattle.indexed.specs.Opening.{free_sets}
use Rattle.indexed.specs.Calls.{Current}
use Rattle.index.specs.declared.Index.{Index as Value}
use Rattle.layout.specs.declared.Refusal.{Refusal}

-- what a value holds
abbrev pub held : Value → Index
held x = record { shape = x.shape; sets = x.sets }

-- "Load once": the first index, by value, or the refusal
abbrev pub opened_index : Result ⊤ Refusal → List ℕ → Result Value Refusal
opened_index (Ok tt) s = Ok (record { shape = shape_of s; sets = free_sets s })
opened_index (Err r) s = Err r

abbrev pub first_index : List ℕ → Result Value Refusal
first_index s = opened_index (verdict s) s

-- It is what load answers: so all that is said of lists of calls from a current index (crate sessions) holds of the methods.
abbrev pub FirstIsCurrent : Type 0
FirstIsCurrent = (s : List ℕ) → verdict s ≡ Ok tt → (x : Value) × (first_index s ≡ Ok x) × Current s (held x)
