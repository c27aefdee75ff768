-- "Every entry point first applies 1 to 6 to its image": what a question on an image is answered.
use Rattle.std.specs.Prelude.{Result, Ok, Err, ⊤}
use Rattle.layout.specs.declared.Refusal.{Refusal}

module _ {A : Type 0} where
  -- `answer` for a sound image; for any other what `refuse` makes of the refusal that the image gets
  abbrev pub if_sound : Result ⊤ Refusal → (Refusal → A) → A → A
  if_sound (Ok tt) refuse answer = answer
  if_sound (Err r) refuse answer = refuse r
