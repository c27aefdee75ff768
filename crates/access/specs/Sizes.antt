-- "a call answers a chunk's stored size" (02, request 4).
use Rattle.std.specs.Prelude.{ℕ, cond, List, ltb, Result, Ok, Err}
use Rattle.layout.specs.declared.Refusal.TheVariants.{Range}
use Rattle.layout.specs.Layout.{shape_of}
use Rattle.image.specs.Stored.{stored_size}
use Rattle.image.specs.Verdicts.{verdict}
use Rattle.image.specs.Answers.{if_sound}
use Rattle.layout.specs.declared.Refusal.{Refusal}

-- 7 is "chunk not below C"
abbrev pub size_answer : List ℕ → ℕ → Result ℕ Refusal
size_answer s i = if_sound (verdict s) Err (cond (ltb i (shape_of s).c) (Ok (stored_size s i)) (Err Range))

-- the answer where the image is not judged again; of a sound image it is `size_answer` (size-judged, in proofs/SizeLaws.antt)
unfoldable pub size_on : List ℕ → ℕ → Result ℕ Refusal
size_on s i = cond (ltb i (shape_of s).c) (Ok (stored_size s i)) (Err Range)
