-- The held words of a chunk's map, as a part of the image, and the companion call's answer.
use Rattle.std.specs.Prelude.{ℕ, ◌+◌, ◌-◌, ◌*◌, cond, List, length, take, drop, ltb, Result, Ok, Err, ⊤}
use Rattle.layout.specs.declared.Refusal.{Refusal}
use Rattle.layout.specs.declared.Refusal.TheVariants.{Range}
use Rattle.layout.specs.Layout.{head, shape_of, link_of, map_word_place}
use Rattle.image.specs.Soundness.{mapped, units_of}
use Rattle.image.specs.Verdicts.{verdict}
use Rattle.image.specs.Answers.{if_sound}
use Rattle.access.specs.declared.Extent.{Extent}

-- "a companion call on the same inputs gives number and place": 7 is "chunk not below C". An unmapped chunk is no refusal.
abbrev pub held_status : List ℕ → ℕ → Result ⊤ Refusal
held_status s i = if_sound (verdict s) Err (cond (ltb i (shape_of s).c) (Ok tt) (Err Range))

-- an empty part
abbrev pub empty_extent : Extent
empty_extent = record { start = 0; end = 0 }

-- "The held words of a chunk's map": where its k unit words stand, 8·k bytes from its first unit word on. They are not the whole map: in edition 2 the size
-- before them is no part of it ("The words handed back are still the units"), nor are the words of X after them.
unfoldable pub held_words : List ℕ → ℕ → Extent
held_words s i =
    let start = 8 * map_word_place (shape_of s) (link_of s i) (head (shape_of s)) in
    cond (mapped s i) (record { start = start; end = start + 8 * length (units_of s i) }) empty_extent

-- "for an unmapped chunk or a refusal the part is empty"
abbrev pub if_answered : Result ⊤ Refusal → Extent → Extent
if_answered (Ok tt) e = e
if_answered (Err r) e = empty_extent

-- where the part that `held` hands back stands, for any image and chunk number
abbrev pub held_extent : List ℕ → ℕ → Extent
held_extent s i = if_answered (held_status s i) (held_words s i)

-- the answer on a chunk where the image is not judged again; of a sound image it is `held_of` (held-judged, in proofs/PartLaws.antt)
unfoldable pub held_on : List ℕ → ℕ → Result Extent Refusal
held_on s i = cond (ltb i (shape_of s).c) (Ok (held_words s i)) (Err Range)

-- both at once, as one load finds them
abbrev pub held_of : List ℕ → ℕ → Result Extent Refusal
held_of s i = if_sound (verdict s) Err (held_on s i)

-- "that part of the caller's own image"
abbrev pub part : List ℕ → Extent → List ℕ
part s e = take (e.end - e.start) (drop e.start s)

-- and its bytes
abbrev pub held_part : List ℕ → ℕ → List ℕ
held_part s i = part s (held_extent s i)
