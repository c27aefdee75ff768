-- The converter from edition 1 to edition 2 (02, request 4): what it answers, and every byte of the second buffer afterwards. It only reads the image.
use Rattle.std.specs.Prelude.{ℕ, zero, suc, ◌*◌, cond, List, [], ◌∷◌, map, length, get_or, eqb, Result, Ok, Err}
use Rattle.search.specs.Search.{below}
use Rattle.layout.specs.declared.Shape.{Shape}
use Rattle.layout.specs.declared.Refusal.TheVariants.{Small}
use Rattle.layout.specs.Layout.{X, unit_bytes, edition2, map_words, after_head, put_word, map_word_place, image_bytes, link_of, shape_of, fresh}
use Rattle.image.specs.Soundness.{mapped, units_of}
use Rattle.image.specs.Verdicts.{first_verdict}
use Rattle.image.specs.Answers.{if_sound}
use Rattle.layout.specs.declared.Refusal.{Refusal}

-- ---- the image of edition 2

-- its shape: edition 2, the same P, C, M and N, and no reserved unit: "the converter writes 0"
abbrev pub second_of : Shape → Shape
second_of g = edition2 g.p g.c g.m g.n 0

-- "the new length": that of the converted image
abbrev pub new_bytes : List ℕ → ℕ
new_bytes s = image_bytes (second_of (shape_of s))

-- the words of a map with the units us in edition 2: first "the size is k·4,096", then the units in their order, then X
abbrev pub second_word : List ℕ → ℕ → ℕ
second_word us = after_head 1 (length us * unit_bytes) (λ j. get_or us j X)

-- words stored one after the other, from word q on
unfoldable pub put_words : List ℕ → ℕ → List ℕ → List ℕ
put_words t q [] = t
put_words t q (w ∷ ws) = put_words (put_word t q w) (suc q) ws

-- map k with the units us stored in t, an image of shape g
unfoldable pub put_map : Shape → List ℕ → ℕ → List ℕ → List ℕ
put_map g t k us = put_words t (map_word_place g k 0) (map (second_word us) (below (map_words g)))

-- chunk i's map and entry stored in t, with the number and the units that s has there; nothing for an unmapped chunk
unfoldable pub copied : List ℕ → ℕ → List ℕ → List ℕ
copied s i t =
    let k = link_of s i in
    cond (mapped s i) (put_word (put_map (second_of (shape_of s)) t k (units_of s i)) i k) t

-- those of the chunks below j, stored in a fresh image, where everything is X: "maps that no chunk names become X throughout"
unfoldable pub copied_below : List ℕ → ℕ → List ℕ
copied_below s zero = fresh (second_of (shape_of s))
copied_below s (suc j) = copied s j (copied_below s j)

-- those of all chunks: the whole image, whatever the second buffer held
unfoldable pub converted : List ℕ → List ℕ
converted s = copied_below s (shape_of s).c

-- ---- what `convert` answers

-- "a buffer not of exactly the new length gives 10", with the new length n as its place; else n
unfoldable pub if_exact : ℕ → ℕ → Result ℕ Refusal
if_exact room n = cond (eqb room n) (Ok n) (Err (Small n))

-- of any bytes, with a second buffer of `room` bytes. 01's own verdict comes first: 1; then 2 on whatever is not read as edition 1, sound or damaged, "an
-- edition 2 input gives 2"; then 3 to 6.
unfoldable pub convert_answer : List ℕ → ℕ → Result ℕ Refusal
convert_answer s room = if_sound (first_verdict s) Err (if_exact room (new_bytes s))

-- "A refusal changes nothing lent": what is there after an answer, and what was there before
abbrev pub unless_refused : Result ℕ Refusal → List ℕ → List ℕ → List ℕ
unless_refused (Ok n) after before = after
unless_refused (Err r) after before = before

-- the second buffer afterwards
abbrev pub convert_out : List ℕ → List ℕ → List ℕ
convert_out s out = unless_refused (convert_answer s (length out)) (converted s) out
