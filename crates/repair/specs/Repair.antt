-- The repair of a damaged image (02, request 3): which chunks it unlinks, what it answers, and every byte of the image and of the lent list afterwards.
use Rattle.std.specs.Prelude.{ℕ, ◌*◌, Bool, not, ◌&&◌, ◌||◌, cond, List, [], ◌∷◌, ◌++◌, length, drop, eqb, ltb, Result, Ok, Err}
use Rattle.search.specs.Search.{below, any, keep, distinct, joined}
use Rattle.words.specs.Words.{digits}
use Rattle.layout.specs.declared.Refusal.TheVariants.{Small}
use Rattle.layout.specs.Trailer.{trailer_outcome}
use Rattle.layout.specs.Layout.{X, shape_of, put_word}
use Rattle.image.specs.Soundness.{units_of}
use Rattle.image.specs.Verdicts.{good_link, good_map, clash}
use Rattle.layout.specs.declared.Refusal.{Refusal}
use Rattle.layout.specs.declared.Shape.{Shape}

-- ---- the chunks that are unlinked

-- "every chunk with a bad link or bad map": rows 4 and 5, asked of chunk i alone
unfoldable pub bad : List ℕ → ℕ → Bool
bad s i = not (good_link s i && good_map s i)

-- chunk i is another of the "chunks with good links and maps", and chunk j shares a map or unit with it. What a bad chunk names is shared with nobody: it was
-- unlinked first.
unfoldable pub shares_with : List ℕ → ℕ → ℕ → Bool
shares_with s j i = not (bad s i) && not (eqb i j) && clash s i j

-- "among chunks with good links and maps, every chunk that shares a map or unit with another"
unfoldable pub shares : List ℕ → ℕ → Bool
shares s j = any (shares_with s j) (below (shape_of s).c)

-- "or names a unit twice"
unfoldable pub names_twice : List ℕ → ℕ → Bool
names_twice s j = not (distinct (units_of s j))

-- the bad ones, "and then, among" the others, both sides of every clash
unfoldable pub unlinks : List ℕ → ℕ → Bool
unlinks s j = bad s j || (shares s j || names_twice s j)

-- "the list of unlinked chunks comes out in rising order"
unfoldable pub unlinked : List ℕ → List ℕ
unlinked s = keep (unlinks s) (below (shape_of s).c)

-- ---- what a repair leaves

-- "Only the entries of those chunks change, to X"
unfoldable pub unlink : List ℕ → List ℕ → List ℕ
unlink s [] = s
unlink s (i ∷ is) = unlink (put_word s i X) is

unfoldable pub repaired : List ℕ → List ℕ
repaired s = unlink s (unlinked s)

-- "a u32 each", little-endian
abbrev pub number_bytes : ℕ
number_bytes = 4

unfoldable pub list_bytes : List ℕ → List ℕ
list_bytes is = joined (digits number_bytes) is

-- the list in a lent buffer: "an answer changes nothing past what it writes"
abbrev pub listing : List ℕ → List ℕ → List ℕ
listing s out = list_bytes (unlinked s) ++ drop (number_bytes * length (unlinked s)) out

-- ---- what `repair` answers

-- 10 "lent output too short", with the "bytes needed" for the whole list; else how many chunks are unlinked. Just enough room is enough, and an empty list
-- needs none.
unfoldable pub if_room : ℕ → ℕ → Result ℕ Refusal
if_room room count = cond (ltb room (number_bytes * count)) (Err (Small (number_bytes * count))) (Ok count)

-- "Answers 1 to 3 still refuse": of an image whose trailer is refused, or what is answered of the rest
abbrev pub if_shaped : Result Shape Refusal → Result ℕ Refusal → Result ℕ Refusal
if_shaped (Ok g) answer = answer
if_shaped (Err r) answer = Err r

-- of any bytes, with `room` bytes lent for the list
unfoldable pub repair_answer : List ℕ → ℕ → Result ℕ Refusal
repair_answer s room = if_shaped (trailer_outcome s) (if_room room (length (unlinked s)))

-- "A refusal changes nothing lent": what is there after an answer, and what was there before
abbrev pub unless_refused : Result ℕ Refusal → List ℕ → List ℕ → List ℕ
unless_refused (Ok n) after before = after
unless_refused (Err r) after before = before

-- the image afterwards
abbrev pub repair_image : List ℕ → ℕ → List ℕ
repair_image s room = unless_refused (repair_answer s room) (repaired s) s

-- the lent buffer of the list afterwards
abbrev pub repair_list : List ℕ → List ℕ → List ℕ
repair_list s out = unless_refused (repair_answer s (length out)) (listing s out) out
