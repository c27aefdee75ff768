-- The verdict on any bytes: rows 1 to 6 of the table of refusals, "lowest number wins", computed.
use Rattle.std.specs.Prelude.{ℕ, Bool, not, ◌&&◌, ◌||◌, cond, List, length, get_or, drop, eqb, ltb, leb, Result, Ok, Err, ⊤}
use Rattle.search.specs.Search.{below, all, any, distinct, disjoint, lowest}
use Rattle.layout.specs.declared.Refusal.TheVariants.{Foreign, BadLink, BadMap, Shared}
use Rattle.layout.specs.Trailer.{trailer_outcome}
use Rattle.layout.specs.declared.Shape.{Shape}
use Rattle.layout.specs.Layout.{X, first_edition, units_for, is_unit, head, unit_words, words_of, trailer_bytes, known_as, shape_of, link_of}
use Rattle.image.specs.Soundness.{leading, mapped, units_of}
use Rattle.layout.specs.declared.Refusal.{Refusal}

-- ---- row 4: "entry neither X nor below M", "lowest such chunk"

abbrev pub good_link : List ℕ → ℕ → Bool
good_link s i = not (mapped s i) || ltb (link_of s i) (shape_of s).m

-- the lowest chunk with a bad entry, or C where there is none; so below
unfoldable pub bad_link : List ℕ → ℕ
bad_link s = lowest (λ i. not (good_link s i)) (shape_of s).c

-- ---- row 5: "a named map of the wrong form", "lowest such chunk"; of the reserved units "a named map with one gives 5": such a word is no unit here

-- "1 to P units below N, then only X": some word passes the test, and only X from the first that fails it
unfoldable pub well_formed : (ℕ → Bool) → List ℕ → Bool
well_formed f ws = let k = length (leading f ws) in leb 1 k && all (eqb X) (drop k ws)

-- "A sound map has k equal to the size rounded up in units": in edition 2, where word 0 is the size
unfoldable pub size_fits : Shape → ℕ → List ℕ → Bool
size_fits g k ws = eqb (head g) 0 || eqb (units_for (get_or ws 0 0)) k

unfoldable pub good_form : Shape → List ℕ → Bool
good_form g ws = let us = unit_words g ws in well_formed (is_unit g) us && size_fits g (length (leading (is_unit g) us)) ws

abbrev pub good_map : List ℕ → ℕ → Bool
good_map s i = let g = shape_of s in not (mapped s i) || good_form g (words_of g s (link_of s i))

unfoldable pub bad_map : List ℕ → ℕ
bad_map s = lowest (λ i. not (good_map s i)) (shape_of s).c

-- ---- row 6: "a map or unit claimed twice", "two chunks"

-- chunks i and j name the same map or a common unit
unfoldable pub clash : List ℕ → ℕ → ℕ → Bool
clash s i j = mapped s i && mapped s j && (eqb (link_of s i) (link_of s j) || not (disjoint (units_of s i) (units_of s j)))

-- chunk j "claims a map or unit of a lower chunk, or one unit twice": the scan takes out what each chunk claims, and j finds something gone
unfoldable pub contested : List ℕ → ℕ → Bool
contested s j = any (λ i. clash s i j) (below j) || not (distinct (units_of s j))

-- "the second chunk is the lowest that claims a map or unit of a lower chunk, or one unit twice"
unfoldable pub double_claim : List ℕ → ℕ
double_claim s = lowest (contested s) (shape_of s).c

-- "The first chunk is the lowest one it clashes with, or itself if none is lower."
unfoldable pub first_claim : List ℕ → ℕ → ℕ
first_claim s j = lowest (λ i. clash s i j) j

-- ---- the verdict

-- rows 4 to 6, of an image whose trailer passes: each row is asked of all chunks before the next
unfoldable pub chunk_verdict : List ℕ → Result ⊤ Refusal
chunk_verdict s =
    let c = (shape_of s).c in
    let j = double_claim s in
    let sharing = cond (ltb j c) (Err (Shared (first_claim s j) j)) (Ok tt) in
    let maps = cond (ltb (bad_map s) c) (Err (BadMap (bad_map s))) sharing in
    cond (ltb (bad_link s) c) (Err (BadLink (bad_link s))) maps

-- a trailer that is refused, or what is said of the rest
abbrev pub after_trailer : Result Shape Refusal → Result ⊤ Refusal → Result ⊤ Refusal
after_trailer (Ok g) v = v
after_trailer (Err r) v = Err r

-- rows 1 to 6
unfoldable pub verdict : List ℕ → Result ⊤ Refusal
verdict s = after_trailer (trailer_outcome s) (chunk_verdict s)

-- under 32 bytes, or read as edition 1: then 01's verdict is load's
abbrev pub as_first : List ℕ → Bool
as_first s = ltb (length s) (trailer_bytes first_edition) || known_as first_edition s

-- 01's own verdict, of the last 32 bytes alone: what "Edition 1 code" gives. 2 is "first four trailer bytes or version wrong".
unfoldable pub first_verdict : List ℕ → Result ⊤ Refusal
first_verdict s = cond (as_first s) (verdict s) (Err Foreign)
