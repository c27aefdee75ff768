-- Byte ranges of a volume: which are good, the pieces that they split into, and what a piece reads first.
use Rattle.std.specs.Prelude.{ℕ, ◌+◌, ◌-◌, ◌*◌, ◌/◌, ◌%◌, min, max, Bool, ◌&&◌, cond, List, [], ◌∷◌, ◌++◌, map, length, drop, eqb, ltb, leb, Result, Ok, Err}
use Rattle.words.specs.Words.{digits}
use Rattle.search.specs.Search.{from}
use Rattle.layout.specs.declared.Shape.{Shape}
use Rattle.layout.specs.declared.Refusal.TheVariants.{Range, Small}
use Rattle.layout.specs.Layout.{unit_bytes, shape_of}
use Rattle.image.specs.Soundness.{mapped}
use Rattle.image.specs.Verdicts.{verdict}
use Rattle.image.specs.Answers.{if_sound}
use Rattle.access.specs.declared.Piece.{Piece}
use Rattle.access.specs.declared.Access.{Access}
use Rattle.access.specs.declared.Access.TheVariants.{Nothing, Zeros, Chunk}
use Rattle.layout.specs.declared.Refusal.{Refusal}

-- "P units make a chunk"
abbrev pub chunk_bytes : Shape → ℕ
chunk_bytes g = g.p * unit_bytes

-- row 7's "C·P·4,096"
abbrev pub volume_bytes : Shape → ℕ
volume_bytes g = g.c * chunk_bytes g

-- Not row 7's "byte range empty, off the 4,096 grain, past C·P·4,096". The end is a sum of numbers of any size: nothing wraps.
unfoldable pub good_range : Shape → ℕ → ℕ → Bool
good_range g offset span =
    leb 1 span && eqb (offset % unit_bytes) 0 && eqb (span % unit_bytes) 0 && leb (offset + span) (volume_bytes g)

-- ---- the pieces of the bytes from lo up to hi, without hi, where a chunk has b bytes

-- the chunk of the first byte, and the chunk of the last
abbrev pub first_chunk : ℕ → ℕ → ℕ
first_chunk b lo = lo / b

abbrev pub last_chunk : ℕ → ℕ → ℕ
last_chunk b hi = (hi - 1) / b

-- how many chunks there are from the one to the other
abbrev pub piece_count : ℕ → ℕ → ℕ → ℕ
piece_count b lo hi = last_chunk b hi + 1 - first_chunk b lo

-- "(chunk, offset within it, length)": what of these bytes lies in chunk i
unfoldable pub piece_of : ℕ → ℕ → ℕ → ℕ → Piece
piece_of b lo hi i =
    let start = max lo (i * b) in
    let end = min hi (i * b + b) in
    record { chunk = i; offset = start - i * b; len = end - start }

-- "A byte range splits at chunk boundaries into pieces .., in rising order": one for each chunk from the first byte's to the last byte's
unfoldable pub pieces : ℕ → ℕ → ℕ → List Piece
pieces b lo hi = map (piece_of b lo hi) (from (first_chunk b lo) (piece_count b lo hi))

-- the pieces of the `span` bytes from `offset` of a volume of shape g
abbrev pub pieces_of : Shape → ℕ → ℕ → List Piece
pieces_of g offset span = pieces (chunk_bytes g) offset (offset + span)

-- "each written to a lent output as three u32", little-endian
unfoldable pub encode : Piece → List ℕ
encode x = digits 4 x.chunk ++ digits 4 x.offset ++ digits 4 x.len

-- one piece after the other
unfoldable pub encode_all : List Piece → List ℕ
encode_all [] = []
encode_all (x ∷ xs) = encode x ++ encode_all xs

-- the bytes of a piece
abbrev pub piece_bytes : ℕ
piece_bytes = 12

-- ---- what `split` answers, and what it leaves in the lent output

-- Of a sound volume, with `room` bytes lent: 7, then 10 "lent output too short" with the "bytes needed" for all pieces, then how many pieces. Just
-- enough room is enough.
unfoldable pub split_in : Shape → ℕ → ℕ → ℕ → Result ℕ Refusal
split_in g offset span room =
    let count = length (pieces_of g offset span) in
    cond (good_range g offset span)
    (cond (ltb room (piece_bytes * count)) (Err (Small (piece_bytes * count))) (Ok count))
    (Err Range)

-- of any image: "Every entry point first applies 1 to 6 to its image"
abbrev pub split_answer : List ℕ → ℕ → ℕ → ℕ → Result ℕ Refusal
split_answer s offset span room = if_sound (verdict s) Err (split_in (shape_of s) offset span room)

-- "A refusal changes nothing lent ..; an answer changes nothing past what it writes."
abbrev pub written : Result ℕ Refusal → List Piece → List ℕ → List ℕ
written (Ok count) xs out = encode_all xs ++ drop (piece_bytes * count) out
written (Err r) xs out = out

-- the lent output afterwards
abbrev pub split_out : List ℕ → ℕ → ℕ → List ℕ → List ℕ
split_out s offset span out = written (split_answer s offset span (length out)) (pieces_of (shape_of s) offset span) out

-- ---- what `access` answers

-- Nor row 7's "or, asked as one piece, across chunks": the first byte and the last lie in one chunk. The range is of the volume's bytes.
abbrev pub good_piece : Shape → ℕ → ℕ → Bool
good_piece g offset span =
    good_range g offset span && eqb (first_chunk (chunk_bytes g) offset) (last_chunk (chunk_bytes g) (offset + span))

-- "A write piece that covers its chunk": a piece within a chunk of b bytes that is as long as it. A read never covers.
abbrev pub covers : ℕ → Bool → ℕ → Bool
covers b write span = write && eqb span b

-- "A write piece that covers its chunk reads nothing first. Any other piece reads as zeros on an unmapped chunk; on a mapped one, the whole
-- chunk's units are read in map order."
unfoldable pub reads_first : Shape → (ℕ → Bool) → Bool → ℕ → ℕ → Result Access Refusal
reads_first g is_mapped write offset span =
    cond (good_piece g offset span)
    (cond (covers (chunk_bytes g) write span) (Ok Nothing) (cond (is_mapped (first_chunk (chunk_bytes g) offset)) (Ok Chunk) (Ok Zeros)))
    (Err Range)

-- of any image
abbrev pub access_answer : List ℕ → Bool → ℕ → ℕ → Result Access Refusal
access_answer s write offset span = if_sound (verdict s) Err (reads_first (shape_of s) (mapped s) write offset span)
