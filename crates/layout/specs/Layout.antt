-- The image, byte for byte: the shape of a volume and its limits, the trailer, and the words of the logical map and of the chunk maps.
use Rattle.std.specs.Prelude.{ℕ, ◌+◌, ◌-◌, ◌*◌, ◌/◌, ◌^◌, Bool, cond, ◌&&◌, ◌||◌, List, [], ◌∷◌, ◌++◌, map, length, drop, replicate, ◌==◌, nat_le, nat_lt, slice_index}
use Rattle.search.specs.Search.{below}
use Rattle.words.specs.Words.{u16_at, u32_at, u64_at, digits, store_at}
use Rattle.layout.specs.declared.Shape.{Shape}

-- ---- geometry

-- "A unit is 4,096 bytes."
abbrev pub unit_bytes : ℕ
unit_bytes = 4096

-- "A compressed size s takes k = s/4,096 rounded up units"
abbrev pub units_for : ℕ → ℕ
units_for size = (size + (unit_bytes - 1)) / unit_bytes

-- 01's images are of edition 1; "Edition 2 has version 2"
abbrev pub first_edition : ℕ
first_edition = 1

abbrev pub last_edition : ℕ
last_edition = 2

-- the shape with these numbers, in each edition; "Edition 1 behaves as R = 0"
abbrev pub edition1 : ℕ → ℕ → ℕ → ℕ → Shape
edition1 p c m n = record { edition = first_edition; p = p; c = c; m = m; n = n; r = 0 }

abbrev pub edition2 : ℕ → ℕ → ℕ → ℕ → ℕ → Shape
edition2 p c m n r = record { edition = last_edition; p = p; c = c; m = m; n = n; r = r }

-- "P units make a chunk, 2 to 16. C chunks, 1 to 256. M chunk maps, C+1 to C+32."
abbrev pub min_chunk_units : ℕ
min_chunk_units = 2

abbrev pub max_chunk_units : ℕ
max_chunk_units = 16

abbrev pub min_chunks : ℕ
min_chunks = 1

abbrev pub max_chunks : ℕ
max_chunks = 256

abbrev pub min_spare_maps : ℕ
min_spare_maps = 1

abbrev pub max_spare_maps : ℕ
max_spare_maps = 32

-- "R, the reserved units, 0 to N-P"; "Edition 1 behaves as R = 0": the most units that may be reserved
unfoldable pub max_reserved : Shape → ℕ
max_reserved g = cond (g.edition == first_edition) 0 (g.n - g.p)

-- one of the two editions, those limits, "N backing units, P to P·M", and only then that of R, so that no difference is cut off at 0
unfoldable pub within_limits : Shape → Bool
within_limits g =
    nat_le first_edition g.edition && nat_le g.edition last_edition && nat_le min_chunk_units g.p && nat_le g.p max_chunk_units && nat_le min_chunks g.c
    && nat_le g.c max_chunks
    && nat_le (g.c + min_spare_maps) g.m
    && nat_le g.m (g.c + max_spare_maps)
    && nat_le g.p g.n
    && nat_le g.n (g.p * g.m)
    && nat_le g.r (max_reserved g)

-- "units below N", and "Units below R are never free and never held": the numbers that a chunk may hold as units
unfoldable pub is_unit : Shape → ℕ → Bool
is_unit g u = nat_le g.r u && nat_lt u g.n

-- not "compressed size 0 or above P·4,096"
abbrev pub is_size : Shape → ℕ → Bool
is_size g size = nat_le 1 size && nat_le size (g.p * unit_bytes)

-- ---- the words of an image: "First the logical map, C words of 64 bits; then M chunk maps of P words each"

-- "X is 2^64-1": no map, no unit
abbrev pub X : ℕ
X = 2 ^ 64 - 1

-- how many words of a map stand before its units: none in edition 1, one in edition 2, "first the compressed size, then the units"
abbrev pub head : Shape → ℕ
head g = g.edition - first_edition

-- how many words a chunk map has: "P words each"; in edition 2 "P+1 words for each map"
unfoldable pub map_words : Shape → ℕ
map_words g = head g + g.p

-- word i of the image
abbrev pub word_at : List ℕ → ℕ → ℕ
word_at s i = u64_at s (8 * i)

-- the image with word i replaced
abbrev pub put_word : List ℕ → ℕ → ℕ → List ℕ
put_word s i v = store_at 8 s (8 * i) v

-- chunk i's entry in the logical map
abbrev pub link_of : List ℕ → ℕ → ℕ
link_of s i = word_at s i

-- which word of the image is word j of map k
abbrev pub map_word_place : Shape → ℕ → ℕ → ℕ
map_word_place g k j = g.c + k * map_words g + j

-- the words of map k
unfoldable pub words_of : Shape → List ℕ → ℕ → List ℕ
words_of g s k = map (λ j. word_at s (map_word_place g k j)) (below (map_words g))

-- the words of a map that name units: those after its head
abbrev pub unit_words : Shape → List ℕ → List ℕ
unit_words g ws = drop (head g) ws

module _ {A : Type 0} where
  -- what each word of a map holds: x in the first `heads` of them, and f in the others, counted from 0
  unfoldable pub after_head : ℕ → A → (ℕ → A) → ℕ → A
  after_head heads x f j = cond (nat_lt j heads) x (f (j - heads))

-- ---- the trailer: "then a 32-byte trailer that points back"; in edition 2 "a 40-byte trailer"

abbrev pub trailer_bytes : ℕ → ℕ
trailer_bytes edition = 32 + 8 * (edition - first_edition)

-- "The trailer begins with the four bytes 52 4D 41 50"
abbrev pub tag : List ℕ
tag = 0x52 ∷ 0x4D ∷ 0x41 ∷ 0x50 ∷ []

-- "distance back to the chunk maps (8MP)", in edition 2 "counted the same way": the bytes of the chunk maps
abbrev pub map_bytes : Shape → ℕ
map_bytes g = 8 * (g.m * map_words g)

-- "distance back from the trailer's first byte to the logical map (8C+8MP)", and the same way: where the trailer begins
abbrev pub trailer_start : Shape → ℕ
trailer_start g = 8 * g.c + map_bytes g

-- "length of the whole image (8C+8MP+32)", and the same way: with 40 in edition 2
abbrev pub image_bytes : Shape → ℕ
image_bytes g = trailer_start g + trailer_bytes g.edition

-- ---- what the limits make of all this at the most

abbrev pub max_maps : ℕ
max_maps = max_chunks + max_spare_maps

abbrev pub max_units : ℕ
max_units = max_chunk_units * max_maps

-- the bytes of a chunk, which a compressed size does not pass, and those of a volume
abbrev pub max_chunk_bytes : ℕ
max_chunk_bytes = max_chunk_units * unit_bytes

abbrev pub max_volume_bytes : ℕ
max_volume_bytes = max_chunks * max_chunk_bytes

abbrev pub max_head : ℕ
max_head = last_edition - first_edition

abbrev pub max_map_words : ℕ
max_map_words = max_head + max_chunk_units

-- the words of all chunk maps
abbrev pub max_maps_words : ℕ
max_maps_words = max_maps * max_map_words

-- the words before the trailer
abbrev pub max_words : ℕ
max_words = max_chunks + max_maps_words

abbrev pub max_trailer_bytes : ℕ
max_trailer_bytes = trailer_bytes last_edition

-- "Every program's file limit becomes 41,256"
abbrev pub max_image_bytes : ℕ
max_image_bytes = 8 * max_words + max_trailer_bytes

-- ---- the trailer's bytes

-- its first 20 bytes: tag, "u16 version 1, u16 P, and u32 each: C, M, N"; "Edition 2 has version 2"
unfoldable pub shape_bytes : Shape → List ℕ
shape_bytes g = tag ++ digits 2 g.edition ++ digits 2 g.p ++ digits 4 g.c ++ digits 4 g.m ++ digits 4 g.n

-- the next 12, u32 each: both distances and the length
unfoldable pub size_bytes : Shape → List ℕ
size_bytes g = digits 4 (trailer_start g) ++ digits 4 (map_bytes g) ++ digits 4 (image_bytes g)

-- the rest: none in edition 1; in edition 2 two u32, of which "The first .. becomes R" and the second "must be 0"
unfoldable pub added_bytes : Shape → List ℕ
added_bytes g = cond (g.edition == first_edition) [] (digits 4 g.r ++ digits 4 0)

-- the trailer of a shape, whole
unfoldable pub trailer_of : Shape → List ℕ
trailer_of g = shape_bytes g ++ size_bytes g ++ added_bytes g

-- "A fresh image has X in every entry and every map word."
unfoldable pub fresh : Shape → List ℕ
fresh g = replicate (trailer_start g) 255 ++ trailer_of g

-- ---- the trailer of any bytes, read: "The last 32 bytes are tried as edition 1 first, then the last 40 as edition 2"

-- where it begins, in an edition
abbrev pub trailer_at : ℕ → List ℕ → ℕ
trailer_at edition s = length s - trailer_bytes edition

-- at byte t stand the tag and a version
unfoldable pub tagged_at : List ℕ → ℕ → ℕ → Bool
tagged_at s t version =
    (slice_index s t == slice_index tag 0) && slice_index s (t + 1) == slice_index tag 1 && slice_index s (t + 2) == slice_index tag 2
    && slice_index s (t + 3) == slice_index tag 3
    && u16_at s (t + 4) == version

-- the last bytes have an edition's "tag and version"
unfoldable pub known_as : ℕ → List ℕ → Bool
known_as edition s = nat_le (trailer_bytes edition) (length s) && tagged_at s (trailer_at edition s) edition

-- "The last 32 bytes are tried as edition 1 first, then the last 40 as edition 2"
unfoldable pub edition_of : List ℕ → ℕ
edition_of s = cond (known_as first_edition s) first_edition last_edition

-- not "if neither has tag and version, 2"
unfoldable pub known : List ℕ → Bool
known s = known_as first_edition s || known_as last_edition s

-- the reserved units that an edition's trailer at byte t says: "The first of edition 2's two last u32 becomes R"; "Edition 1 behaves as R = 0"
unfoldable pub reserved_at : List ℕ → ℕ → ℕ → ℕ
reserved_at s edition t = cond (edition == first_edition) 0 (u32_at s (t + 32))

-- the shape that it says
unfoldable pub shape_of : List ℕ → Shape
shape_of s =
    let e = edition_of s in
    let t = trailer_at e s in
    record { edition = e; p = u16_at s (t + 6); c = u32_at s (t + 8); m = u32_at s (t + 12); n = u32_at s (t + 16); r = reserved_at s e t }

-- "must be 0, else 3": the second of edition 2's two last u32
unfoldable pub spare_zero : List ℕ → Shape → Bool
spare_zero s g =
    let t = trailer_at g.edition s in (g.edition == first_edition) || u32_at s (t + 36) == 0

-- not "a distance or length that disagrees": both distances and both lengths, the one it says and the one it has, are those of the shape
unfoldable pub agreeing : List ℕ → Shape → Bool
agreeing s g =
    let t = trailer_at g.edition s in
    (u32_at s (t + 20) == trailer_start g) && u32_at s (t + 24) == map_bytes g && u32_at s (t + 28) == image_bytes g
    && length s == image_bytes g

-- neither "a limit broken, or a distance or length that disagrees" nor a last u32 that is not 0
unfoldable pub fitting : List ℕ → Bool
fitting s = let g = shape_of s in within_limits g && agreeing s g && spare_zero s g
