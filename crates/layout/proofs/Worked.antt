-- The worked numbers of documents 01 and 02, against the definitions.
use Rattle.std.proofs.Common.{◌≡◌, ℕ, true, false, List, [], ◌∷◌, ◌++◌, refl}
use Rattle.words.specs.Words.{digits}
use Rattle.layout.specs.declared.Shape.{Shape}
use Rattle.layout.specs.Layout.{edition1, edition2, max_reserved, map_words, image_bytes, within_limits, shape_bytes, size_bytes, added_bytes, trailer_of}

abbrev pub volume : ℕ → ℕ → Shape
volume c n = edition1 4 c 5 n

-- the image of 224 bytes, and its trailer whole
pub size : image_bytes (volume 4 20) ≡ 224
unfolding map_words
size = refl

pub trailer : trailer_of (volume 4 20)
    ≡ 0x52 ∷ 0x4D ∷ 0x41 ∷ 0x50 ∷ 0x01 ∷ 0x00 ∷ 0x04 ∷ 0x00 ∷ 0x04 ∷ 0x00 ∷ 0x00 ∷ 0x00 ∷ 0x05 ∷ 0x00 ∷ 0x00 ∷ 0x00 ∷ 0x14 ∷ 0x00 ∷ 0x00 ∷ 0x00
    ∷ 0xC0 ∷ 0x00 ∷ 0x00 ∷ 0x00 ∷ 0xA0 ∷ 0x00 ∷ 0x00 ∷ 0x00 ∷ 0xE0 ∷ 0x00 ∷ 0x00 ∷ 0x00 ∷ []
unfolding trailer_of shape_bytes size_bytes added_bytes map_words digits
trailer = refl

pub good-20 : within_limits (volume 4 20) ≡ true
unfolding within_limits max_reserved
good-20 = refl

pub bad-21 : within_limits (volume 4 21) ≡ false
unfolding within_limits max_reserved
bad-21 = refl

pub good-256 : within_limits (edition1 2 256 257 2) ≡ true
unfolding within_limits max_reserved
good-256 = refl

pub bad-257 : within_limits (edition1 2 257 258 2) ≡ false
unfolding within_limits max_reserved
bad-257 = refl

-- edition 2: a word more in each of the 5 maps, and 8 bytes more in the trailer, with the reserved units
abbrev pub volume2 : ℕ → Shape
volume2 r = edition2 4 4 5 20 r

pub size2 : (r : ℕ) → image_bytes (volume2 r) ≡ 272
unfolding map_words
size2 r = refl

-- edition 1's fields, and then R and 0
abbrev pub fields2 : List ℕ
fields2 =
    0x52 ∷ 0x4D ∷ 0x41 ∷ 0x50 ∷ 0x02 ∷ 0x00 ∷ 0x04 ∷ 0x00 ∷ 0x04 ∷ 0x00 ∷ 0x00 ∷ 0x00 ∷ 0x05 ∷ 0x00 ∷ 0x00 ∷ 0x00 ∷ 0x14 ∷ 0x00 ∷ 0x00 ∷ 0x00
    ∷ 0xE8 ∷ 0x00 ∷ 0x00 ∷ 0x00 ∷ 0xC8 ∷ 0x00 ∷ 0x00 ∷ 0x00 ∷ 0x10 ∷ 0x01 ∷ 0x00 ∷ 0x00 ∷ []

pub trailer2 : trailer_of (volume2 0) ≡ fields2 ++ 0x00 ∷ 0x00 ∷ 0x00 ∷ 0x00 ∷ 0x00 ∷ 0x00 ∷ 0x00 ∷ 0x00 ∷ []
unfolding trailer_of shape_bytes size_bytes added_bytes map_words digits
trailer2 = refl

pub trailer2-reserved : trailer_of (volume2 3) ≡ fields2 ++ 0x03 ∷ 0x00 ∷ 0x00 ∷ 0x00 ∷ 0x00 ∷ 0x00 ∷ 0x00 ∷ 0x00 ∷ []
unfolding trailer_of shape_bytes size_bytes added_bytes map_words digits
trailer2-reserved = refl

-- the largest image of any edition
pub largest : image_bytes (edition2 16 256 288 4608 0) ≡ 41256
unfolding map_words
largest = refl

-- "0 to N-P, else 3": of 20 units 16 may be reserved where a chunk has 4, and none in edition 1; N below P is a limit broken, whatever is reserved
pub reserved-16 : within_limits (volume2 16) ≡ true
unfolding within_limits max_reserved
reserved-16 = refl

pub reserved-17 : within_limits (volume2 17) ≡ false
unfolding within_limits max_reserved
reserved-17 = refl

pub too-few-units : within_limits (edition2 4 4 5 3 0) ≡ false
unfolding within_limits max_reserved
too-few-units = refl

pub reserved-first : within_limits (record { edition = 1; p = 4; c = 4; m = 5; n = 20; r = 1 }) ≡ false
unfolding within_limits max_reserved
reserved-first = refl
