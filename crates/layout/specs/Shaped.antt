-- The limits as facts (`Limits`, to read), and what is known of an image once its trailer has passed: what the inner functions on images ask of their
-- callers.
use Rattle.std.specs.Prelude.{◌≡◌, ℕ, ◌+◌, ◌*◌, ◌≤◌, true, List, length}
use Rattle.layout.specs.declared.Shape.{Shape}
use Rattle.layout.specs.Layout.{first_edition, last_edition, min_chunk_units, max_chunk_units, min_chunks, max_chunks, min_spare_maps, max_spare_maps, trailer_bytes, map_words, unit_words, shape_of, known, fitting, image_bytes, words_of}

-- one of the two editions; "P units make a chunk, 2 to 16. C chunks, 1 to 256. M chunk maps, C+1 to C+32. N backing units, P to P·M."
pub record Limits (g : Shape) : Type 0 where
  pub edition-low : first_edition ≤ g.edition
  pub edition-high : g.edition ≤ last_edition
  pub p-low : min_chunk_units ≤ g.p
  pub p-high : g.p ≤ max_chunk_units
  pub c-low : min_chunks ≤ g.c
  pub c-high : g.c ≤ max_chunks
  pub m-low : g.c + min_spare_maps ≤ g.m
  pub m-high : g.m ≤ g.c + max_spare_maps
  pub n-low : g.p ≤ g.n
  pub n-high : g.n ≤ g.p * g.m
  -- "R, the reserved units, 0 to N-P", and "Edition 1 behaves as R = 0"
  pub r-high : g.r + g.p ≤ g.n
  pub r-first : g.edition ≡ first_edition → g.r ≡ 0

-- the shape g that an image says is within the limits and agrees with its length
pub record Shaped (s : List ℕ) (g : Shape) : Type 0 where
  pub same : g ≡ shape_of s
  pub limits : Limits g
  pub size : length s ≡ image_bytes g

-- s is an image of shape g whose trailer passes; a store of a word keeps that
pub record On (g : Shape) (s : List ℕ) : Type 0 where
  pub long : trailer_bytes first_edition ≤ length s
  pub shape : shape_of s ≡ g
  pub known : known s ≡ true
  pub fitting : fitting s ≡ true

-- how many words an image of a shape has
abbrev pub word_count : Shape → ℕ
word_count g = g.c + g.m * map_words g

-- the words of map k, the shape being what the image says
abbrev pub map_of : List ℕ → ℕ → List ℕ
map_of s k = words_of (shape_of s) s k

-- and those of them that name units
abbrev pub unit_words_of : List ℕ → ℕ → List ℕ
unit_words_of s k = unit_words (shape_of s) (map_of s k)
