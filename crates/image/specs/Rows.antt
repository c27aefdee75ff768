-- What each of the refusals 1 to 6 says of an image: the table's rows to read. proofs/Theorems.antt has that an image is refused so exactly where its row
-- stands here.
use Rattle.std.specs.Prelude.{ℕ, ◌≤◌, ◌<◌, ◌≡◌, ◌⊎◌, Bool, true, false, not, List, length}
use Rattle.layout.specs.declared.Refusal.{Refusal}
use Rattle.layout.specs.declared.Refusal.TheVariants.{Short, Foreign, Geometry, BadLink, BadMap, Shared, Range, Size, NoRoom, Small, BadPlan, BadAlarm}
use Rattle.layout.specs.Layout.{first_edition, trailer_bytes, shape_of, known, fitting}
use Rattle.image.specs.Verdicts.{good_link, good_map, clash, contested}

-- i is the lowest of the numbers below n at which a test holds
abbrev pub LowestOf : (ℕ → Bool) → ℕ → ℕ → Type 0
LowestOf f n i = (i < n) × (f i ≡ true) × ((j : ℕ) → j < i → f j ≡ false)

-- none of rows 1 to 3 holds
abbrev pub PastRow3 : List ℕ → Type 0
PastRow3 s = (trailer_bytes first_edition ≤ length s) × (known s ≡ true) × (fitting s ≡ true)

-- nor row 4
abbrev pub PastRow4 : List ℕ → Type 0
PastRow4 s = PastRow3 s × ((i : ℕ) → i < (shape_of s).c → good_link s i ≡ true)

-- nor row 5
abbrev pub PastRow5 : List ℕ → Type 0
PastRow5 s = PastRow4 s × ((i : ℕ) → i < (shape_of s).c → good_map s i ≡ true)

-- the row of a refusal holds of an image, at the refusal's place, and none before it
abbrev pub Row : List ℕ → Refusal → Type 0
-- 1 "image under 32 bytes"
Row s Short = length s < trailer_bytes first_edition
-- 2 "first four trailer bytes or version wrong"; of two editions "if neither has tag and version, 2"
Row s Foreign = (trailer_bytes first_edition ≤ length s) × (known s ≡ false)
-- 3 "a limit broken, or a distance or length that disagrees"; in edition 2 also a last u32 that "must be 0, else 3"
Row s Geometry = (trailer_bytes first_edition ≤ length s) × (known s ≡ true) × (fitting s ≡ false)
-- 4 "entry neither X nor below M", "lowest such chunk"
Row s (BadLink i) = PastRow3 s × LowestOf (λ j. not (good_link s j)) (shape_of s).c i
-- 5 "a named map of the wrong form", "lowest such chunk"; in edition 2 "k equal to the size rounded up in units; otherwise 5", and of the reserved units
-- "a named map with one gives 5"
Row s (BadMap i) = PastRow4 s × LowestOf (λ j. not (good_map s j)) (shape_of s).c i
-- 6 "a map or unit claimed twice": "the second chunk is the lowest that claims a map or unit of a lower chunk, or one unit twice. The first chunk is the
-- lowest one it clashes with, or itself if none is lower."
Row s (Shared i j) =
    PastRow5 s × LowestOf (contested s) (shape_of s).c j × (LowestOf (λ k. clash s k j) j i ⊎ ((i ≡ j) × ((k : ℕ) → k < j → clash s k j ≡ false)))
-- no other refusal is the image's own
Row s Range = ⊥
Row s Size = ⊥
Row s (NoRoom n) = ⊥
Row s (Small n) = ⊥
Row s (BadPlan n) = ⊥
Row s BadAlarm = ⊥
