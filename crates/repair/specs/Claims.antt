-- What only the inner functions and the proofs cite: the claims of the good chunks, and which of them are made again.
use Rattle.std.specs.Prelude.{ℕ, ◌+◌, ◌*◌, ◌≡◌, Bool, ◌&&◌, ◌||◌, cond, List, [], ◌∷◌, ltb}
use Rattle.search.specs.Search.{below, member, repeated, joined}
use Rattle.bitset.specs.Bits.{bit_set}
use Rattle.layout.specs.Layout.{shape_of, link_of}
use Rattle.image.specs.Soundness.{mapped, units_of}
use Rattle.image.specs.Loading.{unit_set_words, map_set_words}
use Rattle.repair.specs.Repair.{bad, shares, names_twice}

-- One set has the claims of units and of maps: unit u is number u, and map k comes after every unit.
abbrev pub map_claim : ℕ → ℕ
map_claim k = 64 * unit_set_words + k

abbrev pub claim_words : ℕ
claim_words = unit_set_words + map_set_words

-- the set of chunks: C is at most 256
abbrev pub chunk_set_words : ℕ
chunk_set_words = 4

-- what chunk i claims: its map and its units
unfoldable pub claims_of : List ℕ → ℕ → List ℕ
claims_of s i = cond (mapped s i) (map_claim (link_of s i) ∷ units_of s i) []

-- nothing if its link or map is bad
unfoldable pub good_claims : List ℕ → ℕ → List ℕ
good_claims s i = cond (bad s i) [] (claims_of s i)

-- the claims of the chunks below j
unfoldable pub claims_below : List ℕ → ℕ → List ℕ
claims_below s j = joined (good_claims s) (below j)

-- the claims xs are counted: `once` has all of them, `again` those that stand there more than once
pub record Counted (xs once again : List ℕ) : Type 0 where
  pub first : once ≡ bit_set (λ x. member x xs) claim_words
  pub more : again ≡ bit_set (λ x. repeated x xs) claim_words

-- chunk i is below j, and bad
unfoldable pub bad_below : List ℕ → ℕ → ℕ → Bool
bad_below s j i = ltb i j && bad s i

-- chunk i is bad, or below j and shares something or names a unit twice
unfoldable pub unlinks_below : List ℕ → ℕ → ℕ → Bool
unlinks_below s j i = bad_below s (shape_of s).c i || (ltb i j && (shares s i || names_twice s i))
