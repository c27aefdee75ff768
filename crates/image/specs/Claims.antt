-- What only the loader's inner functions and the proofs cite: the tests of a passed image one by one, and what the scan for double claims keeps.
use Rattle.std.specs.Prelude.{ℕ, ◌+◌, ◌≤◌, ◌<◌, ◌≡◌, Bool, true, false, not, ◌&&◌, List, length, eqb, ltb, Result, Ok, ⊤}
use Rattle.search.specs.Search.{below, all, any, member, distinct}
use Rattle.search.specs.Sets.{without}
use Rattle.bitset.specs.Bits.{bit_set}
use Rattle.layout.specs.Layout.{first_edition, is_unit, trailer_bytes, shape_of, known, fitting, link_of}
use Rattle.layout.specs.Shaped.{unit_words_of}
use Rattle.image.specs.Soundness.{leading, units_of}
use Rattle.image.specs.Verdicts.{good_link, good_map, clash, contested, double_claim, chunk_verdict}
use Rattle.image.specs.Free.{free_unit, free_map}
use Rattle.image.specs.Loading.{unit_set_words, map_set_words}
use Rattle.layout.specs.declared.Refusal.{Refusal}

-- no row of 1 to 6 holds: what the verdict tests, for each chunk
pub record Tested (s : List ℕ) : Type 0 where
  pub long : trailer_bytes first_edition ≤ length s
  pub known : known s ≡ true
  pub fitting : fitting s ≡ true
  pub links : (i : ℕ) → i < (shape_of s).c → good_link s i ≡ true
  pub maps : (i : ℕ) → i < (shape_of s).c → good_map s i ≡ true
  pub apart : (i j : ℕ) → i < j → j < (shape_of s).c → clash s i j ≡ false
  pub single : (i : ℕ) → i < (shape_of s).c → distinct (units_of s i) ≡ true

-- the units that map k holds
abbrev pub held_in : List ℕ → ℕ → List ℕ
held_in s k = leading (is_unit (shape_of s)) (unit_words_of s k)

-- u is a unit that a chunk may hold, and no chunk below j holds it
unfoldable pub unheld : List ℕ → ℕ → ℕ → Bool
unheld s j u = is_unit (shape_of s) u && not (any (λ i. member u (units_of s i)) (below j))

-- map k is below M, and named by no chunk below j
unfoldable pub unnamed : List ℕ → ℕ → ℕ → Bool
unnamed s j k = ltb k (shape_of s).m && not (any (λ i. eqb (link_of s i) k) (below j))

-- the numbers us were taken out of the set f, which had them all and each once; or they could not be, and ok is false
pub record TakenOut (f : ℕ → Bool) (us : List ℕ) (ok : Bool) (after : List ℕ) : Type 0 where
  pub right : ok ≡ (all f us && distinct us)
  pub left : ok ≡ true → after ≡ bit_set (without f us) unit_set_words

-- chunk j's map and units were taken out of the sets that the chunks below it left
pub record Claimed (s : List ℕ) (j : ℕ) (ok : Bool) (units maps : List ℕ) : Type 0 where
  pub right : ok ≡ not (contested s j)
  pub units-left : ok ≡ true → units ≡ bit_set (unheld s (j + 1)) unit_set_words
  pub maps-left : ok ≡ true → maps ≡ bit_set (unnamed s (j + 1)) map_set_words

-- the scan stopped at the lowest chunk that claims what a lower one has claimed or one unit twice, or went through all C with what is free
pub record Scanned (s : List ℕ) (at : ℕ) (units maps : List ℕ) : Type 0 where
  pub right : at ≡ double_claim s
  pub units-left : (at ≡ (shape_of s).c → units ≡ bit_set (free_unit s) unit_set_words)
  pub maps-left : (at ≡ (shape_of s).c → maps ≡ bit_set (free_map s) map_set_words)

-- rows 4 to 6 gave this verdict, and where it is that the image passed, the sets hold what is free
pub record Judged (s : List ℕ) (v : Result ⊤ Refusal) (units maps : List ℕ) : Type 0 where
  pub right : v ≡ chunk_verdict s
  pub units-left : v ≡ Ok tt → units ≡ bit_set (free_unit s) unit_set_words
  pub maps-left : v ≡ Ok tt → maps ≡ bit_set (free_map s) map_set_words
