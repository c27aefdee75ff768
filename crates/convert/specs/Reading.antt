-- What a conversion leaves, in the words of document 02: what a reader must believe. What is computed stands in Convert.antt, and the theorems that tie the
-- two, both ways, are in proofs/Theorems.antt.
use Rattle.std.specs.Prelude.{ℕ, ◌*◌, ◌<◌, ◌≡◌, true, List, length, get_or}
use Rattle.layout.specs.Layout.{X, unit_bytes, link_of, shape_of}
use Rattle.layout.specs.Shaped.{map_of}
use Rattle.image.specs.Soundness.{Named, units_of, Sound}
use Rattle.image.specs.Free.{free_unit, free_map}
use Rattle.convert.specs.Convert.{second_of}

-- the image s became t, "from 1 to 2"
pub record Converts (s t : List ℕ) : Type 0 where
  -- t is a sound image of edition 2 with the same P, C, M and N, and no reserved unit
  pub sound : Sound (second_of (shape_of s)) t
  -- every chunk has the entry that it had: it names the same map, or none
  pub entries : (i : ℕ) → i < (shape_of s).c → link_of t i ≡ link_of s i
  -- and it holds the same units in the same order
  pub units : (i : ℕ) → i < (shape_of s).c → units_of t i ≡ units_of s i
  -- "the size is k·4,096": word 0 of a named map, with k the number of its units
  pub sizes : (i : ℕ) → i < (shape_of s).c → Named t i → get_or (map_of t (link_of t i)) 0 0 ≡ length (units_of t i) * unit_bytes
  -- "maps that no chunk names become X throughout": each of their words
  pub dead : (k a : ℕ) → free_map t k ≡ true → a < length (map_of t k) → get_or (map_of t k) a 0 ≡ X
  -- what was free is free, and nothing else
  pub free-units : free_unit t ≡ free_unit s
  pub free-maps : free_map t ≡ free_map s
