-- What is free and what is held.
use Rattle.std.specs.Prelude.{ℕ, Bool, not, ◌&&◌, List, eqb, ltb}
use Rattle.search.specs.Search.{below, any, keep, member, joined}
use Rattle.layout.specs.Layout.{is_unit, shape_of, link_of}
use Rattle.image.specs.Soundness.{units_of}

-- "Held units are those in named maps": chunk after chunk, in map order
unfoldable pub held_units : List ℕ → List ℕ
held_units s = joined (units_of s) (below (shape_of s).c)

-- "all others are free", but "Units below R are never free"
unfoldable pub free_unit : List ℕ → ℕ → Bool
free_unit s u = is_unit (shape_of s) u && not (any (λ i. member u (units_of s i)) (below (shape_of s).c))

-- "The same for maps": those that no chunk names
unfoldable pub free_map : List ℕ → ℕ → Bool
free_map s k = ltb k (shape_of s).m && not (any (λ i. eqb (link_of s i) k) (below (shape_of s).c))

-- the free units and the free maps, rising
unfoldable pub free_units : List ℕ → List ℕ
free_units s = keep (free_unit s) (below (shape_of s).n)

unfoldable pub free_maps : List ℕ → List ℕ
free_maps s = keep (free_map s) (below (shape_of s).m)
