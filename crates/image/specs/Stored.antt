-- A chunk's stored size (02, request 4).
use Rattle.std.specs.Prelude.{ℕ, ◌*◌, cond, List, length, get_or, eqb}
use Rattle.layout.specs.declared.Shape.{Shape}
use Rattle.layout.specs.Layout.{unit_bytes, head, words_of, shape_of, link_of}
use Rattle.image.specs.Soundness.{mapped, units_of}

-- what an image keeps of a compressed size on k units: edition 1 "keeps k, not s", which is k·4,096 bytes; edition 2 keeps the size
abbrev pub kept_size : Shape → ℕ → ℕ → ℕ
kept_size g size k = cond (eqb (head g) 0) (k * unit_bytes) size

-- "a chunk's stored size, k·4,096 in edition 1 and 0 for an unmapped chunk"; in edition 2 word 0 of its map, "first the compressed size"
unfoldable pub stored_size : List ℕ → ℕ → ℕ
stored_size s i =
    let g = shape_of s in cond (mapped s i) (kept_size g (get_or (words_of g s (link_of s i)) 0 0) (length (units_of s i))) 0
