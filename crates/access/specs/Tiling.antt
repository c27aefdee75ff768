-- What the pieces of a range are, said of any list of pieces in document 01's words. No promise cites it: proofs/Theorems.antt ties it to `pieces`.
use Rattle.std.specs.Prelude.{ℕ, suc, ◌+◌, ◌*◌, ◌<◌, ◌≤◌, ◌≡◌, true, List, [], ◌∷◌, length}
use Rattle.layout.specs.declared.Shape.{Shape}
use Rattle.access.specs.declared.Piece.{Piece}
use Rattle.access.specs.Ranges.{chunk_bytes, good_range, first_chunk, pieces_of}

-- The pieces are the bytes from lo up to hi, end to end, where a chunk has b bytes: the first lies in chunk i and begins at lo, each further one lies in
-- the next chunk ("in rising order") and begins where the one before it ends, the last ends at hi. None is empty, and none crosses a chunk boundary.
unfoldable pub Tiles : ℕ → ℕ → ℕ → ℕ → List Piece → Type 0
Tiles b i lo hi [] = lo ≡ hi
Tiles b i lo hi (x ∷ xs) =
    (x.chunk ≡ i) × (x.chunk * b + x.offset ≡ lo) × (0 < x.len) × (x.offset + x.len ≤ b) × Tiles b (suc i) (lo + x.len) hi xs

unfoldable pub total_len : List Piece → ℕ
total_len [] = 0
total_len (x ∷ xs) = x.len + total_len xs

-- what an answer of `count` pieces says of the range that was asked: it is good, so many are its pieces, they tile it, and no byte is lost
pub record Tiled (g : Shape) (offset span count : ℕ) : Type 0 where
  pub good : good_range g offset span ≡ true
  pub counted : length (pieces_of g offset span) ≡ count
  pub tiles : Tiles (chunk_bytes g) (first_chunk (chunk_bytes g) offset) offset (offset + span) (pieces_of g offset span)
  pub total : total_len (pieces_of g offset span) ≡ span
