-- Laws of the pieces of a range: their count, the chunks that they lie in, their bytes, and the loop that stores them.
use Prim.Native.Nat.{ℕ, suc, ◌+◌, ◌-◌, ◌*◌, ◌<◌, ◌≤◌}
use mathlib.Core.Path.{◌≡◌, refl, ap, sym, ◌∙◌}
use mathlib.Core.List.{List, [], ◌∷◌, ◌++◌, map}
use native.Mathlib.Omega.{arith}
use native.Mathlib.Nat.{mul-le-mul_right, div-mul-le_self, lt-div-mul-add, add-zero, sub-zero}
use lib.ListN.{length, drop, length-append}
use lib.Seq.{sets, length-sets}
use Rattle.words.specs.Words.{store_at}
use Rattle.words.proofs.Laws.{sets-append, sets-front, length_digits}
use Rattle.search.specs.Search.{from}
use Rattle.search.proofs.Mapping.{length-map-from}
use Rattle.access.specs.declared.Piece.{Piece}
use Rattle.access.specs.Ranges.{first_chunk, last_chunk, piece_count, piece_of, pieces, encode, encode_all, piece_bytes}

pub length-pieces : (b lo hi : ℕ) → length (pieces b lo hi) ≡ piece_count b lo hi
unfolding pieces
length-pieces b lo hi = length-map-from (piece_of b lo hi) (first_chunk b lo) (piece_count b lo hi)

-- ---- their bytes

length-encode : (x : Piece) → length (encode x) ≡ 12
unfolding encode
length-encode x = simp (length-append, length_digits)

length-encode_all : (xs : List Piece) → length (encode_all xs) ≡ 12 * length xs
unfolding encode_all
length-encode_all [] = refl
length-encode_all (x ∷ xs) = length-append (encode x) (encode_all xs) ∙ omega (arith, length-encode x, length-encode_all xs)

-- stored at the front of a list that has room for them
pub stored-front : (xs : List Piece) (count : ℕ) (out : List ℕ) → count ≡ length xs → 12 * count ≤ length out
    → sets out 0 (encode_all xs) ≡ encode_all xs ++ drop (piece_bytes * count) out
stored-front xs count out e h =
    let n : length (encode_all xs) ≡ 12 * count = rw e (length-encode_all xs) in
    sets-front out (encode_all xs) (omega arith) ∙ ap (λ (k : ℕ). encode_all xs ++ drop k out) n

-- a piece stored word by word
pub piece-run : (s : List ℕ) (at : ℕ) (x : Piece)
    → store_at 4 (store_at 4 (store_at 4 s at x.chunk) (at + 4) x.offset) (at + 8) x.len ≡ sets s at (encode x)
unfolding encode
piece-run s at x = simp (sets-append, length-append, length_digits)

-- ---- the loop that stores them

module _ (b lo hi first count : ℕ) where
  -- the bytes that are left to store after k pieces
  abbrev pub rest : ℕ → List ℕ
  rest k = encode_all (map (piece_of b lo hi) (from (first + k) (count - k)))

  pub store-start : (out : List ℕ) → first ≡ first_chunk b lo → count ≡ piece_count b lo hi → sets out 0 (encode_all (pieces b lo hi)) ≡ sets out (12 * 0) (rest 0)
  unfolding pieces
  store-start out ef ec = rw (add-zero first, sub-zero count, ef, ec)

  store-more : (out : List ℕ) (k : ℕ) → k < count
      → sets out (12 * k) (rest k) ≡ sets (sets out (12 * k) (encode (piece_of b lo hi (first + k)))) (12 * (k + 1)) (rest (k + 1))
  unfolding encode_all from
  store-more out k h =
      let x : Piece = piece_of b lo hi (first + k) in
      let e : count - k ≡ suc (count - (k + 1)) = omega arith in
      let n : suc (first + k) ≡ first + (k + 1) = omega arith in
      let m : 12 * k + 12 ≡ 12 * (k + 1) = omega arith in
      rw (e, n, ← m) (sets-append (encode x) _ out (12 * k) ∙ rw (length-encode x))

  -- one turn
  pub store-turn : (whole out after : List ℕ) (k : ℕ) (x : Piece) → k < count → x ≡ piece_of b lo hi (first + k) → after ≡ sets out (12 * k) (encode x)
      → whole ≡ sets out (12 * k) (rest k) → whole ≡ sets after (12 * (k + 1)) (rest (k + 1))
  store-turn whole out after k x h ex ea w = w ∙ store-more out k h ∙ rw (ea, ex)

  pub store-end : (whole out : List ℕ) (k : ℕ) → count ≤ k → whole ≡ sets out (12 * k) (rest k) → out ≡ whole
  unfolding encode_all from
  store-end whole out k h w =
      let e : count - k ≡ 0 = omega arith in
      sym (w ∙ rw e)
