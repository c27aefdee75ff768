-- The pieces of a range tile it, their lengths add up, and no other list tiles it.
use Prim.Native.Nat.{ℕ, zero, suc, ◌+◌, ◌-◌, ◌*◌, ◌/◌, ◌<◌, ◌≤◌, min, max}
use mathlib.Core.Path.{◌≡◌, refl, ap, ap₂, sym, ◌∙◌}
use mathlib.Core.List.{List, [], ◌∷◌, map}
use native.Mathlib.Omega.{arith}
use native.Mathlib.Nat.{mul-le-mul_right, div-mul-le_self, lt-div-mul-add, le-div_iff_mul-le, suc-mul, add-zero}
use Rattle.search.specs.Search.{from}
use Rattle.access.specs.declared.Piece.{Piece}
use Rattle.access.specs.Ranges.{first_chunk, piece_count, piece_of, pieces}
use Rattle.access.specs.Tiling.{Tiles, total_len}

-- ---- the pieces tile

-- what of the bytes from lo up to hi lies in the chunk that begins at byte q
piece-fits : (b lo hi q : ℕ) → 1 ≤ b → lo < hi → q < hi → lo < q + b
    → let start = max lo q in
    let end = min hi (q + b) in
    (q + (start - q) ≡ start) × (0 < end - start) × (start - q + (end - start) ≤ b) × (start + (end - start) ≡ end)
piece-fits b lo hi q hb h l u = (omega arith, omega arith, omega arith, omega arith)

module _ (b lo hi : ℕ) (hb : 1 ≤ b) (h : lo < hi) where
  -- the k + 1 pieces from chunk i on, where the range begins in chunk i or before it, and ends in chunk i + k
  tiles : (k i : ℕ) → lo < i * b + b → (i + k) * b < hi → hi ≤ (i + k) * b + b
      → Tiles b i (max lo (i * b)) hi (map (piece_of b lo hi) (from i (suc k)))
  unfolding Tiles from piece_of
  tiles zero i u v w =
      let z = add-zero i in
      let e : (i + 0) * b ≡ i * b = ap (λ (j : ℕ). j * b) z in
      let p = piece-fits b lo hi (i * b) hb h (omega arith) u in
      (refl, p.0, p.1, p.2, omega (arith, p.3))
  tiles (suc k) i u v w =
      let z : i + suc k ≡ suc i + k = omega arith in
      let e : (i + suc k) * b ≡ (suc i + k) * b = ap (λ (j : ℕ). j * b) z in
      let n = suc-mul i b in
      let far : suc i ≤ suc i + k = omega arith in
      let m = mul-le-mul_right b far in
      let p = piece-fits b lo hi (i * b) hb h (omega arith) u in
      let next : max lo (i * b) + (min hi (i * b + b) - max lo (i * b)) ≡ max lo (suc i * b) = omega (arith, p.3) in
      (refl, p.0, p.1, p.2, rw next (tiles k (suc i) (omega arith) (omega arith) (omega arith)))

  pub pieces-tile : Tiles b (first_chunk b lo) lo hi (pieces b lo hi)
  unfolding pieces
  pieces-tile =
      let low = div-mul-le_self lo b in
      let above = lt-div-mul-add {a = lo} {b = b} hb in
      let last = div-mul-le_self (hi - 1) b in
      let past = lt-div-mul-add {a = hi - 1} {b = b} hb in
      let rising : lo / b ≤ (hi - 1) / b = (le-div_iff_mul-le {k = b} hb).1 (omega arith) in
      let k = (hi - 1) / b - lo / b in
      let count : piece_count b lo hi ≡ suc k = omega arith in
      let end : (lo / b + k) * b ≡ (hi - 1) / b * b = ap (λ (j : ℕ). j * b) (let z : lo / b + k ≡ (hi - 1) / b = omega arith in z) in
      let begin : max lo (lo / b * b) ≡ lo = omega arith in
      rw count (rw begin at (tiles k (lo / b) above (omega arith) (omega arith)))

-- ---- the lengths add up

tiles-total : (b i lo hi : ℕ) (xs : List Piece) → Tiles b i lo hi xs → lo + total_len xs ≡ hi
unfolding Tiles total_len
tiles-total b i lo hi [] h = add-zero lo ∙ h
tiles-total b i lo hi (x ∷ xs) h = omega (arith, tiles-total b (suc i) (lo + x.len) hi xs h.4)

pub pieces-total : (b offset span : ℕ) → 1 ≤ b → 1 ≤ span → total_len (pieces b offset (offset + span)) ≡ span
pieces-total b offset span hb h =
    omega (arith, tiles-total b (first_chunk b offset) offset (offset + span) (pieces b offset (offset + span)) (pieces-tile b offset (offset + span) hb (omega arith)))

-- ---- nothing else tiles

module _ (b hi : ℕ) where
  -- a piece of a tiling ends with its chunk or with the range
  pub piece-ends : (i lo : ℕ) (x : Piece) (xs : List Piece) → Tiles b i lo hi (x ∷ xs) → (i * b + x.offset ≡ lo) × (x.offset < b) × (lo + x.len ≡ min hi (i * b + b))
  unfolding Tiles
  piece-ends i lo x [] t =
      let e = ap (λ (j : ℕ). j * b) t.0 in
      (omega arith, omega arith, omega arith)
  piece-ends i lo x (y ∷ ys) t =
      let e = ap (λ (j : ℕ). j * b) t.0 in
      let f = ap (λ (j : ℕ). j * b) t.4.0 in
      let n = suc-mul i b in
      let l = tiles-total b (suc (suc i)) (lo + x.len + y.len) hi ys t.4.4 in
      (omega arith, omega arith, omega arith)

  pub tiles-same : (i lo : ℕ) (xs ys : List Piece) → Tiles b i lo hi xs → Tiles b i lo hi ys → xs ≡ ys
  unfolding Tiles total_len
  tiles-same i lo [] [] t u = refl
  tiles-same i lo [] (y ∷ ys) t u = absurd (omega (arith, tiles-total b i lo hi (y ∷ ys) u))
  tiles-same i lo (x ∷ xs) [] t u = absurd (omega (arith, tiles-total b i lo hi (x ∷ xs) t))
  tiles-same i lo (x ∷ xs) (y ∷ ys) t u =
      let p = piece-ends i lo x xs t in
      let q = piece-ends i lo y ys u in
      let chunk : x.chunk ≡ y.chunk = t.0 ∙ sym u.0 in
      let offset : x.offset ≡ y.offset = omega arith in
      let len : x.len ≡ y.len = omega arith in
      let same : x ≡ y = λ j. record { chunk = chunk j; offset = offset j; len = len j } in
      ap₂ (λ (z : Piece) (zs : List Piece). z ∷ zs) same (tiles-same (suc i) (lo + x.len) xs ys t.4 (rw len u.4))
