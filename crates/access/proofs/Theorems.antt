-- The theorems of this crate that a reader wants: nothing else cites them.
use Rattle.std.specs.Prelude.{Result, Ok, Err, ⊤}
use Prim.Native.Nat.{ℕ, ◌+◌, ◌-◌, ◌*◌, ◌/◌, ◌<◌, ◌≤◌}
use mathlib.Core.Path.{◌≡◌, refl, ap, sym, ◌∙◌}
use mathlib.Core.Logic.{⊎_elim}
use mathlib.Core.Bool.{Bool, true, false, cond}
use mathlib.Core.List.{List, [], ◌∷◌}
use native.Mathlib.Omega.{arith}
use native.Mathlib.Nat.{div-mul-le_self, lt-div-mul-add, not-suc-le-zero}
use lib.ListN.{length}
use lib.Dec.{eqb, ltb}
use lib.Arith.{digits_div}
use borrow.Author.Tests.{eqb-true, eq-eqb, ltb-true}
use Rattle.search.proofs.Bools.{and_right, either, same}
use Rattle.layout.specs.declared.Shape.{Shape}
use Rattle.layout.specs.declared.Refusal.{Refusal}
use Rattle.layout.specs.declared.Refusal.TheVariants.{Range, Small}
use Rattle.layout.specs.Layout.{units_for, shape_of}
use Rattle.layout.specs.Shaped.{Limits}
use Rattle.layout.proofs.Limits.{fitting-limits}
use Rattle.image.specs.Soundness.{mapped, units_of}
use Rattle.image.specs.Verdicts.{verdict}
use Rattle.image.specs.Answers.{if_sound}
use Rattle.image.specs.Stored.{stored_size}
use Rattle.image.proofs.SoundLaws.{passed-tested}
use Rattle.image.proofs.Chunks.{mapped-named, units-unmapped, units-some}
use Rattle.access.specs.declared.Piece.{Piece}
use Rattle.access.specs.declared.Extent.{Extent}
use Rattle.access.specs.Ranges.{chunk_bytes, good_range, first_chunk, last_chunk, pieces, pieces_of, piece_bytes, split_in, split_answer, good_piece}
use Rattle.access.specs.Parts.{held_status, empty_extent, held_words, if_answered, part, held_part}
use Rattle.image.proofs.Storing.{stored-unmapped, size-of-units}
use Rattle.access.specs.Sizes.{size_answer}
use Rattle.access.specs.Tiling.{Tiles, Tiled}
use Rattle.access.specs.Holding.{Holds}
use Rattle.access.proofs.RangeLaws.{good}
use Rattle.access.proofs.PieceLaws.{length-pieces}
use Rattle.access.proofs.PartLaws.{words-absent}
use Rattle.access.proofs.TilingLaws.{pieces-tile, pieces-total, piece-ends, tiles-same}
use Rattle.access.proofs.HeldLaws.{answered, mapped-holds}

-- ---- "A byte range splits at chunk boundaries into pieces (chunk, offset within it, length), in rising order, none empty"

split-found : (good short : Bool) (r s : Refusal) (n count : ℕ) → cond good (cond short (Err r) (Ok n)) (Err s) ≡ Ok count
    → (good ≡ true) × (n ≡ count)
split-found true false r s n count e = (refl, cc)
split-found true true r s n count e = let z : ◌≡◌ {A = ℕ} 0 1 = cc in absurd (omega arith)
split-found false short r s n count e = let z : ◌≡◌ {A = ℕ} 0 1 = cc in absurd (omega arith)

-- Whenever `split` answers, the pieces that it stores tile the range that was asked.
pub split-tiles : (s : List ℕ) (offset span room count : ℕ) → split_answer s offset span room ≡ Ok count → Tiled (shape_of s) offset span count
unfolding split_in
split-tiles s offset span room count e = at (verdict s) refl e
  where
    at : (v : Result ⊤ Refusal) → verdict s ≡ v → if_sound v Err (split_in (shape_of s) offset span room) ≡ Ok count → Tiled (shape_of s) offset span count
    at (Err r) p h = let z : ◌≡◌ {A = ℕ} 0 1 = cc in absurd (omega arith)
    at (Ok tt) p h =
        let g = shape_of s in
        let b = chunk_bytes g in
        let n = length (pieces_of g offset span) in
        let f = split-found (good_range g offset span) (ltb room (piece_bytes * n)) (Small (piece_bytes * n)) Range n count h in
        let l = fitting-limits s (passed-tested s p).fitting in
        let k = good g b offset span l refl f.0 in
        record {
          good = f.0;
          counted = f.1;
          tiles = pieces-tile b offset (offset + span) (omega arith) (omega arith);
          total = pieces-total b offset span (omega arith) k.some;
        }

-- No other list of pieces tiles a range.
pub only-pieces-tile : (b i lo hi : ℕ) (xs : List Piece) → 1 ≤ b → lo < hi → Tiles b i lo hi xs → xs ≡ pieces b lo hi
unfolding Tiles
only-pieces-tile b i lo hi [] hb h t = absurd (omega arith)
only-pieces-tile b i lo hi (x ∷ xs) hb h t =
    let p = piece-ends b hi i lo x xs t in
    let e : i ≡ first_chunk b lo = sym (digits_div i p.1) ∙ ap (λ (k : ℕ). k / b) p.0 in
    tiles-same b hi i lo (x ∷ xs) (pieces b lo hi) t (rw e (pieces-tile b lo hi hb h))

-- ---- "one piece, given as read or write and a byte range within one chunk"

-- A good range lies within one chunk exactly where it splits into one piece.
pub one_piece : (g : Shape) (offset span : ℕ) → Limits g → good_range g offset span ≡ true → good_piece g offset span ≡ eqb (length (pieces_of g offset span)) 1
one_piece g offset span l e =
    let b = chunk_bytes g in
    let k = good g b offset span l refl e in
    let n = length-pieces b offset (offset + span) in
    rw e (same (eqb (first_chunk b offset) (last_chunk b (offset + span))) (eqb (length (pieces_of g offset span)) 1)
    (λ p. eq-eqb (length (pieces_of g offset span)) 1 (omega (arith, eqb-true (first_chunk b offset) (last_chunk b (offset + span)) p)))
    (λ p. eq-eqb (first_chunk b offset) (last_chunk b (offset + span)) (omega (arith, eqb-true (length (pieces_of g offset span)) 1 p))))

-- A piece as long as a chunk begins where its chunk begins, and so covers it.
pub long-covers : (g : Shape) (offset : ℕ) → Limits g → good_piece g offset (chunk_bytes g) ≡ true → offset ≡ first_chunk (chunk_bytes g) offset * chunk_bytes g
long-covers g offset l e =
    let b = chunk_bytes g in
    let low : 0 < b = omega arith in
    let f : first_chunk b offset ≡ last_chunk b (offset + b) = eqb-true _ _ (and_right (good_range g offset b) (eqb (first_chunk b offset) (last_chunk b (offset + b))) e) in
    omega (arith, ap (λ (k : ℕ). k * b) f, div-mul-le_self offset b, lt-div-mul-add {a = offset + b - 1} {b = b} low)

-- ---- "The held words of a chunk's map are handed back as that part of the caller's own image"

-- "for an unmapped chunk or a refusal the part is empty"
pub held-refused : (s : List ℕ) (i : ℕ) (r : Refusal) → held_status s i ≡ Err r → held_part s i ≡ []
held-refused s i r e = ap (λ (a : Result ⊤ Refusal). part s (if_answered a (held_words s i))) e

pub held-unmapped : (s : List ℕ) (i : ℕ) → mapped s i ≡ false → held_part s i ≡ []
held-unmapped s i m = ap (λ (x : Extent). part s (if_answered (held_status s i) x)) (sym (words-absent s i m)) ∙ none (held_status s i)
  where
    none : (a : Result ⊤ Refusal) → part s (if_answered a empty_extent) ≡ []
    none (Ok tt) = refl
    none (Err r) = refl

-- Where the companion answers, the words of the part are the chunk's units, in map order.
pub held-holds : (s : List ℕ) (i : ℕ) → held_status s i ≡ Ok tt → Holds (units_of s i) (held_part s i)
held-holds s i e = ⊎_elim (mapped-holds s i e) none (either (mapped s i))
  where
    none : mapped s i ≡ false → Holds (units_of s i) (held_part s i)
    none m = rw (units-unmapped s i m, held-unmapped s i m) (record { size = refl; word = λ j h. absurd (not-suc-le-zero h) })

-- And a mapped chunk's part is not empty.
pub held-some : (s : List ℕ) (i : ℕ) → held_status s i ≡ Ok tt → mapped s i ≡ true → 0 < length (held_part s i)
held-some s i e m =
    let z = answered s i e in
    omega (arith, (mapped-holds s i e m).size, units-some s z.0 i z.1 m)

-- ---- "a call answers a chunk's stored size"

-- Whenever it answers, the image is sound and the chunk is one of its chunks; an unmapped one has 0, and a mapped one a size of just the units that it holds.
pub record Stores (s : List ℕ) (i n : ℕ) : Type 0 where
  pub sound : verdict s ≡ Ok tt
  pub chunk : i < (shape_of s).c
  pub size : n ≡ stored_size s i
  pub none : mapped s i ≡ false → n ≡ 0
  pub units : mapped s i ≡ true → units_for n ≡ length (units_of s i)

pub size-stores : (s : List ℕ) (i n : ℕ) → size_answer s i ≡ Ok n → Stores s i n
size-stores s i n e = at (verdict s) refl e
  where
    found : (b : Bool) → ltb i (shape_of s).c ≡ b → cond b (Ok (stored_size s i)) (Err Range) ≡ Ok n → (i < (shape_of s).c) × (n ≡ stored_size s i)
    found true l h = (ltb-true i (shape_of s).c l, cc)
    found false l h = let z : ◌≡◌ {A = ℕ} 0 1 = cc in absurd (omega arith)

    at : (v : Result ⊤ Refusal) → verdict s ≡ v → if_sound v Err (cond (ltb i (shape_of s).c) (Ok (stored_size s i)) (Err Range)) ≡ Ok n → Stores s i n
    at (Err r) p h = let z : ◌≡◌ {A = ℕ} 0 1 = cc in absurd (omega arith)
    at (Ok tt) p h =
        let f = found (ltb i (shape_of s).c) refl h in
        record {
          sound = p;
          chunk = f.0;
          size = f.1;
          none = λ m. f.1 ∙ stored-unmapped s i m;
          units = λ m. ap units_for f.1 ∙ size-of-units s (passed-tested s p) i f.0 (mapped-named s i m);
        }
