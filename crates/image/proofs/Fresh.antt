-- The fresh image: every word of it is X, so it is sound, of the shape that it was made for, and all of it is free.
use Prim.Native.Nat.{ℕ, ◌+◌, ◌*◌, ◌^◌, ◌<◌}
use native.Mathlib.Omega.{arith}
use mathlib.Core.Path.{◌≡◌, refl, ap, ◌∙◌}
use mathlib.Core.Bool.{Bool, true, false, not, ◌&&◌}
use mathlib.Core.List.{[]}
use lib.ListN.{length, replicate, length-replicate, get_or-replicate, get_or-append}
use lib.Seq.{drop-append_seam}
use lib.Dec.{eqb, ltb}
use borrow.Author.Tests.{ltb-true, ne_eqb}
use Rattle.words.specs.Words.{number}
use Rattle.words.proofs.Laws.{number-ones}
use Rattle.search.proofs.Members.{member-nil}
use Rattle.search.proofs.Ranges.{any-below-none-intro}
use Rattle.search.specs.Search.{below, any, member}
use Rattle.layout.specs.declared.Shape.{Shape}
use Rattle.layout.specs.Layout.{X, trailer_start, trailer_of, word_at, link_of, shape_of, is_unit, fresh}
use Rattle.layout.specs.Shaped.{Limits, word_count}
use Rattle.layout.proofs.Limits.{limits-hold}
use Rattle.layout.proofs.Told.{length-told}
use Rattle.image.specs.Soundness.{units_of, Sound}
use Rattle.image.specs.Free.{free_unit, free_map}
use Rattle.image.proofs.Chunks.{units-absent}
use Rattle.image.proofs.Wording.{sound-shape}

-- every word before the trailer is X
pub word-fresh : (g : Shape) (i : ℕ) → i < word_count g → word_at (fresh g) i ≡ X
unfolding fresh
word-fresh g i h =
    let e : number 8 (fresh g) (8 * i) + 1 ≡ 256 ^ 8 = number-ones 8 (fresh g) (8 * i) (λ k low q.
    let b : k < length (replicate {A = ℕ} (trailer_start g) 255) =
    let a = length-replicate {A = ℕ} (trailer_start g) 255 in omega arith in
    get_or-append (replicate (trailer_start g) 255) (trailer_of g) 0 k b
    ∙ get_or-replicate (trailer_start g) k 255 0 (omega arith)) in
    omega arith

module _ (g : Shape) (l : Limits g) where
  pub absent-fresh : (i : ℕ) → i < g.c → link_of (fresh g) i ≡ X
  absent-fresh i h = word-fresh g i (omega arith)

  pub sound-fresh : Sound g (fresh g)
  unfolding fresh
  sound-fresh =
      let full : length (replicate {A = ℕ} (trailer_start g) 255) ≡ trailer_start g = length-replicate {A = ℕ} (trailer_start g) 255 in
      record {
        limits = l;
        size = length-told (replicate (trailer_start g) 255) g full (limits-hold g l);
        trailer = rw full at (drop-append_seam (replicate (trailer_start g) 255) (trailer_of g));
        entries = λ i h m. absurd (m (absent-fresh i h));
        maps = λ i j h k m e. absurd (m (absent-fresh i h));
        forms = λ i h m. absurd (m (absent-fresh i h));
        units = λ u i j a b n m. absurd (n.named (absent-fresh i n.chunk));
      }

  pub shape-fresh : shape_of (fresh g) ≡ g
  shape-fresh = sound-shape g (fresh g) sound-fresh

  c-fresh : (shape_of (fresh g)).c ≡ g.c
  c-fresh = ap (λ (q : Shape). q.c) shape-fresh

  pub units-fresh : (i : ℕ) → i < (shape_of (fresh g)).c → units_of (fresh g) i ≡ []
  units-fresh i h = units-absent (fresh g) i (absent-fresh i (let q = c-fresh in omega arith))

  -- ---- what is free

  and-true : (a b : Bool) → b ≡ false → (a && not b) ≡ a
  and-true true b e = ap not e
  and-true false b e = refl

  pub free_unit-fresh : (u : ℕ) → free_unit (fresh g) u ≡ is_unit g u
  unfolding free_unit
  free_unit-fresh u =
      and-true (is_unit (shape_of (fresh g)) u) (any (λ i. member u (units_of (fresh g) i)) (below (shape_of (fresh g)).c))
      (any-below-none-intro (λ i. member u (units_of (fresh g) i)) (shape_of (fresh g)).c (λ i h. ap (member u) (units-fresh i h) ∙ member-nil u))
      ∙ ap (λ (q : Shape). is_unit q u) shape-fresh

  -- X is no map
  map-fresh : (k : ℕ) → (ltb k (shape_of (fresh g)).m ≡ true) → any (λ i. eqb (link_of (fresh g) i) k) (below (shape_of (fresh g)).c) ≡ false
  map-fresh k b =
      any-below-none-intro (λ i. eqb (link_of (fresh g) i) k) (shape_of (fresh g)).c (λ i h.
      ne_eqb (link_of (fresh g) i) k (λ e.
      let x = absent-fresh i (let q = c-fresh in omega arith) in
      let q : (shape_of (fresh g)).m ≡ g.m = ap (λ (a : Shape). a.m) shape-fresh in
      let o = ltb-true k (shape_of (fresh g)).m b in
      omega (arith, l)))

  pub free_map-fresh : (k : ℕ) → free_map (fresh g) k ≡ ltb k g.m
  unfolding free_map
  free_map-fresh k = go (ltb k (shape_of (fresh g)).m) refl ∙ ap (λ (q : Shape). ltb k q.m) shape-fresh
    where
      go : (a : Bool) → ltb k (shape_of (fresh g)).m ≡ a → (a && not (any (λ i. eqb (link_of (fresh g) i) k) (below (shape_of (fresh g)).c))) ≡ a
      go true e = ap not (map-fresh k e)
      go false e = refl
