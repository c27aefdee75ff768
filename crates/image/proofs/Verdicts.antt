-- Laws of rows 4 to 6: which refusal each finding of the scans gives; and laws of 01's own verdict.
use Rattle.std.specs.Prelude.{Ok, Err}
use Prim.Native.Nat.{ℕ, ◌<◌, ◌≤◌}
use mathlib.Core.Path.{◌≡◌, ap, sym}
use mathlib.Core.Bool.{true, false, not}
use mathlib.Core.List.{List}
use lib.ListN.{length}
use lib.Dec.{ltb}
use native.Mathlib.Omega.{arith}
use borrow.Author.Tests.{lt-ltb, le-ltb, not-false}
use Rattle.layout.specs.declared.Shape.{Shape}
use Rattle.layout.specs.declared.Refusal.TheVariants.{Foreign, BadLink, BadMap, Shared}
use Rattle.layout.specs.Layout.{first_edition, trailer_bytes, known_as, shape_of}
use Rattle.image.specs.Verdicts.{good_link, bad_link, bad_map, double_claim, first_claim, clash, contested, chunk_verdict, verdict, as_first, first_verdict}
use Rattle.image.specs.Claims.{Scanned, Judged}
use Rattle.search.proofs.Bools.{cond-true, cond-false, or_right, or-none}
use Rattle.search.proofs.Ranges.{lowest-before, lowest-le}
use Rattle.layout.specs.declared.Refusal.{Refusal}
use Rattle.layout.specs.Trailer.{trailer_outcome}

-- chunk numbers as the code has them: i the lowest bad link, k the lowest bad map, j the lowest double claim
module _ (s : List ℕ) (g : Shape) (e : g ≡ shape_of s) (i : ℕ) (ei : i ≡ bad_link s) where
  chunks : g.c ≡ (shape_of s).c
  chunks = ap (λ (h : Shape). h.c) e

  pub link-refused : i < g.c → chunk_verdict s ≡ Err (BadLink i)
  unfolding chunk_verdict
  link-refused h = rw (← ei, lt-ltb i (shape_of s).c (rw chunks at h))

  pub good-links : g.c ≤ i → (y : ℕ) → y < g.c → good_link s y ≡ true
  unfolding bad_link
  good-links h y l = not-false _ (lowest-before (λ y. not (good_link s y)) (shape_of s).c y (omega arith))

  module _ (hi : g.c ≤ i) (k : ℕ) (ek : k ≡ bad_map s) where
    pub map-refused : k < g.c → chunk_verdict s ≡ Err (BadMap k)
    unfolding chunk_verdict
    map-refused h = rw (← ei, ← ek, le-ltb i (shape_of s).c (rw chunks at hi), lt-ltb k (shape_of s).c (rw chunks at h))

    module _ (hk : g.c ≤ k) (j : ℕ) (ej : j ≡ double_claim s) where
      pub shared-refused : (f : ℕ) → f ≡ first_claim s j → j < g.c → chunk_verdict s ≡ Err (Shared f j)
      unfolding chunk_verdict
      shared-refused f ef h =
          rw (← ei, ← ek, ← ej, le-ltb i (shape_of s).c (rw chunks at hi), le-ltb k (shape_of s).c (rw chunks at hk), lt-ltb j (shape_of s).c (rw chunks at h), ef)

      pub found-sound : g.c ≤ j → chunk_verdict s ≡ Ok tt
      unfolding chunk_verdict
      found-sound h =
          rw (← ei, ← ek, ← ej, le-ltb i (shape_of s).c (rw chunks at hi), le-ltb k (shape_of s).c (rw chunks at hk), le-ltb j (shape_of s).c (rw chunks at h))

      pub all-claimed : g.c ≤ j → j ≡ (shape_of s).c
      unfolding double_claim
      all-claimed h = omega (arith, chunks, lowest-le (contested s) (shape_of s).c)

-- ---- what `judge` owes

pub judged-refused : (s : List ℕ) (r : Refusal) (units maps : List ℕ) → chunk_verdict s ≡ Err r → Judged s (Err r) units maps
judged-refused s r units maps e = record { right = sym e; units-left = λ p. absurd (not-passed p); maps-left = λ p. absurd (not-passed p) }
  where
    not-passed : Err r ≡ Ok (tt {0}) → ⊥
    not-passed p = let z : ◌≡◌ {A = ℕ} 0 1 = cc in omega arith

pub judged-passed : (s : List ℕ) (j : ℕ) (units maps : List ℕ) → chunk_verdict s ≡ Ok tt → j ≡ (shape_of s).c → Scanned s j units maps
    → Judged s (Ok tt) units maps
judged-passed s j units maps e h r = record { right = sym e; units-left = λ p. r.units-left h; maps-left = λ p. r.maps-left h }

pub first-le : (s : List ℕ) (j : ℕ) → first_claim s j ≤ j
unfolding first_claim
first-le s j = lowest-le (λ i. clash s i j) j

-- ---- rows 1 to 3, as the trailer answered them

pub verdict-refused : (s : List ℕ) (r : Refusal) → trailer_outcome s ≡ Err r → verdict s ≡ Err r
unfolding verdict
verdict-refused s r e = rw e

pub verdict-fits : (s : List ℕ) (g : Shape) → trailer_outcome s ≡ Ok g → verdict s ≡ chunk_verdict s
unfolding verdict
verdict-fits s g e = rw e

-- ---- 01's own verdict

module _ (s : List ℕ) where
  pub first-verdict : as_first s ≡ true → first_verdict s ≡ verdict s
  unfolding first_verdict
  first-verdict h = cond-true (as_first s) (verdict s) (Err Foreign) h

  pub first-foreign : as_first s ≡ false → first_verdict s ≡ Err Foreign
  unfolding first_verdict
  first-foreign h = cond-false (as_first s) (verdict s) (Err Foreign) h

  -- by the trailer that is read
  pub read_first : known_as first_edition s ≡ true → first_verdict s ≡ verdict s
  read_first k = first-verdict (or_right (ltb (length s) (trailer_bytes first_edition)) (known_as first_edition s) k)

  pub read-other : trailer_bytes first_edition ≤ length s → known_as first_edition s ≡ false → first_verdict s ≡ Err Foreign
  read-other h k =
      first-foreign (or-none (ltb (length s) (trailer_bytes first_edition)) (known_as first_edition s) (le-ltb (length s) (trailer_bytes first_edition) h) k)
