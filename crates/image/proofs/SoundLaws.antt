-- The verdict is `Passed` exactly of the images that are `Tested`, and rows 4 to 6 of those whose chunks are.
use Rattle.std.specs.Prelude.{Result, Ok, Err, ⊤}
use Prim.Native.Nat.{ℕ, ◌<◌}
use mathlib.Core.Path.{◌≡◌, refl, sym, ap, subst}
use mathlib.Core.Bool.{Bool, true, false, not, cond}
use mathlib.Core.List.{List}
use native.Mathlib.Omega.{arith}
use lib.Dec.{ltb}
use borrow.Author.Tests.{le-ltb, not-false}
use Rattle.search.specs.Search.{below, any, distinct}
use Rattle.search.proofs.Bools.{or-false-left, or-false-right}
use Rattle.search.proofs.Ranges.{none_below, lowest-none, any-below-none, any-below-none-intro}
use Rattle.layout.specs.declared.Shape.{Shape}
use Rattle.layout.specs.declared.Refusal.{Refusal}
use Rattle.layout.specs.Trailer.{trailer_outcome}
use Rattle.layout.specs.Layout.{shape_of}
use Rattle.layout.specs.Shaped.{On}
use Rattle.layout.proofs.Limits.{fits_on, on_fits}
use Rattle.image.specs.Soundness.{units_of}
use Rattle.image.specs.Verdicts.{good_link, good_map, clash, contested, bad_link, bad_map, double_claim, chunk_verdict, after_trailer, verdict}
use Rattle.image.specs.Claims.{Tested}

cond-passed : (b : Bool) (r : Refusal) (v : Result ⊤ Refusal) → cond b (Err r) v ≡ Ok tt → (b ≡ false) × (v ≡ Ok tt)
cond-passed true r v h = let z : ◌≡◌ {A = ℕ} 0 1 = cc in absurd (omega arith)
cond-passed false r v h = (refl, h)

passed-trailer : (s : List ℕ) → verdict s ≡ Ok tt → On (shape_of s) s × (chunk_verdict s ≡ Ok tt)
unfolding verdict
passed-trailer s h = go (trailer_outcome s) refl h
  where
    go : (t : Result Shape Refusal) → trailer_outcome s ≡ t → after_trailer t (chunk_verdict s) ≡ Ok tt → On (shape_of s) s × (chunk_verdict s ≡ Ok tt)
    go (Ok g) e p = let o = fits_on s g e in (subst (λ (k : Shape). On k s) (sym o.shape) o, p)
    go (Err r) e p = let z : ◌≡◌ {A = ℕ} 0 1 = cc in absurd (omega arith)

-- no row of 4 to 6 holds: what they test, for each chunk
pub record ChunksTested (s : List ℕ) : Type 0 where
  pub links : (i : ℕ) → i < (shape_of s).c → good_link s i ≡ true
  pub maps : (i : ℕ) → i < (shape_of s).c → good_map s i ≡ true
  pub apart : (i j : ℕ) → i < j → j < (shape_of s).c → clash s i j ≡ false
  pub single : (i : ℕ) → i < (shape_of s).c → distinct (units_of s i) ≡ true

pub chunks-tested : (s : List ℕ) → chunk_verdict s ≡ Ok tt → ChunksTested s
unfolding chunk_verdict bad_link bad_map double_claim contested
chunks-tested s h =
    let c = (shape_of s).c in
    let e₄ = cond-passed (ltb (bad_link s) c) _ _ h in
    let e₅ = cond-passed (ltb (bad_map s) c) _ _ e₄.1 in
    let e₆ = cond-passed (ltb (double_claim s) c) _ _ e₅.1 in
    record {
      links = λ i l. not-false _ (none_below (λ i. not (good_link s i)) c e₄.0 i l);
      maps = λ i l. not-false _ (none_below (λ i. not (good_map s i)) c e₅.0 i l);
      apart = λ i j a l. any-below-none (λ i. clash s i j) j (or-false-left (any (λ k. clash s k j) (below j)) (not (distinct (units_of s j))) (none_below (contested s) c e₆.0 j l)) i a;
      single = λ i l. not-false _ (or-false-right (any (λ k. clash s k i) (below i)) (not (distinct (units_of s i))) (none_below (contested s) c e₆.0 i l));
    }

pub chunks-passed : (s : List ℕ) → ChunksTested s → chunk_verdict s ≡ Ok tt
unfolding chunk_verdict bad_link bad_map double_claim contested
chunks-passed s h =
    let c = (shape_of s).c in
    let links = lowest-none (λ i. not (good_link s i)) c (λ y l. ap not (h.links y l)) in
    let maps = lowest-none (λ i. not (good_map s i)) c (λ y l. ap not (h.maps y l)) in
    let apart : (y : ℕ) → y < c → contested s y ≡ false =
    λ y l. rw (any-below-none-intro (λ i. clash s i y) y (λ i a. h.apart i y a l), h.single y l) in
    let claims = lowest-none (contested s) c apart in
    rw (le-ltb (bad_link s) c (omega arith), le-ltb (bad_map s) c (omega arith), le-ltb (double_claim s) c (omega arith))

-- ---- and with the trailer

pub tested-chunks : {s : List ℕ} → Tested s → ChunksTested s
tested-chunks h = record { links = h.links; maps = h.maps; apart = h.apart; single = h.single }

pub passed-tested : (s : List ℕ) → verdict s ≡ Ok tt → Tested s
passed-tested s h =
    let t = passed-trailer s h in
    let k = chunks-tested s t.1 in
    record {
      long = t.0.long;
      known = t.0.known;
      fitting = t.0.fitting;
      links = k.links;
      maps = k.maps;
      apart = k.apart;
      single = k.single;
    }

pub tested-passed : (s : List ℕ) → Tested s → verdict s ≡ Ok tt
unfolding verdict
tested-passed s h = rw (on_fits s h.long h.known h.fitting) (chunks-passed s (tested-chunks h))
