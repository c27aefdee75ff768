-- A chunk with a good link and map shares a map or unit with another such chunk, or names a unit twice, exactly where a claim of it is made again.
use Prim.Native.Nat.{ℕ, ◌*◌, ◌<◌}
use native.Mathlib.Omega.{arith}
use mathlib.Core.Path.{◌≡◌, refl, sym, ap, ◌∙◌}
use mathlib.Core.Logic.{◌⊎◌, inl, inr, ◌≢◌, ⊎_elim}
use mathlib.Core.Bool.{Bool, true, false, ◌&&◌, ◌||◌}
use mathlib.Core.List.{List, []}
use lib.Dec.{eqb}
use borrow.Author.Tests.{eqb-true, eqb-false, not-true}
use Rattle.search.specs.Search.{below, any, member, distinct, repeated, joined}
use Rattle.search.proofs.Bools.{contradict, either, is_true, is_false, same, or_cases, or_left, or_right, cond-true, cond-false, and_left, and_right, not_of_false, less-or-not}
use Rattle.search.proofs.Members.{member-nil, member-cons, member-head, member-tail, any_at, any-intro}
use Rattle.search.proofs.Ranges.{any_below}
use Rattle.search.proofs.Joined.{member-joined}
use Rattle.search.proofs.Repeated.{repeated-some, repeated-twice, repeated-member, repeated-in-one, repeated-in-two, repeated-somewhere}
use Rattle.bitset.specs.Bits.{bit_set, in_set}
use Rattle.bitset.proofs.Members.{in_whole}
use Rattle.layout.specs.Layout.{shape_of, link_of}
use Rattle.layout.specs.Shaped.{Limits}
use Rattle.layout.proofs.Limits.{units-high}
use Rattle.image.specs.Soundness.{mapped, units_of}
use Rattle.image.specs.Verdicts.{clash}
use Rattle.image.proofs.Chunks.{mapped-named, named-below, units-below, mapped-of-unit}
use Rattle.image.proofs.Order.{clashing, clash-apart}
use Rattle.repair.specs.Repair.{bad, shares, names_twice}
use Rattle.repair.specs.Claims.{map_claim, claim_words, claims_of, good_claims, claims_below}
use Rattle.repair.proofs.Chunks.{good-link, claims-mapped, claims-unmapped, Sharer, sharer, shared-with}

-- ---- the claims of a chunk: its map and its units

module _ (s : List ℕ) where
  claimant : (x i : ℕ) → member x (claims_of s i) ≡ true → mapped s i ≡ true
  claimant x i m = is_true (mapped s i) (λ e. contradict m (ap (member x) (claims-unmapped s i e) ∙ member-nil x))

  claim-cases : (x i : ℕ) → member x (claims_of s i) ≡ true → (x ≡ map_claim (link_of s i)) ⊎ (member x (units_of s i) ≡ true)
  claim-cases x i m =
      member-cons x (map_claim (link_of s i)) (units_of s i) (sym (ap (member x) (claims-mapped s i (claimant x i m))) ∙ m)

  map-claimed : (i : ℕ) → mapped s i ≡ true → member (map_claim (link_of s i)) (claims_of s i) ≡ true
  map-claimed i h = ap (member (map_claim (link_of s i))) (claims-mapped s i h) ∙ member-head _ _ (units_of s i) refl

  unit-claimed : (u i : ℕ) → member u (units_of s i) ≡ true → member u (claims_of s i) ≡ true
  unit-claimed u i m = ap (member u) (claims-mapped s i (mapped-of-unit s u i m)) ∙ member-tail u (map_claim (link_of s i)) (units_of s i) m

  -- two chunks that clash have a claim in common
  clash-common : (i j : ℕ) → clash s i j ≡ true → (x : ℕ) × (member x (claims_of s i) ≡ true) × (member x (claims_of s j) ≡ true)
  clash-common i j e =
      let c = clashing s i j e in
      ⊎_elim
      (λ q. (map_claim (link_of s i), map-claimed i c.first, ap (λ (k : ℕ). member (map_claim k) (claims_of s j)) q ∙ map-claimed j c.second))
      (λ r. (r.0, unit-claimed r.0 i r.1, unit-claimed r.0 j r.2))
      c.common

  -- a chunk that names a unit twice claims it twice
  twice-repeated : (j : ℕ) → names_twice s j ≡ true → (x : ℕ) × (repeated x (claims_of s j) ≡ true)
  unfolding repeated names_twice
  twice-repeated j e =
      let r = repeated-some (units_of s j) (not-true (distinct (units_of s j)) e) in
      let h = mapped-of-unit s r.0 j (repeated-member r.0 (units_of s j) r.1) in
      (r.0, ap (repeated r.0) (claims-mapped s j h) ∙ or_right (eqb r.0 (map_claim (link_of s j)) && member r.0 (units_of s j)) (repeated r.0 (units_of s j)) r.1)

  -- the claims that count
  good-claims : (i : ℕ) → bad s i ≡ false → good_claims s i ≡ claims_of s i
  unfolding good_claims
  good-claims i e = cond-false (bad s i) [] (claims_of s i) e

  counts : (x i : ℕ) → member x (good_claims s i) ≡ true → (bad s i ≡ false) × (member x (claims_of s i) ≡ true)
  unfolding good_claims
  counts x i m =
      let g = is_false (bad s i) (λ e. contradict m (ap (member x) (cond-true (bad s i) [] (claims_of s i) e) ∙ member-nil x)) in
      (g, sym (ap (member x) (good-claims i g)) ∙ m)

module _ (s : List ℕ) (l : Limits (shape_of s)) where
  -- ---- no unit is numbered as a map: so a claim in common is a clash, and a claim made twice is a unit named twice

  unit-low : (u i : ℕ) → member u (units_of s i) ≡ true → u < map_claim 0
  unit-low u i m = omega (arith, units-below s u i m, units-high (shape_of s) l)

  common-clash : (x i j : ℕ) → member x (claims_of s i) ≡ true → member x (claims_of s j) ≡ true → clash s i j ≡ true
  common-clash x i j a b = is_true (clash s i j) (λ e. decide e (claim-cases s x i a) (claim-cases s x j b))
    where
      decide : clash s i j ≡ false → (x ≡ map_claim (link_of s i)) ⊎ (member x (units_of s i) ≡ true)
          → (x ≡ map_claim (link_of s j)) ⊎ (member x (units_of s j) ≡ true) → ⊥
      decide e (inl p) (inl q) = (clash-apart s i j e).maps (claimant s x i a) (claimant s x j b) (omega arith)
      decide e (inl p) (inr q) = omega (arith, unit-low x j q)
      decide e (inr p) (inl q) = omega (arith, unit-low x i p)
      decide e (inr p) (inr q) = (clash-apart s i j e).units x p q

  repeated-claim : (x j : ℕ) → repeated x (claims_of s j) ≡ true → names_twice s j ≡ true
  unfolding repeated names_twice
  repeated-claim x j e =
      let h = claimant s x j (repeated-member x (claims_of s j) e) in
      let m = map_claim (link_of s j) in
      ⊎_elim
      (λ q. let p = eqb-true x m (and_left (eqb x m) (member x (units_of s j)) q) in
      absurd (omega (arith, unit-low x j (and_right (eqb x m) (member x (units_of s j)) q))))
      (λ q. not_of_false (distinct (units_of s j)) (repeated-twice x (units_of s j) q))
      (or_cases (eqb x m && member x (units_of s j)) (repeated x (units_of s j)) (sym (ap (repeated x) (claims-mapped s j h)) ∙ e))

  -- ---- a good chunk

  module _ (j : ℕ) (b : j < (shape_of s).c) (g : bad s j ≡ false) where
    -- another chunk that counts has a claim of chunk j
    with-other : (x i : ℕ) → i < (shape_of s).c → i ≢ j → member x (good_claims s i) ≡ true → member x (claims_of s j) ≡ true → shares s j ≡ true
    with-other x i h n a m =
        let k = counts s x i a in
        shared-with s j i (record { chunk = h; good = k.0; other = n; clashes = common-clash x i j k.1 m })

    found : (x : ℕ) → member x (claims_of s j) ≡ true
        → ((i : ℕ) × (i < (shape_of s).c) × (repeated x (good_claims s i) ≡ true))
        ⊎ ((i : ℕ) × (k : ℕ) × (i < k) × (k < (shape_of s).c) × (member x (good_claims s i) ≡ true) × (member x (good_claims s k) ≡ true))
        → (shares s j || names_twice s j) ≡ true
    found x m (inl r) = ⊎_elim
        (λ q. let e = eqb-true r.0 j q in
        or_right (shares s j) (names_twice s j) (repeated-claim x j
        (sym (ap (repeated x) (good-claims s j g)) ∙ ap (λ (i : ℕ). repeated x (good_claims s i)) (sym e) ∙ r.2)))
        (λ q. or_left (shares s j) (names_twice s j)
        (with-other x r.0 r.1 (eqb-false r.0 j q) (repeated-member x (good_claims s r.0) r.2) m))
        (either (eqb r.0 j))
    found x m (inr r) = ⊎_elim
        (λ q. let e = eqb-true r.0 j q in
        or_left (shares s j) (names_twice s j) (with-other x r.1 r.3 (λ w. omega (arith, r.2, e, w)) r.5 m))
        (λ q. or_left (shares s j) (names_twice s j) (with-other x r.0 (omega (arith, r.2, r.3)) (eqb-false r.0 j q) r.4 m))
        (either (eqb r.0 j))

    -- both chunks of a clash make the claim
    twice_there : (x i : ℕ) → Sharer s i j → member x (claims_of s i) ≡ true → member x (claims_of s j) ≡ true
        → repeated x (claims_below s (shape_of s).c) ≡ true
    unfolding claims_below
    twice_there x i h a m =
        let p = ap (member x) (good-claims s i h.good) ∙ a in
        let o = ap (member x) (good-claims s j g) ∙ m in
        ⊎_elim (λ w. repeated-in-two (good_claims s) x (shape_of s).c i j w b p o)
        (λ w. ⊎_elim (λ v. repeated-in-two (good_claims s) x (shape_of s).c j i v h.chunk o p) (λ v. absurd (h.other (omega arith))) (less-or-not j i))
        (less-or-not i j)

    sharing-again : shares s j ≡ true → any (λ x. repeated x (claims_below s (shape_of s).c)) (claims_of s j) ≡ true
    sharing-again e =
        let r = sharer s j e in
        let k = clash-common s r.0 j r.1.clashes in
        any-intro (λ x. repeated x (claims_below s (shape_of s).c)) (claims_of s j) k.0 k.2 (twice_there k.0 r.0 r.1 k.1 k.2)

    twice-again : names_twice s j ≡ true → any (λ x. repeated x (claims_below s (shape_of s).c)) (claims_of s j) ≡ true
    unfolding claims_below
    twice-again e =
        let r = twice-repeated s j e in
        any-intro (λ x. repeated x (joined (good_claims s) (below (shape_of s).c))) (claims_of s j) r.0 (repeated-member r.0 (claims_of s j) r.1)
        (repeated-in-one (good_claims s) r.0 (shape_of s).c j b (ap (repeated r.0) (good-claims s j g) ∙ r.1))

    pub shared-again : any (λ x. repeated x (claims_below s (shape_of s).c)) (claims_of s j) ≡ (shares s j || names_twice s j)
    unfolding claims_below
    shared-again = same _ (shares s j || names_twice s j)
        (λ e. let r = any_at (λ x. repeated x (joined (good_claims s) (below (shape_of s).c))) (claims_of s j) e in
        found r.0 r.1 (repeated-somewhere (good_claims s) r.0 (shape_of s).c r.2))
        (λ e. ⊎_elim sharing-again twice-again (or_cases (shares s j) (names_twice s j) e))

  -- ---- every claim that counts has a bit

  claim-high : (x i : ℕ) → member x (good_claims s i) ≡ true → x < 64 * claim_words
  claim-high x i m =
      let k = counts s x i m in
      ⊎_elim
      (λ q. let e = named-below s i (mapped-named s i (claimant s x i k.1)) (good-link s i k.0) in omega (arith, l.m-high, l.c-high))
      (λ q. omega (arith, unit-low x i q))
      (claim-cases s x i k.1)

  pub again-is : (ws : List ℕ) (c : ℕ) → c ≡ (shape_of s).c → ws ≡ bit_set (λ x. repeated x (claims_below s c)) claim_words
      → (xs : List ℕ) → any (in_set ws) xs ≡ any (λ x. repeated x (claims_below s (shape_of s).c)) xs
  unfolding claims_below
  again-is ws c w e xs =
      let f : ℕ → Bool = λ x. repeated x (joined (good_claims s) (below c)) in
      ap (λ (f : ℕ → Bool). any f xs) (ap in_set e ∙ in_whole f claim_words (λ u h.
      let r = any_below (λ i. member u (good_claims s i)) c (sym (member-joined (good_claims s) u (below c)) ∙ repeated-member u (joined (good_claims s) (below c)) h) in
      claim-high u r.0 r.2))
      ∙ ap (λ (k : ℕ). any (λ x. repeated x (joined (good_claims s) (below k))) xs) w
