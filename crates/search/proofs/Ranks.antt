-- The j-th of the numbers of which f holds, rising, is the one that has j of them below it.
use Prim.Native.Nat.{ℕ, suc, ◌+◌, ◌-◌, ◌<◌}
use mathlib.Core.Path.{◌≡◌, ap, ◌∙◌}
use mathlib.Core.Bool.{Bool, true}
use mathlib.Core.List.{List, ◌∷◌, ◌++◌}
use native.Mathlib.Omega.{arith}
use lib.ListN.{length, get_or, length-append}
use lib.Seq.{get_or-append_seam}
use Rattle.search.specs.Search.{from, below, keep}
use Rattle.search.proofs.Members.{member-get_or}
use Rattle.search.proofs.Ranges.{member_below}
use Rattle.search.proofs.Kept.{keep-cons-true, keep-cut, member-keep}
use Rattle.search.proofs.Distinct.{distinct-place, distinct-keep, distinct_from}

module _ (f : ℕ → Bool) (n : ℕ) where
  -- those below u, u, and those above
  parts : (u : ℕ) → f u ≡ true → u < n → keep f (below n) ≡ keep f (below u) ++ (u ∷ keep f (from (suc u) (n - suc u)))
  unfolding from
  parts u t h =
      let e : n ≡ u + suc (n - suc u) = omega arith in
      let z : 0 + u ≡ u = omega arith in
      ap (λ (c : ℕ). keep f (from 0 c)) e ∙ keep-cut f 0 u (suc (n - suc u))
      ∙ ap (λ (l : List ℕ). keep f (below u) ++ l)
      (ap (λ (a : ℕ). keep f (from a (suc (n - suc u)))) z ∙ keep-cons-true f u (from (suc u) (n - suc u)) t)

  pub rank-place : (u : ℕ) → f u ≡ true → u < n → (length (keep f (below u)) < length (keep f (below n))) × (get_or (keep f (below n)) (length (keep f (below u))) 0 ≡ u)
  rank-place u t h =
      let low = keep f (below u) in
      let high = keep f (from (suc u) (n - suc u)) in
      let e = parts u t h in
      let l = ap length e ∙ length-append low (u ∷ high) in
      (omega arith, ap (λ (xs : List ℕ). get_or xs (length low) 0) e ∙ get_or-append_seam low u high 0)

  pub place-rank : (j : ℕ) → j < length (keep f (below n)) → (f (get_or (keep f (below n)) j 0) ≡ true) × (length (keep f (below (get_or (keep f (below n)) j 0))) ≡ j)
  place-rank j l =
      let xs = keep f (below n) in
      let u = get_or xs j 0 in
      let m = member-keep f u (below n) (member-get_or xs j l) in
      let r = rank-place u m.1 (member_below u n m.0) in
      (m.1, distinct-place xs (distinct-keep f (below n) (distinct_from 0 n)) (length (keep f (below u))) j r.0 l r.1)
