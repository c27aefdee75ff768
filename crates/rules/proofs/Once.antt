-- Each number below n once, and no other.
use Prim.Native.Nat.{ℕ, ◌<◌}
use mathlib.Core.Path.{◌≡◌, ap}
use mathlib.Core.Bool.{true, ◌&&◌}
use mathlib.Core.List.{List, []}
use native.Mathlib.Omega.{arith}
use lib.ListN.{length}
use lib.Dec.{eqb, ltb}
use borrow.Author.Tests.{eqb-true, eq-eqb, ltb-true, lt-ltb}
use Rattle.search.specs.Search.{below, all, member, distinct, keep}
use Rattle.search.specs.Sets.{without}
use Rattle.search.proofs.Bools.{and-three, and_intro, not-of-true, and-false-right}
use Rattle.search.proofs.Members.{all-at, all-intro}
use Rattle.search.proofs.Ranges.{member_below}
use Rattle.search.proofs.Kept.{keep-none}
use Rattle.search.proofs.Counting.{covers, unlisted-exactly}
use Rattle.rules.specs.Rules.{once_each}

pub once : (n : ℕ) (xs : List ℕ) → once_each n xs ≡ true → (length xs ≡ n) × (distinct xs ≡ true) × (all (λ j. ltb j n) xs ≡ true)
unfolding once_each
once n xs h = let k = and-three (eqb (length xs) n) (distinct xs) (all (λ j. ltb j n) xs) h in (eqb-true (length xs) n k.0, k.1, k.2)

pub once-tested : (n : ℕ) (ys : List ℕ) → distinct ys ≡ true → ((y : ℕ) → member y ys ≡ true → y < n) → ((y : ℕ) → y < n → member y ys ≡ true)
    → once_each n ys ≡ true
unfolding once_each without
once-tested n ys d b c =
    let every_one : keep (without (λ u. true) ys) (below n) ≡ [] =
    keep-none (without (λ u. true) ys) (below n) (λ u m. and-false-right true _ (not-of-true (member u ys) (c u (member_below u n m)))) in
    let none : length (keep (without (λ u. true) ys) (below n)) ≡ 0 = ap length every_one in
    let count = unlisted-exactly n ys d b in
    and_intro (eqb (length ys) n && distinct ys) (all (λ y. ltb y n) ys)
    (and_intro (eqb (length ys) n) (distinct ys) (eq-eqb (length ys) n (omega arith)) d)
    (all-intro (λ y. ltb y n) ys (λ y m. lt-ltb y n (b y m)))

pub once-below : (n : ℕ) (ys : List ℕ) → once_each n ys ≡ true → (y : ℕ) → member y ys ≡ true → y < n
once-below n ys h y m = ltb-true y n (all-at (λ j. ltb j n) ys (once n ys h).2 y m)

pub once-there : (n : ℕ) (ys : List ℕ) → once_each n ys ≡ true → (y : ℕ) → y < n → member y ys ≡ true
once-there n ys h y l = let a = once n ys h in covers n ys a.1 a.0 (once-below n ys h) y l
