-- The numbers from i on and the numbers below n: their members, tests over them, and the lowest at which a test holds.
use Prim.Native.Nat.{ℕ, zero, suc, ◌+◌, ◌-◌, ◌<◌, ◌≤◌}
use native.Mathlib.Omega.{arith}
use native.Mathlib.Nat.{zero-add, suc-add, add-suc, add-zero, sub-zero}
use native.Mathlib.Numerals.{add-one}
use native.Mathlib.Decide.{ℕ_discrete}
use mathlib.Core.Path.{◌≡◌, refl, ap, sym, ◌∙◌}
use mathlib.Core.Logic.{⊎_elim}
use mathlib.Core.Bool.{Bool, true, false, ◌||◌, cond, or-false}
use mathlib.Core.List.{List, [], ◌∷◌, ◌++◌}
use lib.ListN.{length}
use lib.Dec.{eqb, ltb}
use borrow.Author.Tests.{eqb-true, eqb-false, ltb-false}
use Rattle.search.specs.Search.{from, below, all, any, member, lowest, lowest_from}
use Rattle.search.proofs.Bools.{contradict, either, less-or-not}
use Rattle.search.proofs.Members.{member-nil, member-cons, member-head, member-tail, all-intro, any_at, any-intro, any_none, any-none-at, any_append}

-- ---- the numbers from i on

pub length_from : (i n : ℕ) → length (from i n) ≡ n
unfolding from
length_from i zero = refl
length_from i (suc n) = ap suc (length_from (suc i) n)

pub member-from : (x i n : ℕ) → member x (from i n) ≡ true → (i ≤ x) × (x < i + n)
unfolding from
member-from x i zero e = contradict e (member-nil x)
member-from x i (suc n) e =
    ⊎_elim (λ p. omega arith) (λ p. let r = member-from x (suc i) n p in omega arith) (member-cons x i (from (suc i) n) e)

pub from_member : (x i n : ℕ) → i ≤ x → x < i + n → member x (from i n) ≡ true
unfolding from
from_member x i zero h l = absurd (omega arith)
from_member x i (suc n) h l =
    ⊎_elim (λ p. member-head x i (from (suc i) n) (eqb-true x i p))
    (λ p. member-tail x i (from (suc i) n) (from_member x (suc i) n (omega (arith, eqb-false x i p)) (omega arith)))
    (either (eqb x i))

-- what a loop that goes up to n has before it at i: i and what comes after it, or nothing
pub from_next : (i n : ℕ) → i < n → from i (n - i) ≡ i ∷ from (i + 1) (n - (i + 1))
unfolding from
from_next i n h =
    let e : n - i ≡ suc (n - (i + 1)) = omega arith in
    rw (e, add-one)

pub from_end : (i n : ℕ) → n ≤ i → from i (n - i) ≡ []
unfolding from
from_end i n h =
    let e : n - i ≡ 0 = omega arith in
    rw e

pub below-start : (n : ℕ) → below n ≡ from 0 (n - 0)
below-start n = rw (sub-zero n)

pub from_last : (i n : ℕ) → from i (suc n) ≡ from i n ++ ((i + n) ∷ [])
unfolding from
from_last i zero = rw (add-zero i)
from_last i (suc n) =
    let e : suc i + n ≡ i + suc n = omega arith in
    ap (λ (r : List ℕ). i ∷ r) (rw e at (from_last (suc i) n))

-- ---- the numbers below n

pub member_below : (x n : ℕ) → member x (below n) ≡ true → x < n
member_below x n e = let r = member-from x 0 n e in omega (arith, r.1)

pub below-member : (x n : ℕ) → x < n → member x (below n) ≡ true
below-member x n h = from_member x 0 n (omega arith) (omega arith)

pub all-below-intro : (f : ℕ → Bool) (n : ℕ) → ((i : ℕ) → i < n → f i ≡ true) → all f (below n) ≡ true
all-below-intro f n h = all-intro f (below n) (λ x m. h x (member_below x n m))

pub any_below : (f : ℕ → Bool) (n : ℕ) → any f (below n) ≡ true → (i : ℕ) × (i < n) × (f i ≡ true)
any_below f n e = let r = any_at f (below n) e in (r.0, member_below r.0 n r.1, r.2)

pub any-below-intro : (f : ℕ → Bool) (n i : ℕ) → i < n → f i ≡ true → any f (below n) ≡ true
any-below-intro f n i h p = any-intro f (below n) i (below-member i n h) p

pub any-below-none : (f : ℕ → Bool) (n : ℕ) → any f (below n) ≡ false → (i : ℕ) → i < n → f i ≡ false
any-below-none f n e i h = any-none-at f (below n) e i (below-member i n h)

pub any-below-none-intro : (f : ℕ → Bool) (n : ℕ) → ((i : ℕ) → i < n → f i ≡ false) → any f (below n) ≡ false
any-below-none-intro f n h = any_none f (below n) (λ x m. h x (member_below x n m))

pub any-below-more : (f : ℕ → Bool) (j : ℕ) → any f (below (j + 1)) ≡ (any f (below j) || f j)
unfolding any
any-below-more f j =
    let e : 0 + j ≡ j = omega arith in
    rw (add-one j, from_last 0 j, e) (any_append f (from 0 j) (j ∷ []) ∙ ap (λ (b : Bool). any f (from 0 j) || b) (or-false (f j)))

-- a test of all the numbers below n, by a loop that is at i
module _ (f : ℕ → Bool) (n i : ℕ) where
  pub all-from-more : i < n → f i ≡ true → all f (from i (n - i)) ≡ all f (from (i + 1) (n - (i + 1)))
  unfolding all
  all-from-more h e = rw (from_next i n h, e)

  pub all-from-stop : i < n → f i ≡ false → all f (from i (n - i)) ≡ false
  unfolding all
  all-from-stop h e = rw (from_next i n h, e)

  pub all-from-end : n ≤ i → all f (from i (n - i)) ≡ true
  unfolding all
  all-from-end h = rw (from_end i n h)

-- ---- the lowest number at which a test holds: a loop that goes up from 0 keeps `lowest f n ≡ lowest_from f i (n - i)`

pub lowest_start : (f : ℕ → Bool) (n k : ℕ) → k ≡ n → lowest f n ≡ lowest_from f 0 (k - 0)
lowest_start f n k e = rw (sub-zero k, e)

module _ (f : ℕ → Bool) (n i : ℕ) where
  pub lowest-more : i < n → f i ≡ false → lowest_from f i (n - i) ≡ lowest_from f (i + 1) (n - (i + 1))
  unfolding lowest_from
  lowest-more h e =
      let s : n - i ≡ suc (n - (i + 1)) = omega arith in
      rw (s, e, add-one i)

  pub lowest-found : i < n → f i ≡ true → lowest_from f i (n - i) ≡ i
  unfolding lowest_from
  lowest-found h e =
      let s : n - i ≡ suc (n - (i + 1)) = omega arith in
      rw (s, e)

  pub lowest-end : n ≤ i → lowest_from f i (n - i) ≡ i
  unfolding lowest_from
  lowest-end h =
      let s : n - i ≡ 0 = omega arith in
      rw s

lowest_from-le : (f : ℕ → Bool) (i k : ℕ) → lowest_from f i k ≤ i + k
unfolding lowest_from
lowest_from-le f i zero = omega arith
lowest_from-le f i (suc k) = pick (f i) (lowest_from-le f (suc i) k)
  where
    pick : (b : Bool) → lowest_from f (suc i) k ≤ suc i + k → cond b i (lowest_from f (suc i) k) ≤ i + suc k
    pick true h = omega arith
    pick false h = omega arith

pub lowest-le : (f : ℕ → Bool) (n : ℕ) → lowest f n ≤ n
lowest-le f n = omega (arith, lowest_from-le f 0 n)

lowest_from-before : (f : ℕ → Bool) (i k y : ℕ) → i ≤ y → y < lowest_from f i k → f y ≡ false
unfolding lowest_from
lowest_from-before f i zero y a b = absurd (omega arith)
lowest_from-before f i (suc k) y a b = pick (f i) refl b (ℕ_discrete i y) (lowest_from-before f (suc i) k y)
  where
    pick : (b : Bool) → f i ≡ b → y < cond b i (lowest_from f (suc i) k) → Dec (i ≡ y) → (suc i ≤ y → y < lowest_from f (suc i) k → f y ≡ false) → f y ≡ false
    pick true e h d ih = absurd (omega arith)
    pick false e h (yes w) ih = rw (← w) e
    pick false e h (no w) ih = ih (omega arith) h

-- below the lowest the test fails
pub lowest-before : (f : ℕ → Bool) (n y : ℕ) → y < lowest f n → f y ≡ false
lowest-before f n y h = lowest_from-before f 0 n y (omega arith) h

-- where the lowest is not below n, the test fails at each number below n
pub none_below : (f : ℕ → Bool) (n : ℕ) → ltb (lowest f n) n ≡ false → (y : ℕ) → y < n → f y ≡ false
none_below f n h y l = lowest-before f n y (omega (arith, ltb-false (lowest f n) n h))

lowest_from-none : (f : ℕ → Bool) (i k : ℕ) → ((y : ℕ) → i ≤ y → y < i + k → f y ≡ false) → lowest_from f i k ≡ i + k
unfolding lowest_from
lowest_from-none f i zero h = sym (add-zero i)
lowest_from-none f i (suc k) h =
    rw (h i (omega arith) (omega arith)) (lowest_from-none f (suc i) k (λ y a b. h y (omega arith) (omega arith)) ∙ suc-add i k ∙ sym (add-suc i k))

pub lowest-none : (f : ℕ → Bool) (n : ℕ) → ((y : ℕ) → y < n → f y ≡ false) → lowest f n ≡ n
lowest-none f n h = lowest_from-none f 0 n (λ y a b. h y (omega arith)) ∙ zero-add n

lowest_from-holds : (f : ℕ → Bool) (i k : ℕ) → lowest_from f i k < i + k → f (lowest_from f i k) ≡ true
unfolding lowest_from
lowest_from-holds f i zero h = absurd (omega arith)
lowest_from-holds f i (suc k) h = pick (f i) refl h (lowest_from-holds f (suc i) k)
  where
    pick : (b : Bool) → f i ≡ b → cond b i (lowest_from f (suc i) k) < i + suc k → (lowest_from f (suc i) k < suc i + k → f (lowest_from f (suc i) k) ≡ true)
        → f (cond b i (lowest_from f (suc i) k)) ≡ true
    pick true e l ih = e
    pick false e l ih = ih (omega arith)

-- where one is found, the test holds at it
pub lowest-holds : (f : ℕ → Bool) (n : ℕ) → lowest f n < n → f (lowest f n) ≡ true
lowest-holds f n h = lowest_from-holds f 0 n (omega arith)

-- and the number below n at which the test holds, and below which it fails, is the one found
pub lowest-is : (f : ℕ → Bool) (n i : ℕ) → i < n → f i ≡ true → ((j : ℕ) → j < i → f j ≡ false) → lowest f n ≡ i
lowest-is f n i h e b =
    let l = lowest f n in
    ⊎_elim (λ q. contradict (lowest-holds f n (omega arith)) (b l q))
    (λ q. ⊎_elim (λ r. contradict e (lowest-before f n i r)) (λ r. omega arith) (less-or-not i l))
    (less-or-not l i)
