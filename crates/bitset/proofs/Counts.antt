-- The two counts of a word, over any width: its ones are how many members it has, and its trailing zeros lead to the lowest of them.
use Prim.Native.Nat.{ℕ, zero, suc, ◌+◌, ◌-◌, ◌*◌, ◌/◌, ◌%◌, ◌≤◌}
use mathlib.Core.Bool.{Bool, true, false, cond}
use mathlib.Core.List.{List, ◌∷◌, ◌++◌}
use mathlib.Core.Path.{◌≡◌, refl, ap, sym, ◌∙◌}
use native.Mathlib.Nat.{add-zero, zero-add, suc-add}
use native.Mathlib.Omega.{arith}
use lib.Count.{ones, ones_in, count_trailing_zeros, under, ones_step}
use lib.ListN.{length, length-append}
use Rattle.search.specs.Search.{from, below, keep, rising, first_or}
use Rattle.search.proofs.Members.{no-numbers, first-append}
use Rattle.search.proofs.Kept.{keep-cut}
use Rattle.search.proofs.Rising.{rising-cut}
use Rattle.bitset.specs.Bits.{bits}
use Rattle.bitset.proofs.Digits.{digit, digit-le}

-- ---- the lowest digit, and the number that the others make

pub low_digit : (v : Bool) (x : ℕ) → (digit v + 2 * x) % 2 ≡ digit v
low_digit v x = omega (arith, digit-le v)

pub high-digits : (v : Bool) (x : ℕ) → (digit v + 2 * x) / 2 ≡ x
high-digits v x = omega (arith, digit-le v)

-- ---- k digits of a test

ones-bits : (f : ℕ → Bool) (base k : ℕ) → ones (bits f base k) ≡ length (keep f (from base k))
unfolding bits from keep ones ones_in
ones-bits f base zero = refl
ones-bits f base (suc k) =
    let x = bits f (suc base) k in
    ones_step (digit (f base) + 2 * x)
    ∙ rw (low_digit (f base) x, high-digits (f base) x, ones-bits f (suc base) k) (cell (f base) (keep f (from (suc base) k)))
  where
    cell : (v : Bool) (us : List ℕ) → digit v + length us ≡ length (cond v (base ∷ us) us)
    cell true us = omega arith
    cell false us = omega arith

-- digits above the k, which are all 0, change nothing where one of the k is set
trailing-bits : (f : ℕ → Bool) (base k above d : ℕ) → (bits f base k ≡ 0 → ⊥)
    → first_or d (keep f (from base k)) ≡ base + count_trailing_zeros (k + above) (bits f base k)
unfolding bits from keep count_trailing_zeros
trailing-bits f base zero above d some = absurd (some refl)
trailing-bits f base (suc k) above d some =
    let x = bits f (suc base) k in
    rw (suc-add k above, low_digit (f base) x, high-digits (f base) x)
    (cell (f base) x (keep f (from (suc base) k)) (count_trailing_zeros (k + above) x) some (trailing-bits f (suc base) k above d))
  where
    cell : (v : Bool) (x : ℕ) (us : List ℕ) (t : ℕ) → (digit v + 2 * x ≡ 0 → ⊥) → ((x ≡ 0 → ⊥) → first_or d us ≡ suc base + t)
        → first_or d (cond v (base ∷ us) us) ≡ base + under (digit v) t
    cell true x us t some next = sym (add-zero base)
    cell false x us t some next = let e = next (λ z. some (omega arith)) in omega arith

-- ---- a word x has the digits of the k numbers from i to `next`

-- how many more there are below `next`
pub ones_below : (f : ℕ → Bool) (i k next x : ℕ) → i + k ≡ next → bits f i k ≡ x
    → length (keep f (below next)) ≡ length (keep f (below i)) + ones x
ones_below f i k next x here e =
    let cut = rw (here, zero-add i) at (keep-cut f 0 i k) in
    ap length cut ∙ length-append (keep f (below i)) (keep f (from i k))
    ∙ ap (λ (c : ℕ). length (keep f (below i)) + c) (sym (ones-bits f i k) ∙ ap ones e)

-- what a search over the words finds in it, and where it goes on
module _ (f : ℕ → Bool) (n i k next x : ℕ) (here : i + k ≡ next) (within : next ≤ n) (e : bits f i k ≡ x) where
  cut : rising f n i ≡ keep f (from i k) ++ rising f n next
  cut = rw here at (rising-cut f n i k (omega arith))

  pub zero-rising : x ≡ 0 → rising f n i ≡ rising f n next
  unfolding ones ones_in
  zero-rising z =
      let none : length (keep f (from i k)) ≡ 0 = sym (ones-bits f i k) ∙ ap ones (e ∙ z) in
      cut ∙ ap (λ (us : List ℕ). us ++ rising f n next) (no-numbers (keep f (from i k)) none)

  pub trailing-rising : (width d : ℕ) → k ≤ width → (x ≡ 0 → ⊥) → first_or d (rising f n i) ≡ i + count_trailing_zeros width x
  trailing-rising width d l some =
      let whole : k + (width - k) ≡ width = omega arith in
      ap (first_or d) cut ∙ first-append d (keep f (from i k)) (rising f n next)
      ∙ rw (whole, e) at (trailing-bits f i k (width - k) (first_or d (rising f n next)) (λ z. some (sym e ∙ z)))
