-- The digits of one word: below, at and above a place, one of them changed, all of them alike, and those of a number.
use Prim.Native.Nat.{ℕ, zero, suc, ◌+◌, ◌-◌, ◌*◌, ◌^◌, ◌/◌, ◌%◌, ◌<◌, ◌≤◌}
use mathlib.Core.Bool.{Bool, true, false, not, ◌&&◌, cond}
use mathlib.Core.Path.{◌≡◌, refl, ap, ◌∙◌}
use native.Mathlib.Nat.{zero-add, suc-add, add-zero, mul_assoc, pow-suc, pow-succ', add-mul-div_left, div-eq_of_lt, div-lt_iff_lt-mul}
use native.Mathlib.Numerals.{one-add}
use native.Mathlib.Omega.{arith}
use lib.Bits.{bit_or, or_block, or_step, or_zero_r, or_add_and, and_le_l}
use lib.Dec.{eqb, ltb, leb, lit<}
use lib.Pow.{pow_pos, shr-shr}
use mathlib.Core.Logic.{⊎_elim}
use borrow.Author.Tests.{lt-ltb, le-ltb, le-leb, lt-leb, ltb-true, ltb-false}
use Rattle.search.proofs.Bools.{either}
use Rattle.search.specs.Sets.{put}
use Rattle.bitset.specs.Bits.{bits}
use Rattle.search.proofs.Taken.{put_same, put_other}

-- ---- one digit

abbrev pub digit : Bool → ℕ
digit v = cond v 1 0

pub digit-le : (v : Bool) → digit v ≤ 1
digit-le true = omega arith
digit-le false = omega arith

pub digit-test : (v : Bool) → eqb (digit v) 1 ≡ v
digit-test true = refl
digit-test false = refl

digit-back : (d : ℕ) → d < 2 → digit (eqb d 1) ≡ d
digit-back zero h = refl
digit-back (suc zero) h = refl
digit-back (suc (suc d)) h = absurd (omega arith)

-- ---- the digits of a test

pub bits-lt : (f : ℕ → Bool) (base k : ℕ) → bits f base k < 2 ^ k
unfolding bits
bits-lt f base zero = lit< tt
bits-lt f base (suc k) = omega (arith, digit-le (f base), bits-lt f (suc base) k)

pub bits-ext : (f g : ℕ → Bool) (base k : ℕ) → ((y : ℕ) → base ≤ y → y < base + k → f y ≡ g y) → bits f base k ≡ bits g base k
unfolding bits
bits-ext f g base zero h = refl
bits-ext f g base (suc k) h =
    let e = h base (omega arith) (omega arith) in
    let ih = bits-ext f g (suc base) k (λ y a b. h y (omega arith) (omega arith)) in
    rw (e, ih)

-- the low j digits, and those above
bits-cut : (f : ℕ → Bool) (base j k : ℕ) → bits f base (j + k) ≡ bits f base j + 2 ^ j * bits f (base + j) k
unfolding bits
bits-cut f base zero k = rw (zero-add k, add-zero base) (omega arith)
bits-cut f base (suc j) k =
    let e : suc base + j ≡ base + suc j = omega arith in
    let ih = rw e at (bits-cut f (suc base) j k) in
    rw (suc-add j k, pow-succ' 2 j, mul_assoc 2 (2 ^ j) (bits f (base + suc j) k)) (omega (arith, ih))

-- the digits below b, digit b, and those above
bits_at : (f : ℕ → Bool) (base b k : ℕ) → bits f base (b + suc k) ≡ bits f base b + 2 ^ b * (digit (f (base + b)) + 2 * bits f (suc (base + b)) k)
unfolding bits
bits_at f base b k = bits-cut f base b (suc k)

pub bits-test : (f : ℕ → Bool) (base b k : ℕ) → bits f base (b + suc k) / 2 ^ b % 2 ≡ digit (f (base + b))
bits-test f base b k =
    let q = digit (f (base + b)) + 2 * bits f (suc (base + b)) k in
    let e : bits f base (b + suc k) / 2 ^ b ≡ q =
    rw (bits_at f base b k, add-mul-div_left (bits f base b) q (pow_pos b), div-eq_of_lt (bits-lt f base b)) (zero-add q) in
    rw e (omega (arith, digit-le (f (base + b))))

-- ---- digit b set, and cleared

bits_put : (f : ℕ → Bool) (base b k : ℕ) (v : Bool)
    → bits (put f (base + b) v) base (b + suc k) ≡ bits f base b + 2 ^ b * (digit v + 2 * bits f (suc (base + b)) k)
bits_put f base b k v =
    let g = put f (base + b) v in
    let low = bits-ext g f base b (λ y l h. put_other f (base + b) v y (omega arith)) in
    let high = bits-ext g f (suc (base + b)) k (λ y l h. put_other f (base + b) v y (omega arith)) in
    bits_at g base b k ∙ rw (low, high, put_same f (base + b) v)

or-digit : (b lo c h : ℕ) → lo < 2 ^ b → c ≤ 1 → bit_or (lo + 2 ^ b * (c + 2 * h)) (2 ^ b) ≡ lo + 2 ^ b * (1 + 2 * h)
or-digit b lo c h l d =
    let q = c + 2 * h in
    let e₁ : lo + 2 ^ b * q ≡ q * 2 ^ b + lo = omega arith in
    let e₂ : 2 ^ b ≡ 1 * 2 ^ b + 0 = omega arith in
    let s : bit_or q 1 ≡ 1 + 2 * h = or_step q 1 ∙ rw (or_zero_r (q / 2)) (omega arith) in
    rw e₁
    (ap (λ (x : ℕ). bit_or (q * 2 ^ b + lo) x) e₂ ∙ or_block b q 1 lo 0 l (pow_pos b) ∙ rw (or_zero_r lo, s) (omega arith))

pub bits-or : (f : ℕ → Bool) (base b k : ℕ) → bit_or (bits f base (b + suc k)) (2 ^ b) ≡ bits (put f (base + b) true) base (b + suc k)
bits-or f base b k =
    rw (bits_at f base b k, bits_put f base b k true)
    (or-digit b (bits f base b) (digit (f (base + b))) (bits f (suc (base + b)) k) (bits-lt f base b) (digit-le (f (base + b))))

pub bits_out : (f : ℕ → Bool) (base b k : ℕ)
    → bits (put f (base + b) true) base (b + suc k) ≡ bits (put f (base + b) false) base (b + suc k) + 2 ^ b
bits_out f base b k = rw (bits_put f base b k true, bits_put f base b k false) (omega arith)

-- a digit that has been set can be taken off
pub or-keeps : (w b : ℕ) → b ≤ bit_or w b
or-keeps w b = omega (arith, or_add_and w b, and_le_l w b)

-- ---- digits that are alike

pub bits_none : (f : ℕ → Bool) (base k : ℕ) → ((y : ℕ) → base ≤ y → y < base + k → f y ≡ false) → bits f base k ≡ 0
unfolding bits
bits_none f base zero h = refl
bits_none f base (suc k) h =
    rw (h base (omega arith) (omega arith), bits_none f (suc base) k (λ y a b. h y (omega arith) (omega arith)))

bits_full : (f : ℕ → Bool) (base k : ℕ) → ((y : ℕ) → base ≤ y → y < base + k → f y ≡ true) → bits f base k + 1 ≡ 2 ^ k
unfolding bits
bits_full f base zero h = refl
bits_full f base (suc k) h =
    rw (h base (omega arith) (omega arith)) (omega (arith, bits_full f (suc base) k (λ y a b. h y (omega arith) (omega arith))))

-- the numbers below n, of which a word has the lowest j
pub bits_below : (n base j k : ℕ) → n ≡ base + j → bits (λ u. ltb u n) base (j + k) + 1 ≡ 2 ^ j
bits_below n base j k e =
    let f : ℕ → Bool = λ u. ltb u n in
    let low = bits_full f base j (λ y a b. lt-ltb y n (omega arith)) in
    let high = bits_none f (base + j) k (λ y a b. le-ltb y n (omega arith)) in
    rw (bits-cut f base j k, high) (omega (arith, low))

-- word i of their set: full, filled in part, or empty
module _ (n i : ℕ) where
  pub word-full : i < n / 64 → bits (λ u. ltb u n) (64 * i) 64 + 1 ≡ 2 ^ 64
  word-full h = bits_full (λ u. ltb u n) (64 * i) 64 (λ y a b. lt-ltb y n (omega arith))

  pub word-partial : i ≡ n / 64 → bits (λ u. ltb u n) (64 * i) 64 + 1 ≡ 2 ^ (n % 64)
  word-partial e =
      let width : n % 64 + (64 - n % 64) ≡ 64 = omega arith in
      rw width at (bits_below n (64 * i) (n % 64) (64 - n % 64) (omega arith))

  pub word-empty : n / 64 < i → bits (λ u. ltb u n) (64 * i) 64 ≡ 0
  word-empty h = bits_none (λ u. ltb u n) (64 * i) 64 (λ y a b. le-ltb y n (omega arith))

-- ---- the digits of a test, taken apart into those of two

bits-sum : (f g whole : ℕ → Bool) (base k : ℕ) → ((y : ℕ) → y < base + k → digit (f y) + digit (g y) ≡ digit (whole y))
    → bits f base k + bits g base k ≡ bits whole base k
unfolding bits
bits-sum f g whole base zero h = refl
bits-sum f g whole base (suc k) h = omega (arith, h base (omega arith), bits-sum f g whole (suc base) k (λ y b. h y (omega arith)))

-- of all: those where it fails, and those where it holds
digit_not : (v : Bool) → digit (not v) + digit v ≡ 1
digit_not true = refl
digit_not false = refl

pub bits-not : (f : ℕ → Bool) (base k : ℕ) → bits (λ u. not (f u)) base k + bits f base k + 1 ≡ 2 ^ k
bits-not f base k = rw (bits-sum (λ u. not (f u)) f (λ u. true) base k (λ y b. digit_not (f y))) (bits_full (λ u. true) base k (λ y a b. refl))

-- of all numbers below `low` and some from it on: the latter, and the numbers below `low`
digit-from : (low y : ℕ) (v : Bool) → (y < low → v ≡ true) → digit (leb low y && v) + digit (ltb y low) ≡ digit v
digit-from low y v h =
    ⊎_elim
    (λ q. let l = ltb-true y low q in rw (q, lt-leb low y l, h l))
    (λ q. let l = ltb-false y low q in rw (q, le-leb low y l) (add-zero (digit v)))
    (either (ltb y low))

pub bits-from : (f : ℕ → Bool) (low base k : ℕ) → ((y : ℕ) → y < low → y < base + k → f y ≡ true)
    → bits (λ u. leb low u && f u) base k + bits (λ u. ltb u low) base k ≡ bits f base k
bits-from f low base k h = bits-sum _ _ _ base k (λ y b. digit-from low y (f y) (λ l. h y l b))

-- ---- a number of k digits is what its own digits say
pub bits-own : (f : ℕ → Bool) (base k x : ℕ) → x < 2 ^ k → ((j : ℕ) → j < k → f (base + j) ≡ eqb (x / 2 ^ j % 2) 1) → bits f base k ≡ x
unfolding bits
bits-own f base zero x l h = omega arith
bits-own f base (suc k) x l h =
    let half : x / 2 < 2 ^ k = (div-lt_iff_lt-mul {k = 2} {x = x} {y = 2 ^ k} (omega arith)).1 (rw pow-suc at l) in
    let one : x / 1 ≡ x = omega arith in
    let low : f base ≡ eqb (x % 2) 1 = rw one at (simp add-zero at (h 0 (omega arith))) in
    let high = bits-own f (suc base) k (x / 2) half λ j a.
    let place : suc base + j ≡ base + suc j = omega arith in
    rw (place, shr-shr x 1 j, one-add j) (h (suc j) (omega arith)) in
    rw (low, digit-back (x % 2) (omega arith), high) (omega arith)
