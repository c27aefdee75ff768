-- The ones of a word, the lowest first, as a loop finds them that takes the lowest and clears it.
use Prim.Native.Nat.{ℕ, zero, suc, ◌+◌, ◌-◌, ◌*◌, ◌/◌, ◌%◌, ◌^◌, ◌<◌, min}
use mathlib.Core.Bool.{Bool, true, false, ◌&&◌, cond}
use mathlib.Core.List.{List, [], ◌∷◌}
use mathlib.Core.Path.{◌≡◌, refl, ap, sym, ◌∙◌}
use native.Mathlib.Omega.{arith}
use lib.Bits.{bit_and, and_step, and_self}
use lib.Count.{count_trailing_zeros}
use lib.Dec.{eqb}
use Rattle.search.specs.Search.{from, keep}
use Rattle.bitset.specs.Bits.{bits}
use Rattle.bitset.proofs.Digits.{digit, digit-test}
use Rattle.bitset.proofs.Counts.{low_digit, high-digits}

-- the places of the ones among the k lowest digits of x, the lowest digit's place being `base`
unfoldable pub ones_from : ℕ → ℕ → ℕ → List ℕ
ones_from base zero x = []
ones_from base (suc k) x = let r = ones_from (suc base) k (x / 2) in cond (eqb (x % 2) 1) (base ∷ r) r

-- those of the digits of a test are the numbers at which it holds
pub ones-kept : (f : ℕ → Bool) (base k : ℕ) → ones_from base k (bits f base k) ≡ keep f (from base k)
unfolding ones_from bits from keep
ones-kept f base zero = refl
ones-kept f base (suc k) =
    let x = bits f (suc base) k in
    rw (low_digit (f base) x, high-digits (f base) x, digit-test (f base), ones-kept f (suc base) k)

pub ones_none : (base k : ℕ) → ones_from base k 0 ≡ []
unfolding ones_from
ones_none base zero = refl
ones_none base (suc k) = ones_none (suc base) k

-- the digits of two tests in one
pub bits-and : (f g : ℕ → Bool) (base k : ℕ) → bit_and (bits f base k) (bits g base k) ≡ bits (λ u. f u && g u) base k
unfolding bits
bits-and f g base zero = refl
bits-and f g base (suc k) =
    let x = bits f (suc base) k in
    let y = bits g (suc base) k in
    and_step (digit (f base) + 2 * x) (digit (g base) + 2 * y)
    ∙ rw (low_digit (f base) x, high-digits (f base) x, low_digit (g base) y, high-digits (g base) y, bits-and f g (suc base) k)
    (cell (f base) (g base) (bits (λ u. f u && g u) (suc base) k))
  where
    cell : (a b : Bool) (z : ℕ) → z * 2 + min (digit a) (digit b) ≡ digit (a && b) + 2 * z
    cell true true z = omega arith
    cell true false z = omega arith
    cell false true z = omega arith
    cell false false z = omega arith

-- one less has the lowest one cleared, and ones below it
clear-odd : (x : ℕ) → x % 2 ≡ 1 → bit_and x (x - 1) ≡ x / 2 * 2
clear-odd x e =
    let half : (x - 1) / 2 ≡ x / 2 = omega arith in
    let low : (x - 1) % 2 ≡ 0 = omega arith in
    and_step x (x - 1) ∙ rw (half, low, e, and_self (x / 2)) (omega arith)

clear-even : (x : ℕ) → x % 2 ≡ 0 → (x ≡ 0 → ⊥) → bit_and x (x - 1) ≡ bit_and (x / 2) (x / 2 - 1) * 2
clear-even x e some =
    let half : (x - 1) / 2 ≡ x / 2 - 1 = omega (arith, some) in
    and_step x (x - 1) ∙ rw (half, e) (omega arith)

-- digit by digit
module _ (base k x : ℕ) where
  ones-zero : x % 2 ≡ 0 → ones_from base (suc k) x ≡ ones_from (suc base) k (x / 2)
  unfolding ones_from
  ones-zero e = rw e

  ones-one : x % 2 ≡ 1 → ones_from base (suc k) x ≡ base ∷ ones_from (suc base) k (x / 2)
  unfolding ones_from
  ones-one e = rw e

  ones-even : ones_from base (suc k) (x * 2) ≡ ones_from (suc base) k x
  unfolding ones_from
  ones-even =
      let low : x * 2 % 2 ≡ 0 = omega arith in
      let half : x * 2 / 2 ≡ x = omega arith in
      rw (low, half)

trailing-zero : (k x : ℕ) → x % 2 ≡ 0 → count_trailing_zeros (suc k) x ≡ suc (count_trailing_zeros k (x / 2))
unfolding count_trailing_zeros
trailing-zero k x e = rw e

trailing-one : (k x : ℕ) → x % 2 ≡ 1 → count_trailing_zeros (suc k) x ≡ 0
unfolding count_trailing_zeros
trailing-one k x e = rw e

-- the lowest one, and those that are left when it is cleared
pub ones-next : (base k x : ℕ) → x < 2 ^ k → (x ≡ 0 → ⊥) → ones_from base k x ≡ (base + count_trailing_zeros k x) ∷ ones_from base k (bit_and x (x - 1))
ones-next base zero x h some = absurd (some (omega arith))
ones-next base (suc k) x h some = at (x % 2) refl (omega arith) (ones-next (suc base) k (x / 2) (omega arith))
  where
    at : (d : ℕ) → x % 2 ≡ d → d < 2
        → ((x / 2 ≡ 0 → ⊥)
        → ones_from (suc base) k (x / 2) ≡ (suc base + count_trailing_zeros k (x / 2)) ∷ ones_from (suc base) k (bit_and (x / 2) (x / 2 - 1)))
        → ones_from base (suc k) x ≡ (base + count_trailing_zeros (suc k) x) ∷ ones_from base (suc k) (bit_and x (x - 1))
    at zero e l ih =
        let first : suc base + count_trailing_zeros k (x / 2) ≡ base + count_trailing_zeros (suc k) x = omega (arith, trailing-zero k x e) in
        let rest = ap (ones_from base (suc k)) (clear-even x e some) ∙ ones-even base k (bit_and (x / 2) (x / 2 - 1)) in
        ones-zero base k x e ∙ ih (λ z. some (omega arith)) ∙ (λ t. first t ∷ sym rest t)
    at (suc zero) e l ih =
        let first : base ≡ base + count_trailing_zeros (suc k) x = omega (arith, trailing-one k x e) in
        let rest = ap (ones_from base (suc k)) (clear-odd x e) ∙ ones-even base k (x / 2) in
        ones-one base k x e ∙ (λ t. first t ∷ sym rest t)
    at (suc (suc d)) e l ih = absurd (omega arith)
