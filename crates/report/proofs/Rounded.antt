-- A division of two counts and a product with a count are rounded once: the count itself is exact as an f64. And how large such a quotient is.
use Prim.Native.Nat.{ℕ, suc, ◌+◌, ◌*◌, ◌^◌, ◌≤◌, ◌<◌}
use native.Mathlib.Nat.{mul_assoc, mul_comm, mul_left_comm, mul-one, mul-pos, lt_irrefl, le_trans, zero-mul, one-mul, eq_of_mul-eq-mul_right}
use native.Mathlib.Omega.{arith}
use mathlib.Core.Path.{◌≡◌, refl, sym, ap, ◌∙◌, subst}
use mathlib.Core.Bool.{Bool, true, false, true≢false}
use borrow.Author.Tests.{ne_eqb, le-ltb}
use lib.Dec.{T, lit<}
use lib.IntN.{pos}
use lib.Pow.{pow_pos}
use lib.Ieee.{Float, nan, inf, fin, Format, binary64, low, emax, unlike, up, down, round, div, mul, of_int, lt, le}
use lib.Ieee.Fits.{down_pos}
use lib.Ieee.Exact.{HasValue, round_exact}
use lib.Ieee.Back.{round_whole}
use lib.Ieee.Scale.{round_same}
use lib.Ieee.Order.{round_mono}
use lib.Ieee.Positive.{num, den, den_pos, positive, own_value, positive_of_value, mul_at}
use Rattle.report.specs.Reports.{zero64, ratio}
use Rattle.report.specs.Alarms.{one64, product}

-- a float that is above 0 has a significand
nonzero : (n b u w : ℕ) → 0 < b → 0 < w → n * u * 1 ≡ b * w → n ≡ 0 → ⊥
nonzero n b u w B W e z =
    let gone : b * w ≡ 0 = sym e ∙ ap (λ (x : ℕ). x * u * 1) z ∙ ap (λ (x : ℕ). x * 1) (zero-mul u) in
    lt_irrefl 0 (subst (λ (x : ℕ). 0 < x) gone (mul-pos B W))

crossed : (a b u w : ℕ) → a * u * w * b ≡ a * (b * w * u)
crossed a b u w = simp (mul_assoc, mul_comm, mul_left_comm)

-- the quotient of two floats that are whole numbers
div-whole : (f : Format) (x y : Float) (a b : ℕ) → 0 < b → HasValue x false a 1 → HasValue y false b 1 → div f x y ≡ round f false a b
unfolding div
div-whole f nan y a b B p q = absurd p
div-whole f (inf s) y a b B p q = absurd p
div-whole f (fin s m e) nan a b B p q = absurd q
div-whole f (fin s m e) (inf t) a b B p q = absurd q
div-whole f (fin true m e) (fin t n d) a b B p q = absurd (true≢false p.0)
div-whole f (fin false m e) (fin true n d) a b B p q = absurd (true≢false q.0)
div-whole f (fin false m e) (fin false n d) a b B p q =
    let pe : m * up e ≡ a * down e = sym (mul-one (m * up e)) ∙ p.1 in
    let qe : n * up d ≡ b * down d = sym (mul-one (n * up d)) ∙ q.1 in
    simp (ne_eqb n 0 (nonzero n b (up d) (down d) B (down_pos d) q.1))
    (round_same f false (m * up e * down d) (n * up d * down e) a b
    (subst (λ (x : ℕ). 0 < x * down e) (sym qe) (mul-pos (mul-pos B (down_pos d)) (down_pos e))) B
    (ap (λ (x : ℕ). x * down d * b) pe ∙ crossed a b (down e) (down d) ∙ ap (λ (x : ℕ). a * (x * down e)) (sym qe)))

-- a count up to 2^53 is exact as an f64
pub count-exact : (a : ℕ) → a ≤ 2 ^ 53 → HasValue (of_int binary64 (pos a)) false a 1
unfolding of_int
count-exact a h = round_whole binary64 false a h

-- the ratio is the f64 nearest to a / b
pub ratio-rounds : (a b : ℕ) → a ≤ 2 ^ 53 → 0 < b → b ≤ 2 ^ 53 → ratio a b ≡ round binary64 false a b
unfolding ratio
ratio-rounds a b ha B hb = div-whole binary64 (of_int binary64 (pos a)) (of_int binary64 (pos b)) a b B (count-exact a ha) (count-exact b hb)

-- a number from 0.0 to 1.0: not a NaN, not below 0, not above 1
abbrev pub Share : Float → Type 0
Share x = T (le zero64 x) × T (le x one64)

-- a count divided by one that is no smaller
pub ratio-share : (a b : ℕ) → a ≤ b → 0 < b → b ≤ 2 ^ 53 → Share (ratio a b)
unfolding round
ratio-share a b h B hb =
    rw (ratio-rounds a b (le_trans h hb) B hb)
    (round_mono binary64 0 1 a b (lit< tt) B (omega arith), round_mono binary64 a b 1 1 B (lit< tt) (omega arith))

-- 0 divided by a count is +0.0
pub ratio-none : (b : ℕ) → 0 < b → b ≤ 2 ^ 53 → ratio 0 b ≡ zero64
unfolding round
ratio-none b B hb = ratio-rounds 0 b (omega arith) B hb ∙ round_same binary64 false 0 b 0 1 B (lit< tt) (omega arith)

-- the product is the f64 nearest to x · n, for a finite x above 0, which is the fraction num x / den x
pub product-rounds : (x : Float) (n : ℕ) → T (positive x) → 0 < n → n ≤ 2 ^ 53 → product x n ≡ round binary64 false (num x * n) (den x)
product-rounds x n p N h =
    let y = of_int binary64 (pos n) in
    let e = count-exact n h in
    mul_at binary64 x y (num x) (den x) n 1 p (positive_of_value y n 1 e N) (den_pos x) (lit< tt) (own_value x p) e
    ∙ ap (λ (d : ℕ). round binary64 false (num x * n) d) (mul-one (den x))

-- ---- a fraction of 0.0 or -0.0

-- no float that is a count lies below a zero
not-below : (x z : Float) (s : Bool) (a c : ℕ) → 0 < c → HasValue x false a 1 → HasValue z s 0 c → lt x z ≡ false
unfolding lt
not-below nan z s a c C p q = absurd p
not-below (inf t) z s a c C p q = absurd p
not-below (fin t m e) nan s a c C p q = absurd q
not-below (fin t m e) (inf u) s a c C p q = absurd q
not-below (fin true m e) (fin u n d) s a c C p q = absurd (true≢false p.0)
not-below (fin false m e) (fin true n d) s a c C p q = refl
not-below (fin false m e) (fin false n d) s a c C p q =
    let none : n * up d ≡ 0 = eq_of_mul-eq-mul_right c C (n * up d) 0 (q.1 ∙ zero-mul (down d) ∙ sym (zero-mul c)) in
    rw (none, zero-mul) (le-ltb (m * up e * down d) 0 (omega arith))

round-zero : (s : Bool) (d : ℕ) → 0 < d → HasValue (round binary64 s 0 d) s 0 d
round-zero s d D = round_exact binary64 s 0 d 0 0 D (pow_pos 53) (pow_pos (low binary64 + suc (emax binary64))) (sym (zero-mul d))

-- and a product with a zero is a zero
pub zero-product : (x y : Float) (b : Bool) (a n : ℕ) → HasValue x false a 1 → HasValue y false n 1 → lt x (mul binary64 (fin b 0 (pos 0)) y) ≡ false
unfolding mul
zero-product x nan b a n p q = absurd q
zero-product x (inf t) b a n p q = absurd q
zero-product x (fin t m e) b a n p q =
    rw (zero-mul (m * up e), one-mul) (not-below x (round binary64 (unlike b t) 0 (down e)) (unlike b t) a (down e) (down_pos e) p (round-zero (unlike b t) (down e) (down_pos e)))
