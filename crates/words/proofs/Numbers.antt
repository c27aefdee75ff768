-- Numbers in joined lists of bytes: reading inside the first, past it, and a number's own bytes.
use Prim.Native.Nat.{ℕ, zero, suc, ◌+◌, ◌*◌, ◌/◌, ◌%◌, ◌^◌, ◌≤◌, ◌<◌}
use native.Mathlib.Omega.{arith}
use mathlib.Core.Path.{◌≡◌, refl, sym, ap, ap₂, ◌∙◌}
use mathlib.Core.List.{List, ◌∷◌, ◌++◌}
use lib.ListN.{length, get_or, take, drop, take-append-drop, get_or-append}
use lib.Seq.{drop-cons, drop-drop}
use Rattle.words.specs.Words.{Bytes, number, digits}
use Rattle.words.proofs.Laws.{number-ext, number-skip, length_digits, number-back}

-- reading inside the first of two lists
pub number-first : (w : ℕ) (xs ys : List ℕ) (i : ℕ) → i + w ≤ length xs → number w (xs ++ ys) i ≡ number w xs i
number-first w xs ys i h = number-ext w (xs ++ ys) xs i i (λ k l. get_or-append xs ys 0 (i + k) (omega arith))

-- reading past a number's bytes
pub number-next : (w k v : ℕ) (ys : List ℕ) (i : ℕ) → number w (digits k v ++ ys) (k + i) ≡ number w ys i
number-next w k v ys i = number-skip w (digits k v) ys k i (length_digits k v)

-- a number that fits, at the head of a list
pub number-here : (w v : ℕ) (ys : List ℕ) → v < 256 ^ w → number w (digits w v ++ ys) 0 ≡ v
number-here w v ys h =
    number-first w (digits w v) ys 0 (omega (arith, length_digits w v)) ∙ number-back w v h

-- ---- and back: the number of some bytes has those bytes

pub digits_number : (w : ℕ) (s : List ℕ) (i : ℕ) → Bytes s → i + w ≤ length s → digits w (number w s i) ≡ take w (drop i s)
unfolding number digits
digits_number zero s i b h = refl
digits_number (suc w) s i b h =
    let x = get_or s i 0 in
    let r = number w s (i + 1) in
    let l = b i (omega arith) in
    let low : (x + 256 * r) % 256 ≡ x = omega arith in
    let high : (x + 256 * r) / 256 ≡ r = omega arith in
    let next : i + 1 ≡ suc i = omega arith in
    ap₂ (λ (a : ℕ) (t : List ℕ). a ∷ t) low (ap (digits w) high ∙ digits_number w s (i + 1) b (omega arith) ∙ ap (λ (k : ℕ). take w (drop k s)) next)
    ∙ sym (ap (take (suc w)) (drop-cons s i 0 (omega arith)))

-- a list from byte i on: a number's bytes, and what follows
pub drop-number : (w : ℕ) (s : List ℕ) (i : ℕ) → Bytes s → i + w ≤ length s → drop i s ≡ digits w (number w s i) ++ drop (i + w) s
drop-number w s i b h =
    sym (take-append-drop w (drop i s)) ∙ ap₂ (λ (x y : List ℕ). x ++ y) (sym (digits_number w s i b h)) (drop-drop w i s)
