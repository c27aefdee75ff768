-- Little-endian numbers, over the width: read, written as bytes, and stored as their low a bytes and then their high b bytes.
use Prim.Native.Nat.{ℕ, zero, suc, ◌+◌, ◌*◌, ◌/◌, ◌%◌, ◌^◌, ◌≤◌, ◌<◌}
use mathlib.Core.Path.{◌≡◌, refl, sym, ap, ◌∙◌}
use mathlib.Core.List.{List, [], ◌∷◌, ◌++◌, append_assoc}
use native.Mathlib.Nat.{one-le-pow, zero-add, suc-add, add-zero, add-suc, pow-succ', pow-suc, div-one, div-div-eq-div-mul, mod-lt, mod-one, mod-eq_of_lt}
use native.Mathlib.Numerals.{add-one}
use native.Mathlib.Omega.{arith}
use lib.ListN.{length, get_or, take, drop, set}
use lib.Seq.{sets, sets-eq, length-sets, get_or-append-add, drop-drop}
use lib.Arith.{mod-mul, digits_div, digits_mod}
use lib.Dec.{lit<}
use borrow.Rule.Slice.PartMut.{put_mid}
use Rattle.words.specs.Words.{number, digits, store_at}

-- ---- read

-- the number depends only on its own bytes
pub number-ext : (w : ℕ) (s t : List ℕ) (i j : ℕ) → ((k : ℕ) → k < w → get_or s (i + k) 0 ≡ get_or t (j + k) 0) → number w s i ≡ number w t j
unfolding number
number-ext zero s t i j h = refl
number-ext (suc w) s t i j h =
    let e : get_or s i 0 ≡ get_or t j 0 =
    ap (λ (k : ℕ). get_or s k 0) (omega arith) ∙ h 0 (omega arith) ∙ ap (λ (k : ℕ). get_or t k 0) (omega arith) in
    let r : number w s (i + 1) ≡ number w t (j + 1) = number-ext w s t (i + 1) (j + 1) (λ k l.
    ap (λ (m : ℕ). get_or s m 0) (omega arith) ∙ h (suc k) (omega arith) ∙ ap (λ (m : ℕ). get_or t m 0) (omega arith)) in
    cc

pub number-split : (a b : ℕ) (s : List ℕ) (at : ℕ) → number (a + b) s at ≡ number a s at + 256 ^ a * number b s (at + a)
unfolding number
number-split zero b s at = rw (zero-add b, add-zero at) (omega arith)
number-split (suc a) b s at =
    rw (suc-add a b, add-suc at a, ← suc-add at a, ← add-one at, pow-succ' 256 a)
    (omega (arith, number-split a b s (at + 1)))

-- bytes that are all 255
pub number-ones : (w : ℕ) (s : List ℕ) (at : ℕ) → ((i : ℕ) → at ≤ i → i < at + w → get_or s i 0 ≡ 255) → number w s at + 1 ≡ 256 ^ w
unfolding number
number-ones zero s at ones = refl
number-ones (suc w) s at ones =
    rw (pow-succ' 256 w) (omega (arith, ones at (omega arith) (omega arith), number-ones w s (at + 1) (λ i l h. ones i (omega arith) (omega arith))))

-- a number that lies in the second of two lists
pub number-skip : (w : ℕ) (xs ys : List ℕ) (n i : ℕ) → length xs ≡ n → number w (xs ++ ys) (n + i) ≡ number w ys i
number-skip w xs ys n i e = number-ext w (xs ++ ys) ys (n + i) i (λ k h.
    ap (λ (m : ℕ). get_or (xs ++ ys) m 0) (omega arith) ∙ get_or-append-add xs ys (i + k) 0)

-- ---- the bytes of a number

pub length_digits : (w v : ℕ) → length (digits w v) ≡ w
unfolding digits
length_digits zero v = refl
length_digits (suc w) v = ap suc (length_digits w (v / 256))

pub digits-split : (a b v : ℕ) → digits (a + b) v ≡ digits a v ++ digits b (v / 256 ^ a)
unfolding digits
digits-split zero b v = rw (zero-add b, div-one v)
digits-split (suc a) b v =
    rw (suc-add a b, pow-succ' 256 a, ← div-div-eq-div-mul v 256 (256 ^ a)) (ap (λ (r : List ℕ). v % 256 ∷ r) (digits-split a b (v / 256)))

-- digits past the w lowest do not show
pub digits_low : (w v : ℕ) → digits w (v % 256 ^ w) ≡ digits w v
unfolding digits
digits_low zero v = refl
digits_low (suc w) v =
    let low : v % 256 < 256 = mod-lt v (lit< tt) in
    rw (pow-suc 256 w, mod-mul v {m = 256 ^ w} {c = 256} (one-le-pow w 256 (lit< tt)) (lit< tt), digits_div (v / 256 % 256 ^ w) low, digits_mod (v / 256 % 256 ^ w) low)
    (ap (λ (r : List ℕ). v % 256 ∷ r) (digits_low w (v / 256)))

-- a number's own bytes read back
pub number_digits : (w v : ℕ) → number w (digits w v) 0 ≡ v % 256 ^ w
unfolding number digits
number_digits zero v = sym (mod-one v)
number_digits (suc w) v =
    rw (pow-suc 256 w, mod-mul v {m = 256 ^ w} {c = 256} (one-le-pow w 256 (lit< tt)) (lit< tt))
    (omega (arith, number-skip w (v % 256 ∷ []) (digits w (v / 256)) 1 0 refl, number_digits w (v / 256)))

pub number-back : (w v : ℕ) → v < 256 ^ w → number w (digits w v) 0 ≡ v
number-back w v h = number_digits w v ∙ mod-eq_of_lt h

-- ---- stored

pub sets-append : (xs ys l : List ℕ) (i : ℕ) → sets l i (xs ++ ys) ≡ sets (sets l i xs) (i + length xs) ys
sets-append [] ys l i = rw (add-zero i)
sets-append (x ∷ xs) ys l i = rw (add-suc i (length xs), ← suc-add i (length xs)) (sets-append xs ys (set l i x) (suc i))

-- a run of stores at the front
pub sets-front : (l vs : List ℕ) → length vs ≤ length l → sets l 0 vs ≡ vs ++ drop (length vs) l
sets-front l vs h = rw zero-add at (sets-eq vs l 0 (rw zero-add h))

pub store_split : (a b : ℕ) (s : List ℕ) (at v : ℕ)
    → store_at (a + b) s at v ≡ store_at b (store_at a s at (v % 256 ^ a)) (at + a) (v / 256 ^ a)
store_split a b s at v =
    rw (digits_low a v, digits-split a b v) (sets-append (digits a v) (digits b (v / 256 ^ a)) s at ∙ rw (length_digits a v))

pub length-store : (w : ℕ) (s : List ℕ) (at v : ℕ) → length (store_at w s at v) ≡ length s
length-store w s at v = length-sets s at (digits w v)

-- a part that was written whole, with the bytes before and after it, is a run of stores
pub put_mid-sets : (a k : ℕ) (xs ys : List ℕ) → length ys ≡ k → a + k ≤ length xs → put_mid a k xs ys ≡ sets xs a ys
put_mid-sets a k xs ys e h =
    ap (λ (r : List ℕ). take a xs ++ (ys ++ r)) (drop-drop k a xs ∙ ap (λ (n : ℕ). drop (a + n) xs) (sym e))
    ∙ sym (append_assoc (take a xs) ys (drop (a + length ys) xs))
    ∙ sym (sets-eq ys xs a (omega arith))
