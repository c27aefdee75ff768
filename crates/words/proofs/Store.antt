-- Numbers stored in a list of bytes: a store is read back, and leaves everything outside it.
use Prim.Native.Nat.{ℕ, zero, suc, ◌+◌, ◌/◌, ◌%◌, ◌^◌, ◌<◌, ◌≤◌}
use mathlib.Core.Path.{◌≡◌, refl, sym, ◌∙◌}
use mathlib.Core.List.{List, [], ◌∷◌}
use native.Mathlib.Nat.{one-le-pow, pow-suc, mod-one, mod-eq_of_lt}
use native.Mathlib.Numerals.{add-one}
use native.Mathlib.Omega.{arith}
use lib.ListN.{length, get_or, set, drop, length-set}
use lib.Seq.{sets, get_or-set_same, get_or-set_other, drop-set-lt}
use lib.Arith.{mod-mul}
use lib.Dec.{lit<}
use Rattle.words.specs.Words.{number, digits, store_at}
use Rattle.words.proofs.Laws.{number-ext, length_digits}

-- j is none of the n places from i
abbrev pub Outside : ℕ → ℕ → ℕ → Type 0
Outside i n j = i ≤ j → j < i + n → ⊥

pub get_or-sets-outside : (vs l : List ℕ) (i j : ℕ) → Outside i (length vs) j → get_or (sets l i vs) j 0 ≡ get_or l j 0
get_or-sets-outside [] l i j h = refl
get_or-sets-outside (a ∷ vs) l i j h =
    get_or-sets-outside vs (set l i a) (suc i) j (λ p q. h (omega arith) (omega arith))
    ∙ get_or-set_other l i j a 0 (λ e. h (omega arith) (omega arith))

-- a store leaves the numbers that it does not overlap
pub number-store-apart :
    (w n : ℕ) (s : List ℕ) (at from v : ℕ) → ((i : ℕ) → from ≤ i → i < from + n → Outside at w i) → number n (store_at w s at v) from ≡ number n s from
number-store-apart w n s at from v h =
    number-ext n (store_at w s at v) s from from
    (λ k l. get_or-sets-outside (digits w v) s at (from + k) (λ a b. h (from + k) (omega arith) (omega arith) a (omega (arith, length_digits w v))))

number-stored : (w : ℕ) (s : List ℕ) (at v : ℕ) → at + w ≤ length s → number w (store_at w s at v) at ≡ v % 256 ^ w
unfolding number digits
number-stored zero s at v h = sym (mod-one v)
number-stored (suc w) s at v h =
    let rest : List ℕ = digits w (v / 256) in
    let low : get_or (sets (set s at (v % 256)) (suc at) rest) at 0 ≡ v % 256 =
    get_or-sets-outside rest (set s at (v % 256)) (suc at) at (λ a b. omega arith) ∙ get_or-set_same s at (v % 256) 0 (omega arith) in
    let high : number w (sets (set s at (v % 256)) (suc at) rest) (at + 1) ≡ v / 256 % 256 ^ w =
    rw (add-one at) (number-stored w (set s at (v % 256)) (suc at) (v / 256) (rw length-set (omega arith))) in
    rw (pow-suc 256 w, mod-mul v {m = 256 ^ w} {c = 256} (one-le-pow w 256 (lit< tt)) (lit< tt)) (omega (arith, low, high))

-- a stored number is read back
pub number-store-same : (w : ℕ) (s : List ℕ) (at v : ℕ) → at + w ≤ length s → v < 256 ^ w → number w (store_at w s at v) at ≡ v
number-store-same w s at v h b = number-stored w s at v h ∙ mod-eq_of_lt b

-- what stands past a store stays
drop-sets : (vs l : List ℕ) (i n : ℕ) → i + length vs ≤ n → drop n (sets l i vs) ≡ drop n l
drop-sets [] l i n h = refl
drop-sets (a ∷ vs) l i n h = drop-sets vs (set l i a) (suc i) n (omega arith) ∙ drop-set-lt n l i a (omega arith)

pub drop-store : (w : ℕ) (s : List ℕ) (at v n : ℕ) → at + w ≤ n → drop n (store_at w s at v) ≡ drop n s
drop-store w s at v n h = drop-sets (digits w v) s at n (omega (arith, length_digits w v))
