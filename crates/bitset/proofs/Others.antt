-- A set without the numbers below `low`, the numbers outside of a range, and the numbers that are not in a set, word by word.
use Prim.Native.Nat.{ℕ, ◌+◌, ◌-◌, ◌*◌, ◌/◌, ◌^◌, ◌<◌, ◌≤◌}
use mathlib.Core.Bool.{Bool, true, not, ◌&&◌}
use mathlib.Core.List.{List}
use mathlib.Core.Logic.{⊎_elim, by_cases}
use mathlib.Core.Path.{◌≡◌, ap, sym, ◌∙◌}
use native.Mathlib.Decide.{ℕ_discrete}
use native.Mathlib.Omega.{arith}
use lib.Dec.{leb, ltb}
use lib.ListN.{length, get_or, set, length-set}
use lib.Seq.{get_or-set_same, get_or-set_other}
use borrow.Author.Tests.{lt-ltb}
use Rattle.search.proofs.Bools.{less-or-not}
use Rattle.bitset.specs.Bits.{bits, bit_set, in_set, limit, words_for}
use Rattle.bitset.proofs.BitSets.{bit_set-intro, bit_set-ext, in-bit_set, length-bit_set, word-whole}
use Rattle.bitset.proofs.Digits.{bits-lt, bits-not, bits-from, word-full, word-empty}

-- ---- a set without the numbers below `low`

-- the numbers below `low`, all in the set as far as it has bits for them, are taken off
module _ (ws : List ℕ) (low : ℕ) (small : (i : ℕ) → get_or ws i 0 < 2 ^ 64)
    (all : (u : ℕ) → u < low → u < limit ws → in_set ws u ≡ true) where
  abbrev rest : ℕ → Bool
  rest u = leb low u && in_set ws u

  pub rest-word : (i : ℕ) → i < length ws → bits rest (64 * i) 64 + bits (λ u. ltb u low) (64 * i) 64 ≡ get_or ws i 0
  rest-word i h = bits-from (in_set ws) low (64 * i) 64 (λ y l b. all y l (omega arith)) ∙ word-whole ws i (small i)

  -- in the words below i, and the others have none of them
  pub rest-words : (after : List ℕ) (i : ℕ) → length after ≡ length ws
      → ((k : ℕ) → k < i → get_or after k 0 ≡ get_or ws k 0 - bits (λ u. ltb u low) (64 * k) 64)
      → ((k : ℕ) → i ≤ k → get_or after k 0 ≡ get_or ws k 0)
      → ((k : ℕ) → i ≤ k → k < length ws → low / 64 < k)
      → after ≡ bit_set rest (length ws)
  rest-words after i same done left past =
      bit_set-intro after rest (length ws) same (λ k b. ⊎_elim
      (λ h. omega (arith, done k h, rest-word k b))
      (λ h. omega (arith, left k h, rest-word k b, word-empty low k (past k h b)))
      (less-or-not k i))

-- what callers read off it, whose set is that of f
module _ (f : ℕ → Bool) (n low : ℕ) (ws : List ℕ) (e : ws ≡ bit_set f n) where
  pub rest_of : bit_set (λ u. leb low u && in_set ws u) (length ws) ≡ bit_set (λ u. leb low u && f u) n
  rest_of = rw (e, length-bit_set f n) (bit_set-ext _ _ n (λ y h. rw (in-bit_set f n y h)))

  pub all_of : ((u : ℕ) → u < low → f u ≡ true) → (u : ℕ) → u < low → u < limit ws → in_set ws u ≡ true
  all_of h u l b =
      let k : length ws ≡ n = ap length e ∙ length-bit_set f n in
      ap (λ (l : List ℕ). in_set l u) e ∙ in-bit_set f n u (omega arith) ∙ h u l

-- ---- the numbers below `low`, and those from `high` on

module _ (low high : ℕ) (h : low < high) where
  abbrev outside : ℕ → Bool
  outside u = not (leb low u && ltb u high)

  -- in word k: those below `high` are those of the range and those below `low`, and all are those below `high` and those from `high` on
  between-word : (k : ℕ) → bits (λ u. leb low u && ltb u high) (64 * k) 64 + bits (λ u. ltb u low) (64 * k) 64 ≡ bits (λ u. ltb u high) (64 * k) 64
  between-word k = bits-from (λ u. ltb u high) low (64 * k) 64 (λ y l b. lt-ltb y high (omega arith))

  outside-word : (k : ℕ) → bits outside (64 * k) 64 + bits (λ u. ltb u high) (64 * k) 64 + 1 ≡ 2 ^ 64 + bits (λ u. ltb u low) (64 * k) 64
  outside-word k = omega (arith, between-word k, bits-not (λ u. leb low u && ltb u high) (64 * k) 64)

  -- the words below i are those of the numbers below `low`: the others, which are 0, have none
  module _ (l : List ℕ) (i : ℕ) (e : length l ≡ words_for high) (past : low / 64 < i)
      (done : (k : ℕ) → k < i → get_or l k 0 ≡ bits (λ u. ltb u low) (64 * k) 64)
      (left : (k : ℕ) → i ≤ k → k < words_for high → get_or l k 0 ≡ 0) where
    low_word : (k : ℕ) → k < words_for high → get_or l k 0 ≡ bits (λ u. ltb u low) (64 * k) 64
    low_word k b = ⊎_elim (done k) (λ m. left k m b ∙ sym (word-empty low k (omega arith))) (less-or-not k i)

    pub low-among : (k : ℕ) → k < words_for high → get_or l k 0 ≤ bits (λ u. ltb u high) (64 * k) 64
    low-among k b = omega (arith, low_word k b, between-word k)

    -- the last word, which alone has numbers from `high` on, takes them
    pub outside-words : (last v : ℕ) → last + 1 ≡ words_for high → v ≡ bits (λ u. ltb u high) (64 * last) 64
        → set l last (get_or l last 0 + (2 ^ 64 - 1 - v)) ≡ bit_set outside (words_for high)
    outside-words last v q w =
        bit_set-intro _ outside (words_for high) (length-set l last _ ∙ e) (λ k b. by_cases (ℕ_discrete k last) (here k b) (there k b))
      where
        new : ℕ
        new = get_or l last 0 + (2 ^ 64 - 1 - v)

        here : (k : ℕ) → k < words_for high → k ≡ last → get_or (set l last new) k 0 ≡ bits outside (64 * k) 64
        here k b m =
            rw m
            (get_or-set_same l last new 0 (omega arith)
            ∙ omega (arith, low_word last (omega arith), outside-word last, bits-lt (λ u. ltb u high) (64 * last) 64))

        there : (k : ℕ) → k < words_for high → (k ≡ last → ⊥) → get_or (set l last new) k 0 ≡ bits outside (64 * k) 64
        there k b m = get_or-set_other l last k new 0 m ∙ omega (arith, low_word k b, outside-word k, word-full high k (omega (arith, m)))

-- ---- the numbers that are not in a set

-- word i of it, and those that the word does not have, are all
pub not-word : (ws : List ℕ) (i : ℕ) → get_or ws i 0 < 2 ^ 64 → bits (λ u. not (in_set ws u)) (64 * i) 64 + get_or ws i 0 + 1 ≡ 2 ^ 64
not-word ws i small = rw (word-whole ws i small) at (bits-not (in_set ws) (64 * i) 64)

-- what callers read off the promise of `invert`, whose set is that of f
pub inverted-set : (f : ℕ → Bool) (n : ℕ) → bit_set (λ u. not (in_set (bit_set f n) u)) (length (bit_set f n)) ≡ bit_set (λ u. not (f u)) n
inverted-set f n = rw (length-bit_set f n) (bit_set-ext _ _ n (λ y h. rw (in-bit_set f n y h)))
