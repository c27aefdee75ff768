-- A word as a set of numbers below 64: the numbers below n, whether a number is in it, and one put in or ticked out.
use Prim.Native.Nat.{ℕ, zero, suc, ◌+◌, ◌-◌, ◌^◌, ◌/◌, ◌%◌, ◌<◌, ◌≤◌}
use mathlib.Core.Path.{◌≡◌, ap}
use mathlib.Core.Bool.{Bool, true, false}
use mathlib.Core.List.{List, [], ◌∷◌}
use native.Mathlib.Omega.{arith}
use lib.Bits.{bit_or}
use lib.ListN.{get_or}
use lib.Dec.{eqb}
use Rattle.search.specs.Search.{from}
use Rattle.search.specs.Sets.{put}
use Rattle.bitset.specs.Bits.{bit_set, in_set, inserted, removed}
use Rattle.bitset.proofs.Digits.{bits_below}
use Rattle.bitset.proofs.BitSets.{insert-word, remove-word}
use Rattle.tally.specs.Tallies.{in_word, word_of_set, expected}

pub expected-is : (n : ℕ) → n ≤ 63 → 2 ^ n - 1 ≡ expected n
unfolding expected
expected-is n few =
    let width : n + (64 - n) ≡ 64 = omega arith in
    let e = rw width at (bits_below n 0 n (64 - n) (omega arith)) in
    omega (arith, e)

module _ (w j : ℕ) (low : j < 64) where
  word : j / 64 ≡ 0
  word = omega arith

  bit : j % 64 ≡ j
  bit = omega arith

  pub in-word-is : eqb (w / 2 ^ j % 2) 1 ≡ in_word w j
  unfolding in_set
  in-word-is = rw (word, bit)

  module _ (fits : w < 2 ^ 64) where
    small : (i : ℕ) → get_or (w ∷ []) i 0 < 2 ^ 64
    small zero = fits
    small (suc i) = omega arith

    first : (l : List ℕ) (v : Bool) → l ≡ bit_set (put (in_word w) j v) 1 → get_or l 0 0 ≡ word_of_set (put (in_word w) j v)
    unfolding bit_set from
    first l v e = ap (λ (l : List ℕ). get_or l 0 0) e

    pub without_is : bit_or w (2 ^ j) - 2 ^ j ≡ word_of_set (put (in_word w) j false)
    unfolding removed
    without_is = first ((bit_or w (2 ^ j) - 2 ^ j) ∷ []) false (rw (word, bit) at (remove-word (w ∷ []) j small low))

    pub with-is : bit_or w (2 ^ j) ≡ word_of_set (put (in_word w) j true)
    unfolding inserted
    with-is = first (bit_or w (2 ^ j) ∷ []) true (rw (word, bit) at (insert-word (w ∷ []) j small low))
