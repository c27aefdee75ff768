-- `bitset::fill_outside` meets its contract. The words below `at` are those of the numbers below `low`, the others are empty; then the last word takes
-- the numbers from `high` on.
use Prim.Native.Nat.{ℕ, ◌+◌, ◌/◌, ◌≤◌, ◌<◌, ◌*◌}
use mathlib.Core.Path.{◌≡◌}
use lib.ListN.{length, get_or}
use lib.Dec.{ltb}
use Rattle.bitset.specs.Bits.{bits, words_for}
use Rattle.bitset.proofs.fill_outside.Given as goal

abbrev pub invariant-loop-at : goal.invariant-loop-at
invariant-loop-at l = (l.at ≤ l.low / 64 + 1) × (length l.set ≡ length l.initial.set) × (length l.initial.set ≡ words_for l.high)
    × ((k : ℕ) → k < l.at → get_or l.set k 0 ≡ bits (λ u. ltb u l.low) (64 * k) 64)
    × ((k : ℕ) → l.at ≤ k → k < words_for l.high → get_or l.set k 0 ≡ 0)
