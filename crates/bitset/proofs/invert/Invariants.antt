-- `bitset::invert` meets its contract. The words below `at` have the other numbers, the rest are as they were.
use Prim.Native.Nat.{ℕ, ◌≤◌, ◌<◌, ◌*◌}
use mathlib.Core.Path.{◌≡◌}
use mathlib.Core.Bool.{not}
use lib.ListN.{length, get_or}
use Rattle.bitset.specs.Bits.{bits, in_set}
use Rattle.bitset.proofs.invert.Given as goal

abbrev pub invariant-loop-at : goal.invariant-loop-at
invariant-loop-at l = (l.at ≤ l.at-end) × (l.at-end ≡ length l.initial.set) × (length l.set ≡ length l.initial.set)
    × ((k : ℕ) → k < l.at → get_or l.set k 0 ≡ bits (λ u. not (in_set l.initial.set u)) (64 * k) 64)
    × ((k : ℕ) → l.at ≤ k → get_or l.set k 0 ≡ get_or l.initial.set k 0)
