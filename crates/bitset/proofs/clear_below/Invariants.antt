-- `bitset::clear_below` meets its contract. The words below i have lost the numbers below `low`, and past the word of `low` there are none of them.
use Prim.Native.Nat.{ℕ, ◌≤◌, ◌<◌, ◌*◌, ◌-◌}
use mathlib.Core.Path.{◌≡◌}
use lib.Dec.{ltb}
use lib.ListN.{length, get_or}
use Rattle.bitset.specs.Bits.{bits}
use Rattle.bitset.proofs.clear_below.Given as goal

abbrev pub invariant-loop-i : goal.invariant-loop-i
invariant-loop-i l = (l.i ≤ l.i-end) × (l.i-end ≡ length l.initial.set) × (length l.set ≡ length l.initial.set)
    × ((k : ℕ) → k < l.i → get_or l.set k 0 ≡ get_or l.initial.set k 0 - bits (λ u. ltb u l.low) (64 * k) 64)
    × ((k : ℕ) → l.i ≤ k → get_or l.set k 0 ≡ get_or l.initial.set k 0)
