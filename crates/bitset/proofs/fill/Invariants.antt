-- `bitset::fill` meets its contract. The words below i are those of the numbers below n: full ones, then the one filled in part, then empty ones.
use Prim.Native.Nat.{ℕ, ◌*◌, ◌≤◌, ◌<◌}
use mathlib.Core.Path.{◌≡◌}
use lib.ListN.{length, get_or}
use lib.Dec.{ltb}
use Rattle.bitset.specs.Bits.{bits}
use Rattle.bitset.proofs.fill.Given as goal

abbrev pub invariant-loop-i : goal.invariant-loop-i
invariant-loop-i l = (l.i ≤ l.full) × (l.full ≤ l.last) × (l.full ≤ length l.initial.set) × (l.full < length l.initial.set → l.full ≡ l.last)
    × (length l.set ≡ length l.initial.set)
    × ((k : ℕ) → k < l.i → get_or l.set k 0 ≡ bits (λ u. ltb u l.n) (64 * k) 64)

abbrev pub invariant-loop-i-2 : goal.invariant-loop-i-2
invariant-loop-i-2 l = (l.full < l.i) × (l.i-end ≡ length l.fn.set) × (length l.set ≡ length l.fn.set)
    × ((k : ℕ) → k < l.i → k < length l.fn.set → get_or l.set k 0 ≡ bits (λ u. ltb u l.n) (64 * k) 64)
