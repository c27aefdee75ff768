-- `bitset::count_words` meets its contract. The members in the words below i are counted.
use Prim.Native.Nat.{◌*◌, ◌≤◌}
use mathlib.Core.Path.{◌≡◌}
use lib.ListN.{length}
use Rattle.bitset.specs.Bits.{members_below}
use Rattle.bitset.proofs.count_words.Given as goal

abbrev pub invariant-loop-i : goal.invariant-loop-i
invariant-loop-i l = (l.i ≤ l.end) × (l.n ≤ 64 * l.i) × (l.n ≡ length (members_below l.set (64 * l.i)))
