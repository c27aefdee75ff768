-- `bitset::next_in_words` meets its contract. The lowest member from word i on is the lowest from the first word on.
use Prim.Native.Nat.{◌*◌}
use mathlib.Core.Path.{◌≡◌}
use Rattle.search.specs.Search.{first_or}
use Rattle.bitset.specs.Bits.{limit, members_from}
use Rattle.bitset.proofs.next_in_words.Given as goal

abbrev pub invariant-loop-i : goal.invariant-loop-i
invariant-loop-i l = first_or (limit l.set) (members_from l.set (64 * l.i)) ≡ first_or (limit l.set) (members_from l.set (64 * l.first))
