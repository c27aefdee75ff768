-- `bitset::lowest` meets its contract: the members below `end` are stored word by word, and in a word the lowest first.
use Prim.Native.Nat.{ℕ}
use mathlib.Core.List.{List}
use Rattle.bitset.proofs.Taking.{AtWord, InWord}
use Rattle.bitset.proofs.lowest.Given as goal

abbrev pub invariant-loop-rest : goal.invariant-loop-rest
invariant-loop-rest l = (begun : List ℕ) → AtWord l.set l.end begun l.initial.out l.initial.j l.i → InWord l.set l.end begun l.out l.j l.i l.rest

abbrev pub decreases-loop-rest : goal.decreases-loop-rest
decreases-loop-rest l = l.rest

abbrev pub invariant-loop-i : goal.invariant-loop-i
invariant-loop-i l = AtWord l.set l.end l.initial.out l.out l.j l.i
