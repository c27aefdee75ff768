-- `repair::claims::has_unit_in` meets its contract: the units from word j on are still to be looked up.
use Rattle.image.specs.Claims.{held_in}
use Rattle.bitset.specs.Bits.{in_set}
use Rattle.search.specs.Search.{any}
use lib.ListN.{drop}
use mathlib.Core.Path.{◌≡◌}
use Prim.Native.Nat.{◌≤◌}
use Rattle.repair.proofs.claims.has_unit_in.Given as goal

abbrev pub invariant-loop-j : goal.invariant-loop-j
invariant-loop-j l = (l.j ≤ l.count) × (any (in_set l.set) (held_in l.image.bytes.now l.k) ≡ any (in_set l.set) (drop l.j (held_in l.image.bytes.now l.k)))
