-- `repair::claims::claim_units` meets its contract: the first j units of the map are counted.
use Rattle.repair.specs.Claims.{Counted}
use Rattle.image.specs.Claims.{held_in}
use lib.ListN.{length, take}
use mathlib.Core.List.{List, ◌++◌}
use mathlib.Core.Path.{◌≡◌}
use Prim.Native.Nat.{ℕ, ◌≤◌}
use Rattle.repair.proofs.claims.claim_units.Given as goal

abbrev pub invariant-loop-j : goal.invariant-loop-j
invariant-loop-j l = (l.j ≤ l.count) × (length l.once ≡ length l.initial.once) × (length l.again ≡ length l.initial.again)
    × ((xs : List ℕ) → Counted xs l.initial.once l.initial.again → Counted (xs ++ take l.j (held_in l.image.bytes.now l.k)) l.once l.again)
