-- `image::clashes::holds` meets its contract: the words from i on are still to be compared.
use mathlib.Core.Path.{◌≡◌}
use lib.ListN.{drop}
use lib.Dec.{eqb}
use Rattle.search.specs.Search.{any, member}
use Rattle.image.specs.Claims.{held_in}
use Rattle.image.proofs.clashes.holds.Given as goal

abbrev pub invariant-loop-i : goal.invariant-loop-i
invariant-loop-i l =
    let us = held_in l.image.bytes.now l.k in
    member l.u us ≡ any (eqb l.u) (drop l.i us)
