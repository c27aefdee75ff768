-- `image::clashes::share_unit` meets its contract: the units of h from i on are still to be looked up.
use mathlib.Core.Path.{◌≡◌}
use mathlib.Core.Bool.{not}
use lib.ListN.{drop}
use Rattle.search.specs.Search.{any, member, disjoint}
use Rattle.image.specs.Claims.{held_in}
use Rattle.image.proofs.clashes.share_unit.Given as goal

abbrev pub invariant-loop-i : goal.invariant-loop-i
invariant-loop-i l =
    let us = held_in l.image.bytes.now l.k in
    let vs = held_in l.image.bytes.now l.h in
    not (disjoint us vs) ≡ any (λ y. member y us) (drop l.i vs)
