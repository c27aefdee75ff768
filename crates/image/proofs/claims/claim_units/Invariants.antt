-- `image::claims::claim_units` meets its contract. The first j units of the map are out of the set, and the others are still to be taken.
use Prim.Native.Nat.{ℕ}
use mathlib.Core.Bool.{Bool, ◌&&◌}
use mathlib.Core.Path.{◌≡◌}
use lib.ListN.{take}
use Rattle.search.specs.Search.{all, distinct}
use Rattle.search.specs.Sets.{without}
use Rattle.bitset.specs.Bits.{bit_set}
use Rattle.image.specs.Claims.{held_in}
use Rattle.search.proofs.Taken.{rest}
use Rattle.image.specs.Loading.{unit_set_words}
use Rattle.image.proofs.claims.claim_units.Given as goal

abbrev pub invariant-loop-j : goal.invariant-loop-j
invariant-loop-j l =
    let us = held_in l.image.bytes.now l.k in
    (f : ℕ → Bool) → l.initial.units ≡ bit_set f unit_set_words
    → (l.units ≡ bit_set (without f (take l.j us)) unit_set_words) × ((all f us && distinct us) ≡ rest f us l.j)
