-- `image::claims::first_double_claim` meets its contract.
use Prim.Native.Nat.{◌-◌}
use mathlib.Core.Path.{◌≡◌}
use Rattle.search.specs.Search.{lowest_from}
use Rattle.image.specs.Verdicts.{contested, double_claim}
use Rattle.bitset.specs.Bits.{bit_set}
use Rattle.image.specs.Loading.{unit_set_words, map_set_words}
use Rattle.image.specs.Claims.{unheld, unnamed}
use Rattle.image.proofs.claims.first_double_claim.Given as goal

abbrev pub invariant-loop-j : goal.invariant-loop-j
invariant-loop-j l =
    let s = l.image.bytes.now in
    (l.units ≡ bit_set (unheld s l.j) unit_set_words) × (l.maps ≡ bit_set (unnamed s l.j) map_set_words)
    × (double_claim s ≡ lowest_from (contested s) l.j (l.c - l.j))
