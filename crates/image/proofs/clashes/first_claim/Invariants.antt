-- `image::clashes::first_claim` meets its contract: what is left to search from chunk i on is the whole search.
use Prim.Native.Nat.{◌-◌}
use mathlib.Core.Path.{◌≡◌}
use Rattle.search.specs.Search.{lowest_from}
use Rattle.image.specs.Verdicts.{clash, first_claim}
use Rattle.image.proofs.clashes.first_claim.Given as goal

abbrev pub invariant-loop-i : goal.invariant-loop-i
invariant-loop-i l =
    let s = l.image.bytes.now in
    first_claim s l.j ≡ lowest_from (λ k. clash s k l.j) l.i (l.j - l.i)
