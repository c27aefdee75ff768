-- `image::scan::first_bad_map` meets its contract: what is left to search from chunk i on is the whole search.
use Prim.Native.Nat.{◌-◌}
use mathlib.Core.Path.{◌≡◌}
use mathlib.Core.Bool.{not}
use Rattle.search.specs.Search.{lowest_from}
use Rattle.image.specs.Verdicts.{good_map, bad_map}
use Rattle.image.proofs.scan.first_bad_map.Given as goal

abbrev pub invariant-loop-i : goal.invariant-loop-i
invariant-loop-i l =
    let s = l.image.bytes.now in
    bad_map s ≡ lowest_from (λ k. not (good_map s k)) l.i (l.c - l.i)
