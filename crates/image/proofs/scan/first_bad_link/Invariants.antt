-- `image::scan::first_bad_link` meets its contract: what is left to search from chunk i on is the whole search.
use Prim.Native.Nat.{◌-◌}
use mathlib.Core.Path.{◌≡◌}
use mathlib.Core.Bool.{not}
use Rattle.search.specs.Search.{lowest_from}
use Rattle.image.specs.Verdicts.{good_link, bad_link}
use Rattle.image.proofs.scan.first_bad_link.Given as goal

abbrev pub invariant-loop-i : goal.invariant-loop-i
invariant-loop-i l =
    let s = l.image.bytes.now in
    bad_link s ≡ lowest_from (λ k. not (good_link s k)) l.i (l.c - l.i)
