-- `convert::chunks::copy_map` meets its contract: the words left to store from turn j on give all.
use Prim.Native.Nat.{◌+◌, ◌-◌, ◌≤◌}
use Rattle.convert.specs.Convert.{second_word, put_words}
use Rattle.image.specs.Claims.{held_in}
use Rattle.search.specs.Search.{from, below}
use lib.ListN.{length}
use mathlib.Core.List.{map}
use mathlib.Core.Path.{◌≡◌}
use Rattle.convert.proofs.chunks.copy_map.Given as goal

abbrev pub invariant-loop-j : goal.invariant-loop-j
invariant-loop-j l = (l.j ≤ l.n) × (length l.out ≡ length l.initial.out)
    × (put_words l.out (l.at + l.j) (map (second_word (held_in l.image.bytes.now l.k)) (from l.j (l.n - l.j))) ≡ put_words l.initial.out l.at (map (second_word (held_in l.image.bytes.now l.k)) (below l.n)))
