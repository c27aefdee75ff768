-- `image::Image::absent_from` meets its contract: the words from j on are still to be tested.
use mathlib.Core.Path.{◌≡◌}
use lib.ListN.{drop}
use lib.Dec.{eqb}
use Rattle.search.specs.Search.{all}
use Rattle.layout.specs.Layout.{X}
use Rattle.layout.specs.Shaped.{unit_words_of}
use Rattle.image.proofs.Image.absent_from.Given as goal

abbrev pub invariant-loop-j : goal.invariant-loop-j
invariant-loop-j l =
    let ws = unit_words_of l.self.bytes.now l.k in
    all (eqb X) (drop l.start ws) ≡ all (eqb X) (drop l.j ws)
