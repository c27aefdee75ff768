-- `loader::survey::survey_words` meets its contract: the sets hold what the chunks below i claim, and the laws of Surveyed settle the end.
use Rattle.image.specs.Survey.{claimed_by, passable, units_taken, maps_taken}
use Rattle.layout.specs.Layout.{max_chunk_units}
use Rattle.bitset.specs.Bits.{bit_set, words_for}
use Rattle.search.specs.Search.{below, joined}
use lib.ListN.{length}
use mathlib.Core.Path.{◌≡◌}
use mathlib.Core.Bool.{true}
use Prim.Native.Nat.{ℕ, ◌*◌, ◌≤◌, ◌<◌}
use Rattle.loader.proofs.survey.survey_words.Given as goal

abbrev pub invariant-loop-i : goal.invariant-loop-i
invariant-loop-i l =
    let s = l.image.bytes.now in
    let g = l.image.shape in
    (l.units ≡ bit_set (units_taken s l.i) (words_for g.n)) × (l.maps ≡ bit_set (maps_taken s l.i) (words_for g.m))
    × (l.claimed ≡ length (joined (claimed_by s) (below l.i))) × (l.claimed ≤ max_chunk_units * l.i) × ((y : ℕ) → y < l.i → passable s y ≡ true)
