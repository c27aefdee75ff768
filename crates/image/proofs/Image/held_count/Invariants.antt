-- `image::Image::held_count` meets its contract: the units from word j on, and the j before it, are all.
use Rattle.image.specs.Claims.{held_in}
use Rattle.layout.specs.Shaped.{unit_words_of}
use Rattle.image.specs.Soundness.{leading}
use Rattle.layout.specs.Layout.{is_unit, shape_of}
use lib.ListN.{length, drop}
use mathlib.Core.Path.{◌≡◌}
use Prim.Native.Nat.{◌+◌}
use Rattle.image.proofs.Image.held_count.Given as goal

abbrev pub invariant-loop-j : goal.invariant-loop-j
invariant-loop-j l =
    let s = l.self.bytes.now in
    length (held_in s l.k) ≡ l.j + length (leading (is_unit (shape_of s)) (drop l.j (unit_words_of s l.k)))
