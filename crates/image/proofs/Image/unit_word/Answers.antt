-- `image::Image::unit_word` meets its contract: the words that name units stand after the map's head, by `unit-word`.
use Rattle.image.proofs.MapWords.{unit-word}
use Rattle.layout.proofs.Limits.{map-words}
use Rattle.layout.specs.Shaped.{map_of}
use lib.ListN.{get_or}
use mathlib.Core.Path.{◌∙◌, ap}
use Prim.Native.Nat.{ℕ, ◌+◌}
use native.Mathlib.Omega.{arith}
use Rattle.image.proofs.Image.unit_word.Goals as goal

pub map_word-requires : goal.map_word-requires
map_word-requires c = record { k_lt_m = (c.requires.k_lt_m.0, omega (arith, map-words c.args.self.now.shape, c.head.ensures)) }

pub returns : goal.returns
returns c =
    let i = c.args.self.now in
    let s = i.bytes.now in
    let past = ap (λ (h : ℕ). get_or (map_of s c.args.k) (h + c.args.j) 0) c.head.ensures.0 in
    c.map_word.ensures ∙ past ∙ unit-word s i.shape c.args.k c.args.j i.shaped
