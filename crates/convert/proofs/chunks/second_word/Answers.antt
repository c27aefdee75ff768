-- `convert::chunks::second_word` meets its contract: the size, a unit, or X.
use lib.ListN.{length}
use Prim.Native.Nat.{◌-◌, ◌<◌}
use Rattle.convert.proofs.Second.{word_size, word-unit, word-absent, held-few}
use Rattle.image.proofs.MapWords.{held_word}
use Rattle.image.specs.Claims.{held_in}
use native.Mathlib.Omega.{arith}
use mathlib.Core.Path.{◌∙◌}
use Rattle.convert.proofs.chunks.second_word.Goals as goal

pub overflow_mul-result : goal.overflow_mul-result
overflow_mul-result c = omega (arith, held-few c.args.image.now.bytes.now c.args.image.now.shape c.args.k c.args.image.now.shaped, c.requires.k_lt_m.1)

pub returns-then-j-eq0 : goal.returns-then-j-eq0
returns-then-j-eq0 c = word_size (held_in c.args.image.now.bytes.now c.args.k) c.args.count c.args.j c.requires.k_lt_m.1 c.if-j-eq0.true

pub unit_word-requires : goal.unit_word-requires
unit_word-requires c = let s = c.args.image.now.bytes.now in
    let l : c.args.j - 1 < length (held_in s c.args.k) = omega (arith, c.if-j-count.true, c.requires.k_lt_m.1) in record {
      k_lt_m = (c.requires.k_lt_m.0, (held_word s c.args.image.now.shape c.args.k (c.args.j - 1) c.args.image.now.shaped c.requires.k_lt_m.0 l).0);
    }

pub returns-then-j-count : goal.returns-then-j-count
returns-then-j-count c = let s = c.args.image.now.bytes.now in
    let us = held_in s c.args.k in
    let l : c.args.j - 1 < length us = omega (arith, c.if-j-count.true, c.requires.k_lt_m.1) in
    let w = held_word s c.args.image.now.shape c.args.k (c.args.j - 1) c.args.image.now.shaped c.requires.k_lt_m.0 l in
    word-unit us c.args.j c.if-j-eq0.false _ l (c.unit_word.ensures ∙ w.1)

pub returns : goal.returns
returns c = word-absent (held_in c.args.image.now.bytes.now c.args.k) c.args.j c.if-j-eq0.false (omega (arith, c.if-j-count.false, c.requires.k_lt_m.1))
