use Rattle.image.proofs.Leading.{leading-more, leading-stop, leading_end}
use Rattle.image.proofs.MapWords.{unit-test, length-units_in}
use Rattle.layout.specs.Shaped.{unit_words_of}
use Rattle.layout.specs.Layout.{is_unit, shape_of}
use native.Mathlib.Omega.{arith}
use mathlib.Core.Path.{◌∙◌}
use Rattle.image.proofs.Image.held_count.Goals as goal

pub returns-then-not-is_unit : goal.returns-then-not-is_unit
returns-then-not-is_unit c =
    let i = c.args.self.now in
    let s = i.bytes.now in
    let k = c.args.k in
    let j = c.loop-j.j in
    let t = unit-test s i.shape k j _ _ i.shaped c.unit_word.ensures c.is_unit.ensures ∙ c.if-not-is_unit.true in
    let l = length-units_in s i.shape k i.shaped in
    omega (arith, leading-stop (is_unit (shape_of s)) (unit_words_of s k) j (omega arith) t)

pub loop-j-preserved : goal.loop-j-preserved
loop-j-preserved c =
    let i = c.args.self.now in
    let s = i.bytes.now in
    let k = c.args.k in
    let j = c.loop-j.j in
    let t = unit-test s i.shape k j _ _ i.shaped c.unit_word.ensures c.is_unit.ensures ∙ c.if-not-is_unit.false in
    let l = length-units_in s i.shape k i.shaped in
    omega (arith, leading-more (is_unit (shape_of s)) (unit_words_of s k) j (omega arith) t)

pub returns : goal.returns
returns c =
    let i = c.args.self.now in
    let s = i.bytes.now in
    let k = c.args.k in
    let l = length-units_in s i.shape k i.shaped in
    omega (arith, leading_end (is_unit (shape_of s)) (unit_words_of s k) c.loop-j.j (omega arith))
