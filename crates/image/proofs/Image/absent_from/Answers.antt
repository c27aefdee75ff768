use mathlib.Core.Path.{◌∙◌, sym}
use native.Mathlib.Omega.{arith}
use lib.ListN.{get_or}
use lib.Dec.{eqb}
use borrow.Author.Tests.{eq-eqb, ne_eqb}
use Rattle.layout.specs.Layout.{X}
use Rattle.layout.specs.Shaped.{unit_words_of}
use Rattle.image.proofs.MapWords.{length-units_in}
use Rattle.search.proofs.Members.{all_more, all-stop, all_end}
use Rattle.image.proofs.Image.absent_from.Goals as goal

pub returns-then-unit_word : goal.returns-then-unit_word
returns-then-unit_word c =
    let i = c.args.self.now in
    let ws = unit_words_of i.bytes.now c.args.k in
    let j = c.loop-j.j in
    let w = c.unit_word.ensures in
    let l = length-units_in i.bytes.now i.shape c.args.k i.shaped in
    let other = ne_eqb X (get_or ws j 0) (λ e. c.if-unit_word.true (omega arith)) in
    sym (c.loop-j.invariant ∙ all-stop (eqb X) ws j (omega arith) other)

pub loop-j-preserved : goal.loop-j-preserved
loop-j-preserved c =
    let i = c.args.self.now in
    let ws = unit_words_of i.bytes.now c.args.k in
    let j = c.loop-j.j in
    let w = c.unit_word.ensures in
    let l = length-units_in i.bytes.now i.shape c.args.k i.shaped in
    let same = eq-eqb X (get_or ws j 0) (omega arith) in
    c.loop-j.invariant ∙ all_more (eqb X) ws j (omega arith) same

pub returns : goal.returns
returns c =
    let i = c.args.self.now in
    let l = length-units_in i.bytes.now i.shape c.args.k i.shaped in
    sym (c.loop-j.invariant ∙ all_end (eqb X) (unit_words_of i.bytes.now c.args.k) c.loop-j.j (omega arith))
