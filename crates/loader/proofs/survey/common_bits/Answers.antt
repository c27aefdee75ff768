-- `loader::survey::common_bits` meets its contract: four words have all bits in common exactly where each is X.
use Prim.Native.Nat.{◌≤◌}
use Rattle.layout.specs.Layout.{X}
use Rattle.layout.specs.Shaped.{unit_words_of}
use Rattle.image.proofs.Absent.{four-words}
use Rattle.image.proofs.MapWords.{length-units_in}
use native.Mathlib.Omega.{arith}
use borrow.Author.Rules.{rules}
use Rattle.loader.proofs.survey.common_bits.Goals as goal

pub returns : goal.returns
returns c =
    let m = c.args.image.now in
    let w = length-units_in m.bytes.now m.shape c.args.k m.shaped in
    let l0 : c.unit_word.result ≤ X = search rules in
    let l1 : c.unit_word-2.result ≤ X = search rules in
    let l2 : c.unit_word-3.result ≤ X = search rules in
    let l3 : c.unit_word-4.result ≤ X = search rules in
    four-words (unit_words_of m.bytes.now c.args.k) c.args.j (omega arith) _ _ _ _ l0 l1 l2 l3
    c.unit_word.ensures c.unit_word-2.ensures c.unit_word-3.ensures c.unit_word-4.ensures
