-- `loader::survey::rest_absent` meets its contract: P is at most 16, so two runs at both ends leave no word of the rest out.
use Prim.Native.Nat.{◌≤◌}
use native.Mathlib.Omega.{arith}
use Rattle.layout.specs.Layout.{X}
use Rattle.layout.specs.Shaped.{unit_words_of}
use Rattle.image.proofs.MapWords.{length-units_in}
use Rattle.image.proofs.Absent.{rest-of-four, rest-of-eight}
use borrow.Author.Rules.{rules}
use Rattle.loader.proofs.survey.rest_absent.Goals as goal

pub returns-then-rest-ge-TWO_RUNS : goal.returns-then-rest-ge-TWO_RUNS
returns-then-rest-ge-TWO_RUNS c =
    let m = c.args.image.now in
    let l = length-units_in m.bytes.now m.shape c.args.k m.shaped in
    let l0 : c.common_bits.result ≤ X = search rules in
    let l1 : c.common_bits-then-rest-ge-TWO_RUNS.result ≤ X = search rules in
    let l2 : c.common_bits-then-rest-ge-TWO_RUNS-2.result ≤ X = search rules in
    let l3 : c.common_bits-then-rest-ge-TWO_RUNS-3.result ≤ X = search rules in
    rest-of-eight (unit_words_of m.bytes.now c.args.k) c.args.start m.shape.p l _ _ _ _ l0 l1 l2 l3 (omega arith) (omega (arith, m.shaped.limits.p-high))
    c.common_bits.ensures c.common_bits-then-rest-ge-TWO_RUNS.ensures c.common_bits-then-rest-ge-TWO_RUNS-2.ensures c.common_bits-then-rest-ge-TWO_RUNS-3.ensures

pub returns-then-rest-ge-RUN : goal.returns-then-rest-ge-RUN
returns-then-rest-ge-RUN c =
    let m = c.args.image.now in
    let l = length-units_in m.bytes.now m.shape c.args.k m.shaped in
    let l0 : c.common_bits-then-rest-ge-RUN.result ≤ X = search rules in
    let l1 : c.common_bits-then-rest-ge-RUN-2.result ≤ X = search rules in
    rest-of-four (unit_words_of m.bytes.now c.args.k) c.args.start m.shape.p l _ _ l0 l1 (omega arith) (omega arith)
    c.common_bits-then-rest-ge-RUN.ensures c.common_bits-then-rest-ge-RUN-2.ensures
