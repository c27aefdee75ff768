use Prim.Native.Nat.{ℕ, ◌<◌, ◌^◌}
use mathlib.Core.Path.{◌∙◌}
use native.Mathlib.Omega.{arith}
use lib.ListN.{get_or}
use lib.Seq.{get_or-set_other}
use borrow.Author.Rules.{rules}
use Rattle.search.proofs.Mapping.{store-more}
use Rattle.bitset.proofs.Others.{rest-word, rest-words}
use Rattle.bitset.proofs.clear_below.Goals as goal
use Rattle.bitset.proofs.clear_below.Goals.{After-slice_known-1}

-- every word has 64 bits
small : (c : After-slice_known-1) (k : ℕ) → get_or c.args.set.now k 0 < 2 ^ 64
small c k = omega (arith, c.type_inv.set k)

pub returns-then-low-i : goal.returns-then-low-i
returns-then-low-i c =
    let l = c.loop-i in
    rest-words c.args.set.now c.args.low (small (goal.at.returns-then-low-i c).After-slice_known-1) c.requires l.set l.i l.invariant.2 l.invariant.3 l.invariant.4
    (λ k a b. omega arith)

pub overflow_sub-set : goal.overflow_sub-set
overflow_sub-set c =
    let l = c.loop-i in
    let same = l.invariant.4 l.i (omega arith) in
    omega (arith, rest-word c.args.set.now c.args.low (small (goal.at.overflow_sub-set c).After-slice_known-1) c.requires l.i (omega arith))

pub loop-i-preserved : goal.loop-i-preserved
loop-i-preserved c =
    let l = c.loop-i in (
      search rules,
      search rules,
      search rules,
      store-more l.set _ l.i _ (omega arith) l.invariant.3 (omega (arith, l.invariant.4 l.i (omega arith))),
      (λ k a. get_or-set_other l.set l.i k _ 0 (omega arith) ∙ l.invariant.4 k (omega arith)),
    )

pub returns : goal.returns
returns c =
    let l = c.loop-i in
    rest-words c.args.set.now c.args.low (small (goal.at.returns c).After-slice_known-1) c.requires l.set l.i l.invariant.2 l.invariant.3 l.invariant.4
    (λ k a b. absurd (omega arith))
