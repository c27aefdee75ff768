use mathlib.Core.Path.{refl, ◌∙◌}
use native.Mathlib.Omega.{arith}
use lib.Seq.{get_or-set_other}
use borrow.Author.Rules.{rules}
use Rattle.search.proofs.Mapping.{store-more}
use Rattle.bitset.proofs.BitSets.{bit_set-intro}
use Rattle.bitset.proofs.Others.{not-word}
use Rattle.bitset.proofs.invert.Goals as goal

pub loop-at-init : goal.loop-at-init
loop-at-init c = (omega arith, refl, refl, λ k h. absurd (omega arith), λ k h. refl)

pub overflow_sub-set : goal.overflow_sub-set
overflow_sub-set c = omega (arith, c.slice_known-1.given c.loop-at.at)

pub loop-at-preserved : goal.loop-at-preserved
loop-at-preserved c =
    let l = c.loop-at in
    let same = l.invariant.4 l.at (omega arith) in
    let word = not-word c.args.set.now l.at (omega (arith, c.slice_known-1.given l.at)) in (
      omega arith,
      l.invariant.1,
      search rules,
      store-more l.set _ l.at _ (omega arith) l.invariant.3 (omega arith),
      (λ k h. get_or-set_other l.set l.at k _ 0 (omega arith) ∙ l.invariant.4 k (omega arith)),
    )

pub returns : goal.returns
returns c =
    let l = c.loop-at in bit_set-intro l.set _ _ l.invariant.2 (λ k h. l.invariant.3 k (omega arith))
