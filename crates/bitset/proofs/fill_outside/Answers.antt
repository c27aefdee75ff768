use Prim.Native.Nat.{ℕ, ◌-◌}
use mathlib.Core.List.{List}
use mathlib.Core.Path.{refl, ap, ◌∙◌}
use native.Mathlib.Omega.{arith}
use lib.Seq.{get_or-set_other}
use lib.ListN.{length, get_or, length-replicate, get_or-replicate}
use borrow.Author.Rules.{rules}
use Rattle.search.proofs.Mapping.{store-more}
use Rattle.bitset.specs.Bits.{words_for}
use Rattle.bitset.proofs.Others.{low-among, outside-words}
use Rattle.bitset.proofs.fill_outside.Goals as goal

pub loop-at-init : goal.loop-at-init
loop-at-init c =
    let n = words_for c.args.high in
    let e = c.requires.set_value in (
      omega arith,
      refl,
      ap length e ∙ length-replicate {A = ℕ} n 0,
      (λ k h. absurd (omega arith)),
      (λ k h b. ap (λ (l : List ℕ). get_or l k 0) e ∙ get_or-replicate n k 0 0 b),
    )

pub loop-at-preserved : goal.loop-at-preserved
loop-at-preserved c =
    let l = c.loop-at in (
      omega arith,
      search rules,
      l.invariant.2,
      store-more l.set _ l.at _ (omega arith) l.invariant.3 c.word_below.ensures,
      (λ k h b. get_or-set_other l.set l.at k _ 0 (omega arith) ∙ l.invariant.4 k (omega arith) b),
    )

pub overflow_add-set : goal.overflow_add-set
overflow_add-set c =
    let l = c.loop-at in
    let e = l.invariant.1 ∙ l.invariant.2 in
    let among = low-among c.args.low c.args.high c.requires.low_lt_high l.set l.at e (omega arith) l.invariant.3 l.invariant.4 in
    omega (arith, c.word_below-2.ensures, among (length l.set - 1) (omega arith))

pub returns : goal.returns
returns c =
    let l = c.loop-at in
    outside-words c.args.low c.args.high c.requires.low_lt_high l.set l.at (l.invariant.1 ∙ l.invariant.2) (omega arith) l.invariant.3 l.invariant.4
    (length l.set - 1) _ (omega arith) c.word_below-2.ensures
