use Prim.Native.Nat.{◌+◌, ◌%◌, ◌<◌}
use mathlib.Core.Path.{refl, ap, ◌∙◌}
use native.Mathlib.Omega.{arith}
use lib.Pow.{pow_pos}
use lib.ListN.{length, length-set}
use borrow.Author.Rules.{rules}
use Rattle.search.proofs.Mapping.{store-more}
use Rattle.bitset.proofs.BitSets.{bit_set-intro}
use Rattle.bitset.proofs.Digits.{word-full, word-partial, word-empty}
use Rattle.bitset.proofs.fill.Goals as goal
use Rattle.bitset.proofs.fill.Goals.{then-full-set, else-full-set}

pub loop-i-init : goal.loop-i-init
loop-i-init c =
    let m = c.min-full.ensures in
    (omega arith, omega (arith, m), omega (arith, m), (λ h. omega (arith, m)), refl, λ k h. absurd (omega arith))

pub loop-i-preserved : goal.loop-i-preserved
loop-i-preserved c =
    let l = c.loop-i in
    let word = word-full c.args.n l.i (omega (arith, l.invariant.1)) in
    (omega arith, l.invariant.1, l.invariant.2, l.invariant.3, search rules, store-more l.set _ l.i _ (omega arith) l.invariant.5 (omega arith))

pub overflow_sub-set : goal.overflow_sub-set
overflow_sub-set c = rw c.bit.ensures (pow_pos (c.args.n % 64))

-- the words up to the one that is filled in part
pub loop-i-2-init : goal.loop-i-2-init
loop-i-2-init c =
    let l = c.loop-i in
    let n = c.args.n in
    let full = c.min-full.result in
    elim c.if-full-set.branch [
      | then-full-set w ↦
          let last = l.invariant.3 (omega (arith, w.if-full-set.true)) in
          let word = word-partial n full last in
          let stored = store-more l.set _ full _ (omega (arith, w.if-full-set.true)) (λ j a. l.invariant.5 j (omega arith)) (omega (arith, w.bit.ensures, word)) in
          let e = ap length w.set-is ∙ length-set l.set full _ ∙ l.invariant.4 in
          (omega arith, e, e, λ k h b. let i : k < full + 1 = h in rw w.set-is (stored k i))
      | else-full-set w ↦
          let e = ap length w.set-is ∙ l.invariant.4 in
          (omega arith, e, e, λ k h b. let i : k < l.i = omega (arith, w.if-full-set.false, e, b) in rw w.set-is (l.invariant.5 k i))
    ]

pub loop-i-2-preserved : goal.loop-i-2-preserved
loop-i-2-preserved c =
    let l = c.loop-i-2 in
    let last = c.loop-i.invariant.3 (omega (arith, l.invariant.1, l.invariant.2)) in
    let word = word-empty c.args.n l.i (omega arith) in (
      omega arith,
      l.invariant.1,
      search rules,
      (λ k h b. store-more l.set _ l.i _ (omega arith) (λ j a. l.invariant.3 j a (omega arith)) (omega arith) k h),
    )

pub returns : goal.returns
returns c =
    let l = c.loop-i-2 in
    bit_set-intro l.set _ _ l.invariant.2 (λ k h. l.invariant.3 k (omega arith) h)
