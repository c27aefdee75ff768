use Prim.Native.Nat.{◌+◌, ◌*◌, ◌≤◌}
use mathlib.Core.Path.{refl, ap, sym, ◌∙◌}
use native.Mathlib.Omega.{arith}
use lib.Count.{count_trailing_zeros, trailing_le}
use lib.ListN.{get_or}
use Rattle.search.specs.Search.{first_or}
use Rattle.search.proofs.Rising.{rising-end}
use Rattle.bitset.specs.Bits.{in_set, limit}
use Rattle.bitset.proofs.BitSets.{word-whole}
use Rattle.bitset.proofs.Counts.{zero-rising, trailing-rising}
use Rattle.bitset.proofs.next_in_words.Goals as goal
use Rattle.bitset.proofs.next_in_words.Goals.{Then-word-ne0}

pub loop-i-init : goal.loop-i-init
loop-i-init c = refl

pub overflow_mul-result : goal.overflow_mul-result
overflow_mul-result c = omega arith

-- no count of zeros is above the width
few : (c : Then-word-ne0) → count_trailing_zeros 64 (get_or c.args.set.now c.loop-i.i 0) ≤ 64
few c = trailing_le 64 _

pub overflow_cast-result : goal.overflow_cast-result
overflow_cast-result c = omega (arith, few (goal.at.overflow_cast-result c).Then-word-ne0)

pub overflow_add-result : goal.overflow_add-result
overflow_add-result c = omega (arith, few (goal.at.overflow_add-result c).Then-word-ne0)

pub returns-then-word-ne0 : goal.returns-then-word-ne0
returns-then-word-ne0 c =
    let set = c.args.set.now in
    let i = c.loop-i.i in
    let word = word-whole set i (omega (arith, c.type_inv.set i)) in
    sym (trailing-rising (in_set set) (limit set) (64 * i) 64 (64 * (i + 1)) (get_or set i 0) (omega arith) (omega arith) word 64 (limit set) (omega arith) c.if-word-ne0.true)
    ∙ c.loop-i.invariant

pub loop-i-preserved : goal.loop-i-preserved
loop-i-preserved c =
    let set = c.args.set.now in
    let i = c.loop-i.i in
    let word = word-whole set i (omega (arith, c.type_inv.set i)) in
    let none = zero-rising (in_set set) (limit set) (64 * i) 64 (64 * (i + 1)) (get_or set i 0) (omega arith) (omega arith) word c.if-word-ne0.false in
    sym (ap (first_or (limit set)) none) ∙ c.loop-i.invariant

pub overflow_mul-result-2 : goal.overflow_mul-result-2
overflow_mul-result-2 c = omega arith

pub returns : goal.returns
returns c =
    let set = c.args.set.now in
    sym (ap (first_or (limit set)) (rising-end (in_set set) (limit set) (64 * c.loop-i.i) (omega arith))) ∙ c.loop-i.invariant
