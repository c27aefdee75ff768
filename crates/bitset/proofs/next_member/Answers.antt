-- `bitset::next_member` meets its contract. The lowest member is in the word of `start`, or it is the lowest from the next word on.
use Prim.Native.Nat.{◌+◌, ◌*◌, ◌-◌, ◌/◌, ◌%◌, ◌^◌, ◌≤◌}
use mathlib.Core.Path.{ap, sym, ◌∙◌}
use native.Mathlib.Omega.{arith}
use lib.Count.{count_trailing_zeros, trailing_le}
use lib.ListN.{get_or}
use Rattle.search.specs.Search.{first_or}
use Rattle.search.proofs.Rising.{rising-end}
use Rattle.bitset.specs.Bits.{in_set, limit}
use Rattle.bitset.proofs.BitSets.{word-from}
use Rattle.bitset.proofs.Counts.{zero-rising, trailing-rising}
use Rattle.bitset.proofs.next_member.Goals as goal
use Rattle.bitset.proofs.next_member.Goals.{Then-rest-ne0}

pub returns-then-set-i : goal.returns-then-set-i
returns-then-set-i c =
    let set = c.args.set.now in
    sym (ap (first_or (limit set)) (rising-end (in_set set) (limit set) c.args.start (omega arith)))

-- no count of zeros is above the width
few : (c : Then-rest-ne0) → count_trailing_zeros 64 (get_or c.args.set.now (c.args.start / 64) 0 / 2 ^ (c.args.start % 64)) ≤ 64
few c = trailing_le 64 _

pub overflow_cast-result : goal.overflow_cast-result
overflow_cast-result c = omega (arith, few (goal.at.overflow_cast-result c).Then-rest-ne0)

pub overflow_add-result : goal.overflow_add-result
overflow_add-result c = omega (arith, few (goal.at.overflow_add-result c).Then-rest-ne0)

pub returns-then-rest-ne0 : goal.returns-then-rest-ne0
returns-then-rest-ne0 c =
    let set = c.args.set.now in
    let start = c.args.start in
    let word = word-from set start (omega (arith, c.type_inv.set (start / 64))) in
    sym (trailing-rising (in_set set) (limit set) start (64 - start % 64) (64 * (start / 64 + 1)) _ (omega arith) (omega arith) word 64 (limit set) (omega arith) c.if-rest-ne0.true)

pub returns : goal.returns
returns c =
    let set = c.args.set.now in
    let start = c.args.start in
    let word = word-from set start (omega (arith, c.type_inv.set (start / 64))) in
    let none = zero-rising (in_set set) (limit set) start (64 - start % 64) (64 * (start / 64 + 1)) _ (omega arith) (omega arith) word c.if-rest-ne0.false in
    c.next_in_words.ensures ∙ sym (ap (first_or (limit set)) none)
