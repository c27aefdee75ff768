use Prim.Native.Nat.{◌+◌, ◌*◌, ◌^◌, ◌<◌}
use mathlib.Core.Path.{◌≡◌}
use native.Mathlib.Omega.{arith}
use lib.ListN.{get_or}
use lib.Count.{ones-le}
use borrow.Author.Rules.{rules}
use Rattle.search.specs.Search.{from, keep}
use Rattle.bitset.specs.Bits.{in_set}
use Rattle.bitset.proofs.BitSets.{word-whole}
use Rattle.bitset.proofs.Counts.{ones_below}
use Rattle.bitset.proofs.count_words.Goals as goal
use Rattle.bitset.proofs.count_words.Goals.{After-shared_slice_known-1}

small : (c : After-shared_slice_known-1) → get_or c.args.set.now c.loop-i.i 0 < 2 ^ 64
small c = omega (arith, c.type_inv.set c.loop-i.i)

pub loop-i-init : goal.loop-i-init
unfolding keep from
loop-i-init c = search rules

pub overflow_cast-n : goal.overflow_cast-n
overflow_cast-n c = omega (arith, ones-le 64 _ (small (goal.at.overflow_cast-n c).After-shared_slice_known-1))

pub overflow_add-n : goal.overflow_add-n
overflow_add-n c = omega (arith, ones-le 64 _ (small (goal.at.overflow_add-n c).After-shared_slice_known-1))

pub loop-i-preserved : goal.loop-i-preserved
loop-i-preserved c =
    let set = c.args.set.now in
    let i = c.loop-i.i in
    let word = ones_below (in_set set) (64 * i) 64 (64 * (i + 1)) (get_or set i 0) (omega arith) (word-whole set i (small (goal.at.loop-i-preserved c).After-shared_slice_known-1)) in
    let few = ones-le 64 _ (small (goal.at.loop-i-preserved c).After-shared_slice_known-1) in (omega arith, omega arith, omega arith)

pub returns : goal.returns
returns c = let e : c.loop-i.i ≡ c.args.end = omega arith in rw e at c.loop-i.invariant.2
