-- `bitset::remove` meets its contract. One word is stored, or none past the last word: both leave the set without u.
use Prim.Native.Nat.{◌/◌}
use native.Mathlib.Omega.{arith}
use lib.ListN.{get_or}
use Rattle.bitset.proofs.BitSets.{remove-past, remove-word}
use Rattle.bitset.proofs.Digits.{or-keeps}
use Rattle.bitset.proofs.remove.Goals as goal

pub returns-then-set-i : goal.returns-then-set-i
returns-then-set-i c = remove-past c.args.set.now c.args.u (λ i. omega (arith, c.type_inv.set i)) (omega arith)

pub overflow_sub-set : goal.overflow_sub-set
overflow_sub-set c = or-keeps (get_or c.args.set.now (c.args.u / 64) 0) c.bit-b.result

pub returns : goal.returns
returns c = rw c.bit-b.ensures (remove-word c.args.set.now c.args.u (λ i. omega (arith, c.slice_known-1.given i)) (omega arith))
