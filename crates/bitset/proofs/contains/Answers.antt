-- `bitset::contains` meets its contract. The word is read where there is one; past the last word no number is in a set.
use mathlib.Core.Path.{refl, sym}
use native.Mathlib.Omega.{arith}
use Rattle.bitset.specs.Bits.{in_set}
use Rattle.bitset.proofs.BitSets.{in-past}
use Rattle.bitset.proofs.contains.Goals as goal

pub returns-then-set-i : goal.returns-then-set-i
returns-then-set-i c = sym (in-past c.args.set.now c.args.u (omega arith))

pub returns : goal.returns
unfolding in_set
returns c = refl
