-- `tally::without` meets its contract: bit j is set first and then taken off, so nothing wraps, by `without_is`.
use Rattle.tally.proofs.WordSets.{without_is}
use Rattle.bitset.proofs.Digits.{or-keeps}
use native.Mathlib.Omega.{arith}
use Rattle.tally.proofs.without.Goals as goal

pub overflow_sub-result : goal.overflow_sub-result
overflow_sub-result c = or-keeps c.args.left c.bit-b.result

pub returns : goal.returns
returns c = rw c.bit-b.ensures (without_is c.args.left c.args.j c.requires (omega arith))
