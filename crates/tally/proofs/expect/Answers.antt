-- `tally::expect` meets its contract: one less than bit n is the word of the numbers below n, by `expected-is`.
use Rattle.tally.proofs.WordSets.{expected-is}
use native.Mathlib.Omega.{arith}
use Rattle.tally.proofs.expect.Goals as goal

pub returns : goal.returns
returns c = rw c.bit.ensures (expected-is c.args.n (omega arith))
