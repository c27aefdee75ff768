-- `tally::spoilt` meets its contract: bit 63 is put in, by `with-is`.
use Rattle.tally.proofs.WordSets.{with-is}
use native.Mathlib.Omega.{arith}
use Rattle.tally.proofs.spoilt.Goals as goal

pub returns : goal.returns
returns c = rw c.bit.ensures (with-is c.args.left 63 (omega arith) (omega arith))
