-- `indexed::sets::free_in` meets its contract: both sets have all their words.
use Rattle.std.proofs.Common.{sym, arith}
use lib.Seq.{length-take-le}
use Rattle.indexed.proofs.sets.free_in.Goals as goal

pub slice_bounds-result-end : goal.slice_bounds-result-end
slice_bounds-result-end c = sym (length-take-le 72 c.args.sets.now (omega arith))

pub invariant_of-result : goal.invariant_of-result
invariant_of-result c = record { units_bound = omega (arith, length-take-le 72 c.args.sets.now (omega arith)) }
