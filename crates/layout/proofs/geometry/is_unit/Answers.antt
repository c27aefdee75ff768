-- `layout::geometry::is_unit` meets its contract: one comparison, of what is left of the number less R.
use Rattle.std.proofs.Common.{arith}
use Rattle.layout.proofs.Limits.{wrapped-unit}
use Rattle.layout.proofs.geometry.is_unit.Goals as goal

pub returns : goal.returns
returns c =
    rw c.unit_count.ensures
    (wrapped-unit c.args.g c.args.u _ (omega (arith, c.ranges)) (omega (arith, c.ranges)) (omega (arith, c.ranges)) (omega (arith, c.ranges)))
