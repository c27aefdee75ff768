-- `layout::geometry::head` meets its contract: within the limits the edition is 1 or 2, so nothing wraps.
use Rattle.std.proofs.Common.{arith}
use Rattle.layout.proofs.geometry.head.Goals as goal

pub returns : goal.returns
returns c = omega (arith, c.requires.edition-high)
