-- `layout::trailers::trailer_start` meets its contract: within the limits nothing wraps.
use Rattle.std.proofs.Common.{arith}
use Rattle.layout.proofs.Limits.{limits}
use Rattle.layout.proofs.trailers.trailer_start.Goals as goal

pub overflow_mul-result : goal.overflow_mul-result
overflow_mul-result c = omega (arith, limits c.args.g c.requires)

pub overflow_add-result : goal.overflow_add-result
overflow_add-result c = omega (arith, limits c.args.g c.requires)

pub returns : goal.returns
returns c = omega (arith, limits c.args.g c.requires)
