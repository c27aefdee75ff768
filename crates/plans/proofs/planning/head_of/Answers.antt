-- `plans::planning::head_of` is safe: the shape of a trailer that fits is within the limits.
use Rattle.std.proofs.Common.{sym}
use Rattle.layout.proofs.Limits.{fits_on, on-shaped}
use Rattle.plans.proofs.planning.head_of.Goals as goal

pub head-requires : goal.head-requires
head-requires c = (on-shaped _ _ (fits_on _ _ (sym c.in-Ok.ensures))).limits
