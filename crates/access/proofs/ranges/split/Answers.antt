-- `access::ranges::split` meets its contract: the refusal of the image, or what `split_in` answers and leaves.
use mathlib.Core.Path.{refl}
use Rattle.std.proofs.lemmas.Result.{err_from_is_err_and}
use Rattle.image.proofs.Loads.{outcome-refused, outcome-known}
use Rattle.access.proofs.ranges.split.Goals as goal

pub split_in-requires : goal.split_in-requires
split_in-requires c = (outcome-known c.args.image.now _ c.in_ok-g.ensures _ refl).shaped.limits
