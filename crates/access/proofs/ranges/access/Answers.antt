-- `access::ranges::access` meets its contract: the refusal of the image, or what `access_on` answers.
use mathlib.Core.Path.{refl}
use Rattle.std.proofs.lemmas.Result.{err_from_is_err_and}
use Rattle.image.proofs.Loads.{outcome-answer-refused, outcome-known}
use Rattle.access.proofs.ranges.access.Goals as goal

pub invariant_of-access_on : goal.invariant_of-access_on
invariant_of-access_on c = record { shaped = (outcome-known c.args.image.now _ c.in_ok-shape.ensures _ refl).shaped }
