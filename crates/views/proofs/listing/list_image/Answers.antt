-- `views::listing::list_image` is safe: a sound image has the shape that load answers.
use Rattle.image.proofs.Loads.{into-known}
use Rattle.views.proofs.listing.list_image.Goals as goal

pub invariant_of-image : goal.invariant_of-image
invariant_of-image c = record { shaped = (into-known c.args.image.now _ _ _ c.load_into.ensures _ c.in_ok-shape.was).shaped }
