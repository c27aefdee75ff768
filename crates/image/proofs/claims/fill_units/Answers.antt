-- `image::claims::fill_units` meets its contract.
use Rattle.layout.specs.Layout.{is_unit}
use Rattle.image.proofs.claims.fill_units.Goals as goal

pub returns : goal.returns
unfolding is_unit
returns c = c.fill_between.ensures
