-- `renewal::renew::renew` meets its contract: both parts of the words, and none past them.
use Rattle.renewal.proofs.Renewing.{renewed}
use lib.Seq.{length-take-le}
use native.Mathlib.Omega.{arith}
use mathlib.Core.Path.{sym}
use Rattle.renewal.proofs.renew.renew.Goals as goal

pub slice_bounds-renew_units-end-2 : goal.slice_bounds-renew_units-end-2
slice_bounds-renew_units-end-2 c =
    let l = c.requires.set_words_in_bounds in sym (length-take-le 72 c.args.sets.now (omega arith))

pub returns : goal.returns
returns c =
    renewed _ c.args.image.now.bytes.now _ _ _ _ c.requires.set_words_in_bounds c.renew_units.ensures c.renew_maps.ensures
