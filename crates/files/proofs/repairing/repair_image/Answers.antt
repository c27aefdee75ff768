-- `files::repairing::repair_image` is safe: as many chunks as the repair answers are in the list.
use Rattle.std.proofs.Common.{sym, arith, length-take-le}
use Rattle.repair.proofs.Theorems.{answered}
use Rattle.files.proofs.repairing.repair_image.Goals as goal

pub slice_bounds-list-end : goal.slice_bounds-list-end
slice_bounds-list-end c =
    let a = answered _ _ _ (sym c.in_ok-n.ensures.value) in
    omega (arith, a.enough)

pub slice_bounds-keep_repaired-end : goal.slice_bounds-keep_repaired-end
slice_bounds-keep_repaired-end c =
    let a = answered _ _ _ (sym c.in_ok-n.ensures.value) in
    sym (length-take-le _ _ (omega (arith, a.enough)))
