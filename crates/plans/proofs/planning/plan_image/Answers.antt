-- `plans::planning::plan_image` is safe: the steps that the planner answers are in the room.
use Rattle.std.proofs.Common.{sym, arith, length-take-le}
use Rattle.planner.proofs.Theorems.{answered}
use Rattle.plans.specs.declared.TheConstants.{OWN_PLAN_ROOM}
use Rattle.plans.proofs.planning.plan_image.Goals as goal

pub slice_bounds-room-end : goal.slice_bounds-room-end
slice_bounds-room-end c =
    let a = answered c.args.image.now c.args.request OWN_PLAN_ROOM c.in_ok-n.n (sym c.in_ok-n.ensures.value) in
    omega (arith, a.fits)

pub slice_bounds-plan-end : goal.slice_bounds-plan-end
slice_bounds-plan-end c =
    let a = answered c.args.image.now c.args.request OWN_PLAN_ROOM c.in_ok-n.n (sym c.in_ok-n.ensures.value) in
    sym (length-take-le _ _ (omega (arith, a.fits)))
