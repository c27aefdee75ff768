-- `planner::plan::put_data` meets its contract: the steps left to store from turn j on give all.
use Prim.Native.Nat.{◌+◌, ◌-◌}
use mathlib.Core.List.{map}
use mathlib.Core.Path.{◌≡◌}
use lib.ListN.{length}
use Rattle.search.specs.Search.{from, below}
use Rattle.steps.specs.Steps.{put_steps}
use Rattle.planner.specs.Planner.{data_step}
use Rattle.planner.proofs.plan.put_data.Given as goal

abbrev pub invariant-loop-j : goal.invariant-loop-j
invariant-loop-j l =
    put_steps l.out (l.at + l.j) (map (data_step l.units) (from l.j (length l.units - l.j)))
    ≡ put_steps l.initial.out l.at (map (data_step l.units) (below (length l.units)))
