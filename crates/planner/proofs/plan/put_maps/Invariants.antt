-- `planner::plan::put_maps` meets its contract: the steps left to store from turn j on give all.
use Prim.Native.Nat.{◌+◌, ◌-◌}
use mathlib.Core.Path.{◌≡◌}
use mathlib.Core.List as list
use Rattle.search.specs.Search.{from, below}
use Rattle.steps.specs.Steps.{put_steps}
use Rattle.planner.specs.Planner.{map_step}
use Rattle.planner.proofs.plan.put_maps.Given as goal

abbrev pub invariant-loop-j : goal.invariant-loop-j
invariant-loop-j l =
    let f = l.filled in
    put_steps l.out (l.at + l.j) (list.map (map_step f.heads f.size f.map f.units.now) (from l.j (f.words - l.j)))
    ≡ put_steps l.initial.out l.at (list.map (map_step f.heads f.size f.map f.units.now) (below f.words))
