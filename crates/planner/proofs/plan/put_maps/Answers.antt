-- Turn j stores its step, by `steps-turn`, and at the end none is left, by `steps-end`.
use native.Mathlib.Omega.{arith}
use mathlib.Core.Path.{sym, ◌∙◌}
use Rattle.planner.specs.Planner.{map_step, map_steps}
use Rattle.planner.proofs.Storing.{steps-turn, steps-end}
use Rattle.planner.proofs.plan.put_maps.Goals as goal

pub loop-j-preserved : goal.loop-j-preserved
loop-j-preserved c =
    let l = c.loop-j in
    let m = c.args.filled.now in
    let f = map_step m.heads m.size m.map m.units.now in
    rw (c.put_step.ensures, c.value.ensures) (steps-turn f l.out c.args.at m.words l.j (omega arith) ∙ l.invariant)

pub returns : goal.returns
unfolding map_steps
returns c =
    let l = c.loop-j in
    let m = c.args.filled.now in
    let f = map_step m.heads m.size m.map m.units.now in
    sym (steps-end f l.out c.args.at m.words l.j (omega arith)) ∙ l.invariant
