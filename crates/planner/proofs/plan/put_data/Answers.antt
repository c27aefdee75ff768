-- Turn j stores its step, by `steps-turn`, and at the end none is left, by `steps-end`.
use native.Mathlib.Omega.{arith}
use mathlib.Core.Path.{sym, ◌∙◌}
use lib.ListN.{length}
use Rattle.planner.specs.Planner.{data_step, data_steps}
use Rattle.planner.proofs.Storing.{steps-turn, steps-end}
use Rattle.planner.proofs.plan.put_data.Goals as goal

pub loop-j-preserved : goal.loop-j-preserved
loop-j-preserved c =
    let a = c.args in
    let l = c.loop-j in
    let us = a.units.now in
    rw c.put_step.ensures (steps-turn (data_step us) l.out a.at (length us) l.j (omega arith) ∙ l.invariant)

pub returns : goal.returns
unfolding data_steps
returns c =
    let a = c.args in
    let l = c.loop-j in
    let us = a.units.now in
    sym (steps-end (data_step us) l.out a.at (length us) l.j (omega arith)) ∙ l.invariant
