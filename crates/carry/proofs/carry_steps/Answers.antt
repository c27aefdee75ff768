use native.Mathlib.Omega.{arith}
use mathlib.Core.Path.{ap, sym, subst, ◌∙◌}
use Rattle.layout.specs.Shaped.{On}
use Rattle.layout.proofs.Limits.{on-shaped}
use Rattle.steps.specs.Steps.{decode_at}
use Rattle.rules.specs.Rules.{whole_in_range}
use Rattle.carry.specs.Carrying.{carry_decoded}
use Rattle.carry.proofs.CarryLaws.{on-decoded}
use Rattle.carry.proofs.Turns.{step_in, carry-start, carry-turn, carry-end}
use Rattle.carry.proofs.carry_steps.Goals as goal

pub loop-i-init : goal.loop-i-init
loop-i-init c = (omega arith, c.requires.on, carry-start c.args.image.now c.args.plan.now c.args.n)

pub step_at-requires : goal.step_at-requires
step_at-requires c = omega (arith, c.loop-i.invariant.0)

pub carry_decoded-requires : goal.carry_decoded-requires
carry_decoded-requires c =
    let l = c.loop-i in
    let step = step_in c.args.g c.args.plan.now c.requires.plan_value.0 l.i (omega arith) in record {
      on = l.invariant.1;
      d_value = ap (whole_in_range c.args.g) c.step_at.ensures ∙ step;
    }

pub loop-i-preserved : goal.loop-i-preserved
loop-i-preserved c =
    let l = c.loop-i in
    let plan = c.args.plan.now in
    let step = step_in c.args.g plan c.requires.plan_value.0 l.i (omega arith) in
    let after = c.carry_decoded.ensures ∙ ap (carry_decoded l.image) c.step_at.ensures in
    let turn = carry-turn l.image plan c.args.n c.args.g c.requires.plan_value.0 c.requires.plan_value.1 l.i (omega arith) in
    (omega arith, subst (On c.args.g) (sym after) (on-decoded c.args.g l.image l.invariant.1 (decode_at plan l.i) step), rw after (turn ∙ l.invariant.2))

pub shape_of-image : goal.shape_of-image
shape_of-image c =
    (on-shaped c.args.g _ c.loop-i.invariant.1).size ∙ sym (on-shaped c.args.g c.args.image.now c.requires.on).size

pub returns : goal.returns
returns c =
    let l = c.loop-i in
    sym (carry-end l.image c.args.plan.now c.args.n l.i (omega arith)) ∙ l.invariant.2
