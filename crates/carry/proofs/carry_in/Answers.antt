-- `carry::carry_in` meets its contract: 7 for the step count, then the checker's answer; only an accepted plan is carried out.
use Rattle.bitset.specs.Bits.{in_set}
use Rattle.layout.proofs.Place.{on-limits}
use Rattle.rules.specs.Rules.{known}
use Rattle.carry.proofs.AnswerLaws.{too_many, not_carried, all-carried, keeps-rule1}
use Rattle.std.proofs.lemmas.Result.{err_from_is_err_and}
use Rattle.carry.proofs.carry_in.Goals as goal

pub returns-then-count-n : goal.returns-then-count-n
returns-then-count-n c =
    let a = c.args in
    let kn = known a.g (in_set a.free.now.units.now) (in_set a.free.now.maps.now) a.mapped in record {
      value = (too_many kn a.image.now a.request a.plan.now a.n c.if-count-n.true).0;
      image_after = (too_many kn a.image.now a.request a.plan.now a.n c.if-count-n.true).1;
    }

pub judge-requires : goal.judge-requires
judge-requires c = on-limits c.requires.on

pub carry_steps-requires : goal.carry_steps-requires
carry_steps-requires c =
    let a = c.args in
    let kn = known a.g (in_set a.free.now.units.now) (in_set a.free.now.maps.now) a.mapped in
    let kept = keeps-rule1 kn a.image.now a.request a.plan.now a.n c.if-count-n.false in
    let one = kept c.judge.result c.judge.ensures c.in_ok-judge.was in record {
      on = c.requires.on;
      plan_value = (one, c.if-count-n.false);
    }

pub returns-in_err-judge : goal.returns-in_err-judge
returns-in_err-judge c =
    let a = c.args in
    let kn = known a.g (in_set a.free.now.units.now) (in_set a.free.now.maps.now) a.mapped in
    let left = not_carried kn a.image.now a.request a.plan.now a.n c.if-count-n.false in
    let p = err_from_is_err_and c.from_residual.result c.from_residual.ensures.1 in
    rw (p.1, p.2) (record {
      value = (left c.judge.result c.judge.ensures _ c.in_err-judge.was).0;
      image_after = (left c.judge.result c.judge.ensures _ c.in_err-judge.was).1;
    })

pub returns : goal.returns
returns c =
    let a = c.args in
    let kn = known a.g (in_set a.free.now.units.now) (in_set a.free.now.maps.now) a.mapped in
    let carried = all-carried kn a.image.now a.request a.plan.now a.n c.if-count-n.false in record {
      value = (carried c.judge.result c.judge.ensures c.in_ok-judge.was _ c.carry_steps.ensures).0;
      image_after = (carried c.judge.result c.judge.ensures c.in_ok-judge.was _ c.carry_steps.ensures).1;
    }
