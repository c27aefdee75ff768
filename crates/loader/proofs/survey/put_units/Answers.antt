use Rattle.image.proofs.Surveying.{puts_none, puts-end, puts_one, puts-no}
use Rattle.image.proofs.MapWords.{length-units_in}
use native.Mathlib.Omega.{arith}
use mathlib.Core.Path.{◌≡◌, refl, ◌∙◌}
use Prim.Native.Nat.{◌+◌, ◌*◌, ◌-◌}
use Rattle.loader.proofs.survey.put_units.Goals as goal
use Rattle.loader.proofs.survey.put_units.Goals.{else-p-eq1-via-then-p-eq1+else-not-insert-3, else-p-eq1-via-else-p-eq1}

pub loop-i-init : goal.loop-i-init
loop-i-init c = puts_none _ _ _ _ c.requires.k_lt_m.1

pub returns-then-not-insert : goal.returns-then-not-insert
returns-then-not-insert c =
    let m = c.args.image.now in
    let l = c.loop-i in
    let t = puts-no m.bytes.now c.args.k _ _ (2 * l.i) l.units l.invariant m.shape m.shaped refl (omega arith) _ c.unit_word.ensures
    _ c.insert.ensures.value _ c.insert.ensures.set_after c.if-not-insert.true in record {
      value = t.0;
      by_index = t.1;
    }

pub returns-then-not-insert-2 : goal.returns-then-not-insert-2
returns-then-not-insert-2 c =
    let m = c.args.image.now in
    let l = c.loop-i in
    let one = puts_one m.bytes.now c.args.k _ _ (2 * l.i) l.units l.invariant m.shape m.shaped refl (omega arith) _ c.unit_word.ensures
    _ c.insert.ensures.value _ c.insert.ensures.set_after (2 * l.i + 1) refl c.if-not-insert.false in
    let t = puts-no m.bytes.now c.args.k _ _ (2 * l.i + 1) _ one m.shape m.shaped refl (omega arith) _ c.unit_word-in-loop-i.ensures
    _ c.insert-in-loop-i.ensures.value _ c.insert-in-loop-i.ensures.set_after c.if-not-insert-2.true in record {
      value = t.0;
      by_index = t.1;
    }

pub loop-i-preserved : goal.loop-i-preserved
loop-i-preserved c =
    let m = c.args.image.now in
    let l = c.loop-i in
    let one = puts_one m.bytes.now c.args.k _ _ (2 * l.i) l.units l.invariant m.shape m.shaped refl (omega arith) _ c.unit_word.ensures
    _ c.insert.ensures.value _ c.insert.ensures.set_after (2 * l.i + 1) refl c.if-not-insert.false in
    puts_one m.bytes.now c.args.k _ _ (2 * l.i + 1) _ one m.shape m.shaped refl (omega arith) _ c.unit_word-in-loop-i.ensures
    _ c.insert-in-loop-i.ensures.value _ c.insert-in-loop-i.ensures.set_after _ (omega arith) c.if-not-insert-2.false

pub returns-then-not-insert-3 : goal.returns-then-not-insert-3
returns-then-not-insert-3 c =
    let m = c.args.image.now in
    let l = c.loop-i in
    let last : m.shape.p - 1 ≡ 2 * l.i = omega arith in
    let t = puts-no m.bytes.now c.args.k _ _ (2 * l.i) l.units l.invariant m.shape m.shaped refl (omega arith) _ (c.unit_word-then-p-eq1.ensures ∙ rw last)
    _ c.insert-then-p-eq1.ensures.value _ c.insert-then-p-eq1.ensures.set_after c.if-not-insert-3.true in record {
      value = last ∙ t.0;
      by_index = t.1;
    }

pub returns : goal.returns
returns c =
    let m = c.args.image.now in
    let l = c.loop-i in
    let size = length-units_in m.bytes.now m.shape c.args.k m.shaped in
    elim c.else-p-eq1.branch [
      | else-p-eq1-via-then-p-eq1+else-not-insert-3 w ↦
          let last : m.shape.p - 1 ≡ 2 * l.i = omega arith in
          let one = puts_one m.bytes.now c.args.k _ _ (2 * l.i) l.units l.invariant m.shape m.shaped refl (omega arith) _ (w.unit_word-then-p-eq1.ensures ∙ rw last)
          _ w.insert-then-p-eq1.ensures.value _ w.insert-then-p-eq1.ensures.set_after m.shape.p (omega arith) w.if-not-insert-3.false in
          let t = puts-end m.bytes.now c.args.k _ _ m.shape.p _ one (omega arith) in record {
            value = t.0;
            by_index = λ f e. w.units-is ∙ t.1 f e;
          }
      | else-p-eq1-via-else-p-eq1 w ↦
          let t = puts-end m.bytes.now c.args.k _ _ (2 * l.i) l.units l.invariant (omega arith) in
          let whole : m.shape.p ≡ 2 * l.i = omega arith in record {
            value = whole ∙ t.0;
            by_index = λ f e. w.units-is ∙ t.1 f e;
          }
    ]
