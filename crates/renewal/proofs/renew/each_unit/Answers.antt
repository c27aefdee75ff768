use Rattle.std.proofs.Common.{refl, arith}
use Rattle.renewal.proofs.Renewing.{walked_none, walked_start, walked_stop, walked_more, walked_end}
use Rattle.renewal.proofs.renew.each_unit.Goals as goal

pub returns-then-image-k : goal.returns-then-image-k
returns-then-image-k g c = walked_none _ _ _ c.args.image.now.shaped _ _ c.if-image-k.true

pub loop-j-init : goal.loop-j-init
loop-j-init g c = (c.if-image-k.false, walked_start _ _ _ c.args.image.now.shaped _ _ c.if-image-k.false)

pub returns-then-not-is_unit : goal.returns-then-not-is_unit
returns-then-not-is_unit g c =
    walked_stop _ _ _ c.args.image.now.shaped _ _ _ _ c.loop-j.invariant.1 (omega arith) _ c.unit_word-u.ensures _ c.is_unit.ensures c.if-not-is_unit.true

pub loop-j-preserved : goal.loop-j-preserved
loop-j-preserved g c = (
  c.loop-j.invariant.0,
  walked_more _ _ _ c.args.image.now.shaped _ _ _ _ c.loop-j.invariant.1 (omega arith) _ c.unit_word-u.ensures _ c.is_unit.ensures
      c.if-not-is_unit.false _ (_, _, refl, refl, c.change.ensures),
)

pub returns : goal.returns
returns g c = walked_end _ _ _ c.args.image.now.shaped _ _ _ _ c.loop-j.invariant.1 (omega arith)
