-- `indexed::lent::carry` meets its contract: `carry_on`.
use Rattle.indexed.specs.Admitting.{shape_from}
use Rattle.indexed.proofs.Admitting.{admitted-chunk}
use Rattle.indexed.proofs.Answering.{now-carried}
use Rattle.indexed.proofs.lent.carry.Goals as goal

pub carry_on-requires : goal.carry_on-requires
carry_on-requires c =
    let k = admitted-chunk (shape_from c.args.h) _ _ _ _ c.in_ok-g.ensures in
    record { on = k.on; set_words_in_bounds = k.room }

pub returns : goal.returns
returns c =
    let a = c.args in
    let e = c.carry_on.ensures in
    let x = now-carried a.h a.sets.now a.image.now a.request _ c.chunk_of.ensures _ c.in_ok-g.ensures a.plan.now a.n _ _ _
    (e.value, (e.image_after, e.sets_after)) in
    record { value = x.0; image_after = x.1.0; sets_after = x.1.1 }
