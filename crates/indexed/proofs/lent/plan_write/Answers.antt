-- `indexed::lent::plan_write` meets its contract: the planner's core by the words.
use Rattle.std.proofs.Common.{Bool, ◌&&◌, ltb, refl, arith}
use Rattle.image.specs.Soundness.{mapped}
use Rattle.steps.specs.declared.Request.TheVariants.{Write}
use Rattle.indexed.specs.Admitting.{shape_from}
use Rattle.indexed.proofs.Admitting.{admitted-chunk}
use Rattle.indexed.proofs.Answering.{maps-few, now-planned}
use Rattle.indexed.proofs.lent.plan_write.Goals as goal

pub free_in-requires : goal.free_in-requires
free_in-requires c = (admitted-chunk (shape_from c.args.h) _ _ _ _ c.in_ok-g.ensures).room

pub write_on-requires : goal.write_on-requires
write_on-requires c =
    let k = admitted-chunk (shape_from c.args.h) _ _ _ _ c.in_ok-g.ensures in
    record { limits = k.shaped.limits; maps_bound = rw c.free_in.ensures.maps (omega (arith, maps-few c.args.sets.now k.room)) }

pub returns : goal.returns
returns c =
    let a = c.args in
    let m : Bool = ltb a.chunk c.in_ok-g.g.c && mapped a.image.now a.chunk in
    let e = now-planned a.h a.sets.now a.image.now (Write a.chunk a.size) _ refl _ c.in_ok-g.ensures m refl a.out.now _ _
    (rw (c.free_in.ensures.units, c.free_in.ensures.maps) at (c.write_on.ensures m)) in
    record { value = e.0; out_after = e.1 }
