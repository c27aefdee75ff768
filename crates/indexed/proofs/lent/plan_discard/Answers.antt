-- `indexed::lent::plan_discard` meets its contract: the planner's core by the chunk's entry.
use Rattle.std.proofs.Common.{refl}
use Rattle.steps.specs.declared.Request.TheVariants.{Discard}
use Rattle.indexed.specs.Admitting.{shape_from}
use Rattle.indexed.proofs.Admitting.{admitted-chunk}
use Rattle.indexed.proofs.Answering.{now-planned}
use Rattle.indexed.proofs.lent.plan_discard.Goals as goal

pub invariant_of-is_mapped : goal.invariant_of-is_mapped
invariant_of-is_mapped c = record { shaped = (admitted-chunk (shape_from c.args.h) _ _ _ _ c.in_ok-g.ensures).shaped }

pub returns : goal.returns
returns c =
    let a = c.args in
    let e = now-planned a.h a.sets.now a.image.now (Discard a.chunk) _ refl _ c.in_ok-g.ensures _ c.is_mapped-mapped.ensures a.out.now
    _ _ (c.discard_on.ensures _ _) in
    record { value = e.0; out_after = e.1 }
