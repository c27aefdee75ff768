-- `indexed::lent::check` meets its contract: the checker's core by the words.
use Rattle.indexed.specs.Admitting.{shape_from}
use Rattle.indexed.proofs.Admitting.{admitted-chunk}
use Rattle.indexed.proofs.Answering.{now-checked}
use Rattle.indexed.proofs.lent.check.Goals as goal

pub invariant_of-is_mapped : goal.invariant_of-is_mapped
invariant_of-is_mapped c = record { shaped = (admitted-chunk (shape_from c.args.h) _ _ _ _ c.in_ok-g.ensures).shaped }

pub free_in-requires : goal.free_in-requires
free_in-requires c = (admitted-chunk (shape_from c.args.h) _ _ _ _ c.in_ok-g.ensures).room

pub judge-requires : goal.judge-requires
judge-requires c = (admitted-chunk (shape_from c.args.h) _ _ _ _ c.in_ok-g.ensures).shaped.limits

pub returns : goal.returns
returns c =
    let a = c.args in
    now-checked a.h a.sets.now a.image.now a.request _ c.chunk_of-chunk.ensures _ c.in_ok-g.ensures _ c.is_mapped-mapped.ensures a.plan.now
    _ (rw (c.free_in.ensures.units, c.free_in.ensures.maps) at c.judge.ensures)
