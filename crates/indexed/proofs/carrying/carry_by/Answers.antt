-- `indexed::carrying::carry_by` meets its contract: `carry_in` by the two parts of the words.
use Rattle.layout.proofs.Limits.{on-shaped}
use Rattle.indexed.proofs.Following.{carries-by}
use Rattle.indexed.proofs.carrying.carry_by.Goals as goal

pub invariant_of-is_mapped : goal.invariant_of-is_mapped
invariant_of-is_mapped c = record { shaped = on-shaped _ _ c.requires.on }

pub returns : goal.returns
returns c =
    let a = c.args in
    let e = rw (c.free_in.ensures.units, c.free_in.ensures.maps) at c.carry_in.ensures in
    let x = carries-by a.g a.sets.now a.image.now a.request _ c.chunk_of.ensures _ c.is_mapped-mapped.ensures a.plan.now a.n _ _
    (e.value, e.image_after) in
    record { value = x.0; image_after = x.1 }
