-- `layout::format::put_shape` meets its contract: its stores one after another are the trailer's first 20 bytes, by `shape-run`.
use Rattle.layout.proofs.Formatting.{shape-run}
use Rattle.layout.proofs.Limits.{limits}
use Rattle.std.proofs.Common.{◌∙◌, arith}
use Rattle.layout.proofs.format.put_shape.Goals as goal

pub overflow_cast-g : goal.overflow_cast-g
overflow_cast-g c = let g = c.args.g in
    omega (arith, limits g c.requires.1)

pub overflow_cast-g-2 : goal.overflow_cast-g-2
overflow_cast-g-2 c = let g = c.args.g in
    omega (arith, (limits g c.requires.1).p-high)

pub returns : goal.returns
returns c =
    let a = c.args in
    c.put_u32-3.ensures
    ∙ rw (c.put_u32-2.ensures, c.put_u32.ensures, c.put_u16-2.ensures, c.put_u16.ensures, c.put_tag.ensures)
    (shape-run a.image.now a.t a.g)
