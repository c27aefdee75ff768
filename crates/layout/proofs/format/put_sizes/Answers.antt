-- `layout::format::put_sizes` meets its contract: its stores one after another are the trailer's distances and length, by `size-run`.
use Rattle.std.proofs.Common.{◌∙◌}
use Rattle.layout.proofs.Formatting.{size-run}
use Rattle.layout.proofs.format.put_sizes.Goals as goal

pub returns : goal.returns
returns c =
    let a = c.args in
    let start = c.trailer_start.ensures.0 in
    c.put_u32-3.ensures
    ∙ rw (c.put_u32-2.ensures, c.put_u32.ensures, c.image_bytes.ensures.0, c.map_bytes.ensures.0, start)
    (size-run a.image.now a.at a.g)
