-- `layout::trailers::image_bytes` meets its contract: within the limits nothing wraps.
use Rattle.layout.proofs.Limits.{limits}
use Rattle.layout.proofs.trailers.image_bytes.Goals as goal

pub trailer_bytes-requires : goal.trailer_bytes-requires
trailer_bytes-requires c = let l = limits c.args.g c.requires in (l.edition-low, l.edition-high)
