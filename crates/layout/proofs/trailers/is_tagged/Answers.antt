-- `layout::trailers::is_tagged` meets its contract: the tag's bytes are compared, and then the version.
use Rattle.layout.proofs.Limits.{tagged-bytes}
use Rattle.layout.proofs.trailers.is_tagged.Goals as goal

pub returns-then-eq : goal.returns-then-eq
returns-then-eq c =
    rw (c.get_u16.ensures) (rw c.if-eq.true at (tagged-bytes c.args.s.now c.args.t c.args.version c.eq.result c.eq.ensures))

pub returns-else-eq : goal.returns-else-eq
returns-else-eq c = rw c.if-eq.false (rw c.if-eq.false at (tagged-bytes c.args.s.now c.args.t c.args.version c.eq.result c.eq.ensures))
