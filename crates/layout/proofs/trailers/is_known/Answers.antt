-- `layout::trailers::is_known` meets its contract: the tests are the definition's, in its order.
use Rattle.layout.specs.Layout.{known_as}
use Rattle.std.proofs.Common.{le-leb}
use borrow.Author.Tests.{lt-leb}
use Rattle.layout.proofs.trailers.is_known.Goals as goal

pub returns-then-s-size : goal.returns-then-s-size
unfolding known_as
returns-then-s-size c = rw (← c.trailer_bytes-size.ensures.0, lt-leb _ _ c.if-s-size.true)

pub returns : goal.returns
unfolding known_as
returns c = rw (← c.trailer_bytes-size.ensures.0, le-leb _ _ c.if-s-size.false) c.is_tagged.ensures
