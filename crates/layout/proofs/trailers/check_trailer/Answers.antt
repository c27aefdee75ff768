-- `layout::trailers::check_trailer` meets its contract: at each return what the callees ensure and the tests settle `trailer_outcome`.
use Rattle.std.proofs.Common.{le-ltb}
use Rattle.layout.specs.Trailer.{trailer_outcome}
use Rattle.layout.proofs.Limits.{edition-none, edition-found, tests}
use Rattle.layout.proofs.trailers.check_trailer.Goals as goal

pub returns-then-s-lt-TRAILER_BYTES : goal.returns-then-s-lt-TRAILER_BYTES
unfolding trailer_outcome
returns-then-s-lt-TRAILER_BYTES c = search tests

pub returns-in_default : goal.returns-in_default
unfolding trailer_outcome
returns-in_default c = rw (le-ltb _ _ c.if-s-lt-TRAILER_BYTES.false, edition-none _ c.in_default.ensures)

pub check_shape-requires : goal.check_shape-requires
check_shape-requires c = edition-found _ _ c.in-Some.ensures

pub returns : goal.returns
unfolding trailer_outcome
returns c =
    let found = edition-found _ _ c.in-Some.ensures in
    rw (le-ltb _ _ c.if-s-lt-TRAILER_BYTES.false, found.0) c.check_shape.ensures
