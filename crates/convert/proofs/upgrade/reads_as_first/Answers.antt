-- `convert::upgrade::reads_as_first` meets its contract: one test, then the other.
use borrow.Author.Tests.{lt-ltb, le-ltb}
use Rattle.convert.proofs.upgrade.reads_as_first.Goals as goal

pub returns-then-image-lt-TRAILER_BYTES : goal.returns-then-image-lt-TRAILER_BYTES
returns-then-image-lt-TRAILER_BYTES c = rw (lt-ltb _ _ c.if-image-lt-TRAILER_BYTES.true)

pub returns : goal.returns
returns c = rw (le-ltb _ _ c.if-image-lt-TRAILER_BYTES.false) c.is_known.ensures
