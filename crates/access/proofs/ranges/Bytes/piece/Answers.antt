-- `access::ranges::Bytes::piece` meets its contract: the larger start and the smaller end.
use Rattle.access.specs.Ranges.{piece_of}
use Rattle.access.proofs.ranges.Bytes.piece.Goals as goal

pub returns : goal.returns
unfolding piece_of
returns c = rw (c.max-start.ensures, c.min-end.ensures)
