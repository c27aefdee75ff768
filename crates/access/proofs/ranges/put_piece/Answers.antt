-- `access::ranges::put_piece` meets its contract: three stores are the bytes of a piece.
use Rattle.access.proofs.PieceLaws.{piece-run}
use Rattle.access.proofs.ranges.put_piece.Goals as goal

pub returns : goal.returns
returns c = cc (piece-run c.args.out.now c.args.at c.args.x)
