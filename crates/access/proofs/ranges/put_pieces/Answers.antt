-- `access::ranges::put_pieces` meets its contract.
use Rattle.access.proofs.PieceLaws.{store-start, store-turn, store-end}
use Rattle.access.proofs.ranges.put_pieces.Goals as goal

pub loop-k-init : goal.loop-k-init
loop-k-init c =
    let a = c.args.bytes in
    store-start a.b a.lo a.hi _ c.args.count c.args.out.now c.first_chunk-first.ensures c.requires.0

pub loop-k-preserved : goal.loop-k-preserved
loop-k-preserved c =
    let a = c.args.bytes in
    store-turn a.b a.lo a.hi _ c.args.count _ _ _ c.loop-k.k _ c.loop-k-test.true c.piece.ensures c.put_piece.ensures c.loop-k.invariant

pub returns : goal.returns
returns c =
    let a = c.args.bytes in
    store-end a.b a.lo a.hi _ c.args.count _ _ c.loop-k.k c.loop-k-test.false c.loop-k.invariant
