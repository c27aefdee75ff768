-- `convert::chunks::copy_chunk` meets its contract: its map and its entry, or nothing.
use Rattle.image.proofs.Chunks.{map-named}
use Rattle.convert.proofs.Turns.{entry_in, copied-absent, copied-named}
use Rattle.convert.proofs.chunks.copy_chunk.Goals as goal

pub returns-then-w : goal.returns-then-w
returns-then-w c = copied-absent c.args.image.now.bytes.now c.args.i _ c.args.out.now c.link-w.ensures c.if-w.true

pub copy_map-requires : goal.copy_map-requires
copy_map-requires c = let e = c.link-w.ensures in
    let l = map-named c.args.image.now.bytes.now c.args.image.now.shape c.args.i _ c.args.image.now.shaped e c.if-w.false c.requires.i_lt_c.1 in record {
      k_lt_m = (l, c.requires.second_value.0, c.requires.second_value.1);
    }

pub put_u64-requires : goal.put_u64-requires
put_u64-requires c = let e = c.copy_map.ensures in
    entry_in c.args.image.now.shape c.args.second c.args.i _ _ c.args.out.now _ c.requires.second_value.0 c.requires.i_lt_c.0 c.requires.second_value.1 e

pub returns : goal.returns
returns c = let e = c.link-w.ensures in
    let n = c.if-w.false in
    copied-named c.args.image.now.bytes.now c.args.i _ c.args.out.now e c.args.image.now.shape c.args.second _ _ c.args.image.now.shaped c.requires.second_value.0 n
    c.copy_map.ensures c.put_u64.ensures
