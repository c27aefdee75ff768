-- `repair::claims::claim_chunk` meets its contract: an entry of X claims nothing, and any other its map and the units that the map holds.
use Prim.Native.Nat.{◌<◌}
use Rattle.image.proofs.Chunks.{map-named}
use Rattle.repair.proofs.Chunks.{counted-absent, counted-named}
use native.Mathlib.Omega.{arith}
use Rattle.repair.proofs.claims.claim_chunk.Goals as goal
use Rattle.repair.proofs.claims.claim_chunk.Goals.{Else-w}

-- the map that a chunk with a good link names
named : (c : Else-w) → c.link-w.result < c.args.image.now.shape.m
named c =
    map-named c.args.image.now.bytes.now c.args.image.now.shape c.args.i _ c.args.image.now.shaped c.link-w.ensures c.if-w.false c.requires.i_lt_c.1

pub returns-then-w : goal.returns-then-w
returns-then-w c = λ xs h. counted-absent c.args.image.now.bytes.now c.args.i _ c.link-w.ensures xs _ _ c.if-w.true h

pub overflow_add-k : goal.overflow_add-k
overflow_add-k c = omega (arith, c.args.image.now.shaped.limits, named (goal.at.overflow_add-k c).Else-w)

pub held_count-count-requires : goal.held_count-count-requires
held_count-count-requires c = record {
  k_lt_m = named (goal.at.held_count-count-requires c).Else-w;
}

pub claim_units-requires : goal.claim_units-requires
claim_units-requires c = record {
  k_lt_m = (named (goal.at.claim_units-requires c).Else-w, c.held_count-count.ensures);
}

pub returns : goal.returns
returns c = λ xs h. counted-named c.args.image.now.bytes.now c.args.i _ c.link-w.ensures xs _ _ c.if-w.false (c.claim_units.ensures _ (c.claim.ensures xs h))
