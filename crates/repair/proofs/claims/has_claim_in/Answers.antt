-- `repair::claims::has_claim_in` meets its contract: an entry of X claims nothing; of any other the map is looked up first, and then its units.
use Prim.Native.Nat.{◌<◌}
use Rattle.bitset.specs.Bits.{in_set}
use Rattle.search.specs.Search.{any}
use Rattle.image.proofs.Chunks.{map-named}
use Rattle.repair.proofs.Chunks.{claims-absent, claims-named}
use native.Mathlib.Omega.{arith}
use mathlib.Core.Path.{sym, ap, ◌∙◌}
use Rattle.repair.proofs.claims.has_claim_in.Goals as goal
use Rattle.repair.proofs.claims.has_claim_in.Goals.{Else-w}

-- the map that a chunk with a good link names
named : (c : Else-w) → c.link-w.result < c.args.image.now.shape.m
named c =
    map-named c.args.image.now.bytes.now c.args.image.now.shape c.args.i _ c.args.image.now.shaped c.link-w.ensures c.if-w.false c.requires.i_lt_c.1

pub returns-then-w : goal.returns-then-w
unfolding any
returns-then-w c = sym (ap (any (in_set c.args.set.now)) (claims-absent c.args.image.now.bytes.now c.args.i _ c.link-w.ensures c.if-w.true))

pub overflow_add-k : goal.overflow_add-k
overflow_add-k c = omega (arith, c.args.image.now.shaped.limits, named (goal.at.overflow_add-k c).Else-w)

pub returns-then-contains : goal.returns-then-contains
unfolding any
returns-then-contains c = rw (claims-named c.args.image.now.bytes.now c.args.i _ c.link-w.ensures c.if-w.false, sym c.contains.ensures ∙ c.if-contains.true)

pub held_count-count-requires : goal.held_count-count-requires
held_count-count-requires c = record {
  k_lt_m = named (goal.at.held_count-count-requires c).Else-w;
}

pub has_unit_in-requires : goal.has_unit_in-requires
has_unit_in-requires c = record {
  k_lt_m = (named (goal.at.has_unit_in-requires c).Else-w, c.held_count-count.ensures);
}

pub returns : goal.returns
unfolding any
returns c = rw (claims-named c.args.image.now.bytes.now c.args.i _ c.link-w.ensures c.if-w.false, sym c.contains.ensures ∙ c.if-contains.false) c.has_unit_in.ensures
