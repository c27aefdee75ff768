use Rattle.repair.proofs.Chunks.{sharing-none}
use Rattle.repair.specs.Claims.{chunk_set_words, unlinks_below}
use Rattle.bitset.proofs.BitSets.{length-bit_set}
use Rattle.bitset.specs.Bits.{bit_set}
use Rattle.layout.specs.declared.Shape.{Shape}
use lib.ListN.{length}
use native.Mathlib.Omega.{arith}
use mathlib.Core.Path.{◌≡◌, sym, ap, ◌∙◌, subst}
use Rattle.repair.proofs.faults.add_all_sharing.Goals as goal

pub loop-j-init : goal.loop-j-init
loop-j-init c = (omega arith, sharing-none c.args.image.now.bytes.now _ _ (ap (λ (g : Shape). g.c) c.args.image.now.shaped.same) c.requires.faulty_value)

pub add_sharing-requires : goal.add_sharing-requires
add_sharing-requires c = record {
  i_lt_c = omega arith;
  again_value = c.requires.again_value;
  faulty_value = c.loop-j.invariant.1;
}

pub loop-j-preserved : goal.loop-j-preserved
loop-j-preserved c = (omega arith, c.add_sharing.ensures)

pub shape_of-faulty : goal.shape_of-faulty
shape_of-faulty c = ap length c.loop-j.invariant.1 ∙ length-bit_set _ chunk_set_words ∙ sym (ap length c.requires.faulty_value ∙ length-bit_set _ chunk_set_words)

pub returns : goal.returns
returns c = let e : c.loop-j.j ≡ c.args.image.now.shape.c = omega arith in
    subst (λ n. c.loop-j.faulty ≡ bit_set (unlinks_below c.args.image.now.bytes.now n) chunk_set_words) e c.loop-j.invariant.1
