use Rattle.repair.proofs.Chunks.{counted-from, classified-none}
use Rattle.repair.specs.Claims.{chunk_set_words, claim_words, claims_below, bad_below, Counted}
use Rattle.bitset.proofs.BitSets.{length-bit_set}
use Rattle.bitset.specs.Bits.{bit_set}
use lib.ListN.{length}
use native.Mathlib.Omega.{arith}
use mathlib.Core.Path.{◌≡◌, sym, ap, ◌∙◌, subst}
use Rattle.repair.proofs.faults.classify_chunks.Goals as goal

pub loop-i-init : goal.loop-i-init
loop-i-init c = (omega arith, classified-none c.args.image.now.bytes.now _ c.requires.faulty_value, counted-from c.args.image.now.bytes.now _ _ c.requires.counted)

pub classify_chunk-requires : goal.classify_chunk-requires
classify_chunk-requires c = record {
  i_lt_c = omega arith;
  faulty_value = c.loop-i.invariant.1;
  counted = c.loop-i.invariant.2;
}

pub loop-i-preserved : goal.loop-i-preserved
loop-i-preserved c = (omega arith, c.classify_chunk.ensures.faulty_after, c.classify_chunk.ensures.counted_2)

pub shape_of-faulty : goal.shape_of-faulty
shape_of-faulty c = ap length c.loop-i.invariant.1 ∙ length-bit_set _ chunk_set_words ∙ sym (ap length c.requires.faulty_value ∙ length-bit_set _ chunk_set_words)

pub shape_of-once : goal.shape_of-once
shape_of-once c = ap length c.loop-i.invariant.2.first ∙ length-bit_set _ claim_words ∙ sym (ap length c.requires.counted.first ∙ length-bit_set _ claim_words)

pub shape_of-again : goal.shape_of-again
shape_of-again c = ap length c.loop-i.invariant.2.more ∙ length-bit_set _ claim_words ∙ sym (ap length c.requires.counted.more ∙ length-bit_set _ claim_words)

pub returns : goal.returns
returns c = let e : c.loop-i.i ≡ c.args.image.now.shape.c = omega arith in record {
  faulty_after = (subst (λ n. (c.loop-i.faulty ≡ bit_set (bad_below c.args.image.now.bytes.now n) chunk_set_words) × Counted (claims_below c.args.image.now.bytes.now n) c.loop-i.once c.loop-i.again) e (c.loop-i.invariant.1, c.loop-i.invariant.2)).0;
  counted_2 = (subst (λ n. (c.loop-i.faulty ≡ bit_set (bad_below c.args.image.now.bytes.now n) chunk_set_words) × Counted (claims_below c.args.image.now.bytes.now n) c.loop-i.once c.loop-i.again) e (c.loop-i.invariant.1, c.loop-i.invariant.2)).1;
}
