-- `repair::faults::classify_chunk` meets its contract: a bad chunk becomes faulty, and what any other claims is counted.
use Rattle.repair.proofs.Chunks.{good-link, counted-bad, counted-good, classified-bad, classified-good}
use mathlib.Core.Path.{sym, ◌∙◌}
use Rattle.repair.proofs.faults.classify_chunk.Goals as goal

pub claim_chunk-requires : goal.claim_chunk-requires
claim_chunk-requires c = record {
  i_lt_c = (c.requires.i_lt_c, good-link c.args.image.now.bytes.now c.args.i (sym c.is_bad.ensures ∙ c.if-is_bad.false));
}

pub returns-then-is_bad : goal.returns-then-is_bad
returns-then-is_bad c = let s = c.args.image.now.bytes.now in
    let b = sym c.is_bad.ensures ∙ c.if-is_bad.true in record {
      faulty_after = classified-bad s c.args.i _ c.requires.faulty_value _ b c.insert.ensures.set_after;
      counted_2 = counted-bad s c.args.i _ _ b c.requires.counted;
    }

pub returns-else-is_bad : goal.returns-else-is_bad
returns-else-is_bad c = let s = c.args.image.now.bytes.now in
    let b = sym c.is_bad.ensures ∙ c.if-is_bad.false in record {
      faulty_after = classified-good s c.args.i _ c.requires.faulty_value b;
      counted_2 = counted-good s c.args.i _ _ b (c.claim_chunk.ensures _ c.requires.counted);
    }
