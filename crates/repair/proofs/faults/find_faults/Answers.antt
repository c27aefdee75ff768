-- `repair::faults::find_faults` meets its contract: the second pass starts from the bad chunks and the counts that the first one leaves.
use Rattle.repair.proofs.Counting.{counted_none}
use mathlib.Core.Path.{refl}
use Rattle.repair.proofs.faults.find_faults.Goals as goal

pub classify_chunks-requires : goal.classify_chunks-requires
classify_chunks-requires c = record {
  faulty_value = c.requires.faulty_value;
  counted = counted_none _ _ refl refl;
}

pub add_all_sharing-requires : goal.add_all_sharing-requires
add_all_sharing-requires c = record {
  again_value = c.classify_chunks.ensures.counted_2.more;
  faulty_value = c.classify_chunks.ensures.faulty_after;
}

pub returns : goal.returns
returns c = c.add_all_sharing.ensures
