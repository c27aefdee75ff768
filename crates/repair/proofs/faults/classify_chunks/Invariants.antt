-- `repair::faults::classify_chunks` meets its contract: the bad chunks below i are faulty, and what the others below i claim is counted.
use Rattle.repair.specs.Claims.{chunk_set_words, claims_below, bad_below, Counted}
use Rattle.bitset.specs.Bits.{bit_set}
use mathlib.Core.Path.{◌≡◌}
use Prim.Native.Nat.{◌≤◌}
use Rattle.repair.proofs.faults.classify_chunks.Given as goal

abbrev pub invariant-loop-i : goal.invariant-loop-i
invariant-loop-i l = (l.i ≤ l.image.shape.c) × (l.faulty ≡ bit_set (bad_below l.image.bytes.now l.i) chunk_set_words) × Counted (claims_below l.image.bytes.now l.i) l.once l.again
