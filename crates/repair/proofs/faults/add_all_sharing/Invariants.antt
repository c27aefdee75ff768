-- `repair::faults::add_all_sharing` meets its contract: of the chunks below j those that share are faulty too.
use Rattle.repair.specs.Claims.{chunk_set_words, unlinks_below}
use Rattle.bitset.specs.Bits.{bit_set}
use mathlib.Core.Path.{◌≡◌}
use Prim.Native.Nat.{◌≤◌}
use Rattle.repair.proofs.faults.add_all_sharing.Given as goal

abbrev pub invariant-loop-j : goal.invariant-loop-j
invariant-loop-j l = (l.j ≤ l.image.shape.c) × (l.faulty ≡ bit_set (unlinks_below l.image.bytes.now l.j) chunk_set_words)
