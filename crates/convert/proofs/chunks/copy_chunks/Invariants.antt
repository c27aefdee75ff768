-- `convert::chunks::copy_chunks` meets its contract: at turn i the chunks below i are copied.
use Rattle.convert.specs.Convert.{copied_below}
use lib.ListN.{length}
use Prim.Native.Nat.{◌≤◌}
use mathlib.Core.Path.{◌≡◌}
use Rattle.convert.proofs.chunks.copy_chunks.Given as goal

abbrev pub invariant-loop-i : goal.invariant-loop-i
invariant-loop-i l = (l.i ≤ l.image.shape.c) × (length l.out ≡ length l.initial.out) × (l.out ≡ copied_below l.image.bytes.now l.i)
