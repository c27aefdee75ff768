-- The loop keeps that storing the pieces that are left gives the whole.
use Prim.Native.Nat.{◌*◌}
use mathlib.Core.Path.{◌≡◌}
use lib.Seq.{sets}
use Rattle.access.specs.Ranges.{pieces, encode_all}
use Rattle.access.proofs.PieceLaws.{rest}
use Rattle.access.proofs.ranges.put_pieces.Given as goal

abbrev pub invariant-loop-k : goal.invariant-loop-k
invariant-loop-k l = sets l.initial.out 0 (encode_all (pieces l.bytes.b l.bytes.lo l.bytes.hi)) ≡ sets l.out (12 * l.k) (rest l.bytes.b l.bytes.lo l.bytes.hi l.first l.count l.k)
