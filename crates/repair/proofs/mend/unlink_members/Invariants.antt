-- `repair::mend::unlink_members` meets its contract: the members from `from` on are still to be unlinked and listed.
use Rattle.repair.specs.Repair.{unlink, list_bytes}
use Rattle.bitset.specs.Bits.{members_from, members}
use lib.Seq.{sets}
use lib.ListN.{length}
use mathlib.Core.Path.{◌≡◌}
use Prim.Native.Nat.{◌+◌, ◌*◌, ◌≤◌}
use Rattle.repair.proofs.mend.unlink_members.Given as goal

abbrev pub invariant-loop-k : goal.invariant-loop-k
invariant-loop-k l = (l.k ≤ l.n) × (length l.image ≡ length l.initial.image) × (length l.out ≡ length l.initial.out) × (l.n ≡ l.k + length (members_from l.faulty l.from))
    × (unlink l.image (members_from l.faulty l.from) ≡ unlink l.initial.image (members l.faulty))
    × (sets l.out (4 * l.k) (list_bytes (members_from l.faulty l.from)) ≡ sets l.initial.out 0 (list_bytes (members l.faulty)))
