-- `bitset::bit` meets its contract. A shift of 1 by less than 64 loses nothing.
use Prim.Native.Nat.{◌%◌, ◌^◌}
use native.Mathlib.Nat.{one-mul, mod-eq_of_lt}
use native.Mathlib.Omega.{arith}
use lib.Pow.{pow-lt}
use Rattle.bitset.proofs.bit.Goals as goal

pub returns : goal.returns
returns c = rw (one-mul (2 ^ (c.args.u % 64))) (mod-eq_of_lt (pow-lt {j = 64} (omega arith)))
