-- `words::put_u16` meets its contract: the two stores are the number's two bytes.
use mathlib.Core.Path.{◌≡◌}
use Prim.Native.Nat.{◌/◌, ◌%◌}
use native.Mathlib.Numerals.{add-one}
use Rattle.words.specs.Words.{digits}
use native.Mathlib.Omega.{arith}
use lib.ListN.{length-set}
use Rattle.words.proofs.put_u16.Goals as goal

pub bounds-s-at-2 : goal.bounds-s-at-2
bounds-s-at-2 c = simp length-set (omega arith)

pub returns : goal.returns
unfolding digits
returns c =
    let high : c.args.v / 256 % 256 ≡ c.args.v / 256 = omega arith in
    rw (add-one c.args.at, high)
