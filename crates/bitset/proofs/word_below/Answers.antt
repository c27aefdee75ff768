-- `bitset::word_below` meets its contract. Word i is full, empty, or has the last of the numbers below n.
use Prim.Native.Nat.{◌%◌}
use mathlib.Core.Path.{sym}
use native.Mathlib.Omega.{arith}
use lib.Pow.{pow_pos}
use Rattle.bitset.proofs.Digits.{word-full, word-partial, word-empty}
use Rattle.bitset.proofs.word_below.Goals as goal

pub returns-then-i-last : goal.returns-then-i-last
returns-then-i-last c = omega (arith, word-full c.args.n c.args.i (omega arith))

pub returns-then-last-i : goal.returns-then-last-i
returns-then-last-i c = sym (word-empty c.args.n c.args.i (omega arith))

pub overflow_sub-result : goal.overflow_sub-result
overflow_sub-result c = rw c.bit.ensures (pow_pos (c.args.n % 64))

pub returns : goal.returns
returns c =
    let a = c.args in
    rw c.bit.ensures (omega (arith, word-partial a.n a.i (omega arith)))
