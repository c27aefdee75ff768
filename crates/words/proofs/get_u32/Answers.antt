-- `words::get_u32` meets its contract: a number of 2 + 2 bytes, by `number-split`.
use native.Mathlib.Omega.{arith}
use Rattle.words.proofs.Laws.{number-split}
use Rattle.words.proofs.get_u32.Goals as goal

pub returns : goal.returns
returns c = let a = c.args in omega (arith, number-split 2 2 a.s.now a.at)
