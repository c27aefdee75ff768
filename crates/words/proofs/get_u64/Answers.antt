-- `words::get_u64` meets its contract: a number of 4 + 4 bytes, by `number-split`.
use native.Mathlib.Omega.{arith}
use Rattle.words.proofs.Laws.{number-split}
use Rattle.words.proofs.get_u64.Goals as goal

pub returns : goal.returns
returns c = let a = c.args in omega (arith, number-split 4 4 a.s.now a.at)
