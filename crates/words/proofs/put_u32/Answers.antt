-- `words::put_u32` meets its contract: two stores of 2 bytes, by `store_split`.
use Rattle.words.proofs.Laws.{store_split}
use Rattle.words.proofs.put_u32.Goals as goal

pub returns : goal.returns
returns c =
    let a = c.args in
    cc (store_split 2 2 a.s.now a.at a.v)
