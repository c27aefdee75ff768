-- `words::put_u64` meets its contract: two stores of 4 bytes, by `store_split`.
use Rattle.words.proofs.Laws.{store_split}
use Rattle.words.proofs.put_u64.Goals as goal

pub returns : goal.returns
returns c =
    let a = c.args in
    cc (store_split 4 4 a.s.now a.at a.v)
