-- `carry::store` meets its contract.
use Rattle.carry.proofs.store.Goals as goal

pub returns : goal.returns
returns c = rw (← c.word_of-word.ensures) c.put_u64.ensures
