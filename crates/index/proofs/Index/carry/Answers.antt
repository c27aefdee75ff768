-- `index::Index::carry` meets its contract: what `lent::carry` answers and leaves, and the sets that it left are those of the next index.
use Rattle.indexed.specs.Calls.{index_of}
use Rattle.index.proofs.Index.carry.Goals as goal

pub returns : goal.returns
returns c =
    let x = rw c.from.ensures at c.carry-answer.ensures in record {
      checked_value = (x.value, λ i. index_of c.args.self.shape (x.sets_after i));
      image_after = x.image_after;
    }
