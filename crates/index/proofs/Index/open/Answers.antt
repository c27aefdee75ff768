-- `index::Index::open` meets its contract: what `opening::open` answers and leaves in words of its own, in one value.
use Rattle.std.proofs.lemmas.Result.{err_from_is_err_and}
use Rattle.index.proofs.FirstLaws.{first-refused, first-sound}
use Rattle.index.proofs.Index.open.Goals as goal

pub returns-in_err-shape : goal.returns-in_err-shape
returns-in_err-shape c =
    let p = err_from_is_err_and c.from_residual.result c.from_residual.ensures.1 in
    rw (p.1, p.2) (first-refused c.args.image.now _ c.in_err-shape.ensures.value)

pub returns : goal.returns
returns c = first-sound c.args.image.now _ _ c.in_ok-shape.ensures.value c.in_ok-shape.ensures.sets_after
