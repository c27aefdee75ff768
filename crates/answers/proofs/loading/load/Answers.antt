-- `answers::loading::load` meets its contract: the refusal of the image, 10, or the words stored.
use Rattle.answers.proofs.LoadLaws.{load-refused, load-small, load-done}
use Rattle.answers.proofs.loading.load.Goals as goal

pub returns-then-out-lt-LOAD_WORDS : goal.returns-then-out-lt-LOAD_WORDS
returns-then-out-lt-LOAD_WORDS c =
    let a = c.args in
    let e = c.load_into-o.ensures in record {
      value = (load-small a.image.now _ _ _ e a.out.now _ _ c.in-Ok.is c.if-out-lt-LOAD_WORDS.true c.refused-then-out-lt-LOAD_WORDS.ensures).0;
      out_after = (load-small a.image.now _ _ _ e a.out.now _ _ c.in-Ok.is c.if-out-lt-LOAD_WORDS.true c.refused-then-out-lt-LOAD_WORDS.ensures).1;
    }

pub returns-in-Err : goal.returns-in-Err
returns-in-Err c =
    let a = c.args in
    let e = c.load_into-o.ensures in record {
      value = (load-refused a.image.now _ _ _ e a.out.now _ _ c.in-Err.is c.refused.ensures).0;
      out_after = (load-refused a.image.now _ _ _ e a.out.now _ _ c.in-Err.is c.refused.ensures).1;
    }

pub returns-else-out-lt-LOAD_WORDS : goal.returns-else-out-lt-LOAD_WORDS
returns-else-out-lt-LOAD_WORDS c =
    let a = c.args in
    let e = c.load_into-o.ensures in
    let left = load-done a.image.now _ _ _ e a.out.now _ _ c.in-Ok.is c.if-out-lt-LOAD_WORDS.false in record {
      value = (left c.given.ensures _ c.put_loaded.ensures).0;
      out_after = (left c.given.ensures _ c.put_loaded.ensures).1;
    }
