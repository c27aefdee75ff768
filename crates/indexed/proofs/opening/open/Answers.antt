-- `indexed::opening::open` meets its contract: the refusal of the image, 10, or the two sets stored one after the other.
use Rattle.std.proofs.Common.{length, sym, ap, ◌∙◌, arith}
use lib.Seq.{length-take-le}
use Rattle.indexed.proofs.OpenLaws.{stored, open-small, length-units, open_done}
use Rattle.indexed.proofs.opening.open.Goals as goal

pub returns-then-sets-lt-SET_WORDS : goal.returns-then-sets-lt-SET_WORDS
returns-then-sets-lt-SET_WORDS c =
    let e = open-small c.args.image.now _ _ _ c.in_ok-g.ensures c.args.sets.now c.if-sets-lt-SET_WORDS.true in
    record { value = e.0; sets_after = e.1 }

pub slice_bounds-copy_from_slice-end-2 : goal.slice_bounds-copy_from_slice-end-2
slice_bounds-copy_from_slice-end-2 c = sym (length-take-le 72 c.args.sets.now (omega arith))

pub copy_from_slice-requires : goal.copy_from_slice-requires
copy_from_slice-requires c = length-take-le 72 c.args.sets.now (omega arith) ∙ sym (length-units c.args.image.now _ _ _ c.in_ok-g.ensures c.args.sets.now)

pub returns : goal.returns
returns c =
    let a = c.args in
    let e = open_done a.image.now _ _ _ c.in_ok-g.ensures a.sets.now c.if-sets-lt-SET_WORDS.false in
    let n = length-units a.image.now _ _ _ c.in_ok-g.ensures a.sets.now in record {
      value = e.0;
      sets_after = rw (c.copy_from_slice.ensures.after, c.copy_from_slice-2.ensures.after) (stored _ _ a.sets.now n ∙ e.1);
    }
