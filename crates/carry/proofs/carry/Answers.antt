-- `carry::carry` meets its contract: the refusal of the image, or what `carry_in` answers and leaves by the shape and the sets that load_into left.
use Rattle.std.proofs.lemmas.Result.{err_from_is_err_and}
use Rattle.image.proofs.Loads.{outcome-refused, into-known}
use Rattle.rules.proofs.Knowing.{judged-loaded}
use Rattle.carry.proofs.AnswerLaws.{carry-refused, carry-passed}
use Rattle.carry.proofs.carry.Goals as goal

pub invariant_of-is_mapped : goal.invariant_of-is_mapped
invariant_of-is_mapped c = record { shaped = (into-known c.args.image.now _ _ _ c.load_into.ensures _ c.in_ok-shape.was).shaped }

pub carry_in-requires : goal.carry_in-requires
carry_in-requires c = record { on = (into-known c.args.image.now _ _ _ c.load_into.ensures _ c.in_ok-shape.was).on }

pub returns-in_err-shape : goal.returns-in_err-shape
returns-in_err-shape c =
    let a = c.args in
    let v = outcome-refused a.image.now _ c.load_into.ensures.right _ c.in_err-shape.was in
    let p = err_from_is_err_and c.from_residual.result c.from_residual.ensures.1 in
    rw (p.1, p.2) (record {
      value = (carry-refused a.image.now a.request a.plan.now a.n _ v).0;
      image_after = (carry-refused a.image.now a.request a.plan.now a.n _ v).1;
    })

pub returns : goal.returns
returns c =
    let a = c.args in
    let s = a.image.now in
    let k = into-known s _ _ _ c.load_into.ensures _ c.in_ok-shape.was in
    let is = rw c.chunk_of.ensures at c.is_mapped-mapped.ensures in
    let same = judged-loaded s _ k a.request a.plan.now _ is in
    let e = c.carry_in.ensures in
    let x = carry-passed s a.request a.plan.now a.n k.passed _ same _ _ (e.value, e.image_after) in record {
      value = x.0;
      image_after = x.1;
    }
