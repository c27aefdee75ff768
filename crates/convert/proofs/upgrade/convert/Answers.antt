-- `convert::upgrade::convert` meets its contract: 2, the refusal of the image, or what `convert_in` answers and leaves.
use lib.ListN.{length}
use Rattle.layout.specs.declared.Shape.{Shape}
use Rattle.layout.specs.Layout.{image_bytes}
use Rattle.convert.specs.Convert.{second_of, if_exact}
use Rattle.convert.proofs.Answering.{left_out, answer-refused, answer-sound}
use Rattle.image.proofs.Loads.{outcome-refused, outcome-known}
use Rattle.image.proofs.Verdicts.{first-verdict, first-foreign}
use Rattle.image.specs.Verdicts.{verdict, first_verdict}
use mathlib.Core.Path.{◌≡◌, ◌∙◌, sym, ap, refl}
use Rattle.std.proofs.lemmas.Result.{err_from_is_err_and}
use Rattle.convert.proofs.upgrade.convert.Goals as goal
use Rattle.convert.proofs.upgrade.convert.Goals.{Else-not-reads_as_first}

pub returns-then-not-reads_as_first : goal.returns-then-not-reads_as_first
returns-then-not-reads_as_first c =
    let s = c.args.image.now in
    let other = sym c.reads_as_first.ensures ∙ c.if-not-reads_as_first.true in
    let e = answer-refused s (length c.args.out.now) _ (first-foreign s other) in record {
      value = sym e;
      out_after = left_out s c.args.out.now _ _ (sym e);
    }

-- an image that gets past the first test has its own verdict
first : (c : Else-not-reads_as_first) → first_verdict c.args.image.now ≡ verdict c.args.image.now
first c = first-verdict _ (sym c.reads_as_first.ensures ∙ c.if-not-reads_as_first.false)

pub invariant_of-convert_in : goal.invariant_of-convert_in
invariant_of-convert_in c = record { shaped = (outcome-known c.args.image.now _ c.in_ok-shape.ensures _ refl).shaped }

pub convert_in-requires : goal.convert_in-requires
convert_in-requires c = record { tested = (outcome-known c.args.image.now _ c.in_ok-shape.ensures _ refl).sound }

pub returns-in_err-shape : goal.returns-in_err-shape
returns-in_err-shape c =
    let s = c.args.image.now in
    let p = err_from_is_err_and c.from_residual.result c.from_residual.ensures.1 in
    let v = outcome-refused s _ c.in_err-shape.ensures _ refl in
    let e = answer-refused s (length c.args.out.now) _ (first (goal.at.returns-in_err-shape c).Else-not-reads_as_first ∙ v) in
    rw (p.1, p.2) (record {
      value = sym e;
      out_after = left_out s c.args.out.now _ _ (sym e);
    })

pub returns : goal.returns
returns c =
    let s = c.args.image.now in
    let room = length c.args.out.now in
    let k = outcome-known s _ c.in_ok-shape.ensures _ refl in
    let v = first (goal.at.returns c).Else-not-reads_as_first ∙ k.passed in
    let e = ap (λ (g : Shape). if_exact room (image_bytes (second_of g))) k.shape ∙ sym (answer-sound s room v) in
    let r = c.convert_in.ensures in record {
      value = r.value ∙ e;
      out_after = r.out_after ∙ left_out s c.args.out.now _ _ e;
    }
