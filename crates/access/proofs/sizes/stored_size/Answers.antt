-- `access::sizes::stored_size` meets its contract: the refusal of the image, or what `size_on` answers.
use mathlib.Core.Path.{refl, ◌∙◌, sym}
use Rattle.std.proofs.lemmas.Result.{err_from_is_err_and}
use Rattle.image.proofs.Loads.{outcome-answer-refused, outcome-answer-sound, outcome-known}
use Rattle.access.proofs.PartLaws.{known-link}
use Rattle.access.proofs.SizeLaws.{size-judged}
use Rattle.access.proofs.sizes.stored_size.Goals as goal

pub invariant_of-size_on : goal.invariant_of-size_on
invariant_of-size_on c = record { shaped = (outcome-known c.args.image.now _ c.in_ok-shape.ensures _ refl).shaped }

pub size_on-requires : goal.size_on-requires
size_on-requires c =
    let s = c.args.image.now in
    record { chunk_value = known-link s _ (outcome-known s _ c.in_ok-shape.ensures _ refl) c.args.chunk }

pub returns : goal.returns
returns c =
    let a = c.args in
    c.size_on.ensures ∙ outcome-answer-sound a.image.now _ c.in_ok-shape.ensures _ _ _ refl ∙ sym (size-judged a.image.now a.chunk)
