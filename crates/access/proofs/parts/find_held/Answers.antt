-- `access::parts::find_held` meets its contract: the refusal of the image, or what `held_on` answers.
use mathlib.Core.Path.{refl, ◌∙◌}
use Rattle.std.proofs.lemmas.Result.{err_from_is_err_and}
use Rattle.image.proofs.Loads.{outcome-answer-refused, outcome-answer-sound, outcome-known}
use Rattle.access.specs.Parts.{held_on}
use Rattle.access.proofs.PartLaws.{known-link}
use Rattle.access.proofs.parts.find_held.Goals as goal

pub invariant_of-held_on : goal.invariant_of-held_on
invariant_of-held_on c = record { shaped = (outcome-known c.args.image.now _ c.in_ok-shape.ensures _ refl).shaped }

pub held_on-requires : goal.held_on-requires
held_on-requires c =
    let s = c.args.image.now in
    record { chunk_value = known-link s _ (outcome-known s _ c.in_ok-shape.ensures _ refl) c.args.chunk }
