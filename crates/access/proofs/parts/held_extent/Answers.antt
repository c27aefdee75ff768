-- `access::parts::held_extent` meets its contract: the place that `find_held` found.
use mathlib.Core.Path.{ap, ◌∙◌}
use Rattle.std.specs.Result.{result_unwrap_or}
use Rattle.access.specs.Parts.{empty_extent}
use Rattle.access.proofs.PartLaws.{held-both, within-or-empty}
use Rattle.access.proofs.parts.held_extent.Goals as goal

pub returns : goal.returns
returns c =
    let s = c.args.image.now in
    let h = c.find_held.ensures in
    let w = within-or-empty _ _ h.within in
    rw c.unwrap_or.ensures (ap (λ r. result_unwrap_or r empty_extent) h.value ∙ (held-both s c.args.chunk).1, w.0, w.1)
