-- `access::parts::held_status` meets its contract: what `find_held` answered.
use mathlib.Core.Path.{ap, ◌∙◌}
use Rattle.std.proofs.lemmas.Result.{err_from_is_err_and}
use Rattle.std.proofs.Common.{Ok}
use Rattle.std.specs.Result.{result_and}
use Rattle.access.proofs.PartLaws.{held-both}
use Rattle.access.proofs.parts.held_status.Goals as goal

pub returns-in_err-find_held : goal.returns-in_err-find_held
returns-in_err-find_held c =
    let p = err_from_is_err_and c.from_residual.result c.from_residual.ensures.1 in
    rw (p.1, p.2) (ap (λ h. result_and h (Ok tt)) c.in_err-find_held.ensures.value ∙ (held-both c.args.image.now c.args.chunk).0)

pub returns : goal.returns
returns c = ap (λ h. result_and h (Ok tt)) c.in_ok-find_held.ensures.value ∙ (held-both c.args.image.now c.args.chunk).0
