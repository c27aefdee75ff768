-- `checker::broken::broken_on` meets its contract: 1 where the pass finds rule 1 broken, and otherwise the verdict on what it saw, by `pass-decides`.
use Rattle.std.specs.Prelude.{is_some}
use Rattle.checker.proofs.Judging.{pass-decides}
use Rattle.rules.proofs.Deciding.{broken-1}
use Rattle.rules.specs.Rules.{broken}
use native.Mathlib.Omega.{arith}
use mathlib.Core.Path.{sym, ap, ◌∙◌}
use Rattle.checker.proofs.broken.broken_on.Goals as goal

pub returns-in_default : goal.returns-in_default
returns-in_default c = λ free e. ap broken (broken-1 _ _ _ (sym c.see_all.ensures.decides ∙ ap is_some c.in_default.is))

pub returns : goal.returns
returns c =
    let a = c.args in
    λ free e.
    c.lowest_broken.ensures
    ∙ ap broken
    (pass-decides a.g c.requires.0 a.maps.now a.mapped a.request a.plan.now a.dealt.now
    c.head.result c.size_of.result c.need_of.result c.map_words.result c.chunk_of.result
    (omega (arith, c.need_of.ensures.1))
    c.head.ensures.0 c.size_of.ensures c.need_of.ensures.0 c.map_words.ensures.0 c.chunk_of.ensures
    c.unseen-start.result c.unseen-start.ensures c.see_all.result c.see_all.ensures _ c.in-Some.is
    free e)
