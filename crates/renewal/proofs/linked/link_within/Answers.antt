use Rattle.std.proofs.Common.{◌∙◌, rules, tests}
use Rattle.std.proofs.lemmas.Iterator.Search.{any_from_yields_List}
use Rattle.steps.specs.Steps.{decode_at}
use Rattle.carry.specs.Carry.{says_link}
use Rattle.renewal.proofs.Linking.{YieldsList-down, any_down}
use Rattle.renewal.proofs.linked.link_within.Goals as goal

pub returns : goal.returns
returns c =
    let plan = c.args.plan.now in
    any_from_yields_List (λ i. says_link (decode_at plan i)) _ _ c.any.result c.any.ensures.ran (YieldsList-down c.args.n c.rev.ensures.source) (λ i b q k. search (rules, tests))
    ∙ any_down plan c.args.n
