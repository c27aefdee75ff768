-- `decimals::fractions::fraction` meets its contract: by the first byte.
use Rattle.decimals.proofs.FractionLaws.{fraction-minus, fraction-plus}
use Rattle.decimals.specs.Fractions.{negated}
use Rattle.std.proofs.Common.{ap, ◌≡◌, ◌∙◌, rules}
use Rattle.decimals.proofs.fractions.fraction.Goals as goal

pub returns-in-Some : goal.returns-in-Some
returns-in-Some c =
    let m : c.map.result ≡ negated c.unsigned_fraction.result = search rules in
    m ∙ ap negated c.unsigned_fraction.ensures ∙ fraction-minus _ _ c.in-Some.ensures.cases.0 c.in-Some.ensures.cases.1

pub returns-in-None : goal.returns-in-None
returns-in-None c = c.unsigned_fraction-in-None.ensures ∙ fraction-plus _ c.in-None.ensures.cases
