-- `decimals::fractions::unsigned_fraction` meets its contract: with a point or without.
use Rattle.decimals.proofs.FractionLaws.{unsigned-whole, unsigned-point}
use Rattle.std.proofs.Common.{ℕ, ◌≡◌, ◌≢◌, ◌<◌, length, get_or, ◌∙◌, rules}
use Rattle.decimals.proofs.fractions.unsigned_fraction.Goals as goal

pub returns-in_default : goal.returns-in_default
returns-in_default c =
    let t = c.args.text.now in
    let none : (k : ℕ) → k < length t → get_or t k 0 ≢ 46 = search rules in
    c.whole_fraction.ensures ∙ unsigned-whole _ none

pub returns : goal.returns
returns c =
    let t = c.args.text.now in
    let p = c.in-Some.point in
    let low : p < length t = search rules in
    let here : get_or t p 0 ≡ 46 = search rules in
    let before : (k : ℕ) → k < p → get_or t k 0 ≢ 46 = search rules in
    c.point_fraction.ensures ∙ unsigned-point _ p low here before
