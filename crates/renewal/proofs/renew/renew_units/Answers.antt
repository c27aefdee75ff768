-- `renewal::renew::renew_units` meets its contract: the old units are put in, then the new ones taken out.
use Rattle.std.proofs.Common.{◌≡◌, List, ℕ, ap, ◌∙◌, rules}
use Rattle.bitset.proofs.BitSets.{as-set}
use Rattle.renewal.specs.Renewal.{held_by, put_in, taken_out}
use Rattle.renewal.proofs.Renewing.{all_put, all_taken}
use Rattle.renewal.proofs.renew.renew_units.Goals as goal

pub returns : goal.returns
returns c =
    let a = c.args in
    let mid = c.each_unit.new.units in
    let put : mid ≡ put_in a.units.now (held_by a.image.now.bytes.now a.old) = all_put _ (λ ws u vs k. search rules) _ a.units.now _ (as-set _ (λ i. search rules)) c.each_unit.ensures in
    all_taken _ (λ ws u vs k. search rules) _ mid _ (as-set _ (λ i. search rules)) c.each_unit-2.ensures ∙ ap (λ (ws : List ℕ). taken_out ws (held_by a.image.now.bytes.now a.new)) put
