-- `repair::claims::claim` meets its contract: a first claim enters the one set, by `claim-first`, and a later one the other, by `claim-later`.
use Rattle.repair.proofs.Counting.{claim-first, claim-later}
use mathlib.Core.Path.{sym, ◌∙◌}
use Rattle.repair.proofs.claims.claim.Goals as goal

pub returns-then-contains : goal.returns-then-contains
returns-then-contains c = λ xs h. claim-later xs _ _ c.args.x h _ (sym c.contains.ensures ∙ c.if-contains.true) c.insert.ensures.set_after

pub returns-else-contains : goal.returns-else-contains
returns-else-contains c = λ xs h. claim-first xs _ _ c.args.x h _ (sym c.contains.ensures ∙ c.if-contains.false) c.insert-else-contains.ensures.set_after
