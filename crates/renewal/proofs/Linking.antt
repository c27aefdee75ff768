-- A LINK among the first steps of a plan, looked for from the last of them.
use Rattle.std.proofs.Common.{◌≡◌, ℕ, zero, suc, ◌+◌, ◌-◌, ◌||◌, Option, List, [], ◌∷◌, sym, ap, ◌∙◌, add-one, arith}
use Rattle.std.specs.Iterator.{AlwaysYields}
use Rattle.std.specs.Iterator.Adapters.{rev_steps}
use Rattle.std.specs.List.{list_any}
use Rattle.std.specs.declared.iter.Rev.{Rev}
use Rattle.std.specs.declared.ops.Range.{Range}
use Rattle.std.specs.Range.{range_steps_back}
use Rattle.std.proofs.lemmas.Iterator.{YieldsList}
use mathlib.Core.Bool.{or_comm}
use Rattle.steps.specs.Steps.{decode_at}
use Rattle.carry.specs.Carry.{says_link, link_within}
use Rattle.carry.proofs.Linked.{no-link-yet, link-more}

-- one step of a range of numbers from its end
abbrev pub steps_back : Range ℕ → Option ℕ → Range ℕ → Type 0
steps_back = range_steps_back (λ a b. b - a) (λ a b. b ≡ a + 1)

-- the numbers below n, the highest first
abbrev pub down : ℕ → List ℕ
down zero = []
down (suc n) = n ∷ down n

gives : (n : ℕ) (s : Rev (Range ℕ)) → s.iter.start ≡ 0 → s.iter.end ≡ n → AlwaysYields (rev_steps steps_back) (λ x. x) s (down n)
gives zero s e f = λ x t p. omega (arith, p.1.0)
gives (suc n) s e f = (λ t p. omega (arith, p.1.0), λ x t p. (omega (arith, p.1.1, p.1.2), gives n t (p.0 ∙ e) (omega (arith, p.1.2))))

pub YieldsList-down : (n : ℕ) {s : Rev (Range ℕ)} → s.iter ≡ record { start = 0; end = n } → YieldsList (rev_steps steps_back) (λ x. x) s (down n)
YieldsList-down n {s} e = record { runs = gives n s (ap (λ (r : Range ℕ). r.start) e) (ap (λ (r : Range ℕ). r.end) e) }

pub any_down : (plan : List ℕ) (n : ℕ) → list_any (λ i. says_link (decode_at plan i)) (down n) ≡ link_within plan n
any_down plan zero = sym (no-link-yet plan)
any_down plan (suc n) = ap (λ b. says_link (decode_at plan n) || b) (any_down plan n) ∙ or_comm (says_link (decode_at plan n)) (link_within plan n) ∙ sym (link-more plan n) ∙ ap (link_within plan) (add-one n)
