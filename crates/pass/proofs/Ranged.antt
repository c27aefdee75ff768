-- Rule 1, test by test.
use Prim.Native.Nat.{ℕ, ◌-◌, ◌<◌, ◌≤◌, ◌%◌}
use mathlib.Core.Path.{◌≡◌}
use mathlib.Core.Bool.{false}
use mathlib.Core.List.{List}
use borrow.Author.Tests.{eq-eqb, ne_eqb, le-leb, lt-leb}
use lib.ListN.{length}
use Rattle.layout.specs.declared.Shape.{Shape}
use Rattle.search.specs.Search.{from, all}
use Rattle.steps.specs.Steps.{step_bytes, whole_steps, decode_at}
use Rattle.rules.specs.Rules.{max_steps, whole_in_range, rule1}
use Rattle.search.proofs.Ranges.{below-start}

module _ (g : Shape) (plan : List ℕ) where
  pub ragged : (length plan % step_bytes ≡ 0 → ⊥) → false ≡ rule1 g plan
  unfolding rule1
  ragged h = simp (ne_eqb _ _ h)

  pub too_many : length plan % step_bytes ≡ 0 → max_steps < whole_steps plan → false ≡ rule1 g plan
  unfolding rule1
  too_many e h = simp (eq-eqb _ _ e, lt-leb _ _ h)

  pub rule1-start :
      length plan % step_bytes ≡ 0 → whole_steps plan ≤ max_steps
      → rule1 g plan ≡ all (λ i. whole_in_range g (decode_at plan i)) (from 0 (whole_steps plan - 0))
  unfolding rule1
  rule1-start e h = simp (eq-eqb _ _ e, le-leb _ _ h, ← below-start)
