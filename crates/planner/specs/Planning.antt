-- What only the inner functions cite.
use Rattle.std.specs.Prelude.{ℕ, List, ◌≡◌, Result}
use Rattle.steps.specs.declared.Step.{Step}
use Rattle.planner.specs.Planner.{written}
use Rattle.layout.specs.declared.Refusal.{Refusal}

-- an answer, and what it leaves in the lent bytes, where they are to be those of the answer a and the plan xs
abbrev pub Leaves : Result ℕ Refusal → List Step → List ℕ → Result ℕ Refusal → List ℕ → Type 0
Leaves a xs out answer after = (answer ≡ a) × (after ≡ written a xs out)
