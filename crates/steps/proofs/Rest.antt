-- What is left of a plan from step i on: the laws by which a loop or an induction goes through its steps.
use Prim.Native.Nat.{ℕ, ◌+◌, ◌-◌, ◌<◌, ◌≤◌}
use mathlib.Core.Path.{◌≡◌, refl}
use mathlib.Core.List.{List, [], map}
use native.Mathlib.Omega.{arith}
use Rattle.search.specs.Search.{from}
use Rattle.search.proofs.Ranges.{from_next, from_end}
use Rattle.steps.specs.declared.Step.{Step}
use Rattle.steps.specs.Steps.{decode_at, whole_steps, steps_append, gather, steps_of}

-- the steps from step i on
unfoldable pub rest : List ℕ → ℕ → List Step
rest plan i = gather (map (decode_at plan) (from i (whole_steps plan - i)))

pub rest-start : (plan : List ℕ) → steps_of plan ≡ rest plan 0
unfolding steps_of rest
rest-start plan = let e : whole_steps plan - 0 ≡ whole_steps plan = omega arith in rw e refl

pub rest-next : (plan : List ℕ) (i : ℕ) → i < whole_steps plan → rest plan i ≡ steps_append (decode_at plan i) (rest plan (i + 1))
unfolding rest gather
rest-next plan i h = rw (from_next i (whole_steps plan) h) refl

pub rest_end : (plan : List ℕ) (i : ℕ) → whole_steps plan ≤ i → rest plan i ≡ []
unfolding rest gather
rest_end plan i h = rw (from_end i (whole_steps plan) h) refl
