-- A plan longer than 65 steps, judged by its first 65.
use Rattle.std.specs.Prelude.{ℕ, ◌*◌, cond, List, ltb, take}
use Rattle.steps.specs.Steps.{step_bytes}

-- the first 65 steps of a plan, one more than rule 1 allows
abbrev pub read_of : List ℕ → List ℕ
read_of plan = take (step_bytes * 65) plan

-- how many steps to ask of those, where n are asked of the `whole` steps of the plan: as many, or
-- more than there are
unfoldable pub asked_of : ℕ → ℕ → ℕ
asked_of n whole = cond (ltb whole n) n (cond (ltb n 65) n 65)
