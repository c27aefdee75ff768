-- What the theorems on bytes and steps assume: which steps have bytes of their own, and which bytes are those of steps.
use Rattle.std.specs.Prelude.{ℕ, ◌%◌, ◌<◌, ◌≡◌, List, [], ◌∷◌, length, get_or, Option, Some, None}
use Rattle.steps.specs.declared.Step.{Step}
use Rattle.steps.specs.declared.Step.TheVariants.{Data, Map, Link, Fence}
use Rattle.steps.specs.Steps.{step_bytes, absent_field, whole_steps, decode_at}

-- every step of a list
abbrev pub Each : (Step → Type 0) → List Step → Type 0
Each P [] = Unit {0}
Each P (x ∷ xs) = P x × Each P xs

-- the numbers below it are u32
abbrev pub field_limit : ℕ
field_limit = 4294967296

-- "X is written 4294967295": the number 4294967295 would be read as X
abbrev pub ValueFits : Option ℕ → Type 0
ValueFits (Some w) = w < absent_field
ValueFits None = Unit {0}

-- the numbers of a step are u32, and its value is not taken for X
abbrev pub Fits : Step → Type 0
Fits (Data u j wr) = (u < field_limit) × (j < field_limit) × (wr < field_limit)
Fits (Map k j v) = (k < field_limit) × (j < field_limit) × ValueFits v
Fits (Link i v) = (i < field_limit) × ValueFits v
Fits Fence = Unit {0}

-- "Whole steps .. of the four kinds": bytes of which none is left over, and no malformed step
pub record WellFormed (plan : List ℕ) : Type 0 where
  pub bytes : (k : ℕ) → k < length plan → get_or plan k 0 < 256
  pub whole : length plan % step_bytes ≡ 0
  pub formed : (i : ℕ) → i < whole_steps plan → decode_at plan i ≡ None → ⊥
