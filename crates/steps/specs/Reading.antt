-- The plan reader: "A plan is read one step at a time from the lent bytes."
use Rattle.std.specs.Prelude.{ℕ, zero, suc, ◌+◌, cond, List, [], ◌∷◌, ltb, Option, Some, None}
use Rattle.std.specs.Borrow.{Bor}
use Rattle.steps.specs.declared.Reader.{Reader}
use Rattle.steps.specs.declared.Advanced.{Advanced}
use Rattle.steps.specs.Steps.{whole_steps, decode_at}
use Rattle.steps.specs.declared.Step.{Step}

-- what a plan has at a position: what its next 16 bytes say, or the end of its whole steps
unfoldable pub found_at : List ℕ → ℕ → Option (Option Step)
found_at plan at = cond (ltb at (whole_steps plan)) (Some (decode_at plan at)) None

-- the position past it; at the end a reader stays
unfoldable pub next_at : List ℕ → ℕ → ℕ
next_at plan at = cond (ltb at (whole_steps plan)) (at + 1) at

-- a reader of a plan, at a step
abbrev pub reader_at : Bor (List ℕ) → ℕ → Reader
reader_at plan at = record { plan = plan; at = at }

-- a reader of a plan, at its first step
abbrev pub started : Bor (List ℕ) → Reader
started plan = reader_at plan 0

-- what a reader finds, and the reader past it: over the same plan, which is still only lent
abbrev pub advanced : Reader → Advanced
advanced r = record {
  found = found_at r.plan.now r.at;
  rest = record { plan = r.plan; at = next_at r.plan.now r.at };
}

-- what n readings find, one after the other
unfoldable pub readings : Reader → ℕ → List (Option (Option Step))
readings r zero = []
readings r (suc n) = (advanced r).found ∷ readings (advanced r).rest n
