-- What only the inner functions cite.
use Rattle.std.specs.Prelude.{ℕ, List, Option, Some, None}
use Rattle.carry.specs.Carry.{carry}
use Rattle.steps.specs.declared.Step.{Step}

-- the image after what the bytes of a step say; a plan that keeps rule 1 has no malformed step
abbrev pub carry_decoded : List ℕ → Option Step → List ℕ
carry_decoded s (Some x) = carry s x
carry_decoded s None = s
