-- `carry::carry_steps` meets its contract: what is left to carry out of the first n steps gives the whole; each turn keeps the shape.
use Prim.Native.Nat.{◌-◌, ◌≤◌}
use mathlib.Core.Path.{◌≡◌}
use lib.ListN.{take}
use Rattle.layout.specs.Shaped.{On}
use Rattle.steps.proofs.Rest.{rest}
use Rattle.carry.specs.Carry.{carry_all, carried}
use Rattle.carry.proofs.carry_steps.Given as goal

abbrev pub invariant-loop-i : goal.invariant-loop-i
invariant-loop-i l = (l.i ≤ l.n) × On l.g l.image × (carry_all l.image (take (l.n - l.i) (rest l.plan l.i)) ≡ carried l.initial.image l.plan l.n)
