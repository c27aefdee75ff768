-- `renewal::renew::each_unit` meets its contract: the first j words were units, and the calls at them were made.
use Rattle.std.proofs.Common.{◌<◌}
use Rattle.renewal.specs.Renewal.{Leaves}
use Rattle.renewal.proofs.Renewing.{Walked}
use Rattle.renewal.proofs.renew.each_unit.Given as goal

abbrev pub invariant-loop-j : goal.invariant-loop-j
invariant-loop-j g l = (l.k < l.image.shape.m) × Walked (Leaves (goal.F-post g l.change)) l.image.bytes.now l.k l.initial.units l.j l.units
