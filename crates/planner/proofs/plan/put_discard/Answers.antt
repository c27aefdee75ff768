-- `planner::plan::put_discard` meets its contract: no steps, 10, or LINK and FENCE.
use Rattle.std.specs.Prelude.{Ok}
use mathlib.Core.Path.{refl}
use native.Mathlib.Omega.{arith}
use lib.ListN.{length}
use borrow.Author.Tests.{le-ltb}
use Rattle.steps.specs.Steps.{encode_all}
use Rattle.planner.proofs.AnswerLaws.{left_by_lem, discard-stored}
use Rattle.planner.proofs.plan.put_discard.Goals as goal

pub returns-then-not-mapped : goal.returns-then-not-mapped
unfolding encode_all
returns-then-not-mapped c = rw c.if-not-mapped.true (left_by_lem _ _ _ (Ok 0) _ (rw (le-ltb (length c.args.out.now) 0 (omega arith))) refl)

pub returns : goal.returns
returns c = rw c.if-not-mapped.false (discard-stored c.args.out.now _ c.args.chunk _ c.in_ok-steps.ensures cc)
