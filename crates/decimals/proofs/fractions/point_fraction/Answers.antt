-- `decimals::fractions::point_fraction` meets its contract: one law for each finding.
use Rattle.std.specs.Prelude.{Some}
use Rattle.decimals.proofs.FractionLaws.{says, says_none, point-long, point-no-before, point-no-after, point-value}
use Rattle.std.proofs.Common.{ap, ◌∙◌, arith}
use Rattle.decimals.proofs.fractions.point_fraction.Goals as goal

pub returns-then-saturating_add-gt-MAX_DIGITS : goal.returns-then-saturating_add-gt-MAX_DIGITS
returns-then-saturating_add-gt-MAX_DIGITS c = point-long _ _ (omega arith)

pub returns-in_err-start : goal.returns-in_err-start
returns-in_err-start c = rw c.from_residual.ensures (point-no-before _ _ (says_none 0 _ c.in_err-start.ensures))

pub returns-in_err-value : goal.returns-in_err-value
returns-in_err-value c = rw c.from_residual-in_err-value.ensures (point-no-after _ _ (says_none _ _ c.in_err-value.ensures))

pub returns : goal.returns
returns c =
    let a = says 0 _ _ c.in_ok-start.ensures in
    let b = says _ _ _ c.in_ok-value.ensures in
    ap Some c.ratio.ensures ∙ (rw c.pow.ensures (point-value _ _ _ a.0 b.0 (omega arith) (rw (← a.1) b.1)))
