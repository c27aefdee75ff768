-- `decimals::fractions::whole_fraction` meets its contract: one law for each finding.
use Rattle.std.specs.Prelude.{Some}
use Rattle.decimals.proofs.FractionLaws.{says, says_none, whole_long, whole-none, whole-value}
use Rattle.std.proofs.Common.{ap, ◌∙◌, arith}
use Rattle.decimals.proofs.fractions.whole_fraction.Goals as goal

pub returns-then-text-gt-MAX_DIGITS : goal.returns-then-text-gt-MAX_DIGITS
returns-then-text-gt-MAX_DIGITS c = whole_long _ (omega arith)

pub returns-in_err-value : goal.returns-in_err-value
returns-in_err-value c = rw c.from_residual.ensures (whole-none _ (says_none 0 _ c.in_err-value.ensures))

pub returns : goal.returns
returns c =
    let w = says 0 _ _ c.in_ok-value.ensures in
    ap Some c.ratio.ensures ∙ whole-value _ _ w.0 (omega arith) w.1
