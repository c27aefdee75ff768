-- A plan that is ragged or too long, or has a step that is none or out of range, breaks rule 1; at the end of the loop rule 1 is kept, and what is seen is
-- what the steps add to the start.
use Rattle.pass.proofs.Ranged.{ragged, too_many, rule1-start}
use Rattle.pass.proofs.Folding.{fold_start, fold-turn, fold_done}
use Rattle.pass.specs.Passes.{see}
use Rattle.search.proofs.Ranges.{all-from-more, all-from-stop, all-from-end}
use Rattle.rules.specs.Rules.{whole_in_range}
use native.Mathlib.Omega.{arith}
use mathlib.Core.Path.{sym, ap, ◌∙◌}
use Rattle.pass.proofs.seeing.see_all.Goals as goal

pub returns-then-plan-ne0 : goal.returns-then-plan-ne0
returns-then-plan-ne0 c = record { decides = ragged _ _ c.if-plan-ne0.true; holds = λ st e. cc }

pub returns-then-n-gt-MAX_STEPS : goal.returns-then-n-gt-MAX_STEPS
returns-then-n-gt-MAX_STEPS c = record { decides = too_many _ _ c.if-plan-ne0.false c.if-n-gt-MAX_STEPS.true; holds = λ st e. cc }

pub loop-at-init : goal.loop-at-init
loop-at-init c = record { ranged = rule1-start _ _ c.if-plan-ne0.false c.if-n-gt-MAX_STEPS.false; folded = fold_start (see _ _ _) _ _ }

pub returns-in_err-step : goal.returns-in_err-step
returns-in_err-step c =
    rw c.from_residual.ensures record {
      decides = sym (c.loop-at.invariant.ranged ∙ all-from-stop _ _ _ (omega arith) (ap (whole_in_range c.args.g) (sym c.in_err-step.ensures)));
      holds = λ st e. cc;
    }

pub returns-then-not-in_range : goal.returns-then-not-in_range
returns-then-not-in_range c =
    record {
      decides = sym (c.loop-at.invariant.ranged ∙ all-from-stop _ _ _ (omega arith) (ap (whole_in_range c.args.g) (sym c.in_ok-step.ensures) ∙ sym c.if-not-in_range.ensures));
      holds = λ st e. cc;
    }

pub loop-at-preserved : goal.loop-at-preserved
loop-at-preserved c =
    let inv = c.loop-at.invariant in
    record {
      ranged = inv.ranged ∙ all-from-more _ _ _ (omega arith) (ap (whole_in_range c.args.g) (sym c.in_ok-step.ensures) ∙ sym c.if-not-in_range.ensures);
      folded = fold-turn (see _ _ _) _ _ _ _ _ _ (omega arith) inv.folded c.in_ok-step.ensures c.see-seen.ensures;
    }

pub returns : goal.returns
returns c =
    let inv = c.loop-at.invariant in
    record {
      decides = sym (inv.ranged ∙ all-from-end _ _ _ (omega arith));
      holds = λ st e. cc (fold_done (see _ _ _) _ _ _ _ (omega arith) inv.folded);
    }
