-- `layout::format::format_edition` meets its contract: numbers past the limits are refused, and the others fit 32 bits.
use Rattle.std.proofs.Common.{arith}
use Rattle.layout.specs.declared.Shape.{Shape}
use Rattle.layout.proofs.Formatting.{beyond}
use Rattle.layout.proofs.format.format_edition.Goals as goal
use Rattle.layout.proofs.format.format_edition.Goals.{Start}

-- the shape that is asked for
abbrev asked : Start → Shape
asked c = record { edition = c.args.edition; p = c.args.p; c = c.args.c; m = c.args.m; n = c.args.n; r = c.args.r }

pub returns-then-p : goal.returns-then-p
returns-then-p c = record {
  value = (beyond (asked (goal.at.returns-then-p c).Start) _ (λ l h. omega (arith, l, h, c.if-p.true))).0;
  image_after = (beyond (asked (goal.at.returns-then-p c).Start) _ (λ l h. omega (arith, l, h, c.if-p.true))).1;
}

pub returns-then-c : goal.returns-then-c
returns-then-c c = record {
  value = (beyond (asked (goal.at.returns-then-c c).Start) _ (λ l h. omega (arith, l, h, c.if-c.true))).0;
  image_after = (beyond (asked (goal.at.returns-then-c c).Start) _ (λ l h. omega (arith, l, h, c.if-c.true))).1;
}

pub returns-then-m : goal.returns-then-m
returns-then-m c = record {
  value = (beyond (asked (goal.at.returns-then-m c).Start) _ (λ l h. omega (arith, l, h, c.if-m.true))).0;
  image_after = (beyond (asked (goal.at.returns-then-m c).Start) _ (λ l h. omega (arith, l, h, c.if-m.true))).1;
}

pub returns-then-n : goal.returns-then-n
returns-then-n c = record {
  value = (beyond (asked (goal.at.returns-then-n c).Start) _ (λ l h. omega (arith, l, h, c.if-n.true))).0;
  image_after = (beyond (asked (goal.at.returns-then-n c).Start) _ (λ l h. omega (arith, l, h, c.if-n.true))).1;
}

pub returns-then-r : goal.returns-then-r
returns-then-r c = record {
  value = (beyond (asked (goal.at.returns-then-r c).Start) _ (λ l h. omega (arith, l, h, c.if-r.true))).0;
  image_after = (beyond (asked (goal.at.returns-then-r c).Start) _ (λ l h. omega (arith, l, h, c.if-r.true))).1;
}
