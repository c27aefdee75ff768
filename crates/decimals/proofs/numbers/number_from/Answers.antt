use Rattle.decimals.specs.Numbers.{is_digit}
use Rattle.decimals.proofs.NumberLaws.{no-digits, some-digits, digits_more, digits-stop, digits-end}
use Rattle.std.proofs.Common.{sym, ◌∙◌, arith, eqb-true}
use Rattle.std.proofs.lemmas.Bool.{eqb-false}
use Rattle.decimals.proofs.numbers.number_from.Goals as goal

pub returns-then-is_empty : goal.returns-then-is_empty
returns-then-is_empty c = no-digits _ _ (eqb-true _ _ (sym c.is_empty.ensures ∙ c.if-is_empty.true))

pub loop-byte-init : goal.loop-byte-init
loop-byte-init c = (some-digits _ _ (eqb-false _ _ (sym c.is_empty.ensures ∙ c.if-is_empty.false)), omega arith)

pub returns-then-not-is_ascii_digit : goal.returns-then-not-is_ascii_digit
unfolding is_digit
returns-then-not-is_ascii_digit c =
    sym (c.loop-byte.invariant.0 ∙ digits-stop _ c.args.text.now c.loop-byte.byte-index c.loop-byte-test.true (sym c.is_ascii_digit.ensures.value ∙ c.if-not-is_ascii_digit.true))

pub loop-byte-preserved : goal.loop-byte-preserved
unfolding is_digit
loop-byte-preserved c =
    let more = digits_more c.loop-byte.value c.args.text.now c.loop-byte.byte-index c.loop-byte-test.true (sym c.is_ascii_digit.ensures.value ∙ c.if-not-is_ascii_digit.false) in
    (rw c.append-value.ensures (c.loop-byte.invariant.0 ∙ more), omega (arith, c.append-value.ensures))

pub returns : goal.returns
returns c = sym (c.loop-byte.invariant.0 ∙ digits-end _ c.args.text.now c.loop-byte.byte-index c.loop-byte-test.false c.loop-byte.invariant.1)
