use mathlib.Core.Path.{refl, ◌∙◌, sym}
use native.Mathlib.Omega.{arith}
use borrow.Author.Tests.{eq-eqb, ne_eqb}
use lib.ListN.{get_or}
use lib.Dec.{eqb}
use Rattle.search.specs.Search.{member}
use Rattle.image.specs.Claims.{held_in}
use Rattle.image.proofs.MapWords.{held_word}
use Rattle.search.proofs.Members.{any-more, any-stop, any-end}
use Rattle.image.proofs.clashes.holds.Goals as goal

pub loop-i-init : goal.loop-i-init
unfolding member
loop-i-init c = refl

pub unit_word-requires : goal.unit_word-requires
unit_word-requires c =
    let m = c.args.image.now in
    record { k_lt_m = (c.requires.k_lt_m.0, (held_word m.bytes.now m.shape c.args.k c.loop-i.i m.shaped c.requires.k_lt_m.0 (omega arith)).0) }

pub returns-then-u-unit_word : goal.returns-then-u-unit_word
returns-then-u-unit_word c =
    let m = c.args.image.now in
    let l = c.loop-i in
    let us = held_in m.bytes.now c.args.k in
    let w = held_word m.bytes.now m.shape c.args.k l.i m.shaped c.requires.k_lt_m.0 (omega arith) in
    let same = eq-eqb c.args.u (get_or us l.i 0) (c.if-u-unit_word.true ∙ c.unit_word.ensures ∙ w.1) in
    sym (l.invariant ∙ any-stop (eqb c.args.u) us l.i (omega arith) same)

pub loop-i-preserved : goal.loop-i-preserved
loop-i-preserved c =
    let m = c.args.image.now in
    let l = c.loop-i in
    let us = held_in m.bytes.now c.args.k in
    let w = held_word m.bytes.now m.shape c.args.k l.i m.shaped c.requires.k_lt_m.0 (omega arith) in
    l.invariant
    ∙ any-more (eqb c.args.u) us l.i (omega arith)
    (ne_eqb c.args.u (get_or us l.i 0) (λ e. c.if-u-unit_word.false (e ∙ sym (c.unit_word.ensures ∙ w.1))))

pub returns : goal.returns
returns c =
    let l = c.loop-i in
    sym (l.invariant ∙ any-end (eqb c.args.u) (held_in c.args.image.now.bytes.now c.args.k) l.i (omega arith))
