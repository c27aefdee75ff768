use Rattle.image.proofs.MapWords.{held_word}
use Rattle.image.specs.Claims.{held_in}
use Rattle.bitset.specs.Bits.{in_set}
use Rattle.search.proofs.Members.{any-more, any-stop, any-end}
use native.Mathlib.Omega.{arith}
use mathlib.Core.Path.{refl, sym, ap, ◌∙◌}
use borrow.Author.Rules.{rules}
use Rattle.repair.proofs.claims.has_unit_in.Goals as goal

pub loop-j-init : goal.loop-j-init
loop-j-init c = (search rules, refl)

pub unit_word-requires : goal.unit_word-requires
unit_word-requires c = record {
  k_lt_m = (c.requires.k_lt_m.0, (held_word c.args.image.now.bytes.now c.args.image.now.shape c.args.k c.loop-j.j c.args.image.now.shaped c.requires.k_lt_m.0 (omega arith)).0);
}

pub returns-then-contains : goal.returns-then-contains
returns-then-contains c =
    let l = c.loop-j in
    let us = held_in c.args.image.now.bytes.now c.args.k in
    let f = in_set c.args.set.now in
    let w = held_word c.args.image.now.bytes.now c.args.image.now.shape c.args.k l.j c.args.image.now.shaped c.requires.k_lt_m.0 (omega arith) in
    let found = ap f (sym (c.unit_word.ensures ∙ w.1)) ∙ sym c.contains.ensures ∙ c.if-contains.true in
    sym (l.invariant.1 ∙ any-stop f us l.j (omega arith) found)

pub loop-j-preserved : goal.loop-j-preserved
loop-j-preserved c =
    let l = c.loop-j in
    let us = held_in c.args.image.now.bytes.now c.args.k in
    let f = in_set c.args.set.now in
    let w = held_word c.args.image.now.bytes.now c.args.image.now.shape c.args.k l.j c.args.image.now.shaped c.requires.k_lt_m.0 (omega arith) in
    let other = ap f (sym (c.unit_word.ensures ∙ w.1)) ∙ sym c.contains.ensures ∙ c.if-contains.false in
    (omega arith, l.invariant.1 ∙ any-more f us l.j (omega arith) other)

pub returns : goal.returns
returns c = sym (c.loop-j.invariant.1 ∙ any-end (in_set c.args.set.now) (held_in c.args.image.now.bytes.now c.args.k) c.loop-j.j (omega arith))
