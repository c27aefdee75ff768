use Rattle.repair.proofs.Counting.{counted_start, counted-more, counted-all}
use Rattle.image.proofs.MapWords.{held_word}
use Rattle.image.specs.Claims.{held_in}
use native.Mathlib.Omega.{arith}
use mathlib.Core.Path.{refl, ◌∙◌}
use borrow.Author.Rules.{rules}
use Rattle.repair.proofs.claims.claim_units.Goals as goal

pub loop-j-init : goal.loop-j-init
loop-j-init c = (search rules, refl, refl, λ xs h. counted_start (held_in c.args.image.now.bytes.now c.args.k) xs _ _ h)

pub unit_word-requires : goal.unit_word-requires
unit_word-requires c = record {
  k_lt_m = (c.requires.k_lt_m.0, (held_word c.args.image.now.bytes.now c.args.image.now.shape c.args.k c.loop-j.j c.args.image.now.shaped c.requires.k_lt_m.0 (omega arith)).0);
}

pub loop-j-preserved : goal.loop-j-preserved
loop-j-preserved c =
    let l = c.loop-j in
    let us = held_in c.args.image.now.bytes.now c.args.k in
    let w = held_word c.args.image.now.bytes.now c.args.image.now.shape c.args.k l.j c.args.image.now.shaped c.requires.k_lt_m.0 (omega arith) in
    let unit = c.unit_word.ensures ∙ w.1 in (
      omega arith,
      c.claim.auto.once ∙ l.invariant.1,
      c.claim.auto.again ∙ l.invariant.2,
      λ xs h. counted-more us xs l.j _ _ _ (omega arith) unit (c.claim.ensures _ (l.invariant.3 xs h)),
    )

pub returns : goal.returns
returns c = λ xs h. counted-all (held_in c.args.image.now.bytes.now c.args.k) xs c.loop-j.j _ _ (omega arith) (c.loop-j.invariant.3 xs h)
