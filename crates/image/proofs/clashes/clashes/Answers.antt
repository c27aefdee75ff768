-- `image::clashes::clashes` meets its contract: by the two entries, and then by the units of their maps.
use mathlib.Core.Path.{◌∙◌, sym}
use mathlib.Core.Logic.{⊎_elim}
use borrow.Author.Tests.{eq-eqb}
use Rattle.image.proofs.Claiming.{clash-left, clash-right, clash-same, clash-other}
use Rattle.image.proofs.clashes.clashes.Goals as goal

pub returns-then-v : goal.returns-then-v
returns-then-v c =
    let s = c.args.image.now.bytes.now in
    ⊎_elim (λ v. sym (clash-left s c.args.i c.args.j _ c.link-v.ensures v)) (λ w. sym (clash-right s c.args.i c.args.j _ c.link-w.ensures w.1)) c.then-v.either

pub returns-then-v-w : goal.returns-then-v-w
returns-then-v-w c =
    let s = c.args.image.now.bytes.now in
    eq-eqb _ _ c.if-v-w.true
    ∙ sym (clash-same s c.args.i c.args.j _ _ c.link-v.ensures c.link-w.ensures c.if-v.false c.if-w.false c.if-v-w.true)

pub returns-else-v-w : goal.returns-else-v-w
returns-else-v-w c =
    let s = c.args.image.now.bytes.now in
    c.share_unit.ensures ∙ sym (clash-other s c.args.i c.args.j _ _ c.link-v.ensures c.link-w.ensures c.if-v.false c.if-w.false c.if-v-w.false)
