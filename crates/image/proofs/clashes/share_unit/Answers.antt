use Prim.Native.Nat.{ℕ}
use mathlib.Core.Path.{◌∙◌, ap, sym}
use mathlib.Core.Bool.{Bool}
use native.Mathlib.Omega.{arith}
use Rattle.search.specs.Search.{member}
use Rattle.image.specs.Claims.{held_in}
use Rattle.search.proofs.Distinct.{meets}
use Rattle.search.proofs.Members.{any-more, any-stop, any-end}
use Rattle.image.proofs.MapWords.{held_word}
use Rattle.image.proofs.clashes.share_unit.Goals as goal

pub loop-i-init : goal.loop-i-init
loop-i-init c = meets _ _

pub unit_word-requires : goal.unit_word-requires
unit_word-requires c =
    let m = c.args.image.now in
    let e = c.held_count-end.ensures in
    record { k_lt_m = (c.requires.k_lt_m.1, (held_word m.bytes.now m.shape c.args.h c.loop-i.i m.shaped c.requires.k_lt_m.1 (omega arith)).0) }

pub returns-then-holds : goal.returns-then-holds
returns-then-holds c =
    let m = c.args.image.now in
    let s = m.bytes.now in
    let l = c.loop-i in
    let e = c.held_count-end.ensures in
    let w = held_word s m.shape c.args.h l.i m.shaped c.requires.k_lt_m.1 (omega arith) in
    let f : ℕ → Bool = λ y. member y (held_in s c.args.k) in
    let found = ap f (sym (c.unit_word.ensures ∙ w.1)) ∙ sym c.holds.ensures ∙ c.if-holds.true in
    sym (l.invariant ∙ any-stop f (held_in s c.args.h) l.i (omega arith) found)

pub loop-i-preserved : goal.loop-i-preserved
loop-i-preserved c =
    let m = c.args.image.now in
    let s = m.bytes.now in
    let l = c.loop-i in
    let e = c.held_count-end.ensures in
    let w = held_word s m.shape c.args.h l.i m.shaped c.requires.k_lt_m.1 (omega arith) in
    let f : ℕ → Bool = λ y. member y (held_in s c.args.k) in
    let other = ap f (sym (c.unit_word.ensures ∙ w.1)) ∙ sym c.holds.ensures ∙ c.if-holds.false in
    l.invariant ∙ any-more f (held_in s c.args.h) l.i (omega arith) other

pub returns : goal.returns
returns c =
    let s = c.args.image.now.bytes.now in
    let l = c.loop-i in
    let e = c.held_count-end.ensures in
    sym (l.invariant ∙ any-end (λ y. member y (held_in s c.args.k)) (held_in s c.args.h) l.i (omega arith))
