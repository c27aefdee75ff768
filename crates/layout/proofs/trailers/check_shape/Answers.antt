-- `layout::trailers::check_shape` meets its contract: at each return what the callees ensure and the tests settle `fitting`.
use Rattle.std.proofs.Common.{sym, ap, ◌∙◌, arith}
use Rattle.layout.specs.Layout.{fitting}
use Rattle.layout.specs.declared.Shape.{Shape}
use Rattle.layout.proofs.Limits.{edition-some, edition-last, known-long, shape-edition}
use Rattle.layout.proofs.trailers.check_shape.Goals as goal

pub shape_of-g-requires : goal.shape_of-g-requires
shape_of-g-requires c =
    let s = c.args.s.now in
    let e = c.requires.1 in
    (e, omega (arith, e, edition-some s), omega (arith, e, edition-last s), omega (arith, e, known-long s c.requires.0))

pub returns-then-not-within_limits : goal.returns-then-not-within_limits
unfolding fitting
returns-then-not-within_limits c = rw (← c.shape_of-g.ensures, ← c.within_limits.ensures, c.if-not-within_limits.true)

pub agrees-requires : goal.agrees-requires
agrees-requires c = let s = c.args.s.now in
    let e = ap (λ (g : Shape). g.edition) c.shape_of-g.ensures ∙ shape-edition s in
    (omega (arith, known-long s c.requires.0), sym c.within_limits.ensures ∙ c.if-not-within_limits.false)

pub returns-then-not-agrees : goal.returns-then-not-agrees
unfolding fitting
returns-then-not-agrees c =
    let inside = c.if-not-within_limits.false in
    let other = c.if-not-agrees.true in
    rw (← c.shape_of-g.ensures, ← c.within_limits.ensures, inside, ← c.agrees.ensures, other)

pub spare_is_zero-requires : goal.spare_is_zero-requires
spare_is_zero-requires c =
    let s = c.args.s.now in
    let e = ap (λ (g : Shape). g.edition) c.shape_of-g.ensures ∙ shape-edition s in
    (omega (arith, known-long s c.requires.0), sym c.within_limits.ensures ∙ c.if-not-within_limits.false)

pub returns-then-not-spare_is_zero : goal.returns-then-not-spare_is_zero
unfolding fitting
returns-then-not-spare_is_zero c =
    let inside = c.if-not-within_limits.false in
    let same = c.if-not-agrees.false in
    let other = c.if-not-spare_is_zero.true in
    let shape = c.shape_of-g.ensures in
    rw (← shape, ← c.within_limits.ensures, inside, ← c.agrees.ensures, same, ← c.spare_is_zero.ensures, other)

pub returns : goal.returns
unfolding fitting
returns c =
    let inside = c.if-not-within_limits.false in
    let same = c.if-not-agrees.false in
    let none = c.if-not-spare_is_zero.false in
    let shape = c.shape_of-g.ensures in
    rw (← shape, ← c.within_limits.ensures, inside, ← c.agrees.ensures, same, ← c.spare_is_zero.ensures, none)
