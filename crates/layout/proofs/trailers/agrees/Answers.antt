-- `layout::trailers::agrees` meets its contract: at each return the numbers read and the tests on them settle the definition.
use Rattle.layout.specs.Layout.{agreeing}
use Rattle.layout.proofs.Limits.{limits}
use Rattle.std.proofs.Common.{eq-eqb, ne_eqb}
use Rattle.layout.proofs.trailers.agrees.Goals as goal

pub trailer_bytes-requires : goal.trailer_bytes-requires
trailer_bytes-requires c = let l = limits c.args.g c.requires.1 in (l.edition-low, l.edition-high)

pub returns-then-get_u32-start : goal.returns-then-get_u32-start
unfolding agreeing
returns-then-get_u32-start c =
    let size = c.trailer_bytes.ensures.0 in
    let start = c.trailer_start-start.ensures.0 in
    rw (← size, ← c.get_u32.ensures, ← start, ne_eqb _ _ c.if-get_u32-start.true)

pub returns-then-get_u32-maps : goal.returns-then-get_u32-maps
unfolding agreeing
returns-then-get_u32-maps c =
    let size = c.trailer_bytes.ensures.0 in
    let start = c.trailer_start-start.ensures.0 in
    let maps = c.map_bytes-maps.ensures.0 in
    let first = eq-eqb _ _ c.if-get_u32-start.false in
    let read = c.get_u32.ensures in
    rw (← size, ← read, ← c.get_u32-2.ensures, ← start, ← maps, first, ne_eqb _ _ c.if-get_u32-maps.true)

pub returns-then-get_u32-total : goal.returns-then-get_u32-total
unfolding agreeing
returns-then-get_u32-total c =
    let total = c.image_bytes-total.ensures.0 in
    let size = c.trailer_bytes.ensures.0 in
    let start = c.trailer_start-start.ensures.0 in
    let maps = c.map_bytes-maps.ensures.0 in
    let first = eq-eqb _ _ c.if-get_u32-start.false in
    let next = eq-eqb _ _ c.if-get_u32-maps.false in
    let last = ne_eqb _ _ c.if-get_u32-total.true in
    rw (← total, ← size, ← c.get_u32.ensures, ← c.get_u32-2.ensures, ← c.get_u32-3.ensures, ← start, ← maps, first, next, last)

pub returns : goal.returns
unfolding agreeing
returns c =
    let total = c.image_bytes-total.ensures.0 in
    let size = c.trailer_bytes.ensures.0 in
    let start = c.trailer_start-start.ensures.0 in
    let maps = c.map_bytes-maps.ensures.0 in
    let first = eq-eqb _ _ c.if-get_u32-start.false in
    let next = eq-eqb _ _ c.if-get_u32-maps.false in
    let last = eq-eqb _ _ c.if-get_u32-total.false in
    rw (← total, ← size, ← c.get_u32.ensures, ← c.get_u32-2.ensures, ← c.get_u32-3.ensures, ← start, ← maps, first, next, last)
