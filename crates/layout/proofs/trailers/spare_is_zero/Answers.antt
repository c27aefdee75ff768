-- `layout::trailers::spare_is_zero` meets its contract: edition 1 has no such number, and otherwise the test is the definition's.
use Rattle.std.proofs.Common.{arith, eq-eqb, ne_eqb}
use Rattle.layout.specs.Layout.{spare_zero}
use Rattle.layout.proofs.Limits.{limits}
use Rattle.layout.proofs.trailers.spare_is_zero.Goals as goal

pub returns-then-g-eq-FIRST_EDITION : goal.returns-then-g-eq-FIRST_EDITION
unfolding spare_zero
returns-then-g-eq-FIRST_EDITION c = rw (eq-eqb _ _ c.if-g-eq-FIRST_EDITION.true)

pub trailer_bytes-requires : goal.trailer_bytes-requires
trailer_bytes-requires c = let g = c.args.g in
    let l = limits g c.requires.1 in
    (l.edition-low, l.edition-high)

pub get_u32-requires : goal.get_u32-requires
get_u32-requires c = let g = c.args.g in
    let l = limits g c.requires.1 in
    omega (arith, l.edition-low, l.edition-high)

pub returns : goal.returns
unfolding spare_zero
returns c = rw (ne_eqb _ _ c.if-g-eq-FIRST_EDITION.false, ← c.trailer_bytes.ensures.0, ← c.get_u32.ensures)
