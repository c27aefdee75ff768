-- `layout::format::put_added` meets its contract: its two stores are edition 2's last 8 bytes, by `added-run`, and edition 1 has none, by `none-added`.
use Rattle.layout.proofs.Limits.{limits}
use Rattle.layout.proofs.Formatting.{added-run, none-added}
use Rattle.std.proofs.Common.{◌∙◌, arith}
use Rattle.layout.proofs.format.put_added.Goals as goal

pub put_u32-requires : goal.put_u32-requires
put_u32-requires c = let g = c.args.g in
    let l = limits g c.requires.1 in
    omega (arith, l.edition-low, l.edition-high)

pub put_u32-requires-then-g-ne-FIRST_EDITION : goal.put_u32-requires-then-g-ne-FIRST_EDITION
put_u32-requires-then-g-ne-FIRST_EDITION c = let g = c.args.g in
    let l = limits g c.requires.1 in
    omega (arith, l.edition-low, l.edition-high)

pub returns-then-g-ne-FIRST_EDITION : goal.returns-then-g-ne-FIRST_EDITION
returns-then-g-ne-FIRST_EDITION c =
    let a = c.args in
    let l = limits a.g c.requires.1 in
    c.put_u32-then-g-ne-FIRST_EDITION.ensures
    ∙ rw c.put_u32.ensures (added-run a.image.now a.at a.g (omega (arith, l.edition-low, l.edition-high)))

pub returns-else-g-ne-FIRST_EDITION : goal.returns-else-g-ne-FIRST_EDITION
returns-else-g-ne-FIRST_EDITION c = let a = c.args in
    none-added a.image.now a.at a.g c.if-g-ne-FIRST_EDITION.false
