-- `image::Image::size_fits` meets its contract: edition 1 has no size, and otherwise the two tests are the definition's, by `size-over` and `size-rest`.
use Rattle.image.proofs.MapWords.{no_size, size-over, size-rest}
use Rattle.layout.proofs.Limits.{map-words}
use mathlib.Core.Path.{◌∙◌, sym}
use native.Mathlib.Omega.{arith}
use borrow.Author.Tests.{lt-leb}
use Rattle.image.proofs.Image.size_fits.Goals as goal

pub returns-then-head-eq0 : goal.returns-then-head-eq0
returns-then-head-eq0 c =
    let i = c.args.self.now in
    sym (no_size i.bytes.now i.shape c.args.k c.args.count i.shaped (sym c.head.ensures.0 ∙ c.if-head-eq0.true))

pub map_word-size-requires : goal.map_word-size-requires
map_word-size-requires c =
    let i = c.args.self.now in record { k_lt_m = (c.requires.k_lt_m.0, omega (arith, map-words i.shape, i.shaped.limits.p-low)) }

pub returns-then-size-most : goal.returns-then-size-most
returns-then-size-most c =
    let i = c.args.self.now in
    size-rest i.bytes.now i.shape c.args.k c.args.count i.shaped _ c.map_word-size.ensures
    (λ e. c.if-head-eq0.false (c.head.ensures.0 ∙ e)) c.requires.k_lt_m.1 (omega arith)

pub returns-else-size-most : goal.returns-else-size-most
returns-else-size-most c =
    let i = c.args.self.now in
    lt-leb _ _ c.if-size-most.false
    ∙ sym (size-over i.bytes.now i.shape c.args.k c.args.count i.shaped _ c.map_word-size.ensures
    (λ e. c.if-head-eq0.false (c.head.ensures.0 ∙ e)) (omega arith))
