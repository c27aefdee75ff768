-- `access::sizes::size_in` meets its contract: none for an entry of X, in edition 1 the bytes of the units counted, and otherwise the size word.
use Rattle.image.proofs.Chunks.{map-named}
use Rattle.image.proofs.MapWords.{length-units_in}
use Rattle.image.proofs.Leading.{length-leading}
use Rattle.layout.specs.Shaped.{unit_words_of}
use Rattle.layout.specs.Layout.{is_unit, shape_of}
use Rattle.access.proofs.SizeLaws.{size-absent, size-counted, size-told}
use Rattle.layout.proofs.Limits.{map-words}
use mathlib.Core.Path.{◌∙◌, sym}
use native.Mathlib.Omega.{arith}
use Rattle.access.proofs.sizes.size_in.Goals as goal

pub returns-then-w : goal.returns-then-w
returns-then-w c =
    let s = c.args.image.now in
    size-absent s.bytes.now s.shape c.args.i _ s.shaped c.link-w.ensures c.if-w.true

pub overflow_mul-result : goal.overflow_mul-result
overflow_mul-result c =
    let s = c.args.image.now in
    let k = c.link-w.result in
    let few = length-leading (is_unit (shape_of s.bytes.now)) (unit_words_of s.bytes.now k) in
    omega (arith, c.held_count.ensures, few, length-units_in s.bytes.now s.shape k s.shaped, s.shaped.limits.p-high)

pub returns-then-head-eq0 : goal.returns-then-head-eq0
returns-then-head-eq0 c =
    let s = c.args.image.now in
    let bare = sym c.head.ensures.0 ∙ c.if-head-eq0.true in
    size-counted s.bytes.now s.shape c.args.i _ s.shaped c.link-w.ensures c.if-w.false bare _ c.held_count.ensures

pub map_word-requires : goal.map_word-requires
map_word-requires c =
    let s = c.args.image.now in
    let k = map-named s.bytes.now s.shape c.args.i _ s.shaped c.link-w.ensures c.if-w.false c.requires.i_lt_c.1 in
    record { k_lt_m = (k, omega (arith, map-words s.shape, s.shaped.limits.p-low)) }

pub returns : goal.returns
returns c =
    let s = c.args.image.now in
    c.map_word.ensures ∙ size-told s.bytes.now s.shape c.args.i _ s.shaped c.link-w.ensures c.if-w.false
    (λ e. c.if-head-eq0.false (c.head.ensures.0 ∙ e))
