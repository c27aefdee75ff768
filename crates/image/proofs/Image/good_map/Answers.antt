-- `image::Image::good_map` meets its contract: the map holds a unit, only X follows its units, and its size fits them.
use Rattle.image.proofs.MapWords.{length-units_in}
use Rattle.image.proofs.Leading.{length-leading}
use Rattle.image.proofs.Chunks.{map-named, bad-form, good-form}
use Rattle.layout.specs.Layout.{is_unit, shape_of}
use Rattle.layout.specs.Shaped.{unit_words_of}
use native.Mathlib.Omega.{arith}
use borrow.Author.Tests.{ltb-true}
use mathlib.Core.Path.{◌∙◌, sym}
use Rattle.image.proofs.Image.good_map.Goals as goal
use Rattle.image.proofs.Image.good_map.Goals.{then-h-gt0, else-h-gt0}

pub absent_from-requires : goal.absent_from-requires
absent_from-requires c =
    let i = c.args.self.now in
    let s = i.bytes.now in
    let few = length-leading (is_unit (shape_of s)) (unit_words_of s c.link-w.result) in record {
      k_lt_m = (
        map-named s i.shape c.args.i _ i.shaped c.link-w.ensures c.if-w.false c.requires.i_lt_c.1,
        omega (arith, c.held_count-h.ensures, few, length-units_in s i.shape c.link-w.result i.shaped),
      );
    }

pub size_fits-requires : goal.size_fits-requires
size_fits-requires c =
    let i = c.args.self.now in
    let s = i.bytes.now in
    let few = length-leading (is_unit (shape_of s)) (unit_words_of s c.link-w.result) in record {
      k_lt_m = (
        map-named s i.shape c.args.i _ i.shaped c.link-w.ensures c.if-w.false c.requires.i_lt_c.1,
        elim c.if-h-gt0.branch [ then-h-gt0 w ↦ omega arith | else-h-gt0 w ↦ ltb-true 0 _ (sym w.value-is ∙ c.if-absent_from.true) ],
        omega (arith, c.held_count-h.ensures, few, length-units_in s i.shape c.link-w.result i.shaped),
      );
    }

pub returns-then-absent_from : goal.returns-then-absent_from
returns-then-absent_from c =
    let s = c.args.self.now.bytes.now in
    elim c.if-h-gt0.branch [
      | then-h-gt0 w ↦
          let form = good-form s c.args.i _ _ c.link-w.ensures c.if-w.false c.held_count-h.ensures (λ e. omega arith) in
          sym (form ∙ rw (← w.absent_from.ensures, ← w.value-is, c.if-absent_from.true) (sym c.size_fits.ensures))
      | else-h-gt0 w ↦ let h = ltb-true 0 _ (sym w.value-is ∙ c.if-absent_from.true) in absurd (omega arith)
    ]

pub returns-else-absent_from : goal.returns-else-absent_from
returns-else-absent_from c =
    let s = c.args.self.now.bytes.now in
    c.if-absent_from.false
    ∙ elim c.if-h-gt0.branch [
      | then-h-gt0 w ↦
          let form = good-form s c.args.i _ _ c.link-w.ensures c.if-w.false c.held_count-h.ensures (λ e. omega arith) in
          sym (form ∙ rw (← w.absent_from.ensures, ← w.value-is, c.if-absent_from.false))
      | else-h-gt0 w ↦ sym (bad-form s c.args.i _ _ c.link-w.ensures c.if-w.false c.held_count-h.ensures (omega arith))
    ]
