-- `answers::loading::put_loaded` meets its contract: the numbers and the two sets, one run after the other.
use Rattle.std.proofs.Common.{◌≡◌, ℕ, ◌+◌, List, ◌++◌, length, sym, ap, ◌∙◌, arith}
use lib.Seq.{sets, length-sets}
use borrow.Rule.Slice.PartMut.{put_mid}
use Rattle.words.proofs.Laws.{sets-append, put_mid-sets}
use Rattle.answers.specs.Loading.{shape_words}
use Rattle.answers.proofs.loading.put_loaded.Goals as goal

pub returns : goal.returns
returns c =
    let a = c.args in
    let us = a.units.now in
    let ms = a.maps.now in
    let s = sets a.out.now 0 (shape_words a.g) in
    let n : length us ≡ 72 = c.requires.units_len.0 in
    let m : length ms ≡ 5 = c.requires.units_len.1 in
    let k = length-sets a.out.now 0 (shape_words a.g) in
    let first = put_mid-sets 4 72 s us n (omega (arith, k, c.requires.load_words_in_bounds)) in
    let second = put_mid-sets 76 5 (sets s 4 us) ms m (omega (arith, k, length-sets s 4 us, c.requires.load_words_in_bounds)) in
    let parts = sets-append (shape_words a.g) (us ++ ms) a.out.now 0 ∙ sets-append us ms s 4 ∙ ap (λ (i : ℕ). sets (sets s 4 us) (4 + i) ms) n in
    rw (c.copy_from_slice-2.ensures.after, c.copy_from_slice.ensures.after, c.put_shape.ensures)
    (ap (λ (l : List ℕ). put_mid 76 5 l ms) first ∙ second ∙ sym parts)
