use Prim.Native.Nat.{◌+◌}
use Rattle.layout.specs.Layout.{put_word}
use Rattle.convert.proofs.Second.{Fits, second_fits, word-in}
use Rattle.convert.proofs.Putting.{puts-start, puts-turn, puts-end, puts-map}
use Rattle.convert.specs.Convert.{second_word}
use Rattle.image.specs.Claims.{held_in}
use Rattle.words.proofs.Laws.{length-store}
use lib.ListN.{length}
use mathlib.Core.Path.{refl, sym, ap, ◌∙◌}
use native.Mathlib.Omega.{arith}
use Rattle.convert.proofs.chunks.copy_map.Goals as goal
use Rattle.convert.proofs.chunks.copy_map.Goals.{Start}

-- map k is one of the new image's, whose shape is within the limits
fits : (c : Start) → Fits c.args.second c.args.k
fits c = second_fits c.args.image.now.shape c.args.second c.args.k c.requires.k_lt_m.1 c.args.image.now.shaped.limits c.requires.k_lt_m.0

pub held_count-count-requires : goal.held_count-count-requires
held_count-count-requires c = record {
  k_lt_m = c.requires.k_lt_m.0;
}

pub map_words-n-requires : goal.map_words-n-requires
map_words-n-requires c = (fits (goal.at.map_words-n-requires c).Start).limits

pub overflow_cast-n : goal.overflow_cast-n
overflow_cast-n c = omega arith

pub map_word_place-at-requires : goal.map_word_place-at-requires
map_word_place-at-requires c = let f = fits (goal.at.map_word_place-at-requires c).Start in record {
  limits = f.limits;
  k_lt_m = (f.low, f.some);
}

pub loop-j-init : goal.loop-j-init
loop-j-init c = (omega arith, refl, puts-start _ _ _ _)

-- the word that a turn stores is one of the image's
pub overflow_add-at : goal.overflow_add-at
overflow_add-at c =
    let inside = word-in c.args.second c.args.k (fits (goal.at.overflow_add-at c).Start) c.map_word_place-at.result c.map_words-n.result c.loop-j.j c.map_word_place-at.ensures.0
    c.map_words-n.ensures.0 (omega arith) in
    omega (arith, inside)

pub overflow_mul-at : goal.overflow_mul-at
overflow_mul-at c =
    let inside = word-in c.args.second c.args.k (fits (goal.at.overflow_mul-at c).Start) c.map_word_place-at.result c.map_words-n.result c.loop-j.j c.map_word_place-at.ensures.0
    c.map_words-n.ensures.0 (omega arith) in
    omega (arith, inside)

pub second_word-requires : goal.second_word-requires
second_word-requires c = record {
  k_lt_m = (c.requires.k_lt_m.0, c.held_count-count.ensures);
}

pub put_u64-requires : goal.put_u64-requires
put_u64-requires c =
    let inside = word-in c.args.second c.args.k (fits (goal.at.put_u64-requires c).Start) c.map_word_place-at.result c.map_words-n.result c.loop-j.j c.map_word_place-at.ensures.0
    c.map_words-n.ensures.0 (omega arith) in
    omega (arith, inside, c.loop-j.invariant.1, c.requires.k_lt_m.2)

pub loop-j-preserved : goal.loop-j-preserved
loop-j-preserved c = let l = c.loop-j in
    let at = c.map_word_place-at.result in
    let n = c.map_words-n.result in
    let put = c.put_u64.ensures ∙ ap (put_word l.out (at + l.j)) c.second_word.ensures in
    let turn = puts-turn (second_word (held_in c.args.image.now.bytes.now c.args.k)) l.out at n l.j (omega arith) in
    (omega arith, ap length put ∙ length-store 8 _ _ _ ∙ l.invariant.1, rw put (turn ∙ l.invariant.2))

pub returns : goal.returns
returns c = let l = c.loop-j in
    sym (puts-end _ l.out _ _ l.j (omega arith)) ∙ l.invariant.2
    ∙ puts-map c.args.second c.args.k _ _ _ _ c.map_word_place-at.ensures.0 c.map_words-n.ensures.0
