use Prim.Native.Nat.{◌*◌, ◌-◌}
use Rattle.bitset.proofs.Taking.{wanted, at-start, word-start, word_more, word_end, one-low}
use Rattle.bitset.specs.Bits.{limit}
use Rattle.search.proofs.Rising.{rising-end}
use Rattle.search.proofs.Filling.{filling-all, filling-full}
use lib.Count.{trailing_le}
use lib.Bits.{and_le_r}
use native.Mathlib.Omega.{arith}
use Rattle.bitset.proofs.lowest.Goals as goal

pub loop-i-init : goal.loop-i-init
loop-i-init c = let a = c.args in at-start a.set.now a.end a.out.now

pub shape_of-out-then-out-j : goal.shape_of-out-then-out-j
shape_of-out-then-out-j c = c.loop-i.invariant.same

pub returns-then-out-j : goal.returns-then-out-j
returns-then-out-j c = record {
  value = (filling-full _ _ _ _ _ c.loop-i.invariant c.if-out-j.true).0;
  out_after = (filling-full _ _ _ _ _ c.loop-i.invariant c.if-out-j.true).1;
}

pub loop-rest-init : goal.loop-rest-init
loop-rest-init c = λ begun h.
    let a = c.args in
    let l = c.loop-i in
    word-start a.set.now a.end begun l.out l.j l.i c.word_below.result c.loop-i-test.true
    (omega (arith, c.type_inv.set l.i)) c.word_below.ensures h

pub shape_of-out-then-out-j-2 : goal.shape_of-out-then-out-j-2
shape_of-out-then-out-j-2 c =
    let a = c.args in
    (c.loop-rest.invariant a.out.now c.loop-i.invariant).filling.same

pub returns-then-out-j-2 : goal.returns-then-out-j-2
returns-then-out-j-2 c =
    let a = c.args in record {
      value = (filling-full _ _ _ _ _ (c.loop-rest.invariant a.out.now c.loop-i.invariant).filling c.if-out-j-2.true).0;
      out_after = (filling-full _ _ _ _ _ (c.loop-rest.invariant a.out.now c.loop-i.invariant).filling c.if-out-j-2.true).1;
    }

pub overflow_mul-out : goal.overflow_mul-out
overflow_mul-out c = omega arith

pub overflow_cast-out : goal.overflow_cast-out
overflow_cast-out c = omega (arith, trailing_le 64 c.loop-rest.rest)

pub overflow_add-out : goal.overflow_add-out
overflow_add-out c = omega (arith, trailing_le 64 c.loop-rest.rest)

pub overflow_cast-out-in-loop-rest : goal.overflow_cast-out-in-loop-rest
overflow_cast-out-in-loop-rest c =
    let a = c.args in
    let l = c.loop-rest in
    let w = l.invariant a.out.now c.loop-i.invariant in
    omega (arith, one-low a.set.now a.end a.out.now l.out l.j c.loop-i.i l.rest w c.loop-rest-test.true)

pub offset_bounds-out-j : goal.offset_bounds-out-j
offset_bounds-out-j c =
    let a = c.args in
    omega (arith, (c.loop-rest.invariant a.out.now c.loop-i.invariant).filling.same)

pub bounds-out-j : goal.bounds-out-j
bounds-out-j c = c.if-out-j-2.false

pub overflow_add-j : goal.overflow_add-j
overflow_add-j c =
    let a = c.args in
    omega (arith, (c.loop-rest.invariant a.out.now c.loop-i.invariant).filling.same)

pub overflow_sub-rest : goal.overflow_sub-rest
overflow_sub-rest c = omega (arith, c.loop-rest-test.true)

pub loop-rest-smaller : goal.loop-rest-smaller
loop-rest-smaller c = omega (arith, and_le_r c.loop-rest.rest (c.loop-rest.rest - 1), c.loop-rest-test.true)

pub loop-rest-preserved : goal.loop-rest-preserved
loop-rest-preserved c = λ begun h.
    let a = c.args in
    let l = c.loop-rest in
    word_more a.set.now a.end begun l.out l.j c.loop-i.i l.rest (l.invariant begun h) c.loop-rest-test.true c.if-out-j-2.false

pub loop-i-preserved : goal.loop-i-preserved
loop-i-preserved c =
    let a = c.args in
    let l = c.loop-rest in
    let w = l.invariant a.out.now c.loop-i.invariant in
    word_end a.set.now a.end a.out.now l.out l.j c.loop-i.i l.rest w c.loop-rest-test.false

pub shape_of-out : goal.shape_of-out
shape_of-out c = c.loop-i.invariant.same

pub returns : goal.returns
returns c =
    let a = c.args in
    let l = c.loop-i in record {
      value = (filling-all _ _ _ _ _ l.invariant (rising-end (wanted a.set.now a.end) (limit a.set.now) (64 * l.i) (omega arith))).0;
      out_after = (filling-all _ _ _ _ _ l.invariant (rising-end (wanted a.set.now a.end) (limit a.set.now) (64 * l.i) (omega arith))).1;
    }
