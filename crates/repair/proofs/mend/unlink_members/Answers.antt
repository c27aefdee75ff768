use Rattle.repair.proofs.Unlinking.{next-found, unlink-next, list-next, unlink-end, list-end}
use Rattle.words.proofs.Laws.{length-store}
use lib.ListN.{length}
use native.Mathlib.Omega.{arith}
use mathlib.Core.Path.{refl, sym, ap, ◌∙◌}
use Prim.Native.Nat.{◌*◌}
use Rattle.repair.proofs.mend.unlink_members.Goals as goal

pub loop-k-init : goal.loop-k-init
loop-k-init c = (omega arith, refl, refl, omega arith, refl, refl)

pub next_member-i-requires : goal.next_member-i-requires
next_member-i-requires c = omega arith

pub overflow_mul-i : goal.overflow_mul-i
overflow_mul-i c = let q = next-found c.args.faulty.now c.loop-k.from _ c.loop-k.k _ c.next_member-i.ensures c.loop-k.invariant.3 (omega arith) in omega (arith, q.below-n)

pub put_u64-requires : goal.put_u64-requires
put_u64-requires c = let q = next-found c.args.faulty.now c.loop-k.from _ c.loop-k.k _ c.next_member-i.ensures c.loop-k.invariant.3 (omega arith) in
    omega (arith, c.requires.by_index _ q.holds, c.loop-k.invariant.1)

pub overflow_mul-k : goal.overflow_mul-k
overflow_mul-k c = omega arith

pub overflow_cast-i : goal.overflow_cast-i
overflow_cast-i c = let q = next-found c.args.faulty.now c.loop-k.from _ c.loop-k.k _ c.next_member-i.ensures c.loop-k.invariant.3 (omega arith) in omega (arith, q.below-n)

pub put_u32-requires : goal.put_u32-requires
put_u32-requires c = omega (arith, c.loop-k.invariant.2)

pub overflow_add-from : goal.overflow_add-from
overflow_add-from c = let q = next-found c.args.faulty.now c.loop-k.from _ c.loop-k.k _ c.next_member-i.ensures c.loop-k.invariant.3 (omega arith) in omega (arith, q.below-n)

pub loop-k-preserved : goal.loop-k-preserved
loop-k-preserved c = let ws = c.args.faulty.now in
    let l = c.loop-k in
    let i = c.next_member-i.result in
    let q = next-found ws l.from _ l.k _ c.next_member-i.ensures l.invariant.3 (omega arith) in
    let e = ap length q.rest in (
      omega arith,
      ap length c.put_u64.ensures ∙ length-store 8 _ _ _ ∙ l.invariant.1,
      ap length c.put_u32.ensures ∙ length-store 4 _ _ _ ∙ l.invariant.2,
      omega (arith, l.invariant.3),
      unlink-next i _ _ q.rest _ _ c.put_u64.ensures ∙ l.invariant.4,
      list-next i _ _ q.rest _ _ l.k c.put_u32.ensures ∙ l.invariant.5,
    )

pub shape_of-image : goal.shape_of-image
shape_of-image c = c.loop-k.invariant.1

pub shape_of-out : goal.shape_of-out
shape_of-out c = c.loop-k.invariant.2

pub returns : goal.returns
returns c = let l = c.loop-k in record {
  image_after = sym (unlink-end _ l.k _ l.invariant.3 (omega arith) l.image) ∙ l.invariant.4;
  out_after = sym (list-end _ l.k _ l.invariant.3 (omega arith) l.out (4 * l.k)) ∙ l.invariant.5;
}
