-- `repair::mend::repair_in` meets its contract: the faulty chunks are the image's `unlinked`, and their count is what the list must have room for.
use Rattle.layout.specs.declared.Shape.{Shape}
use Rattle.repair.proofs.Answering.{unlinked-few, found-unlinked, found-limit, found-entry, too_short, long-enough}
use Rattle.bitset.proofs.BitSets.{bit_set-none}
use lib.ListN.{length}
use mathlib.Core.Path.{ap, ◌∙◌}
use native.Mathlib.Omega.{arith}
use Rattle.repair.proofs.mend.repair_in.Goals as goal

pub find_faults-requires : goal.find_faults-requires
find_faults-requires c = record { faulty_value = bit_set-none 4 }

pub count-n-requires : goal.count-n-requires
count-n-requires c = omega (arith, found-limit c.args.image.now c.args.g c.requires _ c.find_faults.ensures)

pub overflow_mul-n : goal.overflow_mul-n
overflow_mul-n c = let s = c.args.image.now in
    let e = c.count-n.ensures ∙ ap length (found-unlinked s c.args.g c.requires _ c.find_faults.ensures) in
    let m = ap (λ (q : Shape). q.c) c.requires.same in
    omega (arith, unlinked-few s, c.requires.limits.c-high)

pub overflow_mul-result : goal.overflow_mul-result
overflow_mul-result c = let s = c.args.image.now in
    let e = c.count-n.ensures ∙ ap length (found-unlinked s c.args.g c.requires _ c.find_faults.ensures) in
    let m = ap (λ (q : Shape). q.c) c.requires.same in
    omega (arith, unlinked-few s, c.requires.limits.c-high)

pub overflow_cast-result : goal.overflow_cast-result
overflow_cast-result c = let s = c.args.image.now in
    let e = c.count-n.ensures ∙ ap length (found-unlinked s c.args.g c.requires _ c.find_faults.ensures) in
    let m = ap (λ (q : Shape). q.c) c.requires.same in
    omega (arith, unlinked-few s, c.requires.limits.c-high)

pub returns-then-out-n : goal.returns-then-out-n
returns-then-out-n c = let s = c.args.image.now in
    let e = c.count-n.ensures ∙ ap length (found-unlinked s c.args.g c.requires _ c.find_faults.ensures) in record {
      value = (too_short s c.args.out.now _ e c.if-out-n.true).0;
      image_after = (too_short s c.args.out.now _ e c.if-out-n.true).1.0;
      out_after = (too_short s c.args.out.now _ e c.if-out-n.true).1.1;
    }

pub unlink_members-requires : goal.unlink_members-requires
unlink_members-requires c = let s = c.args.image.now in
    let l = found-limit s c.args.g c.requires _ c.find_faults.ensures in record {
      faulty_bound = (omega arith, c.count-n.ensures, c.if-out-n.false);
      by_index = found-entry s c.args.g c.requires _ c.find_faults.ensures;
    }

pub overflow_cast-result-2 : goal.overflow_cast-result-2
overflow_cast-result-2 c = let s = c.args.image.now in
    let e = c.count-n.ensures ∙ ap length (found-unlinked s c.args.g c.requires _ c.find_faults.ensures) in
    let m = ap (λ (q : Shape). q.c) c.requires.same in
    omega (arith, unlinked-few s, c.requires.limits.c-high)

pub returns : goal.returns
returns c = let s = c.args.image.now in
    let x = found-unlinked s c.args.g c.requires _ c.find_faults.ensures in record {
      value = (long-enough s c.args.out.now _ (c.count-n.ensures ∙ ap length x) c.if-out-n.false _ _ _ x c.unlink_members.ensures.image_after c.unlink_members.ensures.out_after).0;
      image_after = (long-enough s c.args.out.now _ (c.count-n.ensures ∙ ap length x) c.if-out-n.false _ _ _ x c.unlink_members.ensures.image_after c.unlink_members.ensures.out_after).1.0;
      out_after = (long-enough s c.args.out.now _ (c.count-n.ensures ∙ ap length x) c.if-out-n.false _ _ _ x c.unlink_members.ensures.image_after c.unlink_members.ensures.out_after).1.1;
    }
