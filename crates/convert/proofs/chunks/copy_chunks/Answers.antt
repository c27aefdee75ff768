use Rattle.layout.specs.declared.Shape.{Shape}
use Rattle.convert.proofs.Turns.{length-copied, copied-start, fresh-length, copied_next, copied_all}
use lib.ListN.{length}
use native.Mathlib.Omega.{arith}
use mathlib.Core.Path.{refl, ◌∙◌, ap}
use Rattle.convert.proofs.chunks.copy_chunks.Goals as goal

pub loop-i-init : goal.loop-i-init
loop-i-init c = (omega arith, refl, copied-start c.args.image.now.bytes.now c.args.image.now.shape c.args.second c.args.image.now.shaped c.requires.second_value.0 c.args.out.now c.requires.second_value.1)

pub copy_chunk-requires : goal.copy_chunk-requires
copy_chunk-requires c = let s = c.args.image.now.bytes.now in
    let d = c.args.image.now.shaped in
    let m = ap (λ (q : Shape). q.c) d.same in
    let size = fresh-length s c.args.image.now.shape c.args.second d c.requires.second_value.0 c.args.out.now c.requires.second_value.1 in record {
      i_lt_c = (omega arith, c.requires.tested.links c.loop-i.i (omega arith));
      second_value = (c.requires.second_value.0, c.loop-i.invariant.1 ∙ size);
    }

pub loop-i-preserved : goal.loop-i-preserved
loop-i-preserved c = let s = c.args.image.now.bytes.now in
    let l = c.loop-i in
    let e = c.copy_chunk.ensures in
    (omega arith, ap length e ∙ length-copied s l.i l.out ∙ l.invariant.1, e ∙ copied_next s l.i l.out l.invariant.2)

pub returns : goal.returns
returns c = let l = c.loop-i in
    copied_all c.args.image.now.bytes.now c.args.image.now.shape c.args.second c.args.image.now.shaped c.requires.second_value.0 l.i c.args.image.now.shape.c l.out refl l.invariant.0
    (omega arith) l.invariant.2
