-- `convert::upgrade::convert_in` meets its contract: 10, or a fresh image with every chunk copied.
use mathlib.Core.Path.{ap, ◌∙◌, sym}
use Rattle.layout.specs.declared.Shape.{Shape}
use Rattle.layout.specs.Layout.{image_bytes}
use Rattle.convert.specs.Convert.{second_of}
use lib.ListN.{length}
use Rattle.convert.proofs.Second.{second-within}
use Rattle.convert.proofs.Answering.{exact-other, exact_same, left_out, formatted}
use Rattle.convert.proofs.upgrade.convert_in.Goals as goal

pub image_bytes-n-requires : goal.image_bytes-n-requires
image_bytes-n-requires c = second-within c.args.image.now.shape _ c.args.image.now.shaped.limits c.second_of-second.ensures

pub returns-then-out-n : goal.returns-then-out-n
returns-then-out-n c = let needed = c.image_bytes-n.ensures.0 ∙ ap (λ (h : Shape). image_bytes h) c.second_of-second.ensures in
    let e = exact-other (length c.args.out.now) _ (image_bytes (second_of c.args.image.now.shape)) needed c.if-out-n.true in record {
      value = sym e;
      out_after = left_out c.args.image.now.bytes.now c.args.out.now _ _ (sym e);
    }

pub copy_chunks-requires : goal.copy_chunks-requires
copy_chunks-requires c = let second = c.second_of-second.ensures in
    let long = c.if-out-n.false ∙ c.image_bytes-n.ensures.0 ∙ ap (λ (h : Shape). image_bytes h) second in
    let new = formatted c.args.image.now.shape _ c.args.out.now _ c.args.image.now.shaped.limits second long c.format2.ensures.image_after in record {
      tested = c.requires.tested;
      second_value = (second, new);
    }

pub returns : goal.returns
returns c = let needed = c.image_bytes-n.ensures.0 ∙ ap (λ (h : Shape). image_bytes h) c.second_of-second.ensures in
    let e = exact_same (length c.args.out.now) _ (image_bytes (second_of c.args.image.now.shape)) needed c.if-out-n.false in record {
      value = sym e;
      out_after = c.copy_chunks.ensures ∙ left_out c.args.image.now.bytes.now c.args.out.now _ _ (sym e);
    }
