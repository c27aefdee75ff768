-- `layout::format::put_tag` meets its contract: the part that is written is the tag.
use Rattle.std.proofs.Common.{ap, ◌∙◌, List, ℕ, ◌+◌, ◌-◌, arith}
use borrow.Rule.Slice.PartMut.{put_mid}
use Rattle.words.proofs.Laws.{put_mid-sets}
use Rattle.layout.specs.Layout.{tag}
use Rattle.layout.proofs.format.put_tag.Goals as goal

pub returns : goal.returns
returns c =
    let t = c.args.t in
    let s = c.args.image.now in
    ap (λ (l : List ℕ). put_mid t (t + 4 - t) s l) c.copy_from_slice.ensures.after
    ∙ put_mid-sets t (t + 4 - t) s tag (omega arith) (omega (arith, c.requires))
