-- `layout::format::format_shape` meets its contract: the two tests say whether `formats` holds, and the stores leave the fresh image, by `fresh-run`.
use Rattle.std.proofs.Common.{◌≡◌, true, length, sym, ◌∙◌, arith}
use Rattle.layout.specs.declared.Shape.{Shape}
use Rattle.layout.specs.Layout.{within_limits, image_bytes}
use Rattle.layout.proofs.Limits.{limits}
use Rattle.layout.proofs.Formatting.{fresh-run, refused, done, bad-limits, bad-length, good}
use Rattle.layout.proofs.format.format_shape.Goals as goal
use Rattle.layout.proofs.format.format_shape.Goals.{Else-image-image_bytes, Else-not-within_limits, Start}

-- the shape that is asked for, and what the two tests say of it
abbrev asked : Start → Shape
asked c = record { edition = c.args.edition; p = c.args.p; c = c.args.c; m = c.args.m; n = c.args.n; r = c.args.r }

limited : (c : Else-not-within_limits) → within_limits (record { edition = c.args.edition; p = c.args.p; c = c.args.c; m = c.args.m; n = c.args.n; r = c.args.r }) ≡ true
limited c = sym c.within_limits.ensures ∙ c.if-not-within_limits.false

sized : (c : Else-image-image_bytes) → length c.args.image.now ≡ image_bytes (record { edition = c.args.edition; p = c.args.p; c = c.args.c; m = c.args.m; n = c.args.n; r = c.args.r })
sized c = c.if-image-image_bytes.false ∙ c.image_bytes.ensures.0

pub returns-then-not-within_limits : goal.returns-then-not-within_limits
returns-then-not-within_limits c =
    let outside = c.if-not-within_limits.true in record {
      value = (refused (asked (goal.at.returns-then-not-within_limits c).Start) c.args.image.now (bad-limits (asked (goal.at.returns-then-not-within_limits c).Start) _ (sym c.within_limits.ensures ∙ outside))).0;
      image_after = (refused (asked (goal.at.returns-then-not-within_limits c).Start) c.args.image.now (bad-limits (asked (goal.at.returns-then-not-within_limits c).Start) _ (sym c.within_limits.ensures ∙ outside))).1;
    }

pub image_bytes-requires : goal.image_bytes-requires
image_bytes-requires c = limited (goal.at.image_bytes-requires c).Else-not-within_limits

pub returns-then-image-image_bytes : goal.returns-then-image-image_bytes
returns-then-image-image_bytes c =
    let size = c.image_bytes.ensures.0 in record {
      value = (refused (asked (goal.at.returns-then-image-image_bytes c).Start) c.args.image.now (bad-length (asked (goal.at.returns-then-image-image_bytes c).Start) _ (limited (goal.at.returns-then-image-image_bytes c).Else-not-within_limits) (λ e. c.if-image-image_bytes.true (e ∙ sym size)))).0;
      image_after = (refused (asked (goal.at.returns-then-image-image_bytes c).Start) c.args.image.now (bad-length (asked (goal.at.returns-then-image-image_bytes c).Start) _ (limited (goal.at.returns-then-image-image_bytes c).Else-not-within_limits) (λ e. c.if-image-image_bytes.true (e ∙ sym size)))).1;
    }

pub trailer_start-start-requires : goal.trailer_start-start-requires
trailer_start-start-requires c = limited (goal.at.trailer_start-start-requires c).Else-not-within_limits

pub put_shape-requires : goal.put_shape-requires
put_shape-requires c = (omega (arith, sized (goal.at.put_shape-requires c).Else-image-image_bytes), limited (goal.at.put_shape-requires c).Else-not-within_limits)

pub put_sizes-requires : goal.put_sizes-requires
put_sizes-requires c = (omega (arith, sized (goal.at.put_sizes-requires c).Else-image-image_bytes), limited (goal.at.put_sizes-requires c).Else-not-within_limits)

pub put_added-requires : goal.put_added-requires
put_added-requires c = (omega (arith, sized (goal.at.put_added-requires c).Else-image-image_bytes), limited (goal.at.put_added-requires c).Else-not-within_limits)

pub returns : goal.returns
returns c =
    let s = c.args.image.now in
    let right = done (asked (goal.at.returns c).Start) s (good (asked (goal.at.returns c).Start) s (limited (goal.at.returns c).Else-not-within_limits) (sized (goal.at.returns c).Else-image-image_bytes)) in
    let stored = fresh-run s (asked (goal.at.returns c).Start) (limits (asked (goal.at.returns c).Start) (limited (goal.at.returns c).Else-not-within_limits)) (sized (goal.at.returns c).Else-image-image_bytes) ∙ right.1 in
    let start = c.trailer_start-start.ensures.0 in record {
      value = right.0;
      image_after = rw (c.put_added.ensures, c.put_sizes.ensures, c.put_shape.ensures, c.fill.ensures, start) stored;
    }
