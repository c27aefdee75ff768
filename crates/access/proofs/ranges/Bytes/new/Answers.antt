-- `access::ranges::Bytes::new` meets its contract: a good range bounds every sum.
use mathlib.Core.Path.{sym, ◌∙◌}
use native.Mathlib.Omega.{arith}
use Rattle.access.proofs.RangeLaws.{good}
use Rattle.access.proofs.ranges.Bytes.new.Goals as goal

pub overflow_add-result : goal.overflow_add-result
overflow_add-result c =
    let z = good c.args.g _ c.args.offset c.args.span c.requires c.chunk_bytes.ensures.0 (sym c.good_range.ensures ∙ c.if-not-good_range.false) in
    omega arith

pub invariant_of-result : goal.invariant_of-result
invariant_of-result c =
    let b = c.chunk_bytes.ensures in
    let z = good c.args.g _ c.args.offset c.args.span c.requires b.0 (sym c.good_range.ensures ∙ c.if-not-good_range.false) in
    record { b_low = b.1; b_high = b.2; some = omega arith; within = z.within }
