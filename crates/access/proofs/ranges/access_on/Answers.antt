-- `access::ranges::access_on` meets its contract: one return for each answer of `reads_first`, in the order of its tests.
use native.Mathlib.Omega.{arith}
use Rattle.std.proofs.lemmas.Bool.Decides.{nat_tests}
use Rattle.std.proofs.Common.{rules}
use Rattle.access.specs.Ranges.{reads_first}
use Rattle.access.proofs.RangeLaws.{good}
use Rattle.access.proofs.ranges.access_on.Goals as goal

pub returns-in_err-bytes : goal.returns-in_err-bytes
unfolding reads_first
returns-in_err-bytes c = search rules

pub returns-then-first-last_chunk : goal.returns-then-first-last_chunk
unfolding reads_first
returns-then-first-last_chunk c = grind (arith, nat_tests)

pub returns-then-span-bytes : goal.returns-then-span-bytes
unfolding reads_first
returns-then-span-bytes c = grind (arith, nat_tests)

pub link-requires : goal.link-requires
link-requires c =
    let a = c.args in
    let e = c.in_ok-bytes.ensures in
    let z = good a.image.now.shape _ a.offset a.span a.image.now.shaped.limits e.1 e.0 in
    record { i_lt_c = rw (c.if-first-last_chunk.false, c.last_chunk.ensures, e.3) z.last }

pub returns-then-link : goal.returns-then-link
unfolding reads_first
returns-then-link c = grind (arith, nat_tests)

pub returns : goal.returns
unfolding reads_first
returns c = grind (arith, nat_tests)
