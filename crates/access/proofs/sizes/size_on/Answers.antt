-- `access::sizes::size_on` meets its contract: 7 is the test of the chunk's number, and the size is `size_in`'s.
use Rattle.std.proofs.Common.{arith}
use Rattle.std.proofs.lemmas.Bool.Decides.{nat_tests}
use Rattle.access.specs.Sizes.{size_on}
use Rattle.access.proofs.sizes.size_on.Goals as goal

pub returns-then-chunk-image : goal.returns-then-chunk-image
unfolding size_on
returns-then-chunk-image c = grind (arith, nat_tests)

pub returns : goal.returns
unfolding size_on
returns c = grind (arith, nat_tests)
