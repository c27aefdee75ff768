-- `access::parts::held_on` meets its contract: no part for a chunk past the last, and within the image otherwise.
use Rattle.std.proofs.Common.{arith}
use Rattle.std.proofs.lemmas.Bool.Decides.{nat_tests}
use Rattle.access.specs.Parts.{held_on}
use Rattle.access.proofs.parts.held_on.Goals as goal

pub returns-then-chunk-image-clause-value : goal.returns-then-chunk-image-clause-value
unfolding held_on
returns-then-chunk-image-clause-value c = grind (arith, nat_tests)

pub returns-clause-value : goal.returns-clause-value
unfolding held_on
returns-clause-value c = grind (arith, nat_tests)
