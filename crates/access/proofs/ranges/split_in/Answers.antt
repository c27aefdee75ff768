-- `access::ranges::split_in` meets its contract: row 7, row 10, then the pieces.
use Rattle.std.proofs.Common.{arith, rules}
use Rattle.std.proofs.lemmas.Bool.Decides.{nat_tests}
use Rattle.access.specs.Ranges.{split_in}
use Rattle.access.proofs.PieceLaws.{length-pieces, stored-front}
use Rattle.access.proofs.ranges.split_in.Goals as goal

pub returns-in_err-bytes : goal.returns-in_err-bytes
unfolding split_in
returns-in_err-bytes c = search rules

pub returns-then-out-need-clause-value : goal.returns-then-out-need-clause-value
unfolding split_in
returns-then-out-need-clause-value c = grind (arith, nat_tests, length-pieces)

pub returns-then-out-need-clause-out_after : goal.returns-then-out-need-clause-out_after
unfolding split_in
returns-then-out-need-clause-out_after c = grind (arith, nat_tests, length-pieces)

pub returns-clause-value : goal.returns-clause-value
unfolding split_in
returns-clause-value c = grind (arith, nat_tests, length-pieces)

pub returns-clause-out_after : goal.returns-clause-out_after
unfolding split_in
returns-clause-out_after c = grind (arith, nat_tests, length-pieces, stored-front)
