-- `layout::trailers::within_limits` meets its contract: the tests are the definition's, in its order.
use Rattle.layout.proofs.Limits.{tests, product_high}
use Rattle.layout.specs.Layout.{max_reserved, within_limits}
use Rattle.std.proofs.Common.{◌≡◌, ℕ, leb, ap, ◌∙◌, arith}
use Rattle.layout.proofs.trailers.within_limits.Goals as goal

pub returns-then-edition-lt-FIRST_EDITION : goal.returns-then-edition-lt-FIRST_EDITION
unfolding within_limits
returns-then-edition-lt-FIRST_EDITION c = search tests

pub returns-then-edition-gt-LAST_EDITION : goal.returns-then-edition-gt-LAST_EDITION
unfolding within_limits
returns-then-edition-gt-LAST_EDITION c = search tests

pub returns-then-p-lt-MIN_CHUNK_UNITS : goal.returns-then-p-lt-MIN_CHUNK_UNITS
unfolding within_limits
returns-then-p-lt-MIN_CHUNK_UNITS c = search tests

pub returns-then-p-gt-MAX_CHUNK_UNITS : goal.returns-then-p-gt-MAX_CHUNK_UNITS
unfolding within_limits
returns-then-p-gt-MAX_CHUNK_UNITS c = search tests

pub returns-then-c-lt-MIN_CHUNKS : goal.returns-then-c-lt-MIN_CHUNKS
unfolding within_limits
returns-then-c-lt-MIN_CHUNKS c = search tests

pub returns-then-c-gt-MAX_CHUNKS : goal.returns-then-c-gt-MAX_CHUNKS
unfolding within_limits
returns-then-c-gt-MAX_CHUNKS c = search tests

pub returns-then-m-c : goal.returns-then-m-c
unfolding within_limits
returns-then-m-c c = search tests

pub returns-then-c-m : goal.returns-then-c-m
unfolding within_limits
returns-then-c-m c = search tests

pub returns-then-n-p : goal.returns-then-n-p
unfolding within_limits
returns-then-n-p c = search tests

pub overflow_mul-p : goal.overflow_mul-p
overflow_mul-p c = let g = c.args.g in
    omega (arith, product_high g.p g.m (omega arith) (omega arith))

pub returns-then-p-m : goal.returns-then-p-m
unfolding within_limits
returns-then-p-m c = search tests

pub returns : goal.returns
unfolding within_limits
returns c = let g = c.args.g in
    let rest : leb g.r (max_reserved g) ≡ within_limits g = search tests in
    ap (λ (k : ℕ). leb g.r k) c.max_reserved.ensures ∙ rest
