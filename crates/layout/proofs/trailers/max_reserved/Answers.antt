-- `layout::trailers::max_reserved` meets its contract: the test is the definition's.
use Rattle.layout.specs.Layout.{max_reserved}
use Rattle.std.proofs.Common.{eq-eqb, ne_eqb}
use Rattle.layout.proofs.trailers.max_reserved.Goals as goal

pub returns-then-g-eq-FIRST_EDITION : goal.returns-then-g-eq-FIRST_EDITION
unfolding max_reserved
returns-then-g-eq-FIRST_EDITION c = rw (eq-eqb _ _ c.if-g-eq-FIRST_EDITION.true)

pub returns : goal.returns
unfolding max_reserved
returns c = rw (ne_eqb _ _ c.if-g-eq-FIRST_EDITION.false)
