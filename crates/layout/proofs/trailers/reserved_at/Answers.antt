-- `layout::trailers::reserved_at` meets its contract: the test is the definition's.
use Rattle.layout.specs.Layout.{reserved_at}
use Rattle.std.proofs.Common.{eq-eqb, ne_eqb}
use Rattle.layout.proofs.trailers.reserved_at.Goals as goal

pub returns-then-edition-eq-FIRST_EDITION : goal.returns-then-edition-eq-FIRST_EDITION
unfolding reserved_at
returns-then-edition-eq-FIRST_EDITION c = rw (eq-eqb _ _ c.if-edition-eq-FIRST_EDITION.true)

pub returns : goal.returns
unfolding reserved_at
returns c = rw (ne_eqb _ _ c.if-edition-eq-FIRST_EDITION.false) c.get_u32.ensures
