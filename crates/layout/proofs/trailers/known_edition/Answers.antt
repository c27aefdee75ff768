-- `layout::trailers::known_edition` meets its contract: edition 1 is tried first, as in `edition_of`, and `known` is that one of the two is found.
use Rattle.layout.specs.Layout.{known, edition_of}
use Rattle.layout.proofs.trailers.known_edition.Goals as goal

pub returns-then-is_known : goal.returns-then-is_known
unfolding known edition_of
returns-then-is_known c = rw (← c.is_known.ensures, c.if-is_known.true)

pub returns-then-is_known-2 : goal.returns-then-is_known-2
unfolding known edition_of
returns-then-is_known-2 c = rw (← c.is_known.ensures, c.if-is_known.false, ← c.is_known-2.ensures, c.if-is_known-2.true)

pub returns : goal.returns
unfolding known edition_of
returns c = rw (← c.is_known.ensures, c.if-is_known.false, ← c.is_known-2.ensures, c.if-is_known-2.false)
