-- `indexed::admit::admit` meets its contract: a shape that is handed on is the index's.
use Rattle.std.proofs.Common.{sym}
use Rattle.indexed.proofs.Admitting.{many, after-passed}
use Rattle.indexed.specs.Admitting.{shape_from, verdict_by}
use Rattle.indexed.proofs.admit.admit.Goals as goal

pub returns : goal.returns
unfolding verdict_by
returns c = after-passed (shape_from c.args.h) _ _ _ (sym c.in_ok-g.ensures) (many _ c.if-words-lt-SET_WORDS.false)
