-- `layout::geometry::map_words` meets its contract: the words before the units and the P that name them are all, by `map-words`; `words-high` bounds them.
use Rattle.layout.proofs.Limits.{map-words, words-high}
use Rattle.std.proofs.Common.{arith}
use Rattle.layout.proofs.geometry.map_words.Goals as goal

pub returns : goal.returns
returns c = omega (arith, map-words c.args.g, words-high c.args.g c.requires)
