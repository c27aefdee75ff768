-- `bitset::count` meets its contract: the members in all words are the members.
use mathlib.Core.Path.{ap, sym, ◌∙◌}
use lib.ListN.{length}
use Rattle.search.proofs.Rising.{rising-all}
use Rattle.bitset.specs.Bits.{in_set, limit}
use Rattle.bitset.proofs.count.Goals as goal

pub returns : goal.returns
returns c = let set = c.args.set.now in c.count_words.ensures ∙ ap length (sym (rising-all (in_set set) (limit set)))
