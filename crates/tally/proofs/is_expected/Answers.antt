-- `tally::is_expected` meets its contract: bit j, shifted down, is the test of the number, by `in-word-is`.
use Rattle.tally.proofs.WordSets.{in-word-is}
use Rattle.tally.proofs.is_expected.Goals as goal

pub returns : goal.returns
returns c = in-word-is c.args.left c.args.j c.requires
