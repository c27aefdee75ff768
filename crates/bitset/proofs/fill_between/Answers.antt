-- `bitset::fill_between` meets its contract: of the numbers below `high`, all those below `low` are taken out again.
use mathlib.Core.Path.{◌∙◌}
use native.Mathlib.Omega.{arith}
use borrow.Author.Tests.{lt-ltb}
use Rattle.bitset.proofs.Others.{all_of, rest_of}
use Rattle.bitset.proofs.fill_between.Goals as goal

pub clear_below-requires : goal.clear_below-requires
clear_below-requires c =
    all_of _ _ _ _ c.fill.ensures (λ u l. lt-ltb u c.args.high (omega (arith, c.requires)))

pub returns : goal.returns
returns c = c.clear_below.ensures ∙ rest_of _ _ _ _ c.fill.ensures
