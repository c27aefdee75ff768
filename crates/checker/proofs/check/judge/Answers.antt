-- `checker::check::judge` meets its contract: the tests are the definition's, in its order, and then the rules judge, by `rules-judge`.
use Rattle.checker.proofs.Judging.{range-refused, size-refused, rules-judge}
use Rattle.rules.specs.Rules.{known}
use Rattle.bitset.specs.Bits.{in_set}
use native.Mathlib.Omega.{arith}
use mathlib.Core.Path.{sym, ◌∙◌}
use Rattle.checker.proofs.check.judge.Goals as goal

pub returns-then-from-chunk_of : goal.returns-then-from-chunk_of
returns-then-from-chunk_of c =
    let a = c.args in
    let kn = known a.g (in_set a.free.now.units.now) (in_set a.free.now.maps.now) a.mapped in
    range-refused kn a.request _ (omega (arith, c.chunk_of.ensures))

pub returns-then-not-good_size : goal.returns-then-not-good_size
returns-then-not-good_size c =
    let a = c.args in
    let kn = known a.g (in_set a.free.now.units.now) (in_set a.free.now.maps.now) a.mapped in
    size-refused kn a.request _ (omega (arith, c.chunk_of.ensures)) (sym c.if-not-good_size.ensures)

pub returns : goal.returns
returns c =
    let a = c.args in
    let kn = known a.g (in_set a.free.now.units.now) (in_set a.free.now.maps.now) a.mapped in
    c.broken_rule.ensures ∙ rules-judge kn a.request _ (omega (arith, c.chunk_of.ensures)) (sym c.if-not-good_size.ensures)
