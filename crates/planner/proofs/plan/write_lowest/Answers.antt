-- `planner::plan::write_lowest` meets its contract: 9, for units or for a map, or what is planned on the lowest of both.
use Rattle.planner.proofs.AnswerLaws.{on-lowest}
use Rattle.rules.specs.Rules.{known}
use Rattle.bitset.specs.Bits.{in_set}
use native.Mathlib.Omega.{arith}
use Rattle.planner.proofs.plan.write_lowest.Goals as goal

pub returns : goal.returns
returns c = λ m.
    let l = c.lowest-count in
    let a = c.args in
    on-lowest (known a.g (in_set a.free.now.units.now) (in_set a.free.now.maps.now) m) a.chunk a.size a.out.now a.chosen.now _ l.result
    c.requires.chosen_len.0 l.ensures.value l.ensures.out_after (omega arith) _ c.in-Some.ensures
    _ _ c.write_to.ensures
