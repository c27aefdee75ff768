-- `pass::seeing::see_all` meets its contract: rule 1 on the steps from `at` on is rule 1, and what they add to what is seen is all that is seen.
use Rattle.tally.specs.Tallies.{fold}
use Rattle.layout.specs.Layout.{after_head}
use Rattle.pass.specs.Passes.{unit_at, see}
use Rattle.rules.specs.Rules.{whole_in_range, rule1}
use Rattle.steps.proofs.Rest.{rest}
use Rattle.steps.specs.Steps.{steps_of, whole_steps, decode_at}
use Rattle.search.specs.Search.{from, all}
use mathlib.Core.Path.{◌≡◌}
use Prim.Native.Nat.{◌-◌}
use Rattle.pass.proofs.seeing.see_all.Given as goal

abbrev pub invariant-loop-at : goal.invariant-loop-at
invariant-loop-at l =
    let step = see l.due.chunk (unit_at l.due.dealt.now) (after_head l.due.heads l.due.size (unit_at l.due.dealt.now)) in
    record {
      ranged : rule1 l.g l.plan ≡ all (λ a. whole_in_range l.g (decode_at l.plan a)) (from l.at (whole_steps l.plan - l.at));
      folded : fold step l.initial.seen (steps_of l.plan) ≡ fold step l.seen (rest l.plan l.at);
    }
