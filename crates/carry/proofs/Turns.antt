-- The loop that carries a plan out, turn by turn: a plan that keeps rule 1 has a step in range at every place.
use Rattle.std.specs.Prelude.{Option, Some, None}
use Prim.Native.Nat.{ℕ, suc, ◌+◌, ◌-◌, ◌%◌, ◌≤◌, ◌<◌}
use native.Mathlib.Omega.{arith}
use mathlib.Core.Path.{◌≡◌, refl, ap, sym, ◌∙◌}
use mathlib.Core.Bool.{Bool, true, ◌&&◌}
use mathlib.Core.List.{List}
use lib.ListN.{length, take}
use lib.Dec.{eqb, leb}
use Rattle.search.specs.Search.{below, all}
use Rattle.search.proofs.Bools.{and_right, contradict}
use Rattle.search.proofs.Members.{all-at}
use Rattle.search.proofs.Ranges.{below-member}
use Rattle.layout.specs.declared.Shape.{Shape}
use Rattle.steps.specs.declared.Step.{Step}
use Rattle.steps.specs.Steps.{step_bytes, whole_steps, decode_at, steps_append}
use Rattle.rules.specs.Rules.{max_steps, whole_in_range, rule1}
use Rattle.steps.proofs.Rest.{rest, rest-start, rest-next}
use Rattle.carry.specs.Carry.{carry_all, carried}
use Rattle.carry.specs.Carrying.{carry_decoded}

-- step i of a plan that keeps rule 1 is one of the four kinds, and in range
pub step_in : (g : Shape) (plan : List ℕ) → rule1 g plan ≡ true → (i : ℕ) → i < whole_steps plan → whole_in_range g (decode_at plan i) ≡ true
unfolding rule1
step_in g plan e i h =
    let f : ℕ → Bool = λ j. whole_in_range g (decode_at plan j) in
    let every = and_right (eqb (length plan % step_bytes) 0 && leb (whole_steps plan) max_steps) (all f (below (whole_steps plan))) e in
    all-at f (below (whole_steps plan)) every i (below-member i (whole_steps plan) h)

module _ (s plan : List ℕ) (n : ℕ) where
  pub carry-start : carry_all s (take (n - 0) (rest plan 0)) ≡ carried s plan n
  unfolding carried
  carry-start = let e : n - 0 ≡ n = omega arith in rw e (ap (λ (xs : List Step). carry_all s (take n xs)) (sym (rest-start plan)))

  first : (g : Shape) (d : Option Step) (xs : List Step) (k : ℕ) → whole_in_range g d ≡ true
      → carry_all (carry_decoded s d) (take k xs) ≡ carry_all s (take (suc k) (steps_append d xs))
  unfolding carry_all
  first g (Some x) xs k h = refl
  first g None xs k h = contradict h refl

  pub carry-turn :
      (g : Shape) → rule1 g plan ≡ true → n ≤ whole_steps plan → (i : ℕ) → i < n
      → carry_all (carry_decoded s (decode_at plan i)) (take (n - (i + 1)) (rest plan (i + 1))) ≡ carry_all s (take (n - i) (rest plan i))
  carry-turn g e l i h =
      let k : n - i ≡ suc (n - (i + 1)) = omega arith in
      first g (decode_at plan i) (rest plan (i + 1)) (n - (i + 1)) (step_in g plan e i (omega arith))
      ∙ rw (k, rest-next plan i (omega arith)) refl

  pub carry-end : (i : ℕ) → n ≤ i → carry_all s (take (n - i) (rest plan i)) ≡ s
  unfolding carry_all
  carry-end i h = let e : n - i ≡ 0 = omega arith in rw e refl
