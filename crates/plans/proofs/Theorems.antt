-- A plan that is longer than what is read of it gets the answer that the whole of it would get.
use Rattle.std.specs.Prelude.{Result, Err, ⊤}
use Prim.Native.Nat.{ℕ, ◌%◌, ◌<◌, ◌≤◌}
use mathlib.Core.Path.{◌≡◌, ap, sym, ◌∙◌}
use mathlib.Core.Bool.{false, cond, ◌&&◌}
use mathlib.Core.Logic.{⊎_elim}
use mathlib.Core.List.{List}
use native.Mathlib.Omega.{arith}
use borrow.Author.Tests.{ltb-true, lt-ltb, le-ltb, lt-leb}
use lib.Dec.{ltb, leb, eqb}
use lib.ListN.{length}
use lib.Seq.{length-take-le}
use Rattle.search.proofs.Bools.{either, and-false-left, and-false-right}
use Rattle.layout.specs.declared.Shape.{Shape}
use Rattle.layout.specs.declared.Refusal.TheVariants.{Range, Size, BadPlan}
use Rattle.image.specs.Verdicts.{verdict}
use Rattle.image.specs.Answers.{if_sound}
use Rattle.steps.specs.declared.Request.{Request}
use Rattle.steps.specs.Steps.{whole_steps, good_chunk, good_size}
use Rattle.rules.proofs.Deciding.{broken-1}
use Rattle.rules.specs.Rules.{Known, rule1, known_of, judged, checked}
use Rattle.carry.specs.Carry.{carry_in, carry_answer}
use Rattle.plans.specs.LongPlans.{read_of, asked_of}
use Rattle.layout.specs.declared.Refusal.{Refusal}

-- "at most 64"
too_long : (g : Shape) (plan : List ℕ) → 64 < whole_steps plan → rule1 g plan ≡ false
unfolding rule1
too_long g plan h =
    and-false-left (eqb (length plan % 16) 0 && leb (whole_steps plan) 64) _
    (and-false-right (eqb (length plan % 16) 0) (leb (whole_steps plan) 64) (lt-leb (whole_steps plan) 64 h))

long-judged :
    (kn : Known) (r : Request) (plan : List ℕ) → 64 < whole_steps plan
    → judged kn r plan ≡ cond (good_chunk kn.shape r) (cond (good_size kn.shape r) (Err (BadPlan 1)) (Err Size)) (Err Range)
unfolding judged
long-judged kn r plan h = rw (← broken-1 kn r plan (too_long kn.shape plan h))

module _ (plan : List ℕ) (long : 1040 ≤ length plan) where
  read-steps : whole_steps (read_of plan) ≡ 65
  read-steps = let e = length-take-le 1040 plan long in omega arith

  many-steps : 65 ≤ whole_steps plan
  many-steps = omega arith

  module _ (s : List ℕ) (r : Request) where
    read-judged : judged (known_of s r) r plan ≡ judged (known_of s r) r (read_of plan)
    read-judged =
        long-judged (known_of s r) r plan (omega (arith, many-steps)) ∙ sym (long-judged (known_of s r) r (read_of plan) (omega (arith, read-steps)))

    pub long-checked : checked s r plan ≡ checked s r (read_of plan)
    unfolding checked
    long-checked = ap (λ (a : Result ⊤ Refusal). if_sound (verdict s) Err a) read-judged

    module _ (n : ℕ) where
      same-range : ltb (whole_steps plan) n ≡ ltb 65 (asked_of n (whole_steps plan))
      unfolding asked_of
      same-range =
          ⊎_elim (λ t. rw t (sym (lt-ltb 65 n (omega (arith, many-steps, ltb-true (whole_steps plan) n t)))))
          (λ f.
          rw f
          (⊎_elim (λ t. rw t (sym (le-ltb 65 n (omega (arith, ltb-true n 65 t))))) (λ u. rw u (sym (le-ltb 65 65 (omega arith)))) (either (ltb n 65))))
          (either (ltb (whole_steps plan) n))

      pub long-carried : carry_answer s r plan n ≡ carry_answer s r (read_of plan) (asked_of n (whole_steps plan))
      unfolding carry_in
      long-carried =
          ap (λ (a : Result ⊤ Refusal). if_sound (verdict s) Err a)
          (rw (same-range, read-steps, read-judged))
