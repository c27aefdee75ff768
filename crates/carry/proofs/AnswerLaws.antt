-- Which answer each finding of the code gives, and the image that goes with it.
use Rattle.std.specs.Prelude.{Result, Ok, Err, ⊤}
use Prim.Native.Nat.{ℕ, ◌≤◌, ◌<◌}
use mathlib.Core.Path.{◌≡◌, refl, ap, sym, ◌∙◌}
use mathlib.Core.Bool.{Bool, true, false, cond}
use mathlib.Core.List.{List}
use lib.Dec.{ltb}
use borrow.Author.Tests.{lt-ltb, le-ltb, ltb-false}
use Rattle.layout.specs.declared.Refusal.{Refusal}
use Rattle.layout.specs.declared.Refusal.TheVariants.{Range}
use Rattle.image.specs.Verdicts.{verdict}
use Rattle.image.specs.Answers.{if_sound}
use Rattle.steps.specs.declared.Request.{Request}
use Rattle.steps.specs.Steps.{whole_steps}
use Rattle.rules.specs.Rules.{Known, known_of, rule1, judged, checked}
use Rattle.rules.proofs.Accepting.{no-denial, judged-rule1}
use Rattle.carry.specs.Carry.{carried, carry_in, carry_answer, left_by, carry_image}

-- an answer on what is known of an image, and the image that it leaves
abbrev pub Carries : Known → List ℕ → Request → List ℕ → ℕ → Result ⊤ Refusal → List ℕ → Type 0
Carries kn s r plan n answer after = (answer ≡ carry_in kn r plan n) × (after ≡ left_by (carry_in kn r plan n) s plan n)

module _ (kn : Known) (s : List ℕ) (r : Request) (plan : List ℕ) (n : ℕ) where
  -- the image follows from the answer
  left_by_lem : (answer : Result ⊤ Refusal) (after : List ℕ) → answer ≡ carry_in kn r plan n → after ≡ left_by answer s plan n → Carries kn s r plan n answer after
  left_by_lem answer after e h = (e, h ∙ ap (λ (a : Result ⊤ Refusal). left_by a s plan n) e)

  pub too_many : whole_steps plan < n → Carries kn s r plan n (Err Range) s
  unfolding carry_in
  too_many h = left_by_lem (Err Range) s (rw (lt-ltb (whole_steps plan) n h)) refl

  module _ (h : n ≤ whole_steps plan) (answer : Result ⊤ Refusal) (e : answer ≡ judged kn r plan) where
    as-judged : answer ≡ carry_in kn r plan n
    unfolding carry_in
    as-judged = rw (le-ltb (whole_steps plan) n h) e

    pub not_carried : (x : Refusal) → answer ≡ Err x → Carries kn s r plan n (Err x) s
    not_carried x d = left_by_lem (Err x) s (sym d ∙ as-judged) refl

    pub all-carried : answer ≡ Ok tt → (after : List ℕ) → after ≡ carried s plan n → Carries kn s r plan n (Ok tt) after
    all-carried a after q = left_by_lem (Ok tt) after (sym a ∙ as-judged) q

    pub keeps-rule1 : answer ≡ Ok tt → rule1 kn.shape plan ≡ true
    keeps-rule1 a = judged-rule1 kn r plan (sym e ∙ a)

-- and on any image, by what load said of it
module _ (s : List ℕ) (r : Request) (plan : List ℕ) (n : ℕ) where
  pub carry-refused : (x : Refusal) → verdict s ≡ Err x → (Err x ≡ carry_answer s r plan n) × (s ≡ carry_image s r plan n)
  carry-refused x e = (rw e, rw e)

  pub carry-passed :
      verdict s ≡ Ok tt → (kn : Known) → judged kn r plan ≡ judged (known_of s r) r plan → (answer : Result ⊤ Refusal) (after : List ℕ)
      → Carries kn s r plan n answer after
      → (answer ≡ carry_answer s r plan n) × (after ≡ carry_image s r plan n)
  unfolding carry_in
  carry-passed e kn same answer after h = rw (e, ← same) h

-- ---- it accepts exactly where the checker does and the plan has n whole steps

module _ (s : List ℕ) (r : Request) (plan : List ℕ) (n : ℕ) where
  pub answer-accepted : carry_answer s r plan n ≡ Ok tt → (checked s r plan ≡ Ok tt) × (n ≤ whole_steps plan)
  unfolding carry_in checked
  answer-accepted h = at (verdict s) (ltb (whole_steps plan) n) refl h
    where
      at : (v : Result ⊤ Refusal) (b : Bool) → ltb (whole_steps plan) n ≡ b → if_sound v Err (cond b (Err Range) (judged (known_of s r) r plan)) ≡ Ok tt
          → (if_sound v Err (judged (known_of s r) r plan) ≡ Ok tt) × (n ≤ whole_steps plan)
      at v false e p = (p, ltb-false (whole_steps plan) n e)
      at (Ok tt) true e p = no-denial Range p
      at (Err x) true e p = no-denial x p

  pub accepted-answer : checked s r plan ≡ Ok tt → n ≤ whole_steps plan → carry_answer s r plan n ≡ Ok tt
  unfolding carry_in checked
  accepted-answer h b = rw (le-ltb (whole_steps plan) n b) h
