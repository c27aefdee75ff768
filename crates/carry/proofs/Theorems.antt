-- The theorems of this crate that a reader wants: nothing else cites them. What a whole accepted plan makes of the chunks is proved in crate durable.
use Rattle.std.specs.Prelude.{Result, Ok, Err, ⊤}
use Prim.Native.Nat.{ℕ, ◌/◌, ◌≤◌}
use native.Mathlib.Omega.{arith}
use mathlib.Core.Path.{◌≡◌, refl, sym, ap, ◌∙◌}
use mathlib.Core.List.{List, [], ◌∷◌}
use lib.ListN.{length, get_or, take, drop}
use Rattle.layout.specs.declared.Shape.{Shape}
use Rattle.layout.specs.declared.Refusal.{Refusal}
use Rattle.layout.specs.Layout.{shape_of, edition_of, trailer_start, trailer_at}
use Rattle.layout.specs.Shaped.{On}
use Rattle.layout.proofs.Limits.{on-shaped, shape-edition}
use Rattle.image.proofs.Order.{orderly}
use Rattle.steps.specs.declared.Step.{Step}
use Rattle.steps.specs.declared.Request.{Request}
use Rattle.steps.specs.Steps.{whole_steps, steps_of}
use Rattle.steps.specs.Encodable.{Each}
use Rattle.rules.specs.Rules.{checked}
use Rattle.rules.proofs.StepLaws.{InRange, each-in-range}
use Rattle.rules.proofs.Accepting.{accepted-of}
use Rattle.carry.specs.Carry.{carry, carry_all, carried, Misses, carry_answer, left_by, carry_image}
use Rattle.carry.proofs.CarryLaws.{each_take, all-on, on-carry, byte-miss, carry-trailer}
use Rattle.carry.proofs.AnswerLaws.{answer-accepted, accepted-answer}

-- ---- steps in range, one after the other, on an image of shape g

module _ (g : Shape) where
  all-trailer : (s : List ℕ) (xs : List Step) → On g s → Each (InRange g) xs → drop (trailer_start g) (carry_all s xs) ≡ drop (trailer_start g) s
  unfolding carry_all
  all-trailer s [] o r = refl
  all-trailer s (x ∷ xs) o r = all-trailer (carry s x) xs (on-carry g s o x r.0) r.1 ∙ carry-trailer g s o x r.0

  all-byte : (s : List ℕ) (xs : List Step) → On g s → Each (InRange g) xs → (b : ℕ) → Each (Misses g (b / 8)) xs → get_or (carry_all s xs) b 0 ≡ get_or s b 0
  unfolding carry_all
  all-byte s [] o r b m = refl
  all-byte s (x ∷ xs) o r b m = all-byte (carry s x) xs (on-carry g s o x r.0) r.1 b m.1 ∙ byte-miss g s o x b m.0

module _ (s : List ℕ) (r : Request) (plan : List ℕ) (n : ℕ) where
  -- ---- the answer

  -- It accepts exactly where the checker accepts the plan and the plan has n whole steps.
  pub accepts-is-checked : carry_answer s r plan n ≡ Ok tt → (checked s r plan ≡ Ok tt) × (n ≤ whole_steps plan)
  accepts-is-checked = answer-accepted s r plan n

  pub checked-is-accepted : checked s r plan ≡ Ok tt → n ≤ whole_steps plan → carry_answer s r plan n ≡ Ok tt
  checked-is-accepted = accepted-answer s r plan n

  -- ---- the image

  -- "A refusal changes nothing lent."
  pub refusal-changes-nothing : (x : Refusal) → carry_answer s r plan n ≡ Err x → carry_image s r plan n ≡ s
  refusal-changes-nothing x e = ap (λ (a : Result ⊤ Refusal). left_by a s plan n) e

  on : carry_answer s r plan n ≡ Ok tt → On (shape_of s) s
  on e = (orderly (accepted-of s r plan (answer-accepted s r plan n e).0).sound).on

  in-range : carry_answer s r plan n ≡ Ok tt → Each (InRange (shape_of s)) (take n (steps_of plan))
  in-range e =
      each_take (InRange (shape_of s)) n (steps_of plan)
      (each-in-range (shape_of s) plan (accepted-of s r plan (answer-accepted s r plan n e).0).rules.one)

  -- what holds of the image itself, and of the image after the first n steps where they are carried out, holds of the image afterwards
  either_way : (P : List ℕ → Type 0) → P s → (carry_answer s r plan n ≡ Ok tt → P (carried s plan n)) → P (carry_image s r plan n)
  either_way P a b = at (carry_answer s r plan n) refl
    where
      at : (x : Result ⊤ Refusal) → carry_answer s r plan n ≡ x → P (left_by x s plan n)
      at (Ok tt) e = b e
      at (Err y) e = a

  -- "and no other byte": a byte stays that lies in no word of the first n steps.
  pub other-bytes-stay : (b : ℕ) → Each (Misses (shape_of s) (b / 8)) (take n (steps_of plan)) → get_or (carry_image s r plan n) b 0 ≡ get_or s b 0
  unfolding carried
  other-bytes-stay b m =
      either_way (λ t. get_or t b 0 ≡ get_or s b 0) refl (λ e. all-byte (shape_of s) s (take n (steps_of plan)) (on e) (in-range e) b m)

  -- The trailer's bytes never change, nor does the length.
  pub trailer-stays : drop (trailer_at (edition_of s) s) (carry_image s r plan n) ≡ drop (trailer_at (edition_of s) s) s
  unfolding carried
  trailer-stays =
      either_way (λ t. drop (trailer_at (edition_of s) s) t ≡ drop (trailer_at (edition_of s) s) s) refl (λ e.
      let z = (on-shaped (shape_of s) s (on e)).size in
      let at : trailer_at (edition_of s) s ≡ trailer_start (shape_of s) = omega (arith, shape-edition s) in
      rw at (all-trailer (shape_of s) s (take n (steps_of plan)) (on e) (in-range e)))

  pub length-stays : length (carry_image s r plan n) ≡ length s
  unfolding carried
  length-stays =
      either_way (λ t. length t ≡ length s) refl (λ e.
      (on-shaped (shape_of s) _ (all-on (shape_of s) s (take n (steps_of plan)) (on e) (in-range e))).size ∙ sym (on-shaped (shape_of s) s (on e)).size)
