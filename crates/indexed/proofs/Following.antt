-- Carrying out by an index: what an accepted plan says of its request, that the image keeps its shape, and the sets that are left.
use Rattle.std.specs.Prelude.{Result, Ok, Err, ⊤}
use Prim.Native.Nat.{ℕ, ◌≤◌, ◌<◌}
use mathlib.Core.Path.{◌≡◌, sym, ap, subst, ◌∙◌}
use mathlib.Core.Logic.{◌⊎◌, inl, inr}
use mathlib.Core.Bool.{Bool, true, false, ◌&&◌, cond}
use mathlib.Core.List.{List}
use lib.ListN.{take}
use lib.Dec.{ltb}
use borrow.Author.Tests.{ltb-true, ltb-false}
use Rattle.search.proofs.Bools.{either, cond-true, cond-false}
use Rattle.bitset.specs.Bits.{in_set}
use Rattle.layout.specs.declared.Shape.{Shape}
use Rattle.layout.specs.declared.Refusal.{Refusal}
use Rattle.layout.specs.declared.Refusal.TheVariants.{Range}
use Rattle.layout.specs.Layout.{link_of}
use Rattle.layout.specs.Shaped.{On}
use Rattle.image.specs.Soundness.{mapped}
use Rattle.steps.specs.declared.Request.{Request}
use Rattle.steps.specs.Steps.{chunk_of, whole_steps, steps_of}
use Rattle.rules.specs.Rules.{Known, known, rule1, judged}
use Rattle.rules.proofs.Accepting.{no-denial, judged-good, judged-rule1}
use Rattle.rules.proofs.StepLaws.{InRange, each-in-range}
use Rattle.carry.specs.Carry.{carried, carry_in, left_by, link_within}
use Rattle.carry.proofs.AnswerLaws.{Carries}
use Rattle.carry.proofs.CarryLaws.{each_take, all-on}
use Rattle.renewal.specs.Renewal.{units_in, maps_in, renewed_sets}
use Rattle.indexed.specs.Calls.{index_of, known_in, sets_left}

-- ---- the image keeps its shape

on-carried : (g : Shape) (s plan : List ℕ) (n : ℕ) → On g s → rule1 g plan ≡ true → On g (carried s plan n)
unfolding carried
on-carried g s plan n o h = all-on g s (take n (steps_of plan)) o (each_take (InRange g) n (steps_of plan) (each-in-range g plan h))

-- ---- a plan that was accepted

module _ (kn : Known) (r : Request) (plan : List ℕ) (n : ℕ) (e : carry_in kn r plan n ≡ Ok tt) where
  accepted-steps : (n ≤ whole_steps plan) × (judged kn r plan ≡ Ok tt)
  unfolding carry_in
  accepted-steps = go (either (ltb (whole_steps plan) n))
    where
      go : (ltb (whole_steps plan) n ≡ true) ⊎ (ltb (whole_steps plan) n ≡ false) → (n ≤ whole_steps plan) × (judged kn r plan ≡ Ok tt)
      go (inl q) = no-denial Range (sym (cond-true (ltb (whole_steps plan) n) (Err Range) (judged kn r plan) q) ∙ e)
      go (inr q) = (ltb-false (whole_steps plan) n q, sym (cond-false (ltb (whole_steps plan) n) (Err Range) (judged kn r plan) q) ∙ e)

  pub accepted-count : n ≤ whole_steps plan
  accepted-count = accepted-steps.0

  pub accepted-chunk : chunk_of r < kn.shape.c
  accepted-chunk = ltb-true (chunk_of r) kn.shape.c (judged-good kn r plan accepted-steps.1).0

  -- the image that is left has the shape that it had
  pub accepted-on : (s t : List ℕ) → On kn.shape s → t ≡ left_by (carry_in kn r plan n) s plan n → On kn.shape t
  accepted-on s t o q =
      subst (On kn.shape) (sym (q ∙ ap (λ (a : Result ⊤ Refusal). left_by a s plan n) e))
      (on-carried kn.shape s plan n o (judged-rule1 kn r plan accepted-steps.1))

-- ---- what is known by the sets

module _ (g : Shape) (sets s : List ℕ) (r : Request) (i : ℕ) (k : i ≡ chunk_of r) (m : Bool) (w : m ≡ (ltb i g.c && mapped s i)) where
  pub carries-by : (plan : List ℕ) (n : ℕ) (a : Result ⊤ Refusal) (t : List ℕ) → Carries (known g (in_set (units_in sets)) (in_set (maps_in sets)) m) s r plan n a t
      → Carries (known_in (index_of g sets) s r) s r plan n a t
  carries-by plan n a t p =
      let z : m ≡ (ltb (chunk_of r) g.c && mapped s (chunk_of r)) = w ∙ (λ j. ltb (k j) g.c && mapped s (k j)) in
      subst (λ (b : Bool). Carries (known g (in_set (units_in sets)) (in_set (maps_in sets)) b) s r plan n a t) z p

-- ---- the sets that are left

left-sets : (answer : Result ⊤ Refusal) (sets s t : List ℕ) (r : Request) (plan : List ℕ) (n : ℕ) → answer ≡ Ok tt → t ≡ left_by answer s plan n
    → cond (link_within plan n) (renewed_sets sets t (link_of s (chunk_of r)) (link_of t (chunk_of r))) sets ≡ sets_left answer sets s r plan n
left-sets (Ok tt) sets s t r plan n e q =
    ap (λ (l : List ℕ). cond (link_within plan n) (renewed_sets sets l (link_of s (chunk_of r)) (link_of l (chunk_of r))) sets) q
left-sets (Err x) sets s t r plan n e q = no-denial x e

pub followed : (kn : Known) (sets s t : List ℕ) (r : Request) (plan : List ℕ) (n : ℕ) → carry_in kn r plan n ≡ Ok tt
    → t ≡ left_by (carry_in kn r plan n) s plan n
    → (i old : ℕ) → i ≡ chunk_of r → (i < kn.shape.c → old ≡ link_of s i) → (after : List ℕ)
    → after ≡ cond (link_within plan n) (renewed_sets sets t old (link_of t i)) sets
    → after ≡ sets_left (carry_in kn r plan n) sets s r plan n
followed kn sets s t r plan n d p i old k o after q =
    let b : i < kn.shape.c = subst (λ (j : ℕ). j < kn.shape.c) (sym k) (accepted-chunk kn r plan n d) in
    let was : old ≡ link_of s (chunk_of r) = o b ∙ ap (link_of s) k in
    q ∙ (λ j. cond (link_within plan n) (renewed_sets sets t (was j) (link_of t (k j))) sets) ∙ left-sets (carry_in kn r plan n) sets s t r plan n d p
