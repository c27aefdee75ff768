-- What the rules read off steps that a function gives, one for each number of a list, before other steps t.
use Prim.Native.Nat.{ℕ, zero, suc, ◌+◌, ◌≤◌, ◌<◌}
use native.Mathlib.Omega.{arith}
use mathlib.Core.Path.{◌≡◌, refl, ap, ◌∙◌}
use mathlib.Core.Logic.{⊎_elim}
use mathlib.Core.Bool.{Bool, true}
use mathlib.Core.List.{List, [], ◌∷◌, ◌++◌, map}
use lib.Dec.{eqb}
use borrow.Author.Tests.{eqb-true, eqb-false, ne_eqb}
use Rattle.search.specs.Search.{from}
use Rattle.search.proofs.Bools.{either, cond-true, cond-false}
use Rattle.steps.specs.declared.Step.{Step}
use Rattle.steps.specs.declared.Step.TheVariants.{Data, Fence}
use Rattle.steps.specs.Encodable.{Each}
use Rattle.rules.specs.Rules.{collect, every, unit_of, ends_in, is_fence, before_link}

module _ (f : ℕ → Step) (t : List Step) where
  -- a function that passes over each of them
  pub passed_over : {A : Type 0} (F : List Step → A) → ((j : ℕ) (ys : List Step) → F (f j ∷ ys) ≡ F ys) → (js : List ℕ) → F (map f js ++ t) ≡ F t
  passed_over F h [] = refl
  passed_over F h (j ∷ js) = h j (map f js ++ t) ∙ passed_over F h js

  -- one number of each
  pub drawn : (sel : Step → List ℕ) (h : ℕ → ℕ) → ((j : ℕ) → sel (f j) ≡ h j ∷ []) → (js : List ℕ) → collect sel (map f js ++ t) ≡ map h js ++ collect sel t
  unfolding collect
  drawn sel h e [] = refl
  drawn sel h e (j ∷ js) = rw (e j) (ap (λ (l : List ℕ). h j ∷ l) (drawn sel h e js))

  pub every-from : (test : Step → Bool) (a n : ℕ) → ((j : ℕ) → a ≤ j → j < a + n → test (f j) ≡ true) → every test (map f (from a n) ++ t) ≡ every test t
  unfolding every from
  every-from test a zero e = refl
  every-from test a (suc n) e = rw (e a (omega arith) (omega arith)) (every-from test (suc a) n (λ j p q. e j (omega arith) (omega arith)))

  pub before-link : ((j : ℕ) (ys : List Step) → before_link (f j ∷ ys) ≡ f j ∷ before_link ys) → (js : List ℕ)
      → before_link (map f js ++ t) ≡ map f js ++ before_link t
  before-link h [] = refl
  before-link h (j ∷ js) = h j (map f js ++ t) ∙ ap (λ (l : List Step). f j ∷ l) (before-link h js)

  pub each_from : (P : Step → Type 0) (a n : ℕ) → ((j : ℕ) → a ≤ j → j < a + n → P (f j)) → Each P t → Each P (map f (from a n) ++ t)
  unfolding from
  each_from P a zero h r = r
  each_from P a (suc n) h r = (h a (omega arith) (omega arith), each_from P (suc a) n (λ j p q. h j (omega arith) (omega arith)) r)

-- the unit of a piece, where piece j is on unit f j
module _ (f : ℕ → ℕ) (t : List Step) (j : ℕ) where
  abbrev piece : ℕ → Step
  piece i = Data (f i) i 0

  pub unit-here : (a n : ℕ) → a ≤ j → j < a + n → unit_of j (map piece (from a n) ++ t) ≡ f j
  unfolding unit_of from
  unit-here a zero h l = absurd (omega arith)
  unit-here a (suc n) h l =
      ⊎_elim (λ e. cond-true (eqb a j) (f a) (unit_of j (map piece (from (suc a) n) ++ t)) e ∙ ap f (eqb-true a j e))
      (λ e.
      cond-false (eqb a j) (f a) (unit_of j (map piece (from (suc a) n) ++ t)) e ∙ unit-here (suc a) n (omega (arith, eqb-false a j e)) (omega arith))
      (either (eqb a j))

  pub unit-past : (a n : ℕ) → a + n ≤ j → unit_of j (map piece (from a n) ++ t) ≡ unit_of j t
  unfolding unit_of from
  unit-past a zero h = refl
  unit-past a (suc n) h =
      cond-false (eqb a j) (f a) (unit_of j (map piece (from (suc a) n) ++ t)) (ne_eqb a j (λ e. omega arith)) ∙ unit-past (suc a) n (omega arith)

pub ends-in-fence : (b : Bool) (xs : List Step) → ends_in b (xs ++ (Fence ∷ [])) ≡ true
unfolding ends_in
ends-in-fence b [] = refl
ends-in-fence b (x ∷ xs) = ends-in-fence (is_fence x) xs
