-- Passes: what a step keeps, a list of steps keeps; and the laws by which a loop goes through a plan.
use Rattle.std.specs.Prelude.{Option, Some, None}
use Prim.Native.Nat.{ℕ, ◌+◌, ◌<◌, ◌≤◌}
use mathlib.Core.Path.{◌≡◌, refl, ap, sym, ◌∙◌}
use mathlib.Core.List.{List, [], ◌∷◌}
use Rattle.steps.specs.declared.Step.{Step}
use Rattle.steps.specs.Steps.{decode_at, whole_steps, steps_append, steps_of}
use Rattle.steps.proofs.Rest.{rest, rest-start, rest-next, rest_end}
use Rattle.tally.specs.Tallies.{fold}
use Rattle.pass.specs.Passes.{on_decoded}

-- what a step keeps, a list of steps keeps
pub fold-keeps :
    {A : Type 0} (f : A → Step → A) (P : A → Type 0) → ((a : A) (x : Step) → P a → P (f a x)) → (xs : List Step) (a : A) → P a
    → P (fold f a xs)
unfolding fold
fold-keeps f P keep [] a h = h
fold-keeps f P keep (x ∷ xs) a h = fold-keeps f P keep xs (f a x) (keep a x h)

-- a part of what is kept that a step changes by itself
pub fold-part :
    {A B : Type 0} (f : A → Step → A) (h : B → Step → B) (part : A → B) → ((a : A) (x : Step) → part (f a x) ≡ h (part a) x)
    → (xs : List Step) (a : A)
    → part (fold f a xs) ≡ fold h (part a) xs
unfolding fold
fold-part f h part e [] a = refl
fold-part f h part e (x ∷ xs) a = fold-part f h part e xs (f a x) ∙ ap (λ b. fold h b xs) (e a x)

module _ {A : Type 0} (f : A → Step → A) (a : A) (plan : List ℕ) where
  fold-append : (d : Option Step) (xs : List Step) → fold f a (steps_append d xs) ≡ fold f (on_decoded f a d) xs
  unfolding fold
  fold-append (Some x) xs = refl
  fold-append None xs = refl

  pub fold_start : fold f a (steps_of plan) ≡ fold f a (rest plan 0)
  fold_start = ap (fold f a) (rest-start plan)

  pub fold_next : (i : ℕ) → i < whole_steps plan → fold f a (rest plan i) ≡ fold f (on_decoded f a (decode_at plan i)) (rest plan (i + 1))
  fold_next i h = ap (fold f a) (rest-next plan i h) ∙ fold-append (decode_at plan i) (rest plan (i + 1))

  pub fold_end : (i : ℕ) → whole_steps plan ≤ i → fold f a (rest plan i) ≡ a
  unfolding fold
  fold_end i h = rw (rest_end plan i h) refl

module _ {A : Type 0} (f : A → Step → A) (plan : List ℕ) where
  -- a loop's turn: what is kept, w being the answer at the end
  pub fold-turn :
      (w a b : A) (d : Option Step) (i : ℕ) → i < whole_steps plan → w ≡ fold f a (rest plan i) → d ≡ decode_at plan i → b ≡ on_decoded f a d
      → w ≡ fold f b (rest plan (i + 1))
  fold-turn w a b d i h e ed eb = e ∙ fold_next f a plan i h ∙ rw (eb, ed) refl

  -- and its end
  pub fold_done : (w a : A) (i : ℕ) → whole_steps plan ≤ i → w ≡ fold f a (rest plan i) → a ≡ w
  fold_done w a i h e = sym (e ∙ fold_end f a plan i h)
