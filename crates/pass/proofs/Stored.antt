-- Rule 3: all MAP steps are on one free map exactly where all are on the first one's, and that is free.
use Prim.Native.Nat.{ℕ}
use mathlib.Core.Path.{◌≡◌, refl, sym, ap, ◌∙◌}
use mathlib.Core.Bool.{Bool, true, false, ◌&&◌, ◌||◌}
use mathlib.Core.List.{List, [], ◌∷◌}
use lib.Dec.{eqb}
use borrow.Author.Tests.{eqb-true}
use Rattle.layout.specs.Layout.{X}
use Rattle.steps.specs.declared.Step.{Step}
use Rattle.steps.specs.declared.Step.TheVariants.{Data, Map, Link, Fence}
use Rattle.steps.specs.Steps.{word_of}
use Rattle.steps.specs.Encodable.{Each}
use Rattle.rules.specs.Rules.{collect, every, map_in, maps, is_none, plan_map, map_fits}
use Rattle.pass.proofs.Parts.{stored, OnSome}

cell : (f e s n : Bool) → ((f && e) && (s && (n || f))) ≡ ((e && s) && f)
cell true true true true = refl
cell true true true false = refl
cell true true false n = refl
cell true false s n = refl
cell false true true n = refl
cell false true false n = refl
cell false false s n = refl

module _ (a : ℕ) (free : ℕ → Bool) (unit : ℕ → ℕ) where
  pub stored-free : (xs : List Step) → every (map_fits a free unit) xs ≡ (every (stored a unit) xs && (is_none (maps xs) || free a))
  unfolding every map_fits collect map_in
  stored-free [] = refl
  stored-free (Data u j w ∷ xs) = stored-free xs
  stored-free (Map k j v ∷ xs) = go (stored-free xs) (eqb a k) refl
    where
      e : Bool
      e = eqb (word_of v) (unit j)

      s : Bool
      s = every (stored a unit) xs

      n : Bool
      n = is_none (maps xs)

      go : every (map_fits a free unit) xs ≡ (s && (n || free a)) → (b : Bool) → eqb a k ≡ b
          → ((eqb a k && free k && e) && every (map_fits a free unit) xs) ≡ (((eqb a k && e) && s) && free a)
      go rest true q =
          ap (λ (b : Bool). (b && free k && e) && every (map_fits a free unit) xs) q
          ∙ ap (λ (m : ℕ). (free m && e) && every (map_fits a free unit) xs) (sym (eqb-true a k q))
          ∙ ap (λ (b : Bool). (free a && e) && b) rest
          ∙ cell (free a) e s n
          ∙ ap (λ (b : Bool). ((b && e) && s) && free a) (sym q)
      go rest false q = rw (q)
  stored-free (Link c v ∷ xs) = stored-free xs
  stored-free (Fence ∷ xs) = stored-free xs

-- the map of the first MAP step is free, where there is one
pub map-is-free : (free : ℕ → Bool) (xs : List Step) → Each OnSome xs → (eqb (plan_map xs) X || free (plan_map xs)) ≡ (is_none (maps xs) || free (plan_map xs))
unfolding plan_map collect map_in
map-is-free free [] h = refl
map-is-free free (Data u j w ∷ xs) h = map-is-free free xs h.1
map-is-free free (Map k j v ∷ xs) h = ap (λ (b : Bool). b || free k) h.0
map-is-free free (Link c v ∷ xs) h = map-is-free free xs h.1
map-is-free free (Fence ∷ xs) h = map-is-free free xs h.1
