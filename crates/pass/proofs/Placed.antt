-- Rule 2: the tally of the pieces decides it, where the units dealt are the lowest of the free ones.
use Prim.Native.Nat.{ℕ, zero, suc, ◌<◌, ◌≤◌}
use mathlib.Core.Path.{◌≡◌, refl, sym, ap, ◌∙◌, fun_ext}
use mathlib.Core.Logic.{⊎_elim}
use mathlib.Core.Bool.{Bool, true, false, ◌&&◌}
use mathlib.Core.List.{List, [], ◌∷◌}
use native.Mathlib.Nat.{min-le_left}
use native.Mathlib.Omega.{arith}
use lib.ListN.{length, get_or, take, length-take, get_or-eq_default}
use lib.Seq.{get_or-take}
use lib.Dec.{eqb, ltb}
use borrow.Author.Tests.{ne_eqb, ltb-true, ltb-false}
use Rattle.search.proofs.Bools.{either}
use Rattle.layout.specs.Layout.{X}
use Rattle.steps.specs.declared.Step.{Step}
use Rattle.steps.specs.declared.Step.TheVariants.{Data, Map, Link, Fence}
use Rattle.steps.specs.declared.Request.{Request}
use Rattle.steps.specs.Steps.{need_of}
use Rattle.rules.specs.Rules.{every, piece_in, pieces, unit_of, once_each, data_fits, rule2}
use Rattle.rules.specs.Reading.{At}
use Rattle.rules.proofs.Once.{once-below}
use Rattle.rules.proofs.Places.{every-same, collect-in}
use Rattle.rules.proofs.Dealing.{here, dealt-unit, dealt-past}
use Rattle.pass.specs.Passes.{unit_at}
use Rattle.pass.proofs.Parts.{placed}

module _ (us : List ℕ) (k : ℕ) where
  -- what is dealt to piece j: of the k lowest the one at place j
  abbrev pub unit : ℕ → ℕ
  unit = unit_at (take k us)

  unit-past : (j : ℕ) → k ≤ j → unit j ≡ X
  unit-past j h =
      let n = length-take k us in let m = min-le_left k (length us) in get_or-eq_default (take k us) X (omega arith)

  -- no unit of a step is X, where rule 1 is kept
  fits-same : (u j : ℕ) → j < k → (u ≡ X → ⊥) → eqb (unit j) u ≡ (ltb j (length us) && eqb (get_or us j X) u)
  fits-same u j l ne =
      ap (λ (n : ℕ). eqb n u) (get_or-take k us j X l)
      ∙ ⊎_elim (λ q. rw q refl)
      (λ q. let h = ltb-false j (length us) q in
      ap (λ (n : ℕ). eqb n u) (get_or-eq_default us X (omega arith)) ∙ ne_eqb X u (λ e. ne (sym e)) ∙ sym (ap (λ (b : Bool). b && eqb (get_or us j X) u) q))
      (either (ltb j (length us)))

module _ (us : List ℕ) (r : Request) (xs : List Step) where
  abbrev k : ℕ
  k = need_of r

  pub placed-is : ((i u j w : ℕ) → At xs i (Data u j w) → u ≡ X → ⊥) → (once_each k (pieces xs) && every (placed (unit us k)) xs) ≡ rule2 us r xs
  unfolding piece_in data_fits rule2
  placed-is ne = go (once_each k (pieces xs)) refl
    where
      same : once_each k (pieces xs) ≡ true → (i : ℕ) (x : Step) → At xs i x → placed (unit us k) x ≡ data_fits us x
      same o i (Data u j w) s = fits-same us k u j (once-below k (pieces xs) o j (collect-in piece_in xs i (Data u j w) j s (here j))) (ne i u j w s)
      same o i (Map m j v) s = refl
      same o i (Link c v) s = refl
      same o i Fence s = refl

      go : (b : Bool) → once_each k (pieces xs) ≡ b
          → (once_each k (pieces xs) && every (placed (unit us k)) xs) ≡ (once_each k (pieces xs) && every (data_fits us) xs)
      go true o = ap (λ (b : Bool). once_each k (pieces xs) && b) (every-same (placed (unit us k)) (data_fits us) xs (same o))
      go false o = rw o refl

  -- what is dealt to a piece is the unit of its DATA step, where rule 2 is kept
  pub dealt-is : rule2 us r xs ≡ true → unit us k ≡ (λ j. unit_of j xs)
  dealt-is h = fun_ext λ j.
      ⊎_elim
      (λ q. let l = ltb-true j k q in get_or-take k us j X l ∙ sym (dealt-unit us xs r h X j l))
      (λ q. let l = ltb-false j k q in unit-past us k j (omega arith) ∙ sym (dealt-past us xs r h j (omega arith)))
      (either (ltb j k))
