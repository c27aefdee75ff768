-- The lowest rule broken, computed, is the lowest of the rules to read that is broken.
use Prim.Native.Nat.{ℕ, zero, suc, ◌<◌, ◌≤◌}
use mathlib.Core.Path.{◌≡◌, refl, sym, subst}
use mathlib.Core.Logic.{⊎_elim}
use mathlib.Core.Bool.{Bool, true, false}
use mathlib.Core.List.{List}
use native.Mathlib.Omega.{arith}
use lib.Dec.{eqb, ltb}
use borrow.Author.Tests.{eqb-true, eqb-false, ltb-true, ltb-false}
use Rattle.search.proofs.Bools.{contradict, either}
use Rattle.layout.specs.Layout.{map_words}
use Rattle.layout.specs.declared.Shape.{Shape}
use Rattle.steps.specs.declared.Step.{Step}
use Rattle.steps.specs.declared.Request.{Request}
use Rattle.steps.specs.Steps.{steps_of}
use Rattle.rules.specs.Rules.{Known, rule1, rule2, rule3, rule4, rule5, broken_rule}
use Rattle.rules.specs.Reading.{Rule, KeepsAll, LowestBroken}
use Rattle.rules.proofs.Deciding.{broken-1, broken-2, broken-3, broken-4, broken-5, broken-none}
use Rattle.rules.proofs.Wording.{rule1-told, rule1-tested, rule2-told, rule2-tested, rule3-told, rule3-tested, rule4-told, rule4-tested}
use Rattle.rules.proofs.Fencing.{rule5-told, rule5-tested}

module _ (kn : Known) (r : Request) (plan : List ℕ) (some : 1 ≤ map_words kn.shape) where
  abbrev xs : List Step
  xs = steps_of plan

  abbrev g : Shape
  g = kn.shape

  -- what the lowest rule broken says; 0 is none
  abbrev Says : ℕ → Type 0
  Says zero = KeepsAll kn r plan
  Says (suc n) = LowestBroken kn r plan (suc n)

  -- the rules below n, and one more
  next : (n : ℕ) → ((i : ℕ) → i < n → Rule kn r plan i) → Rule kn r plan n → (i : ℕ) → i < suc n → Rule kn r plan i
  next n f k i l =
      ⊎_elim (λ e. subst (Rule kn r plan) (sym (eqb-true i n e)) k) (λ e. let ne = eqb-false i n e in f i (omega arith)) (either (eqb i n))

  below-1 : (i : ℕ) → i < 1 → Rule kn r plan i
  below-1 zero l = tt
  below-1 (suc i) l = absurd (omega arith)

  module _ (e1 : rule1 kn.shape plan ≡ true) where
    below-2 : (i : ℕ) → i < 2 → Rule kn r plan i
    below-2 = next 1 below-1 (rule1-told kn.shape plan e1)

    module _ (e2 : rule2 kn.free_units r xs ≡ true) where
      below-3 : (i : ℕ) → i < 3 → Rule kn r plan i
      below-3 = next 2 below-2 (rule2-told kn.free_units xs r e2)

      module _ (e3 : rule3 g kn.map_free r xs ≡ true) where
        below-4 : (i : ℕ) → i < 4 → Rule kn r plan i
        below-4 = next 3 below-3 (rule3-told kn.map_free xs g kn.free_units r e2 e3)

        module _ (e4 : rule4 kn.chunk_mapped r xs ≡ true) where
          below-5 : (i : ℕ) → i < 5 → Rule kn r plan i
          below-5 = next 4 below-4 (rule4-told xs g some kn.map_free r kn.chunk_mapped e3 e4)

          kept : rule5 kn.chunk_mapped r xs ≡ true → KeepsAll kn r plan
          kept e5 zero = tt
          kept e5 (suc zero) = below-5 1 (omega arith)
          kept e5 (suc (suc zero)) = below-5 2 (omega arith)
          kept e5 (suc (suc (suc zero))) = below-5 3 (omega arith)
          kept e5 (suc (suc (suc (suc zero)))) = below-5 4 (omega arith)
          kept e5 (suc (suc (suc (suc (suc zero))))) = rule5-told xs r kn.chunk_mapped (below-5 4 (omega arith)) e5
          kept e5 (suc (suc (suc (suc (suc (suc n)))))) = tt

          by-5 : (b : Bool) → rule5 kn.chunk_mapped r xs ≡ b → Says (broken_rule kn r plan)
          by-5 true e = subst Says (broken-none kn r plan e1 e2 e3 e4 e) (kept e)
          by-5 false e = subst Says (broken-5 kn r plan e1 e2 e3 e4 e) (record {
            broken = λ k. contradict (rule5-tested xs r kn.chunk_mapped (below-5 4 (omega arith)) k) e;
            lower = below-5;
          })

        by_4 : (b : Bool) → rule4 kn.chunk_mapped r xs ≡ b → Says (broken_rule kn r plan)
        by_4 true e = by-5 e (rule5 kn.chunk_mapped r xs) refl
        by_4 false e = subst Says (broken-4 kn r plan e1 e2 e3 e) (record {
          broken = λ k. contradict (rule4-tested xs g some kn.map_free r kn.chunk_mapped e3 k) e;
          lower = below-4;
        })

      by-3 : (b : Bool) → rule3 g kn.map_free r xs ≡ b → Says (broken_rule kn r plan)
      by-3 true e = by_4 e (rule4 kn.chunk_mapped r xs) refl
      by-3 false e = subst Says (broken-3 kn r plan e1 e2 e) (record {
        broken = λ k. contradict (rule3-tested kn.map_free xs g kn.free_units r e2 k) e;
        lower = below-3;
      })

    by_2 : (b : Bool) → rule2 kn.free_units r xs ≡ b → Says (broken_rule kn r plan)
    by_2 true e = by-3 e (rule3 g kn.map_free r xs) refl
    by_2 false e =
        subst Says (broken-2 kn r plan e1 e) (record { broken = λ k. contradict (rule2-tested kn.free_units xs r k) e; lower = below-2 })

  says : Says (broken_rule kn r plan)
  says = by-1 (rule1 kn.shape plan) refl
    where
      by-1 : (b : Bool) → rule1 kn.shape plan ≡ b → Says (broken_rule kn r plan)
      by-1 true e = by_2 e (rule2 kn.free_units r (steps_of plan)) refl
      by-1 false e =
          subst Says (broken-1 kn r plan e) (record { broken = λ k. contradict (rule1-tested kn.shape plan k) e; lower = below-1 })

  -- no rule is broken exactly where all five are kept
  pub unbroken-kept : broken_rule kn r plan ≡ 0 → KeepsAll kn r plan
  unbroken-kept e = subst Says e says

  pub kept-unbroken : KeepsAll kn r plan → broken_rule kn r plan ≡ 0
  kept-unbroken k = go (broken_rule kn r plan) refl
    where
      go : (n : ℕ) → broken_rule kn r plan ≡ n → n ≡ 0
      go zero e = refl
      go (suc n) e = absurd ((subst Says e says).broken (k (suc n)))

  -- rule n is the lowest that is broken exactly where it is not kept and those before it are
  pub broken-lowest : (n : ℕ) → broken_rule kn r plan ≡ suc n → LowestBroken kn r plan (suc n)
  broken-lowest n e = subst Says e says

  pub lowest-broken : (n : ℕ) → LowestBroken kn r plan n → broken_rule kn r plan ≡ n
  lowest-broken n l = go (broken_rule kn r plan) refl
    where
      go : (m : ℕ) → broken_rule kn r plan ≡ m → m ≡ n
      go zero e = absurd (l.broken (subst Says e says n))
      go (suc m) e =
          let q : LowestBroken kn r plan (suc m) = subst Says e says in
          ⊎_elim (λ t. absurd (q.broken (l.lower (suc m) (ltb-true (suc m) n t))))
          (λ t. ⊎_elim (λ u. absurd (l.broken (q.lower n (ltb-true n (suc m) u))))
          (λ u. let a = ltb-false (suc m) n t in let b = ltb-false n (suc m) u in omega arith)
          (either (ltb n (suc m))))
          (either (ltb (suc m) n))
