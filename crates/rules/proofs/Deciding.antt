-- The lowest rule broken, rule by rule.
use Prim.Native.Nat.{ℕ}
use mathlib.Core.Path.{◌≡◌, refl}
use mathlib.Core.Bool.{true, false}
use mathlib.Core.List.{List}
use Rattle.steps.specs.declared.Request.{Request}
use Rattle.steps.specs.Steps.{steps_of}
use Rattle.rules.specs.Rules.{Known, rule1, rule2, rule3, rule4, rule5, broken_rule}

module _ (kn : Known) (r : Request) (plan : List ℕ) where
  pub broken-1 : rule1 kn.shape plan ≡ false → 1 ≡ broken_rule kn r plan
  unfolding broken_rule
  broken-1 e = rw e refl

  module _ (e1 : rule1 kn.shape plan ≡ true) where
    pub broken-2 : rule2 kn.free_units r (steps_of plan) ≡ false → 2 ≡ broken_rule kn r plan
    unfolding broken_rule
    broken-2 e = simp (e1, e)

    module _ (e2 : rule2 kn.free_units r (steps_of plan) ≡ true) where
      pub broken-3 : rule3 kn.shape kn.map_free r (steps_of plan) ≡ false → 3 ≡ broken_rule kn r plan
      unfolding broken_rule
      broken-3 e = simp (e1, e2, e)

      module _ (e3 : rule3 kn.shape kn.map_free r (steps_of plan) ≡ true) where
        pub broken-4 : rule4 kn.chunk_mapped r (steps_of plan) ≡ false → 4 ≡ broken_rule kn r plan
        unfolding broken_rule
        broken-4 e = simp (e1, e2, e3, e)

        module _ (e4 : rule4 kn.chunk_mapped r (steps_of plan) ≡ true) where
          pub broken-5 : rule5 kn.chunk_mapped r (steps_of plan) ≡ false → 5 ≡ broken_rule kn r plan
          unfolding broken_rule
          broken-5 e = simp (e1, e2, e3, e4, e)

          pub broken-none : rule5 kn.chunk_mapped r (steps_of plan) ≡ true → 0 ≡ broken_rule kn r plan
          unfolding broken_rule
          broken-none e = simp (e1, e2, e3, e4, e)
