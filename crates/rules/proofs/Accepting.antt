-- A plan is accepted exactly where the image passes, the request is good and the plan keeps the five rules, all as computed.
use Rattle.std.specs.Prelude.{Result, Ok, Err, ⊤}
use Prim.Native.Nat.{ℕ}
use mathlib.Core.Path.{◌≡◌, refl}
use mathlib.Core.Bool.{Bool, true, false, cond}
use mathlib.Core.List.{List}
use native.Mathlib.Omega.{arith}
use Rattle.layout.specs.declared.Refusal.{Refusal}
use Rattle.layout.specs.declared.Refusal.TheVariants.{Range, Size, BadPlan}
use Rattle.layout.specs.Layout.{shape_of}
use Rattle.image.specs.Claims.{Tested}
use Rattle.image.specs.Soundness.{mapped}
use Rattle.image.specs.Answers.{if_sound}
use Rattle.image.specs.Verdicts.{verdict}
use Rattle.image.specs.Free.{free_units, free_map}
use Rattle.image.proofs.SoundLaws.{passed-tested, tested-passed}
use Rattle.steps.specs.declared.Request.{Request}
use Rattle.steps.specs.Steps.{steps_of, chunk_of, good_chunk, good_size}
use Rattle.rules.specs.Rules.{rule1, rule2, rule3, rule4, rule5, Known, known_of, broken, broken_rule, judged, checked}

-- a plan keeps the five rules on an image
pub record Unbroken (s : List ℕ) (r : Request) (plan : List ℕ) : Type 0 where
  pub one : rule1 (shape_of s) plan ≡ true
  pub two : rule2 (free_units s) r (steps_of plan) ≡ true
  pub three : rule3 (shape_of s) (free_map s) r (steps_of plan) ≡ true
  pub four : rule4 (mapped s (chunk_of r)) r (steps_of plan) ≡ true
  pub five : rule5 (mapped s (chunk_of r)) r (steps_of plan) ≡ true

-- and all else that acceptance takes
pub record Passed (s : List ℕ) (r : Request) (plan : List ℕ) : Type 0 where
  pub sound : Tested s
  pub chunk : good_chunk (shape_of s) r ≡ true
  pub size : good_size (shape_of s) r ≡ true
  pub rules : Unbroken s r plan

pub no-denial : {A : Type 0} (x : Refusal) → ◌≡◌ {A = Result ⊤ Refusal} (Err x) (Ok tt) → A
no-denial x e = let z : ◌≡◌ {A = ℕ} 0 1 = cc in absurd (omega arith)

kept : (b₁ b₂ b₃ b₄ b₅ : Bool) → broken (cond b₁ (cond b₂ (cond b₃ (cond b₄ (cond b₅ 0 5) 4) 3) 2) 1) ≡ Ok tt
    → (b₁ ≡ true) × (b₂ ≡ true) × (b₃ ≡ true) × (b₄ ≡ true) × (b₅ ≡ true)
kept false b₂ b₃ b₄ b₅ e = no-denial (BadPlan 1) e
kept true false b₃ b₄ b₅ e = no-denial (BadPlan 2) e
kept true true false b₄ b₅ e = no-denial (BadPlan 3) e
kept true true true false b₅ e = no-denial (BadPlan 4) e
kept true true true true false e = no-denial (BadPlan 5) e
kept true true true true true e = (refl, refl, refl, refl, refl)

good : (a b : Bool) (x : Result ⊤ Refusal) → cond a (cond b x (Err Size)) (Err Range) ≡ Ok tt → (a ≡ true) × (b ≡ true) × (x ≡ Ok tt)
good true true x e = (refl, refl, e)
good true false x e = no-denial Size e
good false b x e = no-denial Range e

fine : (v : Result ⊤ Refusal) (x : Result ⊤ Refusal) → if_sound v Err x ≡ Ok tt → (v ≡ Ok tt) × (x ≡ Ok tt)
fine (Ok tt) x e = (refl, e)
fine (Err y) x e = no-denial y e

-- on what is known of an image
module _ (kn : Known) (r : Request) (plan : List ℕ) (e : judged kn r plan ≡ Ok tt) where
  pub judged-good : (good_chunk kn.shape r ≡ true) × (good_size kn.shape r ≡ true) × (broken (broken_rule kn r plan) ≡ Ok tt)
  unfolding judged
  judged-good = good (good_chunk kn.shape r) (good_size kn.shape r) (broken (broken_rule kn r plan)) e

  judged-kept :
      (rule1 kn.shape plan ≡ true) × (rule2 kn.free_units r (steps_of plan) ≡ true) × (rule3 kn.shape kn.map_free r (steps_of plan) ≡ true)
      × (rule4 kn.chunk_mapped r (steps_of plan) ≡ true)
      × (rule5 kn.chunk_mapped r (steps_of plan) ≡ true)
  unfolding broken_rule
  judged-kept =
      let xs = steps_of plan in
      let m = kn.chunk_mapped in
      kept (rule1 kn.shape plan) (rule2 kn.free_units r xs) (rule3 kn.shape kn.map_free r xs) (rule4 m r xs) (rule5 m r xs) judged-good.2

  -- for whoever goes over the plan once more
  pub judged-rule1 : rule1 kn.shape plan ≡ true
  judged-rule1 = judged-kept.0

pub accepted-of : (s : List ℕ) (r : Request) (plan : List ℕ) → checked s r plan ≡ Ok tt → Passed s r plan
unfolding checked
accepted-of s r plan e =
    let v = fine (verdict s) (judged (known_of s r) r plan) e in
    let w = judged-good (known_of s r) r plan v.1 in
    let k = judged-kept (known_of s r) r plan v.1 in
    record {
      sound = passed-tested s v.0;
      chunk = w.0;
      size = w.1;
      rules = record { one = k.0; two = k.1; three = k.2; four = k.3; five = k.4 };
    }

-- for those who make plans of their own
pub accepted : (s : List ℕ) (r : Request) (plan : List ℕ) → Passed s r plan → checked s r plan ≡ Ok tt
unfolding checked judged broken_rule
accepted s r plan p =
    rw (tested-passed s p.sound, p.chunk, p.size, p.rules.one, p.rules.two, p.rules.three, p.rules.four, p.rules.five)
