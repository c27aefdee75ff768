-- One call by a current index, and a list of calls; and the index of an accepted load.
use Rattle.std.specs.Prelude.{Result, Ok, Err, ⊤, is_ok, true}
use native.Mathlib.Omega.{arith}
use Prim.Native.Nat.{ℕ}
use mathlib.Core.Path.{◌≡◌, refl, sym, ap, ap₂, subst, ◌∙◌}
use mathlib.Core.List.{List, [], ◌∷◌, ◌++◌, append-nil}
use lib.ListN.{length}
use Rattle.layout.specs.declared.Shape.{Shape}
use Rattle.layout.specs.Layout.{shape_of}
use Rattle.image.specs.Soundness.{Sound}
use Rattle.image.specs.Verdicts.{verdict}
use Rattle.image.specs.Loading.{answer, loaded}
use Rattle.indexed.specs.Admitting.{Index}
use Rattle.indexed.specs.Calls.{Current, index_of}
use Rattle.indexed.specs.Opening.{free_sets}
use Rattle.indexed.proofs.Currents.{free-current, same-access, same-held, same_size, same-report, same-alarm, same-plan, same_out, same-checked, same-carry, same-image}
use Rattle.sessions.specs.Sessions.{Call, Plan, Check, Carry, AskAccess, AskHeld, AskSize, AskReport, AskAlarm, Said, Planning, Checking, Accessing, Holding, Sizing, Reporting, Alarming, says, leaves, says_all, leaves_all, says_by, leaves_by, gives_back, says_all_by, leaves_all_by, gives_back_all, SameFromCurrent, loaded_index}
use Rattle.sessions.proofs.Next.{next-current}
use Rattle.layout.specs.declared.Refusal.{Refusal}

-- ---- one call

-- it says and leaves what the scanning call does, and what it leaves is sound again, with an index that is current
record SameCall (g : Shape) (ix : Index) (s : List ℕ) (k : Call) : Type 0 where
  said : says_by ix s k ≡ says s k
  image : leaves_by ix s k ≡ leaves s k
  sound : Sound g (leaves_by ix s k)
  index : Current (leaves_by ix s k) (gives_back ix s k)

same-call : (g : Shape) (ix : Index) (s : List ℕ) (k : Call) → Sound g s → Current s ix → SameCall g ix s k
same-call g ix s (Plan r out) z c = record {
  said = ap₂ Planning (same-plan s ix c r (length out)) (same_out s ix c r out);
  image = refl;
  sound = z;
  index = c;
}
same-call g ix s (Check r plan) z c = record { said = ap Checking (same-checked s ix c r plan); image = refl; sound = z; index = c }
same-call g ix s (Carry r plan n) z c =
    let next = next-current g s ix z c r plan n in
    record { said = ap Checking (same-carry s ix c r plan n); image = same-image s ix c r plan n; sound = next.0; index = next.1 }
same-call g ix s (AskAccess write offset span) z c =
    record { said = ap Accessing (same-access s ix c write offset span); image = refl; sound = z; index = c }
same-call g ix s (AskHeld i) z c = record { said = ap Holding (same-held s ix c i); image = refl; sound = z; index = c }
same-call g ix s (AskSize i) z c = record { said = ap Sizing (same_size s ix c i); image = refl; sound = z; index = c }
same-call g ix s AskReport z c = record { said = ap Reporting (same-report s ix c); image = refl; sound = z; index = c }
same-call g ix s (AskAlarm level) z c = record { said = ap Alarming (same-alarm s ix c level); image = refl; sound = z; index = c }

-- ---- a list of calls

pub same-calls : SameFromCurrent
unfolding says_all leaves_all says_all_by leaves_all_by gives_back_all
same-calls g ix s [] z c = record { said = refl; image = refl; index = c }
same-calls g ix s (k ∷ ks) z c =
    let one = same-call g ix s k z c in
    let later = same-calls g (gives_back ix s k) (leaves_by ix s k) ks one.sound one.index in
    record {
      said = ap₂ (λ (x : Said) (xs : List Said). x ∷ xs) one.said (later.said ∙ ap (λ (t : List ℕ). says_all t ks) one.image);
      image = later.image ∙ ap (λ (t : List ℕ). leaves_all t ks) one.image;
      index = subst (λ (t : List ℕ). Current (leaves_all t ks) (gives_back_all (gives_back ix s k) (leaves_by ix s k) ks)) one.image later.index;
    }

-- ---- the index of an accepted load

accepted-verdict : (s : List ℕ) (v : Result ⊤ Refusal) → is_ok (answer v s) ≡ true → v ≡ Ok tt
accepted-verdict s (Ok tt) e = refl
accepted-verdict s (Err r) e = let z : ◌≡◌ {A = ℕ} 0 1 = cc in absurd (omega arith)

module _ (s : List ℕ) where
  pub accepted-load : is_ok (loaded s) ≡ true → verdict s ≡ Ok tt
  accepted-load e = accepted-verdict s (verdict s) e

  pub load-current : verdict s ≡ Ok tt → Current s (loaded_index (loaded s))
  load-current e =
      let q : free_sets s ++ [] ≡ free_sets s = append-nil (free_sets s) in
      subst (λ (v : Result ⊤ Refusal). Current s (loaded_index (answer v s))) (sym e)
      (subst (λ (ws : List ℕ). Current s (index_of (shape_of s) ws)) q (free-current s [] e))
