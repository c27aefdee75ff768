-- The theorems of this crate that a reader wants: nothing else cites them. That a list of indexed calls says what the scanning calls say is proved in crate
-- sessions.
use Rattle.std.specs.Prelude.{Result, Ok, Err, ⊤}
use Prim.Native.Nat.{ℕ}
use mathlib.Core.Path.{◌≡◌, refl, ap}
use mathlib.Core.Bool.{false}
use mathlib.Core.List.{List}
use Rattle.search.proofs.Bools.{cond-false}
use Rattle.planner.specs.Planner.{plan_of, written}
use Rattle.carry.specs.Carry.{link_within, left_by}
use Rattle.indexed.specs.Calls.{index_of, known_in, carry_answer_by, sets_left}
use Rattle.indexed.specs.Promises.{RefusalsAlterNothing, Local}
use Rattle.indexed.proofs.Local.{local-calls}
use Rattle.layout.specs.declared.Refusal.{Refusal}

-- ---- "a refusal still alters nothing lent"

-- With any index and on any image a refusal leaves output, image and index as they were.
pub refusals-alter-nothing : RefusalsAlterNothing
refusals-alter-nothing ix s r = record {
  output = λ out x e. ap (λ (a : Result ℕ Refusal). written a (plan_of (known_in ix s r) r) out) e;
  image = λ plan n x e. ap (λ (a : Result ⊤ Refusal). left_by a s plan n) e;
  index = λ plan n x e. ap (index_of ix.shape) (ap (λ (a : Result ⊤ Refusal). sets_left a ix.sets s r plan n) e);
  before-link = λ plan n l. ap (index_of ix.shape) (still plan n l (carry_answer_by ix s r plan n));
}
  where
    still : (plan : List ℕ) (n : ℕ) → link_within plan n ≡ false → (a : Result ⊤ Refusal) → sets_left a ix.sets s r plan n ≡ ix.sets
    still plan n l (Ok tt) = cond-false (link_within plan n) _ ix.sets l
    still plan n l (Err x) = refl

-- ---- "A plan, a check or a carrying out depends on no entry or map but its own chunk's."

pub only-its-own-chunk : Local
only-its-own-chunk = local-calls
