-- What `convert` answers and leaves, by what the code has tested and called.
use Rattle.std.specs.Prelude.{Result, Ok, Err}
use Prim.Native.Nat.{ℕ}
use mathlib.Core.Path.{◌≡◌, sym, ap, ◌∙◌}
use mathlib.Core.List.{List}
use lib.ListN.{length}
use borrow.Author.Tests.{eq-eqb, ne_eqb}
use Rattle.layout.specs.declared.Shape.{Shape}
use Rattle.layout.specs.declared.Refusal.{Refusal}
use Rattle.layout.specs.declared.Refusal.TheVariants.{Small}
use Rattle.layout.specs.Layout.{image_bytes, fresh}
use Rattle.layout.specs.Shaped.{Limits}
use Rattle.layout.specs.Format.{format_image}
use Rattle.layout.proofs.Limits.{limits-hold}
use Rattle.layout.proofs.Formatting.{good, done}
use Rattle.image.specs.Verdicts.{first_verdict}
use Rattle.convert.specs.Convert.{second_of, new_bytes, converted, if_exact, convert_answer, unless_refused}
use Rattle.convert.proofs.Second.{second-limits}

-- ---- the second buffer, of `room` bytes, where the code has the new length n

module _ (room n needed : ℕ) (e : n ≡ needed) where
  pub exact-other : (room ≡ n → ⊥) → if_exact room needed ≡ Err (Small n)
  unfolding if_exact
  exact-other h = rw (← e, ne_eqb room n h)

  pub exact_same : room ≡ n → if_exact room needed ≡ Ok n
  unfolding if_exact
  exact_same h = rw (← e, eq-eqb room n h)

-- what an answer leaves there
pub left_out : (s out : List ℕ) (a b : Result ℕ Refusal) → a ≡ b → unless_refused a (converted s) out ≡ unless_refused b (converted s) out
left_out s out a b e = ap (λ (r : Result ℕ Refusal). unless_refused r (converted s) out) e

-- a buffer of that length is formatted
pub formatted : (g h : Shape) (out t : List ℕ) → Limits g → h ≡ second_of g → length out ≡ image_bytes (second_of g)
    → t ≡ format_image (second_of g) out → t ≡ fresh h
formatted g h out t l q n e =
    let k = second_of g in
    e ∙ sym (done k out (good k out (limits-hold k (second-limits g l)) n)).1 ∙ ap fresh (sym q)

-- ---- the image: 01's own verdict on it

module _ (s : List ℕ) where
  pub answer-refused : (room : ℕ) (r : Refusal) → first_verdict s ≡ Err r → convert_answer s room ≡ Err r
  unfolding convert_answer
  answer-refused room r e = rw e

  pub answer-sound : (room : ℕ) → first_verdict s ≡ Ok tt → convert_answer s room ≡ if_exact room (new_bytes s)
  unfolding convert_answer
  answer-sound room e = rw e
