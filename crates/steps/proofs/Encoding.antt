-- Steps stored in a plan's bytes, one after the other.
use Prim.Native.Nat.{ℕ, ◌+◌, ◌*◌, ◌≤◌}
use native.Mathlib.Nat.{mul-add}
use mathlib.Core.Path.{◌≡◌, refl, sym}
use mathlib.Core.List.{List, [], ◌∷◌, ◌++◌, append-nil, append_assoc}
use lib.ListN.{length, drop, length-append}
use lib.Seq.{sets, length-sets}
use Rattle.words.specs.Words.{store_at}
use Rattle.words.proofs.Laws.{sets-append, length_digits, sets-front}
use Rattle.steps.specs.declared.Step.{Step}
use Rattle.steps.specs.Steps.{field_bytes, encode, encode_all, put_steps}
use Rattle.steps.proofs.Codec.{length-encoded}

module _ (l : List ℕ) (at k a b d : ℕ) where
  pub fields-stored :
      store_at 4 (store_at 4 (store_at 4 (store_at 4 l at k) (at + 4) a) (at + 8) b) (at + 12) d
      ≡ sets l at (field_bytes k a b d)
  fields-stored = simp (sets-append, length-append, length_digits)

pub encode_all-append : (xs ys : List Step) → encode_all (xs ++ ys) ≡ encode_all xs ++ encode_all ys
unfolding encode_all
encode_all-append [] ys = refl
encode_all-append (x ∷ xs) ys = rw (append_assoc, encode_all-append xs ys)

module _ (out : List ℕ) (i : ℕ) where
  pub length-put_steps : (xs : List Step) → length (put_steps out i xs) ≡ length out
  unfolding put_steps
  length-put_steps xs = length-sets out (16 * i) (encode_all xs)

  pub put_steps-none : put_steps out i [] ≡ out
  unfolding put_steps encode_all
  put_steps-none = refl

  pub put_steps-one : (x : Step) → put_steps out i (x ∷ []) ≡ sets out (16 * i) (encode x)
  unfolding put_steps encode_all
  put_steps-one x = rw append-nil

  pub put_steps-append : (xs ys : List Step) → put_steps out i (xs ++ ys) ≡ put_steps (put_steps out i xs) (i + length xs) ys
  unfolding put_steps
  put_steps-append xs ys =
      rw (encode_all-append xs ys, sets-append (encode_all xs) (encode_all ys) out (16 * i), length-encoded xs, mul-add 16 i (length xs))

  pub put_steps-cons : (x : Step) (xs : List Step) → put_steps (put_steps out i (x ∷ [])) (i + 1) xs ≡ put_steps out i (x ∷ xs)
  put_steps-cons x xs = sym (put_steps-append (x ∷ []) xs)

-- from the first step on: the steps, and then the rest of the bytes
pub put_steps-front : (out : List ℕ) (xs : List Step) → 16 * length xs ≤ length out → put_steps out 0 xs ≡ encode_all xs ++ drop (16 * length xs) out
unfolding put_steps
put_steps-front out xs h =
    let e = length-encoded xs in
    rw e at (sets-front out (encode_all xs) (rw e h))
