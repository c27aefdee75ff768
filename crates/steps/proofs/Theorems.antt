-- The theorems of this crate that a reader wants: decode and encode are inverse, and a reader reads all of a plan. Nothing else cites them.
use Rattle.std.specs.Prelude.{Option, Some, None}
use Prim.Native.Nat.{ℕ, zero, suc, ◌+◌, ◌*◌, ◌<◌, ◌≤◌}
use native.Mathlib.Nat.{zero-add, suc-add}
use native.Mathlib.Numerals.{add-one}
use native.Mathlib.Omega.{arith}
use mathlib.Core.Path.{◌≡◌, refl, ap, sym, ◌∙◌}
use mathlib.Core.List.{List, [], ◌∷◌, ◌++◌, map, append-nil, append_assoc}
use lib.ListN.{length, take, drop, replicate, drop_of_length-le}
use lib.Seq.{sets-eq, length-take-le}
use borrow.Author.Tests.{lt-ltb, le-ltb}
use denote.Ref.{Bor}
use Rattle.words.specs.Words.{Bytes}
use Rattle.search.specs.Search.{from}
use Rattle.steps.specs.declared.Step.{Step}
use Rattle.steps.specs.Steps.{step_bytes, encode, decode_at, encode_all, put_steps, whole_steps, decoded_steps, steps_of}
use Rattle.steps.specs.Encodable.{Each, Fits, WellFormed}
use Rattle.steps.specs.Reading.{found_at, next_at, reader_at, started, readings}
use Rattle.steps.proofs.Codec.{decode-here, decode-skip, length-encode, bytes-encoded, length-encoded, whole-encoded, formed-encoded, steps-encoded}
use Rattle.steps.proofs.Encoding.{put_steps-one}
use Rattle.steps.proofs.Decoding.{decoded-fits, decoded-bytes, encode-rest}
use Rattle.steps.proofs.Rest.{rest-start}

-- ---- one step

-- The bytes of a step say that step.
pub decode-encode : (x : Step) → Fits x → decode_at (encode x) 0 ≡ Some x
decode-encode x f = ap (λ (l : List ℕ). decode_at l 0) (sym (append-nil (encode x))) ∙ decode-here x [] f

-- Any 16 bytes that say a step are the bytes of that step, and it fits.
pub encode-decode : (s : List ℕ) (x : Step) → Bytes s → length s ≡ step_bytes → decode_at s 0 ≡ Some x → Fits x × (encode x ≡ s)
encode-decode s x b l e =
    let end : [] ≡ drop (step_bytes * (0 + 1)) s = sym (drop_of_length-le s {i = step_bytes * (0 + 1)} (omega arith)) in (
      decoded-fits s b 0 (omega arith) x e,
      sym (append-nil (encode x)) ∙ ap (λ (r : List ℕ). encode x ++ r) end ∙ sym (decoded-bytes s b 0 (omega arith) x e),
    )

-- What `put_step` stores, `step_at` reads.
pub decode-put : (out : List ℕ) (i : ℕ) (x : Step) → i < whole_steps out → Fits x → decode_at (put_steps out i (x ∷ [])) i ≡ Some x
decode-put out i x h f =
    let l = length-encode x in
    let before : List ℕ = take (step_bytes * i) out in
    let after : List ℕ = drop (step_bytes * i + length (encode x)) out in
    ap (λ (s : List ℕ). decode_at s i)
    (put_steps-one out i x ∙ sets-eq (encode x) out (step_bytes * i) (omega arith) ∙ append_assoc before (encode x) after)
    ∙ decode-skip before (encode x ++ after) i 0 i (length-take-le (step_bytes * i) out (omega arith)) (omega arith)
    ∙ decode-here x after f

-- ---- a plan: steps that fit and well-formed plans are the same, one for one

pub decode-encode-plan : (xs : List Step) → Each Fits xs → WellFormed (encode_all xs) × (steps_of (encode_all xs) ≡ xs)
decode-encode-plan xs f = (
  record {
    bytes = bytes-encoded xs;
    whole = let l = length-encoded xs in omega arith;
    formed = λ i h e. let l = whole-encoded xs in let r = formed-encoded xs i f (omega arith) in none r.0 (sym r.1 ∙ e);
  },
  steps-encoded xs f,
)
  where
    none : (x : Step) → Some x ≡ None → ⊥
    none x e = let z : ◌≡◌ {A = ℕ} 0 1 = cc in omega arith

pub encode-decode-plan : (plan : List ℕ) → WellFormed plan → Each Fits (steps_of plan) × (encode_all (steps_of plan) ≡ plan)
encode-decode-plan plan w = rw (rest-start plan) (encode-rest plan w 0 (whole_steps plan) (omega arith))

-- ---- the reader

module _ (plan : Bor (List ℕ)) where
  ended : (i n : ℕ) → whole_steps plan.now ≤ i → readings (reader_at plan i) n ≡ replicate n None
  unfolding readings found_at next_at
  ended i zero h = refl
  ended i (suc n) h = rw (le-ltb i (whole_steps plan.now) h) (ap (λ (l : List (Option (Option Step))). None ∷ l) (ended i n h))

  read-on : (i k n : ℕ) → i + k ≡ whole_steps plan.now
      → readings (reader_at plan i) (k + n) ≡ map Some (map (decode_at plan.now) (from i k)) ++ replicate n None
  unfolding readings found_at next_at from
  read-on i zero n e = rw (zero-add n) (ended i n (omega arith))
  read-on i (suc k) n e =
      rw (suc-add k n, lt-ltb i (whole_steps plan.now) (omega arith), add-one i)
      (ap (λ (l : List (Option (Option Step))). Some (decode_at plan.now i) ∷ l) (read-on (suc i) k n (omega arith)))

  -- A reader's readings are what the whole steps say, one after the other, and then the end for ever.
  pub reads-plan : (n : ℕ) → readings (started plan) (whole_steps plan.now + n) ≡ map Some (decoded_steps plan.now) ++ replicate n None
  reads-plan n = read-on 0 (whole_steps plan.now) n (omega arith)
