-- What is read is written back: bytes that say a step are that step's bytes, and it fits its fields.
use Rattle.std.specs.Prelude.{Option, Some, None}
use Prim.Native.Nat.{ℕ, zero, suc, ◌+◌, ◌*◌, ◌^◌, ◌<◌, ◌≤◌}
use native.Mathlib.Nat.{pow-suc}
use native.Mathlib.Omega.{arith}
use mathlib.Core.Path.{◌≡◌, refl, ap, sym, subst, ◌∙◌}
use mathlib.Core.Bool.{Bool, true, false, cond}
use mathlib.Core.List.{List, ◌++◌, append_assoc}
use lib.ListN.{length, drop, drop_of_length-le}
use lib.Dec.{eqb}
use borrow.Author.Tests.{eqb-true, eqb-false}
use Rattle.words.specs.Words.{Bytes, number, digits, u32_at}
use Rattle.words.proofs.Numbers.{drop-number}
use Rattle.steps.specs.declared.Step.{Step}
use Rattle.steps.specs.declared.Step.TheVariants.{Data, Map, Link, Fence}
use Rattle.steps.specs.Steps.{absent_field, value_of, field_of, step_bytes, field_bytes, encode, decode_fields, decode_at, encode_all, whole_steps, steps_append}
use Rattle.steps.proofs.Rest.{rest, rest-next, rest_end}
use Rattle.steps.specs.Encodable.{Each, field_limit, ValueFits, Fits, WellFormed}

-- a number of bytes is below its width's limit
number-below : (w : ℕ) (s : List ℕ) (i : ℕ) → Bytes s → i + w ≤ length s → number w s i < 256 ^ w
unfolding number
number-below zero s i b h = omega arith
number-below (suc w) s i b h = rw (pow-suc 256 w) (omega (arith, b i (omega arith), number-below w s (i + 1) b (omega arith)))

field-value : (w : ℕ) → field_of (value_of w) ≡ w
field-value w = go (eqb w absent_field) refl
  where
    go : (t : Bool) → eqb w absent_field ≡ t → field_of (cond t None (Some w)) ≡ w
    go true e = sym (eqb-true w absent_field e)
    go false e = refl

value-fits : (w : ℕ) → w < field_limit → ValueFits (value_of w)
value-fits w h = go (eqb w absent_field) refl
  where
    go : (t : Bool) → eqb w absent_field ≡ t → ValueFits (cond t None (Some w))
    go true e = tt
    go false e = let n = eqb-false w absent_field e in omega arith

-- ---- four fields

-- a step has these four fields
record Has (k a b d : ℕ) (x : Step) : Type 0 where
  bytes : encode x ≡ field_bytes k a b d
  fits : a < field_limit → b < field_limit → d < field_limit → Fits x

-- so has the step that they say, if any
unfoldable Says : ℕ → ℕ → ℕ → ℕ → Option Step → Type 0
Says k a b d (Some x) = Has k a b d x
Says k a b d None = Unit {0}

module _ (k a b d : ℕ) where
  says-cond : (t : Bool) (x y : Option Step) → (t ≡ true → Says k a b d x) → (t ≡ false → Says k a b d y) → Says k a b d (cond t x y)
  says-cond true x y f g = f refl
  says-cond false x y f g = g refl

  says_none : Says k a b d None
  unfolding Says
  says_none = tt

  says-data : k ≡ 1 → Says k a b d (Some (Data a b d))
  unfolding Says encode
  says-data e = record { bytes = ap (λ (n : ℕ). field_bytes n a b d) (sym e); fits = λ ha hb hd. (ha, hb, hd) }

  says_map : k ≡ 2 → Says k a b d (Some (Map a b (value_of d)))
  unfolding Says encode
  says_map e = record {
    bytes = λ t. field_bytes (sym e t) a b (field-value d t);
    fits = λ ha hb hd. (ha, hb, value-fits d hd);
  }

  says-link : k ≡ 3 → b ≡ 0 → Says k a b d (Some (Link a (value_of d)))
  unfolding Says encode
  says-link e eb = record { bytes = λ t. field_bytes (sym e t) a (sym eb t) (field-value d t); fits = λ ha hb hd. (ha, value-fits d hd) }

  says-fence : k ≡ 4 → a ≡ 0 → b ≡ 0 → d ≡ 0 → Says k a b d (Some Fence)
  unfolding Says encode
  says-fence e ea eb ed = record { bytes = λ t. field_bytes (sym e t) (sym ea t) (sym eb t) (sym ed t); fits = λ ha hb hd. tt }

  says-fields : Says k a b d (decode_fields k a b d)
  unfolding decode_fields
  says-fields =
      says-cond (eqb k 1) _ _ (λ e. says-data (eqb-true k 1 e)) (λ _.
      says-cond (eqb k 2) _ _ (λ e. says_map (eqb-true k 2 e)) (λ _.
      says-cond (eqb k 3) _ _ (λ e. says-cond (eqb b 0) _ _ (λ eb. says-link (eqb-true k 3 e) (eqb-true b 0 eb)) (λ _. says_none)) (λ _.
      says-cond (eqb k 4) _ _ (λ e.
      says-cond (eqb a 0) _ _ (λ ea.
      says-cond (eqb b 0) _ _ (λ eb.
      says-cond (eqb d 0) _ _ (λ ed. says-fence (eqb-true k 4 e) (eqb-true a 0 ea) (eqb-true b 0 eb) (eqb-true d 0 ed)) (λ _. says_none))
      (λ _. says_none)) (λ _. says_none)) (λ _. says_none))))

  has : (x : Step) → decode_fields k a b d ≡ Some x → Has k a b d x
  unfolding Says
  has x e = subst (Says k a b d) e says-fields

-- ---- a step of a plan

regroup : (xs ys zs us vs : List ℕ) → xs ++ (ys ++ (zs ++ (us ++ vs))) ≡ (xs ++ ys ++ zs ++ us) ++ vs
regroup xs ys zs us vs = simp append_assoc

-- bytes from some byte on: a field, and what follows it
drop-field : (s : List ℕ) (p q : ℕ) → Bytes s → p + 4 ≡ q → q ≤ length s → drop p s ≡ digits 4 (u32_at s p) ++ drop q s
drop-field s p q b e h = drop-number 4 s p b (omega arith) ∙ ap (λ (k : ℕ). digits 4 (u32_at s p) ++ drop k s) e

-- four of them
drop-fields : (s : List ℕ) (at : ℕ) → Bytes s → at + step_bytes ≤ length s
    → drop at s ≡ field_bytes (u32_at s at) (u32_at s (at + 4)) (u32_at s (at + 8)) (u32_at s (at + 12)) ++ drop (at + step_bytes) s
drop-fields s at b h =
    let field : ℕ → List ℕ → List ℕ = λ p l. digits 4 (u32_at s p) ++ l in
    drop-field s at (at + 4) b (omega arith) (omega arith)
    ∙ ap (field at) (drop-field s (at + 4) (at + 8) b (omega arith) (omega arith)
    ∙ ap (field (at + 4)) (drop-field s (at + 8) (at + 12) b (omega arith) (omega arith)
    ∙ ap (field (at + 8)) (drop-field s (at + 12) (at + 16) b (omega arith) (omega arith))))
    ∙ regroup (digits 4 (u32_at s at)) (digits 4 (u32_at s (at + 4))) (digits 4 (u32_at s (at + 8))) (digits 4 (u32_at s (at + 12))) (drop (at + 16) s)

module _ (plan : List ℕ) (b : Bytes plan) (i : ℕ) (h : i < whole_steps plan) (x : Step) (e : decode_at plan i ≡ Some x) where
  fields-have : Has (u32_at plan (step_bytes * i)) (u32_at plan (step_bytes * i + 4)) (u32_at plan (step_bytes * i + 8)) (u32_at plan (step_bytes * i + 12)) x
  unfolding decode_at
  fields-have = has _ _ _ _ x e

  -- a step that is read fits its fields
  pub decoded-fits : Fits x
  decoded-fits =
      let at = step_bytes * i in
      fields-have.fits (number-below 4 plan (at + 4) b (omega arith)) (number-below 4 plan (at + 8) b (omega arith))
      (number-below 4 plan (at + 12) b (omega arith))

  -- the plan from there on: the step's bytes, and the later steps
  pub decoded-bytes : drop (step_bytes * i) plan ≡ encode x ++ drop (step_bytes * (i + 1)) plan
  decoded-bytes =
      let past : step_bytes * i + step_bytes ≡ step_bytes * (i + 1) = omega arith in
      drop-fields plan (step_bytes * i) b (omega arith)
      ∙ (λ t. sym fields-have.bytes t ++ drop (past t) plan)

-- ---- a plan

module _ (plan : List ℕ) (w : WellFormed plan) where
  -- a step and what is left of the plan from it on
  one : (i : ℕ) → i < whole_steps plan → (d : Option Step) → decode_at plan i ≡ d
      → Each Fits (rest plan (i + 1)) × (encode_all (rest plan (i + 1)) ≡ drop (step_bytes * (i + 1)) plan)
      → Each Fits (steps_append d (rest plan (i + 1))) × (encode_all (steps_append d (rest plan (i + 1))) ≡ drop (step_bytes * i) plan)
  unfolding encode_all
  one i h (Some x) e r = (
    (decoded-fits plan w.bytes i h x e, r.0),
    ap (λ (l : List ℕ). encode x ++ l) r.1 ∙ sym (decoded-bytes plan w.bytes i h x e),
  )
  one i h None e r = absurd (w.formed i h e)

  -- the last n steps
  pub encode-rest : (i n : ℕ) → i + n ≡ whole_steps plan → Each Fits (rest plan i) × (encode_all (rest plan i) ≡ drop (step_bytes * i) plan)
  unfolding encode_all
  encode-rest i zero e =
      rw (rest_end plan i (omega arith)) (tt, sym (drop_of_length-le plan {i = step_bytes * i} (omega (arith, w.whole))))
  encode-rest i (suc n) e =
      rw (rest-next plan i (omega arith)) (one i (omega arith) (decode_at plan i) refl (encode-rest (i + 1) n (omega arith)))
