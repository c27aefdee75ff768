-- What is written is read back: a step's bytes, and a plan's.
use Rattle.std.specs.Prelude.{Option, Some, None}
use Prim.Native.Nat.{ℕ, zero, suc, ◌+◌, ◌*◌, ◌/◌, ◌<◌}
use native.Mathlib.Omega.{arith}
use mathlib.Core.Path.{◌≡◌, refl, ap, ap₂, ◌∙◌}
use mathlib.Core.List.{List, [], ◌∷◌, ◌++◌, map, append_assoc}
use lib.ListN.{length, length-append}
use lib.Dec.{eqb}
use borrow.Author.Tests.{ne_eqb}
use Rattle.search.specs.Search.{from, below}
use Rattle.search.proofs.Bools.{cond-false}
use Rattle.words.specs.Words.{Bytes, digits, u32_at}
use Rattle.words.proofs.Laws.{number-skip, length_digits}
use Rattle.words.proofs.Numbers.{number-here, number-next}
use Rattle.steps.specs.declared.Step.{Step}
use Rattle.steps.specs.declared.Step.TheVariants.{Data, Map, Link, Fence}
use Rattle.steps.specs.Steps.{absent_field, value_of, field_of, step_bytes, field_bytes, encode, decode_fields, decode_at, encode_all, whole_steps, gather, steps_of}
use Rattle.steps.specs.Encodable.{Each, field_limit, ValueFits, Fits}

pub each_map : (P Q : Step → Type 0) (xs : List Step) → ((x : Step) → P x → Q x) → Each P xs → Each Q xs
each_map P Q [] f a = tt
each_map P Q (x ∷ xs) f a = (f x a.0, each_map P Q xs f a.1)

-- ---- one step

value-field : (v : Option ℕ) → ValueFits v → value_of (field_of v) ≡ v
value-field (Some w) h = cond-false (eqb w absent_field) None (Some w) (ne_eqb w absent_field (λ e. omega arith))
value-field None h = refl

field_fits : (v : Option ℕ) → ValueFits v → field_of v < field_limit
field_fits (Some w) h = omega arith
field_fits None h = omega arith

pub length_fields : (k a b d : ℕ) → length (field_bytes k a b d) ≡ step_bytes
length_fields k a b d = simp (length-append, length_digits)

-- steps behind some whole steps
pub decode-skip : (xs ys : List ℕ) (n i j : ℕ) → length xs ≡ step_bytes * n → j ≡ n + i → decode_at (xs ++ ys) j ≡ decode_at ys i
unfolding decode_at
decode-skip xs ys n i j l e =
    let skip : (k : ℕ) → u32_at (xs ++ ys) (step_bytes * j + k) ≡ u32_at ys (step_bytes * i + k) = λ k.
    let place : step_bytes * j + k ≡ step_bytes * n + (step_bytes * i + k) = omega arith in
    ap (u32_at (xs ++ ys)) place ∙ number-skip 4 xs ys (step_bytes * n) (step_bytes * i + k) l in
    let place : step_bytes * j ≡ step_bytes * n + step_bytes * i = omega arith in
    let first : u32_at (xs ++ ys) (step_bytes * j) ≡ u32_at ys (step_bytes * i) =
    ap (u32_at (xs ++ ys)) place ∙ number-skip 4 xs ys (step_bytes * n) (step_bytes * i) l in
    (λ t. decode_fields (first t) (skip 4 t) (skip 8 t) (skip 12 t))

-- four fields, and what follows
decode-fields : (k a b d : ℕ) (ys : List ℕ) → k < field_limit → a < field_limit → b < field_limit → d < field_limit
    → decode_at (field_bytes k a b d ++ ys) 0 ≡ decode_fields k a b d
unfolding decode_at
decode-fields k a b d ys hk ha hb hd =
    let s : List ℕ = digits 4 k ++ (digits 4 a ++ (digits 4 b ++ (digits 4 d ++ ys))) in
    let regroup : field_bytes k a b d ++ ys ≡ s = simp append_assoc in
    let ek : u32_at s 0 ≡ k = number-here 4 k _ hk in
    let ea : u32_at s 4 ≡ a = number-next 4 4 k _ 0 ∙ number-here 4 a _ ha in
    let eb : u32_at s 8 ≡ b = number-next 4 4 k _ 4 ∙ number-next 4 4 a _ 0 ∙ number-here 4 b _ hb in
    let ed : u32_at s 12 ≡ d = number-next 4 4 k _ 8 ∙ number-next 4 4 a _ 4 ∙ number-next 4 4 b _ 0 ∙ number-here 4 d _ hd in
    let read : decode_at s 0 ≡ decode_fields k a b d = λ t. decode_fields (ek t) (ea t) (eb t) (ed t) in
    ap (λ (l : List ℕ). decode_at l 0) regroup ∙ read

pub length-encode : (x : Step) → length (encode x) ≡ step_bytes
unfolding encode
length-encode (Data u j wr) = length_fields 1 u j wr
length-encode (Map k j v) = length_fields 2 k j (field_of v)
length-encode (Link i v) = length_fields 3 i 0 (field_of v)
length-encode Fence = length_fields 4 0 0 0

-- the first step of a plan
pub decode-here : (x : Step) (ys : List ℕ) → Fits x → decode_at (encode x ++ ys) 0 ≡ Some x
unfolding encode decode_fields
decode-here (Data u j wr) ys f = decode-fields 1 u j wr ys (omega arith) f.0 f.1 f.2
decode-here (Map k j v) ys f =
    decode-fields 2 k j (field_of v) ys (omega arith) f.0 f.1 (field_fits v f.2) ∙ ap (λ (w : Option ℕ). Some (Map k j w)) (value-field v f.2)
decode-here (Link i v) ys f =
    decode-fields 3 i 0 (field_of v) ys (omega arith) f.0 (omega arith) (field_fits v f.1) ∙ ap (λ (w : Option ℕ). Some (Link i w)) (value-field v f.1)
decode-here Fence ys f = decode-fields 4 0 0 0 ys (omega arith) (omega arith) (omega arith) (omega arith)

-- the later ones
decode-later : (x : Step) (ys : List ℕ) (i : ℕ) → decode_at (encode x ++ ys) (suc i) ≡ decode_at ys i
decode-later x ys i = decode-skip (encode x) ys 1 i (suc i) (length-encode x) (omega arith)

-- its bytes are bytes

bytes-append : (xs ys : List ℕ) → Bytes xs → Bytes ys → Bytes (xs ++ ys)
bytes-append [] ys a b k h = b k h
bytes-append (x ∷ xs) ys a b zero h = a 0 (omega arith)
bytes-append (x ∷ xs) ys a b (suc k) h = bytes-append xs ys (λ j l. a (suc j) (omega arith)) b k (omega arith)

bytes-digits : (w v : ℕ) → Bytes (digits w v)
unfolding digits
bytes-digits zero v k h = absurd (omega arith)
bytes-digits (suc w) v zero h = omega arith
bytes-digits (suc w) v (suc k) h = bytes-digits w (v / 256) k (omega arith)

bytes-fields : (k a b d : ℕ) → Bytes (field_bytes k a b d)
bytes-fields k a b d =
    bytes-append (digits 4 k ++ digits 4 a ++ digits 4 b) (digits 4 d)
    (bytes-append (digits 4 k ++ digits 4 a) (digits 4 b) (bytes-append (digits 4 k) (digits 4 a) (bytes-digits 4 k) (bytes-digits 4 a)) (bytes-digits 4 b))
    (bytes-digits 4 d)

bytes-encode : (x : Step) → Bytes (encode x)
unfolding encode
bytes-encode (Data u j wr) = bytes-fields 1 u j wr
bytes-encode (Map k j v) = bytes-fields 2 k j (field_of v)
bytes-encode (Link i v) = bytes-fields 3 i 0 (field_of v)
bytes-encode Fence = bytes-fields 4 0 0 0

-- ---- a plan

pub bytes-encoded : (xs : List Step) → Bytes (encode_all xs)
unfolding encode_all
bytes-encoded [] = λ k h. absurd (omega arith)
bytes-encoded (x ∷ xs) = bytes-append (encode x) (encode_all xs) (bytes-encode x) (bytes-encoded xs)

pub length-encoded : (xs : List Step) → length (encode_all xs) ≡ step_bytes * length xs
unfolding encode_all
length-encoded [] = refl
length-encoded (x ∷ xs) = omega (arith, length-append (encode x) (encode_all xs), length-encode x, length-encoded xs)

pub whole-encoded : (xs : List Step) → whole_steps (encode_all xs) ≡ length xs
whole-encoded xs = let a = length-encoded xs in omega arith

-- no step of it is malformed
pub formed-encoded : (xs : List Step) (i : ℕ) → Each Fits xs → i < length xs → (x : Step) × (decode_at (encode_all xs) i ≡ Some x)
unfolding encode_all
formed-encoded [] i f h = absurd (omega arith)
formed-encoded (x ∷ xs) zero f h = (x, decode-here x (encode_all xs) f.0)
formed-encoded (x ∷ xs) (suc i) f h =
    let r = formed-encoded xs i f.1 (omega arith) in
    (r.0, decode-later x (encode_all xs) i ∙ r.1)

map-later : (x : Step) (ys : List ℕ) (i n : ℕ) → map (decode_at (encode x ++ ys)) (from (suc i) n) ≡ map (decode_at ys) (from i n)
unfolding from
map-later x ys i zero = refl
map-later x ys i (suc n) = ap₂ (λ (d : Option Step) (ds : List (Option Step)). d ∷ ds) (decode-later x ys i) (map-later x ys (suc i) n)

pub decoded : (xs : List Step) → Each Fits xs → map (decode_at (encode_all xs)) (below (length xs)) ≡ map Some xs
unfolding encode_all from
decoded [] h = refl
decoded (x ∷ xs) h =
    ap₂ (λ (d : Option Step) (ds : List (Option Step)). d ∷ ds) (decode-here x (encode_all xs) h.0)
    (map-later x (encode_all xs) 0 (length xs) ∙ decoded xs h.1)

gather-whole : (xs : List Step) → gather (map Some xs) ≡ xs
unfolding gather
gather-whole [] = refl
gather-whole (x ∷ xs) = ap (λ (l : List Step). x ∷ l) (gather-whole xs)

pub steps-encoded : (xs : List Step) → Each Fits xs → steps_of (encode_all xs) ≡ xs
unfolding steps_of
steps-encoded xs h =
    ap (λ (n : ℕ). gather (map (decode_at (encode_all xs)) (below n))) (whole-encoded xs) ∙ ap gather (decoded xs h) ∙ gather-whole xs
