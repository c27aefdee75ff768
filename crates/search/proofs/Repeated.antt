-- Numbers that stand in a list more than once.
use Prim.Native.Nat.{ℕ, zero, suc, ◌<◌}
use native.Mathlib.Omega.{arith}
use mathlib.Core.Path.{◌≡◌, refl, sym, ap, ap₂, ◌∙◌}
use mathlib.Core.Logic.{◌⊎◌, inl, inr, ⊎_elim}
use mathlib.Core.Bool.{Bool, true, false, not, ◌&&◌, ◌||◌, or-false, true≢false, false≢true}
use mathlib.Core.List.{List, [], ◌∷◌, ◌++◌}
use lib.ListN.{length, get_or}
use lib.Dec.{eqb}
use borrow.Author.Tests.{eqb-true, eq-eqb}
use Rattle.search.specs.Search.{from, below, any, member, distinct, repeated, joined}
use Rattle.search.proofs.Bools.{either, is_false, and_left, and_right, and_intro, or_cases, or_left, or_right, less-or-not}
use Rattle.search.proofs.Members.{member-append, member-place, member-get_or}
use Rattle.search.proofs.Ranges.{any_below, any-below-intro}
use Rattle.search.proofs.Distinct.{distinct-place}
use Rattle.search.proofs.Joined.{member-joined, joined-last}

-- ---- two lists, one after the other

append-cell : (q m n r t : Bool) → ((q && (m || n)) || ((r || t) || (m && n))) ≡ ((((q && m) || r) || t) || ((q || m) && n))
append-cell true true n r t = refl
append-cell true false true true t = refl
append-cell true false true false true = refl
append-cell true false true false false = refl
append-cell true false false r t = refl
append-cell false m n r t = refl

repeated-append : (x : ℕ) (xs ys : List ℕ) → repeated x (xs ++ ys) ≡ ((repeated x xs || repeated x ys) || (member x xs && member x ys))
unfolding repeated member any
repeated-append x [] ys = sym (or-false (repeated x ys))
repeated-append x (y ∷ xs) ys =
    ap₂ (λ (m r : Bool). (eqb x y && m) || r) (member-append x xs ys) (repeated-append x xs ys)
    ∙ append-cell (eqb x y) (member x xs) (member x ys) (repeated x xs) (repeated x ys)

-- and a list with one number more
last-cell : (q m r : Bool) → ((r || ((q && false) || false)) || (m && (q || false))) ≡ (r || (q && m))
last-cell true true true = refl
last-cell true true false = refl
last-cell true false true = refl
last-cell true false false = refl
last-cell false true true = refl
last-cell false true false = refl
last-cell false false true = refl
last-cell false false false = refl

pub repeated-last : (x y : ℕ) (xs : List ℕ) → repeated x (xs ++ (y ∷ [])) ≡ (repeated x xs || (eqb x y && member x xs))
unfolding repeated member any
repeated-last x y xs = repeated-append x xs (y ∷ []) ∙ last-cell (eqb x y) (member x xs) (repeated x xs)

-- ---- against `distinct`

-- a number that stands there twice, and its places
pub repeated-some : (xs : List ℕ) → distinct xs ≡ false → (x : ℕ) × (repeated x xs ≡ true)
unfolding distinct repeated
repeated-some [] e = absurd (true≢false e)
repeated-some (y ∷ ys) e = ⊎_elim (λ m. (y, or_left _ (repeated y ys) (and_intro (eqb y y) (member y ys) (eq-eqb y y refl) m)))
    (λ m. let r = repeated-some ys (sym (ap (λ (b : Bool). not b && distinct ys) m) ∙ e) in (r.0, or_right (eqb r.0 y && member r.0 ys) _ r.1))
    (either (member y ys))

pub repeated-places : (x : ℕ) (xs : List ℕ) → repeated x xs ≡ true
    → (i : ℕ) × (j : ℕ) × (i < j) × (j < length xs) × (get_or xs i 0 ≡ x) × (get_or xs j 0 ≡ x)
unfolding repeated
repeated-places x [] e = absurd (false≢true e)
repeated-places x (y ∷ ys) e = ⊎_elim
    (λ p. let r = member-place x ys (and_right (eqb x y) (member x ys) p) in
    (0, suc r.0, omega arith, omega (arith, r.1), sym (eqb-true x y (and_left (eqb x y) (member x ys) p)), r.2))
    (λ p. let r = repeated-places x ys p in (suc r.0, suc r.1, omega (arith, r.2), omega (arith, r.3), r.4, r.5))
    (or_cases (eqb x y && member x ys) (repeated x ys) e)

pub repeated-twice : (x : ℕ) (xs : List ℕ) → repeated x xs ≡ true → distinct xs ≡ false
repeated-twice x xs e = is_false (distinct xs) (λ d.
    let r = repeated-places x xs e in
    let q = distinct-place xs d r.0 r.1 (omega (arith, r.2, r.3)) r.3 (r.4 ∙ sym r.5) in
    omega (arith, r.2))

pub repeated-member : (x : ℕ) (xs : List ℕ) → repeated x xs ≡ true → member x xs ≡ true
repeated-member x xs e = let r = repeated-places x xs e in ap (λ (y : ℕ). member y xs) (sym r.5) ∙ member-get_or xs r.1 r.3

-- ---- in lists joined one after the other: twice in one of them, or in two of them

module _ (f : ℕ → List ℕ) (x : ℕ) where
  last : (n : ℕ) → repeated x (joined f (below (suc n)))
      ≡ ((repeated x (joined f (below n)) || repeated x (f n)) || (any (λ i. member x (f i)) (below n) && member x (f n)))
  last n =
      ap (repeated x) (joined-last f n) ∙ repeated-append x (joined f (below n)) (f n)
      ∙ ap (λ (b : Bool). (repeated x (joined f (below n)) || repeated x (f n)) || (b && member x (f n))) (member-joined f x (below n))

  pub repeated-in-one : (n i : ℕ) → i < n → repeated x (f i) ≡ true → repeated x (joined f (below n)) ≡ true
  repeated-in-one zero i h e = absurd (omega arith)
  repeated-in-one (suc n) i h e = last n ∙ or_left (repeated x (joined f (below n)) || repeated x (f n)) _ (⊎_elim
      (λ l. or_left (repeated x (joined f (below n))) (repeated x (f n)) (repeated-in-one n i l e))
      (λ l. let q : n ≡ i = omega arith in or_right (repeated x (joined f (below n))) (repeated x (f n)) (ap (λ (k : ℕ). repeated x (f k)) q ∙ e))
      (less-or-not i n))

  pub repeated-in-two : (n i j : ℕ) → i < j → j < n → member x (f i) ≡ true → member x (f j) ≡ true → repeated x (joined f (below n)) ≡ true
  repeated-in-two zero i j h l a b = absurd (omega arith)
  repeated-in-two (suc n) i j h l a b =
      let here = repeated x (joined f (below n)) || repeated x (f n) in
      let both = any (λ i. member x (f i)) (below n) && member x (f n) in
      last n ∙ ⊎_elim
      (λ k. or_left here both (or_left (repeated x (joined f (below n))) (repeated x (f n)) (repeated-in-two n i j h k a b)))
      (λ k. let q : n ≡ j = omega arith in
      or_right here both (and_intro _ (member x (f n)) (any-below-intro (λ i. member x (f i)) n i (omega arith) a) (ap (λ (k : ℕ). member x (f k)) q ∙ b)))
      (less-or-not j n)

  -- and in no other way
  pub repeated-somewhere : (n : ℕ) → repeated x (joined f (below n)) ≡ true
      → ((i : ℕ) × (i < n) × (repeated x (f i) ≡ true))
      ⊎ ((i : ℕ) × (j : ℕ) × (i < j) × (j < n) × (member x (f i) ≡ true) × (member x (f j) ≡ true))
  unfolding repeated joined from
  repeated-somewhere zero e = absurd (false≢true e)
  repeated-somewhere (suc n) e = ⊎_elim
      (λ p. ⊎_elim (λ q. earlier (repeated-somewhere n q)) (λ q. inl (n, omega arith, q)) (or_cases (repeated x (joined f (below n))) (repeated x (f n)) p))
      (λ p. let r = any_below (λ i. member x (f i)) n (and_left (any (λ i. member x (f i)) (below n)) (member x (f n)) p) in
      inr (r.0, n, r.1, omega arith, r.2, and_right (any (λ i. member x (f i)) (below n)) (member x (f n)) p))
      (or_cases (repeated x (joined f (below n)) || repeated x (f n)) (any (λ i. member x (f i)) (below n) && member x (f n)) (sym (last n) ∙ e))
    where
      earlier : ((i : ℕ) × (i < n) × (repeated x (f i) ≡ true))
          ⊎ ((i : ℕ) × (j : ℕ) × (i < j) × (j < n) × (member x (f i) ≡ true) × (member x (f j) ≡ true))
          → ((i : ℕ) × (i < suc n) × (repeated x (f i) ≡ true))
          ⊎ ((i : ℕ) × (j : ℕ) × (i < j) × (j < suc n) × (member x (f i) ≡ true) × (member x (f j) ≡ true))
      earlier (inl r) = inl (r.0, omega (arith, r.1), r.2)
      earlier (inr r) = inr (r.0, r.1, r.2, omega (arith, r.3), r.4, r.5)
