-- Lists joined one after the other: their members, their length, and when no number stands in them twice.
use Prim.Native.Nat.{ℕ, zero, suc, ◌+◌, ◌*◌, ◌≤◌, ◌<◌}
use native.Mathlib.Omega.{arith}
use mathlib.Core.Path.{◌≡◌, refl, sym, ap, ap₂, ◌∙◌}
use mathlib.Core.Bool.{Bool, true, false, cond, ◌||◌}
use mathlib.Core.List.{List, [], ◌∷◌, ◌++◌, append_assoc, append-nil}
use lib.ListN.{length, length-append}
use Rattle.search.specs.Search.{from, below, any, keep, member, distinct, disjoint, joined}
use Rattle.search.proofs.Bools.{contradict, is_false}
use Rattle.search.proofs.Members.{member-nil, member-head, member-tail, member-append, any_at}
use Rattle.search.proofs.Ranges.{member-from, from_last}
use Rattle.search.proofs.Distinct.{distinct_nil, distinct_append, disjoint-at, disjoint-intro}

pub member-joined : (f : ℕ → List ℕ) (u : ℕ) (xs : List ℕ) → member u (joined f xs) ≡ any (λ x. member u (f x)) xs
unfolding joined any
member-joined f u [] = member-nil u
member-joined f u (x ∷ xs) = member-append u (f x) (joined f xs) ∙ ap (λ (b : Bool). member u (f x) || b) (member-joined f u xs)

joined-append : (f : ℕ → List ℕ) (xs ys : List ℕ) → joined f (xs ++ ys) ≡ joined f xs ++ joined f ys
unfolding joined
joined-append f [] ys = refl
joined-append f (x ∷ xs) ys = ap (λ (us : List ℕ). f x ++ us) (joined-append f xs ys) ∙ sym (append_assoc (f x) (joined f xs) (joined f ys))

-- the lists on the numbers below n, and then on n
pub joined-last : (f : ℕ → List ℕ) (n : ℕ) → joined f (below (suc n)) ≡ joined f (below n) ++ f n
unfolding joined
joined-last f n =
    let e : 0 + n ≡ n = omega arith in
    ap (joined f) (from_last 0 n) ∙ joined-append f (below n) ((0 + n) ∷ []) ∙ rw (e, append-nil (f n))

-- lists that agree on the numbers below n
pub joined-ext : (f g : ℕ → List ℕ) (n : ℕ) → ((i : ℕ) → i < n → f i ≡ g i) → joined f (below n) ≡ joined g (below n)
unfolding joined from
joined-ext f g zero h = refl
joined-ext f g (suc n) h =
    joined-last f n ∙ ap₂ (λ (a b : List ℕ). a ++ b) (joined-ext f g n (λ i l. h i (omega arith))) (h n (omega arith)) ∙ sym (joined-last g n)

-- joined lists of at most p numbers each
pub length-joined : (f : ℕ → List ℕ) (p : ℕ) (xs : List ℕ) → ((x : ℕ) → length (f x) ≤ p) → length (joined f xs) ≤ length xs * p
unfolding joined
length-joined f p [] h = omega arith
length-joined f p (x ∷ xs) h =
    let i = length-joined f p xs h in
    let e = length-append (f x) (joined f xs) in
    let q = h x in
    omega arith

-- and of at least p
pub length-joined-low : (f : ℕ → List ℕ) (p : ℕ) (xs : List ℕ) → ((x : ℕ) → member x xs ≡ true → p ≤ length (f x)) → length xs * p ≤ length (joined f xs)
unfolding joined
length-joined-low f p [] h = omega arith
length-joined-low f p (x ∷ xs) h =
    let i = length-joined-low f p xs (λ y m. h y (member-tail y x xs m)) in
    let e = length-append (f x) (joined f xs) in
    let q = h x (member-head x x xs refl) in
    omega arith

-- a test that keeps every number with a list keeps all of the joined lists
pub joined-kept : (f : ℕ → List ℕ) (q : ℕ → Bool) (xs : List ℕ) → ((x : ℕ) → q x ≡ false → f x ≡ []) → joined f (keep q xs) ≡ joined f xs
unfolding joined keep
joined-kept f q [] h = refl
joined-kept f q (x ∷ xs) h = pick (q x) refl (joined-kept f q xs h)
  where
    pick : (b : Bool) → q x ≡ b → joined f (keep q xs) ≡ joined f xs → joined f (cond b (x ∷ keep q xs) (keep q xs)) ≡ f x ++ joined f xs
    pick true e i = ap (λ (us : List ℕ). f x ++ us) i
    pick false e i = rw (h x e) i

pub distinct-joined : (f : ℕ → List ℕ) (i n : ℕ) → ((j : ℕ) → j < i + n → distinct (f j) ≡ true)
    → ((j k : ℕ) → j < k → k < i + n → disjoint (f j) (f k) ≡ true)
    → distinct (joined f (from i n)) ≡ true
unfolding joined from
distinct-joined f i zero d a = distinct_nil
distinct-joined f i (suc n) d a =
    distinct_append (f i) (joined f (from (suc i) n)) (d i (omega arith))
    (distinct-joined f (suc i) n (λ j h. d j (omega arith)) (λ j k h l. a j k h (omega arith)))
    (disjoint-intro (f i) (joined f (from (suc i) n)) (λ u m. is_false _ (λ e.
    let r = any_at (λ j. member u (f j)) (from (suc i) n) (sym (member-joined f u (from (suc i) n)) ∙ e) in
    let b = member-from r.0 (suc i) n r.1 in
    contradict r.2 (disjoint-at (f i) (f r.0) (a i r.0 (omega (arith, b.0)) (omega (arith, b.1))) u m))))
