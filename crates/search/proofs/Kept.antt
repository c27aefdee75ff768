-- The numbers of a list that a test keeps: which they are, and that they depend on the test's answers only.
use Prim.Native.Nat.{ℕ, zero, suc, ◌+◌, ◌≤◌, ◌<◌}
use native.Mathlib.Omega.{arith}
use native.Mathlib.Nat.{zero-add, add-zero, suc-add}
use mathlib.Core.Path.{◌≡◌, refl, sym, ap, ◌∙◌}
use mathlib.Core.Logic.{◌⊎◌, inl, inr, ⊎_elim}
use mathlib.Core.Bool.{Bool, true, false, cond}
use lib.ListN.{length}
use mathlib.Core.List.{List, [], ◌∷◌, ◌++◌, append-nil}
use Rattle.search.specs.Search.{from, below, all, keep, member}
use Rattle.search.proofs.Bools.{contradict, is_false, either, cond-true, cond-false}
use Rattle.search.proofs.Members.{member-nil, member-cons, member-head, member-tail, all-intro}
use Rattle.search.proofs.Ranges.{member-from, from_member}

pub keep-nil : (f : ℕ → Bool) → keep f [] ≡ []
unfolding keep
keep-nil f = refl

pub keep-cons-true : (f : ℕ → Bool) (x : ℕ) (xs : List ℕ) → f x ≡ true → keep f (x ∷ xs) ≡ x ∷ keep f xs
unfolding keep
keep-cons-true f x xs p = cond-true (f x) (x ∷ keep f xs) (keep f xs) p

pub keep-cons-false : (f : ℕ → Bool) (x : ℕ) (xs : List ℕ) → f x ≡ false → keep f (x ∷ xs) ≡ keep f xs
unfolding keep
keep-cons-false f x xs p = cond-false (f x) (x ∷ keep f xs) (keep f xs) p

-- ---- which numbers are kept

pub member-keep : (f : ℕ → Bool) (x : ℕ) (xs : List ℕ) → member x (keep f xs) ≡ true → (member x xs ≡ true) × (f x ≡ true)
member-keep f x [] e = contradict e (ap (member x) (keep-nil f) ∙ member-nil x)
member-keep f x (y ∷ ys) e = go (member-keep f x ys) (either (f y))
  where
    next : (member x ys ≡ true) × (f x ≡ true) → (member x (y ∷ ys) ≡ true) × (f x ≡ true)
    next r = (member-tail x y ys r.0, r.1)

    here : f y ≡ true → x ≡ y → (member x (y ∷ ys) ≡ true) × (f x ≡ true)
    here p q = (member-head x y ys q, ap f q ∙ p)

    go : (member x (keep f ys) ≡ true → (member x ys ≡ true) × (f x ≡ true)) → (f y ≡ true) ⊎ (f y ≡ false)
        → (member x (y ∷ ys) ≡ true) × (f x ≡ true)
    go ih (inl p) = ⊎_elim (here p) (λ m. next (ih m)) (member-cons x y (keep f ys) (sym (ap (member x) (keep-cons-true f y ys p)) ∙ e))
    go ih (inr p) = next (ih (sym (ap (member x) (keep-cons-false f y ys p)) ∙ e))

pub keep-member : (f : ℕ → Bool) (x : ℕ) (xs : List ℕ) → member x xs ≡ true → f x ≡ true → member x (keep f xs) ≡ true
keep-member f x [] m p = contradict m (member-nil x)
keep-member f x (y ∷ ys) m p = go (λ h. keep-member f x ys h p) (either (f y)) (member-cons x y ys m)
  where
    go : (member x ys ≡ true → member x (keep f ys) ≡ true) → (f y ≡ true) ⊎ (f y ≡ false) → (x ≡ y) ⊎ (member x ys ≡ true)
        → member x (keep f (y ∷ ys)) ≡ true
    go ih (inl q) (inl h) = ap (member x) (keep-cons-true f y ys q) ∙ member-head x y (keep f ys) h
    go ih (inl q) (inr h) = ap (member x) (keep-cons-true f y ys q) ∙ member-tail x y (keep f ys) (ih h)
    go ih (inr q) (inl h) = contradict (sym (ap f h) ∙ p) q
    go ih (inr q) (inr h) = ap (member x) (keep-cons-false f y ys q) ∙ ih h

-- what is kept passes the test
pub all-kept : (f : ℕ → Bool) (xs : List ℕ) → all f (keep f xs) ≡ true
all-kept f xs = all-intro f (keep f xs) (λ x m. (member-keep f x xs m).1)

-- ---- the whole list kept, or nothing

pub keep_all : (f : ℕ → Bool) (xs : List ℕ) → ((x : ℕ) → member x xs ≡ true → f x ≡ true) → keep f xs ≡ xs
keep_all f [] h = keep-nil f
keep_all f (x ∷ xs) h =
    keep-cons-true f x xs (h x (member-head x x xs refl)) ∙ ap (λ (l : List ℕ). x ∷ l) (keep_all f xs (λ y m. h y (member-tail y x xs m)))

pub keep-none : (f : ℕ → Bool) (xs : List ℕ) → ((x : ℕ) → member x xs ≡ true → f x ≡ false) → keep f xs ≡ []
keep-none f [] h = keep-nil f
keep-none f (x ∷ xs) h = keep-cons-false f x xs (h x (member-head x x xs refl)) ∙ keep-none f xs (λ y m. h y (member-tail y x xs m))

pub keep-empty : (f : ℕ → Bool) (i c : ℕ) → keep f (from i c) ≡ [] → (u : ℕ) → i ≤ u → u < i + c → f u ≡ false
keep-empty f i c e u h l =
    is_false (f u) (λ p. contradict (keep-member f u (from i c) (from_member u i c h l) p) (ap (member u) e ∙ member-nil u))

pub keep-below-empty : (f : ℕ → Bool) (n : ℕ) → keep f (below n) ≡ [] → (i : ℕ) → i < n → f i ≡ false
keep-below-empty f n e i h = keep-empty f 0 n e i (omega arith) (omega arith)

-- ---- two tests, two ranges

-- the kept list depends on the test's answers only
pub keep-ext : (f g : ℕ → Bool) (xs : List ℕ) → ((x : ℕ) → member x xs ≡ true → f x ≡ g x) → keep f xs ≡ keep g xs
unfolding keep
keep-ext f g [] h = refl
keep-ext f g (x ∷ xs) h =
    let r : keep f xs ≡ keep g xs = keep-ext f g xs (λ y m. h y (member-tail y x xs m)) in
    let e : f x ≡ g x = h x (member-head x x xs refl) in
    cc

-- what is kept of a range in two parts
pub keep-cut : (f : ℕ → Bool) (i c d : ℕ) → keep f (from i (c + d)) ≡ keep f (from i c) ++ keep f (from (i + c) d)
unfolding from keep
keep-cut f i zero d = rw (zero-add d, add-zero i)
keep-cut f i (suc c) d =
    let next : suc i + c ≡ i + suc c = omega arith in
    rw (suc-add c d, keep-cut f (suc i) c d, next) (cell (f i) (keep f (from (suc i) c)) (keep f (from (i + suc c) d)))
  where
    cell : (b : Bool) (xs ys : List ℕ) → cond b (i ∷ (xs ++ ys)) (xs ++ ys) ≡ cond b (i ∷ xs) xs ++ ys
    cell true xs ys = refl
    cell false xs ys = refl

-- a test that fails from i + c on keeps nothing there
pub keep-short : (f : ℕ → Bool) (i c d : ℕ) → ((u : ℕ) → i + c ≤ u → f u ≡ false) → keep f (from i (c + d)) ≡ keep f (from i c)
keep-short f i c d h =
    let none = keep-none f (from (i + c) d) (λ u m. h u (member-from u (i + c) d m).0) in
    keep-cut f i c d ∙ rw none (append-nil (keep f (from i c)))

-- no more than there were
pub keep-few : (f : ℕ → Bool) (xs : List ℕ) → length (keep f xs) ≤ length xs
unfolding keep
keep-few f [] = omega arith
keep-few f (x ∷ xs) = pick (f x) (keep-few f xs)
  where
    pick : (b : Bool) → length (keep f xs) ≤ length xs → length (cond b (x ∷ keep f xs) (keep f xs)) ≤ suc (length xs)
    pick true h = omega arith
    pick false h = omega arith
