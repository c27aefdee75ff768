-- Lists with no number twice, and two lists with no number in common.
use Prim.Native.Nat.{ℕ, zero, suc, ◌≤◌, ◌<◌}
use native.Mathlib.Omega.{arith}
use native.Mathlib.Nat.{not-suc-le-zero}
use mathlib.Core.Path.{◌≡◌, refl, sym, ap, ◌∙◌}
use mathlib.Core.Logic.{◌⊎◌, inl, inr, ⊎_elim}
use mathlib.Core.Bool.{Bool, true, false, not, not-not}
use mathlib.Core.List.{List, [], ◌∷◌, ◌++◌}
use lib.ListN.{length, get_or}
use lib.Dec.{eqb}
use borrow.Author.Tests.{not-true}
use Rattle.search.specs.Search.{from, any, keep, member, distinct, disjoint}
use Rattle.search.proofs.Bools.{contradict, and_left, and_right, and_intro, or-none, or-false-right, not_of_false, is_false, either, eqb_comm, less-or-not}
use Rattle.search.proofs.Members.{member-nil, member-cons, member-head, member-tail, member-place, member-get_or, member-append, all-at, all-intro, all-not, any-ext, any_swap}
use Rattle.search.proofs.Ranges.{member-from}
use Rattle.search.proofs.Kept.{keep-nil, keep-cons-true, keep-cons-false, member-keep}

-- ---- distinct

pub distinct_nil : distinct [] ≡ true
unfolding distinct
distinct_nil = refl

pub distinct_cons : (x : ℕ) (xs : List ℕ) → member x xs ≡ false → distinct xs ≡ true → distinct (x ∷ xs) ≡ true
unfolding distinct
distinct_cons x xs m e = and_intro (not (member x xs)) (distinct xs) (not_of_false (member x xs) m) e

pub distinct_head : (x : ℕ) (xs : List ℕ) → distinct (x ∷ xs) ≡ true → member x xs ≡ false
unfolding distinct
distinct_head x xs e = not-true (member x xs) (and_left (not (member x xs)) (distinct xs) e)

pub distinct_tail : (x : ℕ) (xs : List ℕ) → distinct (x ∷ xs) ≡ true → distinct xs ≡ true
unfolding distinct
distinct_tail x xs e = and_right (not (member x xs)) (distinct xs) e

distinct-at : (xs : List ℕ) → distinct xs ≡ true → (i j : ℕ) → i < j → j < length xs → get_or xs i 0 ≡ get_or xs j 0 → ⊥
distinct-at [] e i j h l p = not-suc-le-zero l
distinct-at (x ∷ xs) e i zero h l p = not-suc-le-zero h
distinct-at (x ∷ xs) e zero (suc j) h l p =
    contradict (ap (λ (y : ℕ). member y xs) p ∙ member-get_or xs j (omega arith)) (distinct_head x xs e)
distinct-at (x ∷ xs) e (suc i) (suc j) h l p = distinct-at xs (distinct_tail x xs e) i j (omega arith) (omega arith) p

-- in a list with no number twice, a number has one place
pub distinct-place : (xs : List ℕ) → distinct xs ≡ true → (i j : ℕ) → i < length xs → j < length xs → get_or xs i 0 ≡ get_or xs j 0 → i ≡ j
distinct-place xs d i j h l e =
    ⊎_elim (λ q. absurd (distinct-at xs d i j q l e))
    (λ q. ⊎_elim (λ r. absurd (distinct-at xs d j i r h (sym e))) (λ r. omega arith) (less-or-not j i))
    (less-or-not i j)

-- a list of which no two places hold the same number
pub distinct-intro : (xs : List ℕ) → ((i j : ℕ) → i < j → j < length xs → get_or xs i 0 ≡ get_or xs j 0 → ⊥) → distinct xs ≡ true
distinct-intro [] h = distinct_nil
distinct-intro (x ∷ xs) h =
    distinct_cons x xs
    (is_false (member x xs) (λ m. let r = member-place x xs m in h 0 (suc r.0) (omega arith) (omega (arith, r.1)) (sym r.2)))
    (distinct-intro xs (λ i j a b. h (suc i) (suc j) (omega arith) (omega arith)))

-- ---- lists that have no number twice

pub distinct_from : (i n : ℕ) → distinct (from i n) ≡ true
unfolding from
distinct_from i zero = distinct_nil
distinct_from i (suc n) =
    distinct_cons i (from (suc i) n) (is_false (member i (from (suc i) n)) (λ m. let r = member-from i (suc i) n m in omega (arith, r.0)))
    (distinct_from (suc i) n)

pub distinct-keep : (f : ℕ → Bool) (xs : List ℕ) → distinct xs ≡ true → distinct (keep f xs) ≡ true
distinct-keep f [] e = ap distinct (keep-nil f) ∙ distinct_nil
distinct-keep f (x ∷ xs) e = go (distinct-keep f xs (distinct_tail x xs e)) (either (f x))
  where
    apart : member x (keep f xs) ≡ false
    apart = is_false (member x (keep f xs)) (λ m. contradict (member-keep f x xs m).0 (distinct_head x xs e))

    go : distinct (keep f xs) ≡ true → (f x ≡ true) ⊎ (f x ≡ false) → distinct (keep f (x ∷ xs)) ≡ true
    go ih (inl p) = ap distinct (keep-cons-true f x xs p) ∙ distinct_cons x (keep f xs) apart ih
    go ih (inr p) = ap distinct (keep-cons-false f x xs p) ∙ ih

-- ---- disjoint

pub disjoint-at : (xs ys : List ℕ) → disjoint xs ys ≡ true → (x : ℕ) → member x xs ≡ true → member x ys ≡ false
unfolding disjoint
disjoint-at xs ys e x m = not-true (member x ys) (all-at (λ z. not (member z ys)) xs e x m)

pub disjoint-intro : (xs ys : List ℕ) → ((x : ℕ) → member x xs ≡ true → member x ys ≡ false) → disjoint xs ys ≡ true
unfolding disjoint
disjoint-intro xs ys h = all-intro (λ z. not (member z ys)) xs (λ x m. not_of_false (member x ys) (h x m))

pub distinct_append : (xs ys : List ℕ) → distinct xs ≡ true → distinct ys ≡ true → disjoint xs ys ≡ true → distinct (xs ++ ys) ≡ true
distinct_append [] ys d e a = e
distinct_append (x ∷ xs) ys d e a =
    distinct_cons x (xs ++ ys)
    (member-append x xs ys ∙ or-none (member x xs) (member x ys) (distinct_head x xs d) (disjoint-at (x ∷ xs) ys a x (member-head x x xs refl)))
    (distinct_append xs ys (distinct_tail x xs d) e (disjoint-intro xs ys (λ u m. disjoint-at (x ∷ xs) ys a u (member-tail u x xs m))))

-- and back: the second list has no number twice, and none of the first
pub distinct-later : (xs ys : List ℕ) → distinct (xs ++ ys) ≡ true → distinct ys ≡ true
distinct-later [] ys d = d
distinct-later (x ∷ xs) ys d = distinct-later xs ys (distinct_tail x (xs ++ ys) d)

pub distinct_apart : (n : ℕ) (xs ys : List ℕ) → distinct (xs ++ ys) ≡ true → member n xs ≡ true → member n ys ≡ false
distinct_apart n [] ys d p = contradict p (member-nil n)
distinct_apart n (x ∷ xs) ys d p =
    ⊎_elim
    (λ e. or-false-right (member n xs) (member n ys) (sym (member-append n xs ys) ∙ ap (λ (z : ℕ). member z (xs ++ ys)) e ∙ distinct_head x (xs ++ ys) d))
    (λ m. distinct_apart n xs ys (distinct_tail x (xs ++ ys) d) m)
    (member-cons n x xs p)

-- a list of at most one number
pub distinct-few : (xs : List ℕ) → length xs ≤ 1 → distinct xs ≡ true
distinct-few [] h = distinct_nil
distinct-few (x ∷ []) h = distinct_cons x [] (member-nil x) distinct_nil
distinct-few (x ∷ y ∷ xs) h = absurd (omega arith)

member-comm : (xs ys : List ℕ) → any (λ x. member x ys) xs ≡ any (λ y. member y xs) ys
unfolding member
member-comm xs ys =
    any_swap (λ x y. eqb x y) xs ys ∙ any-ext _ _ (λ y. any-ext _ _ (λ x. eqb_comm x y) xs) ys

-- two lists with a number in common, by a search through the second
pub meets : (xs ys : List ℕ) → not (disjoint xs ys) ≡ any (λ y. member y xs) ys
unfolding disjoint
meets xs ys = ap not (all-not (λ x. member x ys) xs) ∙ not-not _ ∙ member-comm xs ys
