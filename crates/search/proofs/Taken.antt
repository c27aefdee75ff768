-- Sets given by their tests: one number put in or taken out, the numbers of a list taken out, and whether each can be taken out once.
use Prim.Native.Nat.{ℕ, ◌+◌, ◌<◌, ◌≤◌}
use native.Mathlib.Numerals.{add-one}
use mathlib.Core.Path.{◌≡◌, refl, ap, sym, ◌∙◌}
use mathlib.Core.Bool.{Bool, true, false, not, ◌&&◌, ◌||◌, cond, and-true, and_assoc, or-false}
use mathlib.Core.List.{List, [], ◌∷◌, ◌++◌}
use lib.ListN.{length, get_or, take, drop, drop_of_length-le}
use lib.Seq.{take-suc, drop-cons}
use lib.Dec.{eqb}
use borrow.Author.Tests.{eq-eqb, ne_eqb}
use Rattle.search.specs.Search.{all, any, member, distinct}
use Rattle.search.specs.Sets.{put, without, with_all}
use Rattle.search.proofs.Bools.{eqb_comm}
use Rattle.search.proofs.Members.{member-append, all-ext}

-- ---- one number

pub put_same : (f : ℕ → Bool) (x : ℕ) (v : Bool) → put f x v x ≡ v
unfolding put
put_same f x v = rw (eq-eqb x x refl)

pub put_other : (f : ℕ → Bool) (x : ℕ) (v : Bool) (y : ℕ) → (y ≡ x → ⊥) → put f x v y ≡ f y
unfolding put
put_other f x v y h = rw (ne_eqb y x h)

put-in-cell : (a q : Bool) → cond q true a ≡ (a || q)
put-in-cell true true = refl
put-in-cell true false = refl
put-in-cell false true = refl
put-in-cell false false = refl

pub put-in : (f : ℕ → Bool) (x y : ℕ) → put f x true y ≡ (f y || eqb y x)
unfolding put
put-in f x y = put-in-cell (f y) (eqb y x)

all-put-cell : (a p m q : Bool) → (cond q false a && (p && not m)) ≡ ((a && p) && not (q || m))
all-put-cell true true m true = refl
all-put-cell true false m true = refl
all-put-cell false p m true = refl
all-put-cell true p m false = refl
all-put-cell false p m false = refl

pub all-put : (f : ℕ → Bool) (x : ℕ) (xs : List ℕ) → all (put f x false) xs ≡ (all f xs && not (member x xs))
unfolding all member any put
all-put f x [] = refl
all-put f x (y ∷ ys) = rw (all-put f x ys, eqb_comm x y) (all-put-cell (f y) (all f ys) (any (eqb x) ys) (eqb y x))

-- ---- a list of numbers

pub without-none : (f : ℕ → Bool) (y : ℕ) → f y ≡ without f [] y
unfolding without member any
without-none f y = sym (and-true (f y))

-- a number taken out, and then a list
without-cons-cell : (a b c : Bool) → (cond b false a && not c) ≡ (a && not (b || c))
without-cons-cell true true c = refl
without-cons-cell true false c = refl
without-cons-cell false true c = refl
without-cons-cell false false c = refl

pub without-cons : (f : ℕ → Bool) (x : ℕ) (xs : List ℕ) (y : ℕ) → without (put f x false) xs y ≡ without f (x ∷ xs) y
unfolding without put member any
without-cons f x xs y = without-cons-cell (f y) (eqb y x) (any (eqb y) xs)

-- a list taken out, and then a number
pub without-last-cell : (a m q : Bool) → cond q false (a && not m) ≡ (a && not (m || q))
without-last-cell true true true = refl
without-last-cell true true false = refl
without-last-cell true false true = refl
without-last-cell true false false = refl
without-last-cell false m true = refl
without-last-cell false m false = refl

pub member-last : (y x : ℕ) (xs : List ℕ) → member y (xs ++ (x ∷ [])) ≡ (member y xs || eqb y x)
unfolding member any
member-last y x xs = member-append y xs (x ∷ []) ∙ ap (λ (b : Bool). member y xs || b) (or-false (eqb y x))

pub without_more : (f : ℕ → Bool) (us : List ℕ) (j : ℕ) → j < length us → (y : ℕ)
    → put (without f (take j us)) (get_or us j 0) false y ≡ without f (take (j + 1) us) y
unfolding put without
without_more f us j h y =
    rw (add-one j, take-suc us j 0 h, member-last y (get_or us j 0) (take j us))
    (without-last-cell (f y) (member y (take j us)) (eqb y (get_or us j 0)))

-- ---- a list of numbers put in

pub with_all-none : (f : ℕ → Bool) (y : ℕ) → f y ≡ with_all f [] y
unfolding with_all member any
with_all-none f y = sym (or-false (f y))

with_all-cell : (a m q : Bool) → cond q true (a || m) ≡ (a || (m || q))
with_all-cell true m true = refl
with_all-cell true m false = refl
with_all-cell false true true = refl
with_all-cell false true false = refl
with_all-cell false false true = refl
with_all-cell false false false = refl

pub with_all-more : (f : ℕ → Bool) (us : List ℕ) (j : ℕ) → j < length us → (y : ℕ)
    → put (with_all f (take j us)) (get_or us j 0) true y ≡ with_all f (take (j + 1) us) y
unfolding put with_all
with_all-more f us j h y =
    rw (add-one j, take-suc us j 0 h, member-last y (get_or us j 0) (take j us))
    (with_all-cell (f y) (member y (take j us)) (eqb y (get_or us j 0)))

-- ---- whether a list's numbers can be taken out of a set, each once: they are in it and differ

module _ (f : ℕ → Bool) (us : List ℕ) where
  -- what is left of that test once the first j numbers have been taken out
  abbrev pub rest : ℕ → Bool
  rest j = all (without f (take j us)) (drop j us) && distinct (drop j us)

  pub rest-start : (all f us && distinct us) ≡ rest 0
  rest-start = rw (all-ext f (without f []) (without-none f) us)

  pub rest_more : (j : ℕ) → j < length us → without f (take j us) (get_or us j 0) ≡ true → rest j ≡ rest (j + 1)
  unfolding all distinct
  rest_more j h e =
      let x = get_or us j 0 in
      let xs = drop (j + 1) us in
      let g = without f (take j us) in
      let later : all (without f (take (j + 1) us)) xs ≡ (all g xs && not (member x xs)) =
      sym (all-ext _ _ (without_more f us j h) xs) ∙ all-put g x xs in
      let parts : drop j us ≡ x ∷ xs = drop-cons us j 0 h ∙ ap (λ (n : ℕ). x ∷ drop n us) (sym (add-one j)) in
      ap (λ (l : List ℕ). all g l && distinct l) parts ∙ rw (e, later) (sym (and_assoc (all g xs) (not (member x xs)) (distinct xs)))

  pub rest-stop : (j : ℕ) → j < length us → without f (take j us) (get_or us j 0) ≡ false → rest j ≡ false
  unfolding all
  rest-stop j h e = rw (drop-cons us j 0 h, e)

  pub rest_end : (j : ℕ) → length us ≤ j → rest j ≡ true
  unfolding all distinct
  rest_end j h = rw (drop_of_length-le us h)
