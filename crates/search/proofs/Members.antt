-- Lists of numbers: what `member`, `all` and `any` say of the numbers of a list, how they go along a list that a loop walks, and the first number.
use Prim.Native.Nat.{ℕ, zero, suc, ◌+◌, ◌≤◌, ◌<◌}
use native.Mathlib.Omega.{arith}
use native.Mathlib.Nat.{not-suc-le-zero}
use native.Mathlib.Numerals.{add-one}
use mathlib.Core.Path.{◌≡◌, refl, sym, ap, ◌∙◌}
use mathlib.Core.Logic.{◌⊎◌, inl, inr, ⊎_elim}
use mathlib.Core.Bool.{Bool, true, false, not, ◌&&◌, ◌||◌, false≢true, or_assoc}
use mathlib.Core.List.{List, [], ◌∷◌, ◌++◌}
use lib.ListN.{length, get_or, take, drop, drop_of_length-le}
use lib.Seq.{drop-cons}
use lib.Dec.{eqb}
use borrow.Author.Tests.{eqb-true, eq-eqb}
use Rattle.search.specs.Search.{all, any, member, first_or}
use Rattle.search.proofs.Bools.{contradict, and_left, and_right, and_intro, and-mid, or_cases, or_left, or_right, or-mid, not-or, is_false}

-- ---- member

pub member-nil : (x : ℕ) → member x [] ≡ false
unfolding member any
member-nil x = refl

pub member-cons : (x y : ℕ) (ys : List ℕ) → member x (y ∷ ys) ≡ true → (x ≡ y) ⊎ (member x ys ≡ true)
unfolding member any
member-cons x y ys e = ⊎_elim (λ p. inl (eqb-true x y p)) (λ p. inr p) (or_cases (eqb x y) (any (eqb x) ys) e)

pub member-head : (x y : ℕ) (ys : List ℕ) → x ≡ y → member x (y ∷ ys) ≡ true
unfolding member any
member-head x y ys p = or_left (eqb x y) (any (eqb x) ys) (eq-eqb x y p)

pub member-tail : (x y : ℕ) (ys : List ℕ) → member x ys ≡ true → member x (y ∷ ys) ≡ true
unfolding member any
member-tail x y ys p = or_right (eqb x y) (any (eqb x) ys) p

-- a member is the number at some place
pub member-place : (x : ℕ) (xs : List ℕ) → member x xs ≡ true → (i : ℕ) × (i < length xs) × (get_or xs i 0 ≡ x)
member-place x [] e = contradict e (member-nil x)
member-place x (y ∷ ys) e = ⊎_elim (λ p. (zero, omega arith, sym p)) (λ p. next (member-place x ys p)) (member-cons x y ys e)
  where
    next : (i : ℕ) × (i < length ys) × (get_or ys i 0 ≡ x) → (i : ℕ) × (i < length (y ∷ ys)) × (get_or (y ∷ ys) i 0 ≡ x)
    next r = (suc r.0, omega (arith, r.1), r.2)

pub member-get_or : (xs : List ℕ) (i : ℕ) → i < length xs → member (get_or xs i 0) xs ≡ true
member-get_or [] i h = absurd (not-suc-le-zero h)
member-get_or (y ∷ ys) zero h = member-head y y ys refl
member-get_or (y ∷ ys) (suc i) h = member-tail (get_or ys i 0) y ys (member-get_or ys i (omega arith))

pub member-take : (n x : ℕ) (xs : List ℕ) → member x (take n xs) ≡ true → member x xs ≡ true
member-take zero x xs m = contradict m (member-nil x)
member-take (suc n) x [] m = m
member-take (suc n) x (y ∷ ys) m =
    ⊎_elim (λ p. member-head x y ys p) (λ p. member-tail x y ys (member-take n x ys p)) (member-cons x y (take n ys) m)

-- ---- all and any, by the members

pub all-at : (f : ℕ → Bool) (xs : List ℕ) → all f xs ≡ true → (x : ℕ) → member x xs ≡ true → f x ≡ true
unfolding all
all-at f [] e x m = contradict m (member-nil x)
all-at f (y ∷ ys) e x m =
    ⊎_elim (λ p. ap f p ∙ and_left (f y) (all f ys) e) (λ p. all-at f ys (and_right (f y) (all f ys) e) x p) (member-cons x y ys m)

pub all-intro : (f : ℕ → Bool) (xs : List ℕ) → ((x : ℕ) → member x xs ≡ true → f x ≡ true) → all f xs ≡ true
unfolding all
all-intro f [] h = refl
all-intro f (y ∷ ys) h =
    and_intro (f y) (all f ys) (h y (member-head y y ys refl)) (all-intro f ys (λ x m. h x (member-tail x y ys m)))

pub any_at : (f : ℕ → Bool) (xs : List ℕ) → any f xs ≡ true → (x : ℕ) × (member x xs ≡ true) × (f x ≡ true)
unfolding any
any_at f [] e = absurd (false≢true e)
any_at f (y ∷ ys) e = ⊎_elim (λ p. (y, member-head y y ys refl, p)) (λ p. next (any_at f ys p)) (or_cases (f y) (any f ys) e)
  where
    next : (x : ℕ) × (member x ys ≡ true) × (f x ≡ true) → (x : ℕ) × (member x (y ∷ ys) ≡ true) × (f x ≡ true)
    next r = (r.0, member-tail r.0 y ys r.1, r.2)

pub any-intro : (f : ℕ → Bool) (xs : List ℕ) (x : ℕ) → member x xs ≡ true → f x ≡ true → any f xs ≡ true
unfolding any
any-intro f [] x m p = contradict m (member-nil x)
any-intro f (y ∷ ys) x m p =
    ⊎_elim (λ q. or_left (f y) (any f ys) (sym (ap f q) ∙ p)) (λ q. or_right (f y) (any f ys) (any-intro f ys x q p)) (member-cons x y ys m)

pub any_none : (f : ℕ → Bool) (xs : List ℕ) → ((x : ℕ) → member x xs ≡ true → f x ≡ false) → any f xs ≡ false
any_none f xs h = is_false (any f xs) (λ e. let r = any_at f xs e in contradict r.2 (h r.0 r.1))

pub any-none-at : (f : ℕ → Bool) (xs : List ℕ) → any f xs ≡ false → (x : ℕ) → member x xs ≡ true → f x ≡ false
any-none-at f xs e x m = is_false (f x) (λ p. contradict (any-intro f xs x m p) e)

-- ---- all and any, by their tests

module _ (f g : ℕ → Bool) (h : (y : ℕ) → f y ≡ g y) where
  pub all-ext : (xs : List ℕ) → all f xs ≡ all g xs
  unfolding all
  all-ext [] = refl
  all-ext (x ∷ xs) = rw (h x, all-ext xs)

  pub any-ext : (xs : List ℕ) → any f xs ≡ any g xs
  unfolding any
  any-ext [] = refl
  any-ext (x ∷ xs) = rw (h x, any-ext xs)

pub all-and : (f g : ℕ → Bool) (xs : List ℕ) → all (λ y. f y && g y) xs ≡ (all f xs && all g xs)
unfolding all
all-and f g [] = refl
all-and f g (x ∷ xs) = rw (all-and f g xs) (and-mid (f x) (g x) (all f xs) (all g xs))

pub all-not : (f : ℕ → Bool) (xs : List ℕ) → all (λ y. not (f y)) xs ≡ not (any f xs)
unfolding all any
all-not f [] = refl
all-not f (x ∷ xs) = rw (all-not f xs) (sym (not-or (f x) (any f xs)))

pub any-or : (f g : ℕ → Bool) (xs : List ℕ) → any (λ y. f y || g y) xs ≡ (any f xs || any g xs)
unfolding any
any-or f g [] = refl
any-or f g (x ∷ xs) = rw (any-or f g xs) (or-mid (f x) (g x) (any f xs) (any g xs))

pub any_swap : (f : ℕ → ℕ → Bool) (xs ys : List ℕ) → any (λ x. any (λ y. f x y) ys) xs ≡ any (λ y. any (λ x. f x y) xs) ys
unfolding any
any_swap f [] ys = sym (any_none (λ y. false) ys (λ y m. refl))
any_swap f (x ∷ xs) ys = rw (any_swap f xs ys) (sym (any-or (λ y. f x y) (λ y. any (λ x. f x y) xs) ys))

pub any_append : (f : ℕ → Bool) (xs ys : List ℕ) → any f (xs ++ ys) ≡ (any f xs || any f ys)
unfolding any
any_append f [] ys = refl
any_append f (x ∷ xs) ys = rw (any_append f xs ys) (sym (or_assoc (f x) (any f xs) (any f ys)))

pub member-append : (x : ℕ) (xs ys : List ℕ) → member x (xs ++ ys) ≡ (member x xs || member x ys)
unfolding member
member-append x xs ys = any_append (eqb x) xs ys

-- ---- along a list: what is left from place j on, after one more number

module _ (f : ℕ → Bool) (xs : List ℕ) (j : ℕ) where
  pub all_more : j < length xs → f (get_or xs j 0) ≡ true → all f (drop j xs) ≡ all f (drop (j + 1) xs)
  unfolding all
  all_more h e = rw (add-one j, drop-cons xs j 0 h, e)

  pub all-stop : j < length xs → f (get_or xs j 0) ≡ false → all f (drop j xs) ≡ false
  unfolding all
  all-stop h e = rw (drop-cons xs j 0 h, e)

  pub all_end : length xs ≤ j → all f (drop j xs) ≡ true
  unfolding all
  all_end h = rw (drop_of_length-le xs h)

  pub any-more : j < length xs → f (get_or xs j 0) ≡ false → any f (drop j xs) ≡ any f (drop (j + 1) xs)
  unfolding any
  any-more h e = rw (add-one j, drop-cons xs j 0 h, e)

  pub any-stop : j < length xs → f (get_or xs j 0) ≡ true → any f (drop j xs) ≡ true
  unfolding any
  any-stop h e = rw (drop-cons xs j 0 h, e)

  pub any-end : length xs ≤ j → any f (drop j xs) ≡ false
  unfolding any
  any-end h = rw (drop_of_length-le xs h)

-- ---- a list of no numbers, and the first number of a list

pub no-numbers : (xs : List ℕ) → length xs ≡ 0 → xs ≡ []
no-numbers xs e = drop_of_length-le xs {i = 0} (omega arith)

pub first_member : (d : ℕ) (xs : List ℕ) → 0 < length xs → member (first_or d xs) xs ≡ true
first_member d [] h = absurd (omega arith)
first_member d (x ∷ xs) h = member-head x x xs refl

pub all_first : (f : ℕ → Bool) (d : ℕ) (xs : List ℕ) → all f xs ≡ true → 0 < length xs → f (first_or d xs) ≡ true
all_first f d xs e h = all-at f xs e (first_or d xs) (first_member d xs h)

pub first-append : (d : ℕ) (xs ys : List ℕ) → first_or d (xs ++ ys) ≡ first_or (first_or d ys) xs
first-append d [] ys = refl
first-append d (x ∷ xs) ys = refl

pub first_taken : (d : ℕ) (xs : List ℕ) → 0 < length xs → take 1 xs ≡ first_or d xs ∷ []
first_taken d [] h = absurd (omega arith)
first_taken d (x ∷ xs) h = refl
