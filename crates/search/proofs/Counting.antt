-- How many numbers a test keeps where those of a list are taken out: so many fewer exactly when the list has no number twice and each was kept.
use Prim.Native.Nat.{ℕ, suc, ◌+◌, ◌≤◌, ◌<◌}
use native.Mathlib.Omega.{arith}
use mathlib.Core.Path.{◌≡◌, refl, sym, ap, ◌∙◌}
use mathlib.Core.Logic.{⊎_elim}
use mathlib.Core.Bool.{Bool, true, false}
use mathlib.Core.List.{List, [], ◌∷◌}
use lib.ListN.{length}
use lib.Dec.{eqb}
use borrow.Author.Tests.{eqb-true, eqb-false, not-false}
use Rattle.search.specs.Search.{below, keep, member, distinct}
use Rattle.search.specs.Sets.{put, without}
use Rattle.search.proofs.Bools.{contradict, either, is_false, is_true}
use Rattle.search.proofs.Members.{member-nil, member-cons, member-head, member-tail, no-numbers}
use Rattle.search.proofs.Ranges.{length_from, below-member}
use Rattle.search.proofs.Kept.{keep-nil, keep-cons-true, keep-cons-false, keep-ext, keep_all, keep-below-empty}
use Rattle.search.proofs.Distinct.{distinct_nil, distinct_cons, distinct_head, distinct_tail, distinct_from}
use Rattle.search.proofs.Taken.{put_same, put_other, without-none, without-cons}

-- where a number is not in the list, taking it out changes nothing
keep-put-other : (f : ℕ → Bool) (a : ℕ) (xs : List ℕ) → member a xs ≡ false → keep (put f a false) xs ≡ keep f xs
keep-put-other f a xs h =
    keep-ext (put f a false) f xs (λ u m. put_other f a false u (λ e. contradict (sym (ap (λ (z : ℕ). member z xs) e) ∙ m) h))

module _ (f : ℕ → Bool) (a : ℕ) where
  -- the head of the list is the number that is taken out
  keep-put-head : (x : ℕ) (xs : List ℕ) → distinct (x ∷ xs) ≡ true → x ≡ a → keep (put f a false) (x ∷ xs) ≡ keep f xs
  keep-put-head x xs d e =
      keep-cons-false (put f a false) x xs (ap (put f a false) e ∙ put_same f a false)
      ∙ keep-put-other f a xs (sym (ap (λ (z : ℕ). member z xs) e) ∙ distinct_head x xs d)

  -- one number fewer at the most
  keep-put-most : (xs : List ℕ) → distinct xs ≡ true → length (keep f xs) ≤ suc (length (keep (put f a false) xs))
  keep-put-most [] d = let e = ap length (keep-nil f) in omega arith
  keep-put-most (x ∷ xs) d =
      let ih = keep-put-most xs (distinct_tail x xs d) in
      ⊎_elim
      (λ e. let o = ap length (keep-put-head x xs d (eqb-true x a e)) in
      ⊎_elim (λ p. let q = ap length (keep-cons-true f x xs p) in omega arith) (λ p. let q = ap length (keep-cons-false f x xs p) in omega arith) (either (f x)))
      (λ e. let o = put_other f a false x (eqb-false x a e) in
      ⊎_elim
      (λ p. let q = ap length (keep-cons-true f x xs p) in let r = ap length (keep-cons-true (put f a false) x xs (o ∙ p)) in omega arith)
      (λ p. let q = ap length (keep-cons-false f x xs p) in let r = ap length (keep-cons-false (put f a false) x xs (o ∙ p)) in omega arith)
      (either (f x)))
      (either (eqb x a))

  -- just one fewer where it was kept
  keep-put-kept : (xs : List ℕ) → distinct xs ≡ true → member a xs ≡ true → f a ≡ true
      → length (keep f xs) ≡ suc (length (keep (put f a false) xs))
  keep-put-kept [] d m h = contradict m (member-nil a)
  keep-put-kept (x ∷ xs) d m h =
      ⊎_elim
      (λ e. let o = ap length (keep-put-head x xs d (eqb-true x a e)) in
      let q = ap length (keep-cons-true f x xs (ap f (eqb-true x a e) ∙ h)) in omega arith)
      (λ e. let o = put_other f a false x (eqb-false x a e) in
      let ih = keep-put-kept xs (distinct_tail x xs d) (⊎_elim (λ q. absurd (eqb-false x a e (sym q))) (λ q. q) (member-cons a x xs m)) h in
      ⊎_elim
      (λ p. let q = ap length (keep-cons-true f x xs p) in let r = ap length (keep-cons-true (put f a false) x xs (o ∙ p)) in omega arith)
      (λ p. let q = ap length (keep-cons-false f x xs p) in let r = ap length (keep-cons-false (put f a false) x xs (o ∙ p)) in omega arith)
      (either (f x)))
      (either (eqb x a))

-- at least all less the list's length
pub left-at-least : (f : ℕ → Bool) (xs ys : List ℕ) → distinct xs ≡ true → length (keep f xs) ≤ length (keep (without f ys) xs) + length ys
left-at-least f xs [] d = let e = ap length (keep-ext f (without f []) xs (λ u m. without-none f u)) in omega arith
left-at-least f xs (y ∷ ys) d =
    let i = left-at-least (put f y false) xs ys d in
    let o = keep-put-most f y xs d in
    let e = ap length (keep-ext (without (put f y false) ys) (without f (y ∷ ys)) xs (λ u m. without-cons f y ys u)) in
    omega arith

-- just so many, where the list has no number twice and only numbers that were kept
pub left-exactly : (f : ℕ → Bool) (xs ys : List ℕ) → distinct xs ≡ true → distinct ys ≡ true
    → ((u : ℕ) → member u ys ≡ true → (member u xs ≡ true) × (f u ≡ true))
    → length (keep f xs) ≡ length (keep (without f ys) xs) + length ys
left-exactly f xs [] d dy h = let e = ap length (keep-ext f (without f []) xs (λ u m. without-none f u)) in omega arith
left-exactly f xs (y ∷ ys) d dy h =
    let a = h y (member-head y y ys refl) in
    let i = left-exactly (put f y false) xs ys d (distinct_tail y ys dy) (λ u m.
    let b = h u (member-tail u y ys m) in
    (b.0, put_other f y false u (λ q. contradict (sym (ap (λ (z : ℕ). member z ys) q) ∙ m) (distinct_head y ys dy)) ∙ b.1)) in
    let o = keep-put-kept f y xs d a.0 a.1 in
    let e = ap length (keep-ext (without (put f y false) ys) (without f (y ∷ ys)) xs (λ u m. without-cons f y ys u)) in
    omega arith

-- and in no other case: so many are left exactly when the list has no number twice and only numbers that were kept
module _ (f : ℕ → Bool) (xs : List ℕ) where
  -- a number that is not kept goes without a trace
  keep-put-unkept : (a : ℕ) → f a ≡ false → keep (put f a false) xs ≡ keep f xs
  keep-put-unkept a h = keep-ext (put f a false) f xs (λ u m. ⊎_elim
      (λ q. let e = eqb-true u a q in ap (put f a false) e ∙ put_same f a false ∙ sym (ap f e ∙ h))
      (λ q. put_other f a false u (eqb-false u a q))
      (either (eqb u a)))

  fewer-kept : (a : ℕ) → length (keep f xs) ≡ suc (length (keep (put f a false) xs)) → (member a xs ≡ true) × (f a ≡ true)
  fewer-kept a e = (
    is_true (member a xs) (λ h. let q = ap length (keep-put-other f a xs h) in absurd (omega arith)),
    is_true (f a) (λ h. let q = ap length (keep-put-unkept a h) in absurd (omega arith)),
  )

pub left-counted : (f : ℕ → Bool) (xs ys : List ℕ) → distinct xs ≡ true → length (keep f xs) ≡ length (keep (without f ys) xs) + length ys
    → (distinct ys ≡ true) × ((u : ℕ) → member u ys ≡ true → (member u xs ≡ true) × (f u ≡ true))
left-counted f xs [] d e = (distinct_nil, λ u m. contradict m (member-nil u))
left-counted f xs (y ∷ ys) d e =
    let g : ℕ → Bool = put f y false in
    let w = ap length (keep-ext (without g ys) (without f (y ∷ ys)) xs (λ u m. without-cons f y ys u)) in
    let most = left-at-least g xs ys d in
    let one = keep-put-most f y xs d in
    let kept = fewer-kept f xs y (omega arith) in
    let ih = left-counted g xs ys d (omega arith) in
    let apart : member y ys ≡ false = is_false (member y ys) (λ m. contradict (ih.1 y m).1 (put_same f y false)) in (
      distinct_cons y ys apart ih.0,
      λ u m. ⊎_elim
          (λ q. (ap (λ (z : ℕ). member z xs) q ∙ kept.0, ap f q ∙ kept.1))
          (λ q. let k = ih.1 u q in
          (k.0, sym (put_other f y false u (λ z. contradict (sym (ap (λ (v : ℕ). member v ys) z) ∙ q) apart)) ∙ k.1))
          (member-cons u y ys m),
    )

-- ---- the numbers below n that are not of a list

pub unlisted : (n : ℕ) (ys : List ℕ) → n ≤ length (keep (without (λ u. true) ys) (below n)) + length ys
unlisted n ys =
    let a = left-at-least (λ u. true) (below n) ys (distinct_from 0 n) in
    let b = ap length (keep_all (λ u. true) (below n) (λ u m. refl)) in
    let c = length_from 0 n in
    omega arith

pub unlisted-exactly : (n : ℕ) (ys : List ℕ) → distinct ys ≡ true → ((u : ℕ) → member u ys ≡ true → u < n)
    → length (keep (without (λ u. true) ys) (below n)) + length ys ≡ n
unlisted-exactly n ys d h =
    let a = left-exactly (λ u. true) (below n) ys (distinct_from 0 n) d (λ u m. (below-member u n (h u m), refl)) in
    let b = ap length (keep_all (λ u. true) (below n) (λ u m. refl)) in
    let c = length_from 0 n in
    omega arith

-- n different numbers below n are all of them
pub covers : (n : ℕ) (xs : List ℕ) → distinct xs ≡ true → length xs ≡ n → ((x : ℕ) → member x xs ≡ true → x < n) → (j : ℕ) → j < n
    → member j xs ≡ true
unfolding without
covers n xs d e h j l =
    let others = keep (without (λ u. true) xs) (below n) in
    let none : length others ≡ 0 = omega (arith, unlisted-exactly n xs d h) in
    not-false (member j xs) (keep-below-empty (without (λ u. true) xs) n (no-numbers others none) j l)
