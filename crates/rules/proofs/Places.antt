-- Steps and their places: what a list drawn from the steps, or a test of every step, says of the step at each place.
use Rattle.std.specs.Prelude.{Option, Some, None}
use Prim.Native.Nat.{ℕ, zero, suc, ◌+◌, ◌<◌, ◌≤◌}
use mathlib.Core.Path.{◌≡◌, refl, sym, ap, ◌∙◌, subst}
use mathlib.Core.Logic.{◌⊎◌, inl, inr}
use mathlib.Core.Bool.{Bool, true, ◌&&◌}
use mathlib.Core.List.{List, [], ◌∷◌, ◌++◌}
use native.Mathlib.Omega.{arith}
use lib.ListN.{length, get_or, length-append}
use Rattle.search.specs.Search.{member, distinct}
use Rattle.search.proofs.Bools.{contradict, is_false, and_left, and_right, and_intro, or_cases, or_left, or_right}
use Rattle.search.proofs.Members.{member-nil, member-head, member-tail, member-append}
use Rattle.search.proofs.Distinct.{distinct_nil, distinct_append, distinct-later, distinct_apart, distinct-few, distinct-place, disjoint-intro}
use Rattle.steps.specs.declared.Step.{Step}
use Rattle.steps.specs.Encodable.{Each}
use Rattle.steps.specs.Steps.{whole_steps, decode_at, steps_append, steps_of}
use Rattle.steps.proofs.Rest.{rest, rest-start, rest-next, rest_end}
use Rattle.rules.specs.Rules.{collect, every}
use Rattle.rules.specs.Reading.{At}

pub empty : {B : Type 0} (ys : List B) → length ys ≡ 0 → ys ≡ []
empty [] h = refl
empty (y ∷ ys) h = absurd (omega arith)

-- ---- what stands at a place

module _ {A : Type 0} where
  pub at_one : (xs : List A) (i : ℕ) (x y : A) → At xs i x → At xs i y → x ≡ y
  at_one [] i x y h k = absurd h
  at_one (z ∷ xs) zero x y h k = sym h ∙ k
  at_one (z ∷ xs) (suc i) x y h k = at_one xs i x y h k

  pub at-below : (xs : List A) (i : ℕ) (x : A) → At xs i x → i < length xs
  at-below [] i x h = absurd h
  at-below (z ∷ xs) zero x h = omega arith
  at-below (z ∷ xs) (suc i) x h = omega (arith, at-below xs i x h)

  pub at_some : (xs : List A) (i : ℕ) → i < length xs → (x : A) × At xs i x
  at_some [] i h = absurd (omega arith)
  at_some (z ∷ xs) zero h = (z, refl)
  at_some (z ∷ xs) (suc i) h = at_some xs i (omega arith)

  pub at-get_or : (xs : List A) (i : ℕ) (x d : A) → At xs i x → get_or xs i d ≡ x
  at-get_or [] i x d h = absurd h
  at-get_or (z ∷ xs) zero x d h = h
  at-get_or (z ∷ xs) (suc i) x d h = at-get_or xs i x d h

  pub get_d_at : (xs : List A) (i : ℕ) (x d : A) → i < length xs → get_or xs i d ≡ x → At xs i x
  get_d_at [] i x d l e = absurd (omega arith)
  get_d_at (z ∷ xs) zero x d l e = e
  get_d_at (z ∷ xs) (suc i) x d l e = get_d_at xs i x d (omega arith) e

-- a number at a place is in the list, and where none stands twice at one place only
pub at-member : (us : List ℕ) (i u : ℕ) → At us i u → member u us ≡ true
at-member [] i u h = absurd h
at-member (x ∷ us) zero u h = member-head u x us (sym h)
at-member (x ∷ us) (suc i) u h = member-tail u x us (at-member us i u h)

pub at_place : (us : List ℕ) (i j u : ℕ) → distinct us ≡ true → At us i u → At us j u → i ≡ j
at_place us i j u d h k =
    distinct-place us d i j (at-below us i u h) (at-below us j u k) (at-get_or us i u 0 h ∙ sym (at-get_or us j u 0 k))

-- ---- a test of every step

module _ (f : Step → Bool) where
  pub every-at : (xs : List Step) (i : ℕ) (x : Step) → every f xs ≡ true → At xs i x → f x ≡ true
  unfolding every
  every-at [] i x e h = absurd h
  every-at (z ∷ xs) zero x e h = sym (ap f h) ∙ and_left (f z) (every f xs) e
  every-at (z ∷ xs) (suc i) x e h = every-at xs i x (and_right (f z) (every f xs) e) h

  pub every-intro : (xs : List Step) → ((i : ℕ) (x : Step) → At xs i x → f x ≡ true) → every f xs ≡ true
  unfolding every
  every-intro [] h = refl
  every-intro (z ∷ xs) h = and_intro (f z) (every f xs) (h 0 z refl) (every-intro xs (λ i x k. h (suc i) x k))

pub every-same : (f h : Step → Bool) (xs : List Step) → ((i : ℕ) (x : Step) → At xs i x → f x ≡ h x) → every f xs ≡ every h xs
unfolding every
every-same f h [] e = refl
every-same f h (z ∷ xs) e = λ t. e 0 z refl t && every-same f h xs (λ i x k. e (suc i) x k) t

-- ---- numbers drawn from the steps

module _ (f : Step → List ℕ) where
  -- the number that a step gives is drawn, and a number that is drawn comes from a step
  pub collect-in : (xs : List Step) (i : ℕ) (x : Step) (n : ℕ) → At xs i x → member n (f x) ≡ true → member n (collect f xs) ≡ true
  unfolding collect
  collect-in [] i x n h m = absurd h
  collect-in (z ∷ xs) zero x n h m =
      member-append n (f z) (collect f xs) ∙ or_left (member n (f z)) (member n (collect f xs)) (ap (λ (y : Step). member n (f y)) h ∙ m)
  collect-in (z ∷ xs) (suc i) x n h m =
      member-append n (f z) (collect f xs) ∙ or_right (member n (f z)) (member n (collect f xs)) (collect-in xs i x n h m)

  pub collect-at : (xs : List Step) (n : ℕ) → member n (collect f xs) ≡ true → (i : ℕ) × (x : Step) × At xs i x × (member n (f x) ≡ true)
  unfolding collect
  collect-at [] n m = contradict m (member-nil n)
  collect-at (z ∷ xs) n m =
      go (collect-at xs n) (or_cases (member n (f z)) (member n (collect f xs)) (sym (member-append n (f z) (collect f xs)) ∙ m))
    where
      go : (member n (collect f xs) ≡ true → (i : ℕ) × (x : Step) × At xs i x × (member n (f x) ≡ true))
          → (member n (f z) ≡ true) ⊎ (member n (collect f xs) ≡ true)
          → (i : ℕ) × (x : Step) × At (z ∷ xs) i x × (member n (f x) ≡ true)
      go rest (inl p) = (0, z, refl, p)
      go rest (inr p) = let r = rest p in (suc r.0, r.1, r.2, r.3)

  -- where none is drawn twice, a number comes from one place
  pub collect-once : (xs : List Step) (i j : ℕ) (x y : Step) (n : ℕ) → distinct (collect f xs) ≡ true → At xs i x → At xs j y → member n (f x) ≡ true
      → member n (f y) ≡ true
      → i ≡ j
  unfolding collect
  collect-once [] i j x y n d h k p q = absurd h
  collect-once (z ∷ xs) zero zero x y n d h k p q = refl
  collect-once (z ∷ xs) zero (suc j) x y n d h k p q =
      contradict (collect-in xs j y n k q) (distinct_apart n (f z) (collect f xs) d (ap (λ (s : Step). member n (f s)) h ∙ p))
  collect-once (z ∷ xs) (suc i) zero x y n d h k p q =
      contradict (collect-in xs i x n h p) (distinct_apart n (f z) (collect f xs) d (ap (λ (s : Step). member n (f s)) k ∙ q))
  collect-once (z ∷ xs) (suc i) (suc j) x y n d h k p q = ap suc (collect-once xs i j x y n (distinct-later (f z) (collect f xs) d) h k p q)

  -- none is drawn twice, where each step gives at most one and each number comes from one place
  pub collect-distinct : ((x : Step) → length (f x) ≤ 1) → (xs : List Step)
      → ((i j n : ℕ) (x y : Step) → At xs i x → At xs j y → member n (f x) ≡ true → member n (f y) ≡ true → i ≡ j)
      → distinct (collect f xs) ≡ true
  unfolding collect
  collect-distinct one [] h = distinct_nil
  collect-distinct one (z ∷ xs) h =
      distinct_append (f z) (collect f xs) (distinct-few (f z) (one z))
      (collect-distinct one xs (λ i j n x y a b p q. let e = h (suc i) (suc j) n x y a b p q in omega arith))
      (disjoint-intro (f z) (collect f xs) (λ n m. is_false (member n (collect f xs)) (λ q.
      let r = collect-at xs n q in
      let e : 0 ≡ suc r.0 = h 0 (suc r.0) n z r.1 refl r.2 m r.3 in
      omega arith)))

  -- how many are drawn
  pub at_length : (xs : List Step) (i : ℕ) (x : Step) → At xs i x → length (f x) ≤ length (collect f xs)
  unfolding collect
  at_length [] i x h = absurd h
  at_length (z ∷ xs) zero x h =
      let e = length-append (f z) (collect f xs) in let q : length (f z) ≡ length (f x) = ap (λ (s : Step). length (f s)) h in omega arith
  at_length (z ∷ xs) (suc i) x h = let e = length-append (f z) (collect f xs) in let q = at_length xs i x h in omega arith

  pub single-place : (xs : List Step) (i j : ℕ) (x y : Step) → length (collect f xs) ≤ 1 → At xs i x → At xs j y → 1 ≤ length (f x) → 1 ≤ length (f y)
      → i ≡ j
  unfolding collect
  single-place [] i j x y l h k p q = absurd h
  single-place (z ∷ xs) zero zero x y l h k p q = refl
  single-place (z ∷ xs) zero (suc j) x y l h k p q =
      let e = length-append (f z) (collect f xs) in
      let s : length (f z) ≡ length (f x) = ap (λ (w : Step). length (f w)) h in
      let r = at_length xs j y k in
      absurd (omega arith)
  single-place (z ∷ xs) (suc i) zero x y l h k p q =
      let e = length-append (f z) (collect f xs) in
      let s : length (f z) ≡ length (f y) = ap (λ (w : Step). length (f w)) k in
      let r = at_length xs i x h in
      absurd (omega arith)
  single-place (z ∷ xs) (suc i) (suc j) x y l h k p q =
      let e = length-append (f z) (collect f xs) in ap suc (single-place xs i j x y (omega arith) h k p q)

  pub collect-none : (xs : List Step) → ((i : ℕ) (x : Step) → At xs i x → f x ≡ []) → collect f xs ≡ []
  unfolding collect
  collect-none [] h = refl
  collect-none (z ∷ xs) h = ap (λ (l : List ℕ). l ++ collect f xs) (h 0 z refl) ∙ collect-none xs (λ i x k. h (suc i) x k)

  -- at most one is drawn, where at most one place gives any, and that at most one
  pub collect-few : ((x : Step) → length (f x) ≤ 1) → (xs : List Step)
      → ((i j : ℕ) (x y : Step) → At xs i x → At xs j y → 1 ≤ length (f x) → 1 ≤ length (f y) → i ≡ j)
      → length (collect f xs) ≤ 1
  unfolding collect
  collect-few one [] h = omega arith
  collect-few one (z ∷ xs) h = go (f z) refl (collect-few one xs (λ i j x y a b p q. let e = h (suc i) (suc j) x y a b p q in omega arith))
    where
      none : (l : List ℕ) → (1 ≤ length l → ⊥) → length l ≡ 0
      none [] n = refl
      none (a ∷ l) n = absurd (n (omega arith))

      go : (l : List ℕ) → f z ≡ l → length (collect f xs) ≤ 1 → length (f z ++ collect f xs) ≤ 1
      go [] e r = let q = length-append (f z) (collect f xs) in let s : length (f z) ≡ 0 = ap length e in omega arith
      go (a ∷ l) e r =
          let q = length-append (f z) (collect f xs) in
          let b = one z in
          let s : length (f z) ≡ suc (length l) = ap length e in
          let no_more : length (collect f xs) ≡ 0 = ap length (collect-none xs (λ i x k. empty (f x) (none (f x) (λ p.
          let t : 0 ≡ suc i = h 0 (suc i) z x refl k (omega arith) p in
          omega arith)))) in
          omega arith

-- ---- the steps of a plan

module _ (plan : List ℕ) where
  pub length_rest : (a n : ℕ) → a + n ≡ whole_steps plan → length (rest plan a) ≤ n
  length_rest a zero e = let q = ap length (rest_end plan a (omega arith)) in omega arith
  length_rest a (suc n) e =
      let q = ap length (rest-next plan a (omega arith)) in
      let l = length_rest (a + 1) n (omega arith) in
      let m = append-length (decode_at plan a) (rest plan (a + 1)) in
      omega arith
    where
      append-length : (d : Option Step) (xs : List Step) → length (steps_append d xs) ≤ suc (length xs)
      append-length (Some x) xs = omega arith
      append-length None xs = omega arith

  -- a plan has no more steps than whole ones
  pub length-steps : length (steps_of plan) ≤ whole_steps plan
  length-steps = let e = ap length (rest-start plan) in let l = length_rest 0 (whole_steps plan) (omega arith) in omega arith

  rest-cons : (a : ℕ) (x : Step) → a < whole_steps plan → decode_at plan a ≡ Some x → rest plan a ≡ x ∷ rest plan (a + 1)
  rest-cons a x l e = rest-next plan a l ∙ ap (λ (d : Option Step). steps_append d (rest plan (a + 1))) e

  -- where each is one of the four kinds, the step at place i is what the bytes of step i say
  module _ (whole : (i : ℕ) → i < whole_steps plan → (x : Step) × (decode_at plan i ≡ Some x)) where
    rest_at : (a n : ℕ) → a + n ≡ whole_steps plan → (i : ℕ) (x : Step) → At (rest plan a) i x → (i < n) × (decode_at plan (a + i) ≡ Some x)
    rest_at a zero e i x h = absurd (subst (λ (l : List Step). At l i x) (rest_end plan a (omega arith)) h)
    rest_at a (suc n) e i x h =
        let f = whole a (omega arith) in
        go f.0 f.1 i (subst (λ (l : List Step). At l i x) (rest-cons a f.0 (omega arith) f.1) h)
        (λ j k. rest_at (a + 1) n (omega arith) j x k)
      where
        go : (y : Step) → decode_at plan a ≡ Some y → (i : ℕ) → At (y ∷ rest plan (a + 1)) i x
            → ((j : ℕ) → At (rest plan (a + 1)) j x → (j < n) × (decode_at plan (a + 1 + j) ≡ Some x))
            → (i < suc n) × (decode_at plan (a + i) ≡ Some x)
        go y q zero k later = (omega arith, let e : a + 0 ≡ a = omega arith in ap (decode_at plan) e ∙ q ∙ ap Some k)
        go y q (suc i) k later =
            let r = later i k in
            let b : i < n = r.0 in
            let e : a + suc i ≡ a + 1 + i = omega arith in
            (omega arith, ap (decode_at plan) e ∙ r.1)

    at_rest : (a n : ℕ) → a + n ≡ whole_steps plan → (i : ℕ) (x : Step) → i < n → decode_at plan (a + i) ≡ Some x → At (rest plan a) i x
    at_rest a zero e i x l h = absurd (omega arith)
    at_rest a (suc n) e i x l h =
        let f = whole a (omega arith) in
        subst (λ (l : List Step). At l i x) (sym (rest-cons a f.0 (omega arith) f.1))
        (go f.0 f.1 i l h (λ j m k. at_rest (a + 1) n (omega arith) j x m k))
      where
        inside : (x y : Step) → Some x ≡ Some y → x ≡ y
        inside x y e = cc

        go : (y : Step) → decode_at plan a ≡ Some y → (i : ℕ) → i < suc n → decode_at plan (a + i) ≡ Some x
            → ((j : ℕ) → j < n → decode_at plan (a + 1 + j) ≡ Some x → At (rest plan (a + 1)) j x)
            → At (y ∷ rest plan (a + 1)) i x
        go y q zero l k later = let e : a ≡ a + 0 = omega arith in inside y x (sym q ∙ ap (decode_at plan) e ∙ k)
        go y q (suc i) l k later = let e : a + 1 + i ≡ a + suc i = omega arith in later i (omega arith) (ap (decode_at plan) e ∙ k)

    pub step-told : (i : ℕ) (x : Step) → At (steps_of plan) i x → (i < whole_steps plan) × (decode_at plan i ≡ Some x)
    step-told i x k =
        let r = rest_at 0 (whole_steps plan) (omega arith) i x (subst (λ (l : List Step). At l i x) (rest-start plan) k) in
        let e : i ≡ 0 + i = omega arith in
        (r.0, ap (decode_at plan) e ∙ r.1)

    pub step-there : (i : ℕ) (x : Step) → i < whole_steps plan → decode_at plan i ≡ Some x → At (steps_of plan) i x
    step-there i x l k =
        let e : 0 + i ≡ i = omega arith in
        subst (λ (l : List Step). At l i x) (sym (rest-start plan)) (at_rest 0 (whole_steps plan) (omega arith) i x l (ap (decode_at plan) e ∙ k))

-- a property of the step at each place is one of every step
pub each-place : (P : Step → Type 0) (xs : List Step) → ((i : ℕ) (x : Step) → At xs i x → P x) → Each P xs
each-place P [] h = tt
each-place P (x ∷ xs) h = (h 0 x refl, each-place P xs (λ i y k. h (suc i) y k))

pub each_at : (P : Step → Type 0) (xs : List Step) → Each P xs → (i : ℕ) (x : Step) → At xs i x → P x
each_at P [] h i x s = absurd s
each_at P (y ∷ ys) h zero x s = subst P s h.0
each_at P (y ∷ ys) h (suc i) x s = each_at P ys h.1 i x s
