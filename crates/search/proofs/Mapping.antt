-- Lists that a function makes of the numbers of a range, or of a list: their elements, members and length.
use Prim.Native.Nat.{ℕ, zero, suc, ◌+◌, ◌≤◌, ◌<◌}
use native.Mathlib.Omega.{arith}
use native.Mathlib.Nat.{zero-add, suc-add}
use mathlib.Core.Path.{◌≡◌, refl, ap, ap₂, ◌∙◌}
use mathlib.Core.Logic.{◌⊎◌, inl, inr}
use mathlib.Core.Bool.{true}
use mathlib.Core.List.{List, [], ◌∷◌, map}
use lib.ListN.{length, get_or, take, drop, set, replicate, length-map}
use lib.Seq.{ext_get_or, get_or-set_same, get_or-set_other}
use borrow.Author.Count.{below_more}
use Rattle.search.specs.Search.{from, below, member, distinct, first_or}
use Rattle.search.proofs.Bools.{contradict, is_false}
use Rattle.search.proofs.Members.{member-nil, member-cons, member-head, member-tail}
use Rattle.search.proofs.Ranges.{length_from, member_below}
use Rattle.search.proofs.Distinct.{distinct_nil, distinct_cons}

module _ {A : Type 0} where
  -- two functions that agree on a list's numbers give one list
  pub map-ext : (f g : ℕ → A) (xs : List ℕ) → ((x : ℕ) → member x xs ≡ true → f x ≡ g x) → map f xs ≡ map g xs
  map-ext f g [] h = refl
  map-ext f g (x ∷ xs) h = ap₂ {C = List A} (λ a r. a ∷ r) (h x (member-head x x xs refl)) (map-ext f g xs (λ y m. h y (member-tail y x xs m)))

  pub map-below-ext : (f g : ℕ → A) (n : ℕ) → ((i : ℕ) → i < n → f i ≡ g i) → map f (below n) ≡ map g (below n)
  map-below-ext f g n h = map-ext f g (below n) (λ i m. h i (member_below i n m))

  pub length-map-from : (f : ℕ → A) (a n : ℕ) → length (map f (from a n)) ≡ n
  length-map-from f a n = length-map (from a n) f ∙ length_from a n

  pub get_or-map-from : (f : ℕ → A) (a n j : ℕ) (d : A) → j < n → get_or (map f (from a n)) j d ≡ f (a + j)
  unfolding from
  get_or-map-from f a zero j d h = absurd (omega arith)
  get_or-map-from f a (suc n) zero d h = ap f (omega arith)
  get_or-map-from f a (suc n) (suc j) d h = get_or-map-from f (suc a) n j d (omega arith) ∙ ap f (omega arith)

  pub get_or-map-below : (f : ℕ → A) (n j : ℕ) (d : A) → j < n → get_or (map f (below n)) j d ≡ f j
  get_or-map-below f n j d h = get_or-map-from f 0 n j d h ∙ ap f (zero-add j)

-- the elements of a list, place by place
pub map-places : (us : List ℕ) → map (λ j. get_or us j 0) (below (length us)) ≡ us
map-places us =
    ext_get_or 0 (map (λ j. get_or us j 0) (below (length us))) us (length-map-from (λ j. get_or us j 0) 0 (length us)) λ j h.
    let k = length-map-from (λ j. get_or us j 0) 0 (length us) in get_or-map-below (λ j. get_or us j 0) (length us) j 0 (omega arith)

-- one number for each of some
pub first-constant : (m d a n : ℕ) → 0 < n → first_or d (map (λ (j : ℕ). m) (from a n)) ≡ m
unfolding from
first-constant m d a zero h = absurd (omega arith)
first-constant m d a (suc n) h = refl

-- a store of the next element extends what holds of the elements before it
pub store-more : (l : List ℕ) (g : ℕ → ℕ) (i v : ℕ) → i < length l → ((k : ℕ) → k < i → get_or l k 0 ≡ g k) → v ≡ g i
    → (k : ℕ) → k < i + 1 → get_or (set l i v) k 0 ≡ g k
store-more l g i v b h e = below_more _ i (λ k a. get_or-set_other l i k v 0 (omega arith) ∙ h k a) (get_or-set_same l i v 0 b ∙ e)

module _ (f : ℕ → ℕ) where
  pub take-map-from : (a k n : ℕ) → k ≤ n → take k (map f (from a n)) ≡ map f (from a k)
  unfolding from
  take-map-from a zero n h = refl
  take-map-from a (suc k) zero h = absurd (omega arith)
  take-map-from a (suc k) (suc n) h = ap (λ (l : List ℕ). f a ∷ l) (take-map-from (suc a) k n (omega arith))

  pub member-map-from : (a k y : ℕ) → member y (map f (from a k)) ≡ true → (j : ℕ) × (a ≤ j) × (j < a + k) × (y ≡ f j)
  unfolding from
  member-map-from a zero y m = contradict m (member-nil y)
  member-map-from a (suc k) y m = go (member-map-from (suc a) k y) (member-cons y (f a) (map f (from (suc a) k)) m)
    where
      go : (member y (map f (from (suc a) k)) ≡ true → (j : ℕ) × (suc a ≤ j) × (j < suc a + k) × (y ≡ f j))
          → (y ≡ f a) ⊎ (member y (map f (from (suc a) k)) ≡ true)
          → (j : ℕ) × (a ≤ j) × (j < a + suc k) × (y ≡ f j)
      go rest (inl e) = (a, omega arith, omega arith, e)
      go rest (inr q) =
          let r = rest q in
          let low : suc a ≤ r.0 = r.1 in
          let high : r.0 < suc a + k = r.2 in
          (r.0, omega arith, omega arith, r.3)

  pub distinct-map-from :
      (a k : ℕ) → ((i j : ℕ) → a ≤ i → i < a + k → a ≤ j → j < a + k → f i ≡ f j → i ≡ j) → distinct (map f (from a k)) ≡ true
  unfolding from
  distinct-map-from a zero h = distinct_nil
  distinct-map-from a (suc k) h =
      distinct_cons (f a) (map f (from (suc a) k)) (is_false (member (f a) (map f (from (suc a) k))) again)
      (distinct-map-from (suc a) k (λ i j p q r s e. h i j (omega arith) (omega arith) (omega arith) (omega arith) e))
    where
      again : member (f a) (map f (from (suc a) k)) ≡ true → ⊥
      again m =
          let r = member-map-from (suc a) k (f a) m in
          let low : suc a ≤ r.0 = r.1 in
          let high : r.0 < suc a + k = r.2 in
          let e : a ≡ r.0 = h a r.0 (omega arith) (omega arith) (omega arith) (omega arith) r.3 in
          omega arith

-- ---- one number again and again: the first of them, and the others

take-replicate : (n k x : ℕ) → n ≤ k → take n (replicate k x) ≡ replicate n x
take-replicate zero k x h = refl
take-replicate (suc n) zero x h = absurd (omega arith)
take-replicate (suc n) (suc k) x h = ap (λ (l : List ℕ). x ∷ l) (take-replicate n k x (omega arith))

pub take_same : (k n total x : ℕ) (xs : List ℕ) → xs ≡ replicate total x → k ≡ n → n ≤ total → take k xs ≡ replicate n x
take_same k n total x xs e q h = ap₂ (λ (i : ℕ) (l : List ℕ). take i l) q e ∙ take-replicate n total x h

pub drop-replicate : (n k x : ℕ) → drop n (replicate (n + k) x) ≡ replicate k x
drop-replicate zero k x = rw (zero-add k)
drop-replicate (suc n) k x = rw (suc-add n k) (drop-replicate n k x)
