-- The members of a set in rising order: one step, many at once, the end, the first of them, and the k lowest.
use Prim.Native.Nat.{ℕ, zero, suc, ◌+◌, ◌-◌, ◌≤◌, ◌<◌}
use native.Mathlib.Nat.{le_refl, le_trans, eq-or-lt_of_le, sub-zero}
use native.Mathlib.Numerals.{add-one}
use native.Mathlib.Omega.{arith}
use mathlib.Core.Path.{◌≡◌, refl, sym, ap, subst, ◌∙◌}
use mathlib.Core.Logic.{⊎_elim}
use mathlib.Core.Bool.{Bool, true, false}
use mathlib.Core.List.{List, [], ◌∷◌, ◌++◌}
use lib.ListN.{length, get_or, take}
use lib.Seq.{get_or-take, length-take-le}
use Rattle.search.specs.Search.{from, below, keep, member, rising, first_or}
use Rattle.search.specs.Sets.{Lowest}
use Rattle.search.proofs.Bools.{contradict, either, less-or-not}
use Rattle.search.proofs.Members.{member-place, member-get_or, member-take, no-numbers}
use Rattle.search.proofs.Ranges.{member-from, below-member}
use Rattle.search.proofs.Kept.{keep-nil, keep-cons-true, keep-cons-false, keep-empty, keep-cut, keep-member, member-keep}

module _ (f : ℕ → Bool) (n : ℕ) where
  pub rising-end : (i : ℕ) → n ≤ i → rising f n i ≡ []
  unfolding rising from keep
  rising-end i h =
      let e : n - i ≡ 0 = omega arith in
      rw e

  rising-in : (i : ℕ) → i < n → f i ≡ true → rising f n i ≡ i ∷ rising f n (i + 1)
  unfolding rising from keep
  rising-in i h t =
      let e : n - i ≡ suc (n - (i + 1)) = omega arith in
      rw (e, t, add-one)

  rising-out : (i : ℕ) → i < n → f i ≡ false → rising f n i ≡ rising f n (i + 1)
  unfolding rising from keep
  rising-out i h t =
      let e : n - i ≡ suc (n - (i + 1)) = omega arith in
      rw (e, t, add-one)

  -- those among the next j numbers, and those after them
  pub rising-cut : (i j : ℕ) → i + j ≤ n → rising f n i ≡ keep f (from i j) ++ rising f n (i + j)
  unfolding rising
  rising-cut i j h =
      let e : n - i ≡ j + (n - (i + j)) = omega arith in
      rw e (keep-cut f i j (n - (i + j)))

  -- the first of them, where there is one, is below n, the test holds at it and at no number before it, and the others are those after it
  pub record First (i a : ℕ) : Type 0 where
    pub from-i : i ≤ a
    pub below-n : a < n
    pub holds : f a ≡ true
    pub before : (u : ℕ) → i ≤ u → u < a → f u ≡ false
    pub rest : rising f n i ≡ a ∷ rising f n (a + 1)

  pub rising-first : (i d : ℕ) → 0 < length (rising f n i) → First i (first_or d (rising f n i))
  rising-first i d h = go (n - i) i refl h
    where
      at : (c i : ℕ) → n - i ≡ suc c → (b : Bool) → f i ≡ b → 0 < length (rising f n i)
          → (0 < length (rising f n (i + 1)) → First (i + 1) (first_or d (rising f n (i + 1))))
          → First i (first_or d (rising f n i))
      at c i e true t h r =
          let s = rising-in i (omega arith) t in
          rw s (record { from-i = le_refl i; below-n = omega arith; holds = t; before = λ u l k. absurd (omega arith); rest = s })
      at c i e false t h r =
          let s = rising-out i (omega arith) t in
          let k : 0 < length (rising f n (i + 1)) = rw s at h in
          let q = r k in
          rw s (record {
            from-i = le_trans (omega arith) q.from-i;
            below-n = q.below-n;
            holds = q.holds;
            before = λ u l m. ⊎_elim (λ w. sym (ap f w) ∙ t) (λ w. q.before u (omega arith) m) (eq-or-lt_of_le l);
            rest = s ∙ q.rest;
          })

      go : (c i : ℕ) → n - i ≡ c → 0 < length (rising f n i) → First i (first_or d (rising f n i))
      go zero i e h = absurd (let z : 0 < 0 = rw (rising-end i (omega arith)) at h in omega arith)
      go (suc c) i e h = at c i e (f i) refl h (go c (i + 1) (omega arith))

  -- there is one just where the search for the first, from n where there is none, ends below n
  pub rising-some : (i : ℕ) → first_or n (rising f n i) < n → 0 < length (rising f n i)
  rising-some i = at (rising f n i)
    where
      at : (xs : List ℕ) → first_or n xs < n → 0 < length xs
      at [] h = absurd (omega arith)
      at (x ∷ xs) h = omega arith

  pub rising_none : (i : ℕ) → n ≤ first_or n (rising f n i) → length (rising f n i) ≡ 0
  rising_none i h = at (length (rising f n i)) refl
    where
      at : (k : ℕ) → length (rising f n i) ≡ k → length (rising f n i) ≡ 0
      at zero e = e
      at (suc k) e = absurd (let q = rising-first i n (omega arith) in omega (arith, q.below-n))

  pub rising-empty : (i u : ℕ) → length (rising f n i) ≡ 0 → i ≤ u → u < n → f u ≡ false
  unfolding rising
  rising-empty i u e h l = keep-empty f i (n - i) (no-numbers (rising f n i) e) u h (omega arith)

  -- all of them
  pub rising-all : rising f n 0 ≡ keep f (below n)
  unfolding rising
  rising-all = rw sub-zero

-- ---- the first k of them are the k lowest

-- each number is below every later one
abbrev pub Rising : List ℕ → Type 0
Rising xs = (i j : ℕ) → i < j → j < length xs → get_or xs i 0 < get_or xs j 0

lower-first : (a : ℕ) (xs : List ℕ) → ((u : ℕ) → member u xs ≡ true → a < u) → Rising xs → Rising (a ∷ xs)
lower-first a xs low next i zero h l = absurd (omega arith)
lower-first a xs low next zero (suc j) h l = low (get_or xs j 0) (member-get_or xs j (omega arith))
lower-first a xs low next (suc i) (suc j) h l = next i j (omega arith) (omega arith)

module _ (f : ℕ → Bool) where
  pub kept-rising : (n a : ℕ) → Rising (keep f (from a n))
  unfolding from
  kept-rising zero a = rw (keep-nil f) (λ i j h l. absurd (omega arith))
  kept-rising (suc n) a =
      let xs = from (suc a) n in
      let next : Rising (keep f xs) = kept-rising n (suc a) in
      ⊎_elim
      (λ t. rw (keep-cons-true f a xs t) (lower-first a (keep f xs) (λ u m. (member-from u (suc a) n (member-keep f u xs m).0).0) next))
      (λ t. rw (keep-cons-false f a xs t) next)
      (either (f a))

  pub taken-lowest : (n k : ℕ) → ((v : ℕ) → f v ≡ true → v < n) → k ≤ length (keep f (below n)) → Lowest f k (take k (keep f (below n)))
  taken-lowest n k high h = record {
    count = long;
    inside = λ u m. (member-keep f u (below n) (member-take k u xs m)).1;
    rising = λ i j a b. rw (get_or-take k xs i 0 (omega arith), get_or-take k xs j 0 b) (kept-rising n 0 i j a (omega arith));
    others = λ u v m t q.
        let p = member-place u (take k xs) m in
        let r = member-place v xs (keep-member f v (below n) (below-member v n (high v t)) t) in
        let i : ℕ = p.0 in
        let j : ℕ = r.0 in
        let low : i < k = subst (λ (c : ℕ). i < c) long p.1 in
        let past : k ≤ j = not_taken j r.1 v r.2 q in
        let up : get_or xs i 0 < get_or xs j 0 = kept-rising n 0 i j (omega arith) r.1 in
        let eu : get_or xs i 0 ≡ u = sym (get_or-take k xs i 0 low) ∙ p.2 in
        let ev : get_or xs j 0 ≡ v = r.2 in
        omega arith;
  }
    where
      xs : List ℕ
      xs = keep f (below n)

      long : length (take k xs) ≡ k
      long = length-take-le k xs h

      -- a number that is not among the first k stands at place k or later
      not_taken : (j : ℕ) → j < length xs → (v : ℕ) → get_or xs j 0 ≡ v → member v (take k xs) ≡ false → k ≤ j
      not_taken j b v e q =
          ⊎_elim
          (λ l. contradict (ap (λ (w : ℕ). member w (take k xs)) (sym e ∙ sym (get_or-take k xs j 0 l)) ∙ member-get_or (take k xs) j (subst (λ (c : ℕ). j < c) (sym long) l)) q)
          (λ l. l)
          (less-or-not j k)
