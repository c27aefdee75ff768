-- The DATA steps and what rule 2 says of each: the unit of a piece, and that it is the one at the piece's place of the free units.
use Prim.Native.Nat.{ℕ, zero, suc, ◌<◌, ◌≤◌}
use mathlib.Core.Path.{◌≡◌, refl, sym, ap, ◌∙◌, subst}
use mathlib.Core.Logic.{⊎_elim}
use mathlib.Core.Bool.{Bool, true, false, ◌&&◌}
use mathlib.Core.List.{List, [], ◌∷◌, map}
use native.Mathlib.Omega.{arith}
use lib.ListN.{length, get_or, take}
use lib.Seq.{get_or-take, length-take-le}
use lib.Dec.{eqb, ltb}
use borrow.Author.Tests.{eqb-true, eq-eqb, ltb-true, lt-ltb}
use Rattle.search.specs.Search.{below, all, keep, member, distinct}
use Rattle.search.proofs.Bools.{contradict, is_false, and_left, and_right, and_intro}
use Rattle.search.proofs.Members.{member-nil, member-cons, member-head, all-intro}
use Rattle.search.proofs.Kept.{member-keep}
use Rattle.search.proofs.Mapping.{map-below-ext, map-places}
use Rattle.search.proofs.Distinct.{distinct-later, distinct_apart, distinct-keep, distinct_from}
use Rattle.layout.specs.Layout.{X}
use Rattle.steps.specs.declared.Step.{Step}
use Rattle.steps.specs.declared.Step.TheVariants.{Data, Map, Link, Fence}
use Rattle.steps.specs.declared.Request.{Request}
use Rattle.steps.specs.Steps.{need_of}
use Rattle.rules.specs.Rules.{collect, every, piece_in, unit_in, pieces, units, unit_of, once_each, data_fits, rule2}
use Rattle.rules.specs.Reading.{At}
use Rattle.rules.proofs.Once.{once, once-there, once-below}
use Rattle.rules.proofs.Places.{at-get_or, get_d_at, at-below, at_place, at-member, every-at, every-intro, collect-in, collect-at, collect-once, collect-distinct}
use Rattle.rules.proofs.StepLaws.{unit_of-here, unit_of-later, unit_of-none}

pub in_one : (n m : ℕ) → member n (m ∷ []) ≡ true → n ≡ m
in_one n m h = ⊎_elim (λ e. e) (λ k. contradict k (member-nil n)) (member-cons n m [] h)

pub here : (n : ℕ) → member n (n ∷ []) ≡ true
here n = member-head n n [] refl

pub piece-in : (x : Step) (n : ℕ) → member n (piece_in x) ≡ true → (u : ℕ) × (w : ℕ) × (x ≡ Data u n w)
unfolding piece_in
piece-in (Data u j w) n m = (u, w, ap (λ (z : ℕ). Data u z w) (sym (in_one n j m)))
piece-in (Map k j v) n m = contradict m (member-nil n)
piece-in (Link i v) n m = contradict m (member-nil n)
piece-in Fence n m = contradict m (member-nil n)

unit-in : (x : Step) (n : ℕ) → member n (unit_in x) ≡ true → (j : ℕ) × (w : ℕ) × (x ≡ Data n j w)
unfolding unit_in
unit-in (Data u j w) n m = (j, w, ap (λ (z : ℕ). Data z j w) (sym (in_one n u m)))
unit-in (Map k j v) n m = contradict m (member-nil n)
unit-in (Link i v) n m = contradict m (member-nil n)
unit-in Fence n m = contradict m (member-nil n)

unit-few : (x : Step) → length (unit_in x) ≤ 1
unfolding unit_in
unit-few (Data u j w) = omega arith
unit-few (Map k j v) = omega arith
unit-few (Link i v) = omega arith
unit-few Fence = omega arith

-- the DATA step of a piece
pub piece-at : (xs : List Step) (j : ℕ) → member j (pieces xs) ≡ true → (i : ℕ) × (u : ℕ) × (w : ℕ) × At xs i (Data u j w)
piece-at xs j m = let r = collect-at piece_in xs j m in let d = piece-in r.1 j r.3 in (r.0, d.0, d.1, subst (At xs r.0) d.2 r.2)

-- the unit of a piece is that of its DATA step
unit_of-skip : (z : Step) (xs : List Step) (j : ℕ) → member j (piece_in z) ≡ false → unit_of j (z ∷ xs) ≡ unit_of j xs
unfolding unit_of piece_in
unit_of-skip (Data u i w) xs j h = unit_of-later u i w j xs (λ e. contradict (ap (λ (n : ℕ). member j (n ∷ [])) (sym e) ∙ here j) h)
unit_of-skip (Map k i v) xs j h = refl
unit_of-skip (Link i v) xs j h = refl
unit_of-skip Fence xs j h = refl

pub unit-at : (xs : List Step) (i u j w : ℕ) → distinct (pieces xs) ≡ true → At xs i (Data u j w) → unit_of j xs ≡ u
unfolding collect piece_in
unit-at [] i u j w d h = absurd h
unit-at (z ∷ xs) zero u j w d h = ap (λ (s : Step). unit_of j (s ∷ xs)) h ∙ unit_of-here u j w j xs refl
unit-at (z ∷ xs) (suc i) u j w d h =
    unit_of-skip z xs j (is_false (member j (piece_in z)) (λ m.
    contradict (collect-in piece_in xs i (Data u j w) j h (here j)) (distinct_apart j (piece_in z) (pieces xs) d m)))
    ∙ unit-at xs i u j w (distinct-later (piece_in z) (pieces xs) d) h

-- ---- each DATA step is on the free unit at its piece's place

module _ (us : List ℕ) (xs : List Step) where
  pub data-told : every (data_fits us) xs ≡ true → (i u j w : ℕ) → At xs i (Data u j w) → At us j u
  unfolding data_fits
  data-told h i u j w s =
      let e = every-at (data_fits us) xs i (Data u j w) h s in
      get_d_at us j u X (ltb-true j (length us) (and_left (ltb j (length us)) (eqb (get_or us j X) u) e))
      (eqb-true (get_or us j X) u (and_right (ltb j (length us)) (eqb (get_or us j X) u) e))

  pub data-tested : ((i u j w : ℕ) → At xs i (Data u j w) → At us j u) → every (data_fits us) xs ≡ true
  unfolding data_fits
  data-tested h = every-intro (data_fits us) xs go
    where
      go : (i : ℕ) (x : Step) → At xs i x → data_fits us x ≡ true
      go i (Data u j w) s =
          let t = h i u j w s in
          and_intro (ltb j (length us)) (eqb (get_or us j X) u) (lt-ltb j (length us) (at-below us j u t)) (eq-eqb (get_or us j X) u (at-get_or us j u X t))
      go i (Map k j v) s = refl
      go i (Link c v) s = refl
      go i Fence s = refl

  module _ (r : Request) (h : rule2 us r xs ≡ true) where
    pub rule2-pieces : once_each (need_of r) (pieces xs) ≡ true
    unfolding rule2
    rule2-pieces = and_left (once_each (need_of r) (pieces xs)) (every (data_fits us) xs) h

    pub rule2-data : every (data_fits us) xs ≡ true
    unfolding rule2
    rule2-data = and_right (once_each (need_of r) (pieces xs)) (every (data_fits us) xs) h

    -- so they are on different free units, as the rule was before request 6
    dealt-in : (u : ℕ) → member u (units xs) ≡ true → member u us ≡ true
    dealt-in u m =
        let q = collect-at unit_in xs u m in
        let d = unit-in q.1 u q.3 in
        at-member us d.0 u (data-told rule2-data q.0 u d.0 d.1 (subst (At xs q.0) d.2 q.2))

    dealt-differ : distinct us ≡ true → distinct (units xs) ≡ true
    unfolding piece_in
    dealt-differ once-each =
        collect-distinct unit_in unit-few xs (λ i j n x y s t m q.
        let d = unit-in x n m in
        let e = unit-in y n q in
        let s' = subst (At xs i) d.2 s in
        let t' = subst (At xs j) e.2 t in
        let same = at_place us d.0 e.0 n once-each (data-told rule2-data i n d.0 d.1 s') (data-told rule2-data j n e.0 e.1 t') in
        collect-once piece_in xs i j (Data n d.0 d.1) (Data n e.0 e.1) d.0 (once (need_of r) (pieces xs) rule2-pieces).1 s' t' (here d.0)
        (ap (λ (z : ℕ). member d.0 (z ∷ [])) (sym same) ∙ here d.0))

    -- enough units are free: where there are fewer than a write needs, no plan keeps the rule
    pub enough-free : need_of r ≤ length us
    enough-free = go (need_of r) refl
      where
        go : (k : ℕ) → need_of r ≡ k → k ≤ length us
        go zero e = omega arith
        go (suc k) e =
            let p = piece-at xs k (once-there (need_of r) (pieces xs) rule2-pieces k (omega arith)) in
            let b = at-below us k p.1 (data-told rule2-data p.0 p.1 k p.2 p.3) in
            omega arith

    -- piece j is on the unit at place j, and past the last piece there is none
    pub dealt-unit : (d j : ℕ) → j < need_of r → unit_of j xs ≡ get_or us j d
    dealt-unit d j l =
        let p = piece-at xs j (once-there (need_of r) (pieces xs) rule2-pieces j l) in
        unit-at xs p.0 p.1 j p.2 (once (need_of r) (pieces xs) rule2-pieces).1 p.3
        ∙ sym (at-get_or us j p.1 d (data-told rule2-data p.0 p.1 j p.2 p.3))

    pub dealt-past : (j : ℕ) → need_of r ≤ j → unit_of j xs ≡ X
    dealt-past j l = unit_of-none j xs (λ m. let b = once-below (need_of r) (pieces xs) rule2-pieces j m in omega arith)

    -- so the units of the pieces, in order, are the lowest
    pub dealt-units : map (λ j. unit_of j xs) (below (need_of r)) ≡ take (need_of r) us
    dealt-units =
        let k = need_of r in
        map-below-ext (λ j. unit_of j xs) (λ j. get_or (take k us) j 0) k (λ j l. dealt-unit 0 j l ∙ sym (get_or-take k us j 0 l))
        ∙ ap (λ (n : ℕ). map (λ j. get_or (take k us) j 0) (below n)) (sym (length-take-le k us enough-free))
        ∙ map-places (take k us)

-- ---- rule 2 before request 6: "pieces 0 to k-1 once each, no other, on different free units"

unfoldable pub rule2_before : (ℕ → Bool) → Request → List Step → Bool
rule2_before free r xs = once_each (need_of r) (pieces xs) && distinct (units xs) && all free (units xs)

-- what keeps the rule now kept it then
pub kept-before : (free : ℕ → Bool) (n : ℕ) (r : Request) (xs : List Step) → rule2 (keep free (below n)) r xs ≡ true → rule2_before free r xs ≡ true
unfolding rule2_before
kept-before free n r xs h =
    let us = keep free (below n) in
    and_intro (once_each (need_of r) (pieces xs) && distinct (units xs)) (all free (units xs))
    (and_intro (once_each (need_of r) (pieces xs)) (distinct (units xs)) (rule2-pieces us xs r h)
    (dealt-differ us xs r h (distinct-keep free (below n) (distinct_from 0 n))))
    (all-intro free (units xs) (λ u m. (member-keep free u (below n) (dealt-in us xs r h u m)).1))
