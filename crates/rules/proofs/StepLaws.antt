-- A property of every step of a plan, and what the checker's lists of pieces, units, maps, words and links tell of each step.
use Rattle.std.specs.Prelude.{Option, Some, None}
use Prim.Native.Nat.{ℕ, suc, ◌+◌, ◌*◌, ◌%◌, ◌<◌, ◌≤◌}
use mathlib.Core.Path.{◌≡◌, refl, sym, ap, ◌∙◌, subst}
use mathlib.Core.Logic.{◌⊎◌, inl, inr, ◌≢◌, ⊎_elim}
use mathlib.Core.Bool.{Bool, true, false, ◌&&◌, cond}
use mathlib.Core.List.{List, [], ◌∷◌}
use native.Mathlib.Omega.{arith}
use lib.ListN.{length}
use lib.Dec.{eqb, ltb, leb}
use borrow.Author.Tests.{eqb-true, eqb-false, eq-eqb, ne_eqb, ltb-true, lt-ltb, leb-true}
use Rattle.layout.specs.declared.Shape.{Shape}
use Rattle.search.specs.Search.{below, all, member, distinct}
use Rattle.layout.specs.Layout.{is_size, max_chunk_bytes, X, unit_bytes, head, map_words}
use Rattle.layout.specs.Shaped.{Limits}
use Rattle.layout.proofs.Limits.{units-high}
use Rattle.search.proofs.Bools.{contradict, either, and-three, and_left, and_right, cond-true, cond-false}
use Rattle.search.proofs.Members.{all-at, member-nil, member-cons, member-head, member-tail}
use Rattle.search.proofs.Distinct.{distinct_head, distinct_tail}
use Rattle.steps.specs.declared.Step.{Step}
use Rattle.steps.specs.declared.Step.TheVariants.{Data, Map, Link, Fence}
use Rattle.steps.specs.Steps.{step_bytes, whole_steps, decode_at, steps_of, word_of}
use Rattle.steps.specs.Encodable.{Each}
use Rattle.search.proofs.Ranges.{below-member}
use Rattle.rules.specs.Reading.{At}
use Rattle.rules.proofs.Places.{step-told, each-place, every-at, collect-in, at_length}
use Rattle.rules.specs.Rules.{every, map_fits, collect, word_in, unit_in, piece_in, link_in, linked_in, value_below, word_in_range, in_range, whole_in_range, rule1, max_steps, pieces, units, words, links, linked, unit_of, maps_fit, is_none}

-- a step keeps rule 1
abbrev pub InRange : Shape → Step → Type 0
InRange g x = in_range g x ≡ true

pub each_two : {P Q R : Step → Type 0} → ((x : Step) → P x → Q x → R x) → (xs : List Step) → Each P xs → Each Q xs → Each R xs
each_two f [] h k = tt
each_two f (x ∷ xs) h k = (f x h.0 k.0, each_two f xs h.1 k.1)

-- ---- properties of a step

-- a MAP step is on map k
abbrev pub OnMap : ℕ → Step → Type 0
OnMap m (Data u j wr) = Unit {0}
OnMap m (Map k j v) = k ≡ m
OnMap m (Link i v) = Unit {0}
OnMap m Fence = Unit {0}

abbrev pub NoMap : Step → Type 0
NoMap (Data u j wr) = Unit {0}
NoMap (Map k j v) = ⊥
NoMap (Link i v) = Unit {0}
NoMap Fence = Unit {0}

-- a LINK step of chunk c stores the word w
abbrev pub Links : ℕ → ℕ → Step → Type 0
Links c w (Data u j wr) = Unit {0}
Links c w (Map k j v) = Unit {0}
Links c w (Link i v) = i ≡ c → word_of v ≡ w
Links c w Fence = Unit {0}

-- a LINK step is of chunk c, and stores the word w
abbrev pub OnLink : ℕ → ℕ → Step → Type 0
OnLink c w (Data u j wr) = Unit {0}
OnLink c w (Map k j v) = Unit {0}
OnLink c w (Link i v) = (i ≡ c) × (word_of v ≡ w)
OnLink c w Fence = Unit {0}

pub on-links : (c w : ℕ) (x : Step) → OnLink c w x → Links c w x
on-links c w (Data u j wr) h = tt
on-links c w (Map k j v) h = tt
on-links c w (Link i v) h = λ p. h.1
on-links c w Fence h = tt

-- a MAP step on map m stores f's value for its word
abbrev pub Stores : ℕ → (ℕ → ℕ) → Step → Type 0
Stores m f (Data u j wr) = Unit {0}
Stores m f (Map k j v) = k ≡ m → word_of v ≡ f j
Stores m f (Link i v) = Unit {0}
Stores m f Fence = Unit {0}

-- the step does not write unit u
abbrev pub Spares : ℕ → Step → Type 0
Spares w (Data u j wr) = w ≢ u
Spares w (Map k j v) = Unit {0}
Spares w (Link i v) = Unit {0}
Spares w Fence = Unit {0}

-- ---- rule 1

whole_in : (g : Shape) (d : Option Step) → whole_in_range g d ≡ true → (x : Step) × (d ≡ Some x) × InRange g x
whole_in g (Some x) h = (x, refl, h)
whole_in g None h = contradict h refl

pub each-in-range : (g : Shape) (plan : List ℕ) → rule1 g plan ≡ true → Each (InRange g) (steps_of plan)
unfolding rule1
each-in-range g plan h =
    let n = whole_steps plan in
    let test : ℕ → Bool = λ i. whole_in_range g (decode_at plan i) in
    let every_one = and_right (eqb (length plan % step_bytes) 0 && leb n max_steps) (all test (below n)) h in
    let told : (i : ℕ) → i < n → (x : Step) × (decode_at plan i ≡ Some x) × InRange g x =
    λ i l. whole_in g (decode_at plan i) (all-at test (below n) every_one i (below-member i n l)) in
    each-place (InRange g) (steps_of plan) (λ i x s.
    let r = step-told plan (λ j l. ((told j l).0, (told j l).1)) i x s in
    ap (whole_in_range g) (sym r.1) ∙ all-at test (below n) every_one i (below-member i n r.0))

-- ---- rules 2 to 4

pub none-empty : (xs : List ℕ) → is_none xs ≡ true → xs ≡ []
none-empty [] h = refl
none-empty (x ∷ xs) h = contradict h refl

-- the parts of rule 3's test of the MAP steps
pub each-on-map : (a : ℕ) (free : ℕ → Bool) (unit : ℕ → ℕ) (xs : List Step) → maps_fit a free unit xs ≡ true → Each (OnMap a) xs
unfolding map_fits
each-on-map a free unit xs h = each-place (OnMap a) xs (λ i x s. go x (every-at (map_fits a free unit) xs i x h s))
  where
    go : (x : Step) → map_fits a free unit x ≡ true → OnMap a x
    go (Data u j w) e = tt
    go (Map k j v) e = sym (eqb-true a k (and-three (eqb a k) (free k) (eqb (word_of v) (unit j)) e).0)
    go (Link i v) e = tt
    go Fence e = tt

pub fit_free : (a : ℕ) (free : ℕ → Bool) (unit : ℕ → ℕ) (xs : List Step) → maps_fit a free unit xs ≡ true → 0 < length (words xs) → free a ≡ true
unfolding every map_fits collect word_in
fit_free a free unit [] h l = absurd (omega arith)
fit_free a free unit (Data u j wr ∷ xs) h l = fit_free a free unit xs h l
fit_free a free unit (Map b j v ∷ xs) h l =
    let x = eqb a b && free b && eqb (word_of v) (unit j) in
    let here = and_left (eqb a b && free b) (eqb (word_of v) (unit j)) (and_left x (maps_fit a free unit xs) h) in
    ap free (eqb-true a b (and_left (eqb a b) (free b) here)) ∙ and_right (eqb a b) (free b) here
fit_free a free unit (Link i v ∷ xs) h l = fit_free a free unit xs h l
fit_free a free unit (Fence ∷ xs) h l = fit_free a free unit xs h l

pub each-no-map : (xs : List Step) → length (words xs) ≡ 0 → Each NoMap xs
unfolding word_in
each-no-map xs h = each-place NoMap xs go
  where
    go : (i : ℕ) (x : Step) → At xs i x → NoMap x
    go i (Data u j w) s = tt
    go i (Map m j v) s = let l : 1 ≤ length (words xs) = at_length word_in xs i (Map m j v) s in omega arith
    go i (Link a v) s = tt
    go i Fence s = tt

-- as many units as pieces
pub same_count : (xs : List Step) → length (units xs) ≡ length (pieces xs)
unfolding collect unit_in piece_in
same_count [] = refl
same_count (Data u j wr ∷ xs) = ap suc (same_count xs)
same_count (Map m j v ∷ xs) = same_count xs
same_count (Link i v ∷ xs) = same_count xs
same_count (Fence ∷ xs) = same_count xs

pub each-link : (c w : ℕ) (xs : List Step) → all (eqb c) (links xs) ≡ true → all (eqb w) (linked xs) ≡ true → Each (OnLink c w) xs
unfolding link_in linked_in
each-link c w xs h k = each-place (OnLink c w) xs go
  where
    go : (i : ℕ) (x : Step) → At xs i x → OnLink c w x
    go i (Data u j z) s = tt
    go i (Map m j v) s = tt
    go i (Link a v) s = (
      sym (eqb-true c a (all-at (eqb c) (links xs) h a (collect-in link_in xs i (Link a v) a s (member-head a a [] refl)))),
      sym (eqb-true w (word_of v) (all-at (eqb w) (linked xs) k (word_of v) (collect-in linked_in xs i (Link a v) (word_of v) s (member-head (word_of v) (word_of v) [] refl)))),
    )
    go i Fence s = tt

pub each-stores : (a : ℕ) (free : ℕ → Bool) (unit : ℕ → ℕ) (xs : List Step) → maps_fit a free unit xs ≡ true → Each (Stores a unit) xs
unfolding map_fits
each-stores a free unit xs h = each-place (Stores a unit) xs (λ i x s. go x (every-at (map_fits a free unit) xs i x h s))
  where
    go : (x : Step) → map_fits a free unit x ≡ true → Stores a unit x
    go (Data u j w) e = tt
    go (Map k j v) e = λ p. eqb-true (word_of v) (unit j) (and-three (eqb a k) (free k) (eqb (word_of v) (unit j)) e).2
    go (Link i v) e = tt
    go Fence e = tt

pub each-spares : (w : ℕ) (xs : List Step) → (member w (units xs) ≡ true → ⊥) → Each (Spares w) xs
unfolding unit_in
each-spares w xs h = each-place (Spares w) xs go
  where
    go : (i : ℕ) (x : Step) → At xs i x → Spares w x
    go i (Data u j z) s = λ e. h (ap (λ (n : ℕ). member n (units xs)) e ∙ collect-in unit_in xs i (Data u j z) u s (member-head u u [] refl))
    go i (Map m j v) s = tt
    go i (Link a v) s = tt
    go i Fence s = tt

-- the words that MAP steps on map k store
unfoldable pub words_on : ℕ → List Step → List ℕ
words_on k [] = []
words_on k (Data u j wr ∷ xs) = words_on k xs
words_on k (Map m j v ∷ xs) = cond (eqb m k) (j ∷ words_on k xs) (words_on k xs)
words_on k (Link i v ∷ xs) = words_on k xs
words_on k (Fence ∷ xs) = words_on k xs

pub words-on : (k : ℕ) (xs : List Step) → Each (OnMap k) xs → words_on k xs ≡ words xs
unfolding words_on collect word_in
words-on k [] h = refl
words-on k (Data u j wr ∷ xs) h = words-on k xs h.1
words-on k (Map m j v ∷ xs) h =
    cond-true (eqb m k) (j ∷ words_on k xs) (words_on k xs) (eq-eqb m k h.0) ∙ ap (λ (l : List ℕ). j ∷ l) (words-on k xs h.1)
words-on k (Link i v ∷ xs) h = words-on k xs h.1
words-on k (Fence ∷ xs) h = words-on k xs h.1

pub words_on-here : (m k j : ℕ) (v : Option ℕ) (xs : List Step) → m ≡ k → words_on k (Map m j v ∷ xs) ≡ j ∷ words_on k xs
unfolding words_on
words_on-here m k j v xs e = cond-true (eqb m k) (j ∷ words_on k xs) (words_on k xs) (eq-eqb m k e)

pub words_on-other : (m k j : ℕ) (v : Option ℕ) (xs : List Step) → m ≢ k → words_on k (Map m j v ∷ xs) ≡ words_on k xs
unfolding words_on
words_on-other m k j v xs n = cond-false (eqb m k) (j ∷ words_on k xs) (words_on k xs) (ne_eqb m k n)

-- a MAP step on map k does not store word w
abbrev pub Skips : ℕ → ℕ → Step → Type 0
Skips k w (Data u j wr) = Unit {0}
Skips k w (Map m j v) = m ≡ k → j ≢ w
Skips k w (Link i v) = Unit {0}
Skips k w Fence = Unit {0}

pub each-skips : (k w : ℕ) (xs : List Step) → (member w (words_on k xs) ≡ true → ⊥) → Each (Skips k w) xs
unfolding words_on
each-skips k w [] h = tt
each-skips k w (Data u j wr ∷ xs) h = (tt, each-skips k w xs h)
each-skips k w (Map m j v ∷ xs) h = (
  λ p q. h (ap (member w) (words_on-here m k j v xs p) ∙ subst (λ (z : ℕ). member w (z ∷ words_on k xs) ≡ true) (sym q) (member-head w w (words_on k xs) refl)),
  each-skips k w xs (λ q. h (later q (either (eqb m k)))),
)
  where
    later : member w (words_on k xs) ≡ true → (eqb m k ≡ true) ⊎ (eqb m k ≡ false) → member w (words_on k (Map m j v ∷ xs)) ≡ true
    later q (inl e) = ap (member w) (words_on-here m k j v xs (eqb-true m k e)) ∙ member-tail w j (words_on k xs) q
    later q (inr e) = ap (member w) (words_on-other m k j v xs (eqb-false m k e)) ∙ q
each-skips k w (Link i v ∷ xs) h = (tt, each-skips k w xs h)
each-skips k w (Fence ∷ xs) h = (tt, each-skips k w xs h)

-- the words of the MAP steps are words of a map
pub words-below : (g : Shape) (xs : List Step) → Each (InRange g) xs → (j : ℕ) → member j (words xs) ≡ true → j < map_words g
unfolding collect word_in
words-below g [] h j m = contradict m (member-nil j)
words-below g (Data u i wr ∷ xs) h j m = words-below g xs h.1 j m
words-below g (Map k i v ∷ xs) h j m = go (words-below g xs h.1 j) (member-cons j i (words xs) m)
  where
    go : (member j (words xs) ≡ true → j < map_words g) → (j ≡ i) ⊎ (member j (words xs) ≡ true) → j < map_words g
    go rest (inl e) = let b : i < map_words g = ltb-true i (map_words g) (and_right (ltb k g.m) (ltb i (map_words g)) (and_left (ltb k g.m && ltb i (map_words g)) (word_in_range g i v) h.0)) in omega arith
    go rest (inr q) = rest q
words-below g (Link i v ∷ xs) h j m = words-below g xs h.1 j m
words-below g (Fence ∷ xs) h j m = words-below g xs h.1 j m

-- a value that a MAP step in range stores, a size or a unit, is small
pub word_small : (g : Shape) (j : ℕ) (v : Option ℕ) → Limits g → word_in_range g j v ≡ true → value_below (max_chunk_bytes + 1) v ≡ true
unfolding word_in_range
word_small g j None l h = refl
word_small g j (Some w) l h =
    ⊎_elim
    (λ q. let e = sym (cond-true (ltb j (head g)) (is_size g w) (ltb w g.n) q) ∙ h in
    let a = leb-true w (g.p * unit_bytes) (and_right (leb 1 w) (leb w (g.p * unit_bytes)) e) in
    lt-ltb w (max_chunk_bytes + 1) (omega (arith, l.p-high)))
    (λ q. let e = sym (cond-false (ltb j (head g)) (is_size g w) (ltb w g.n) q) ∙ h in
    let a = ltb-true w g.n e in
    lt-ltb w (max_chunk_bytes + 1) (omega (arith, units-high g l)))
    (either (ltb j (head g)))

-- ---- the unit of a piece

pub unit_of-in : (j : ℕ) (xs : List Step) → member j (pieces xs) ≡ true → member (unit_of j xs) (units xs) ≡ true
unfolding unit_of collect piece_in unit_in
unit_of-in j [] m = contradict m (member-nil j)
unit_of-in j (Data u i wr ∷ xs) m = go (unit_of-in j xs) (either (eqb i j)) (member-cons j i (pieces xs) m)
  where
    go : (member j (pieces xs) ≡ true → member (unit_of j xs) (units xs) ≡ true) → (eqb i j ≡ true) ⊎ (eqb i j ≡ false)
        → (j ≡ i) ⊎ (member j (pieces xs) ≡ true)
        → member (cond (eqb i j) u (unit_of j xs)) (u ∷ units xs) ≡ true
    go rest (inl e) c = ap (λ (z : ℕ). member z (u ∷ units xs)) (cond-true (eqb i j) u (unit_of j xs) e) ∙ member-head u u (units xs) refl
    go rest (inr e) (inl q) = absurd (eqb-false i j e (sym q))
    go rest (inr e) (inr q) =
        ap (λ (z : ℕ). member z (u ∷ units xs)) (cond-false (eqb i j) u (unit_of j xs) e) ∙ member-tail (unit_of j xs) u (units xs) (rest q)
unit_of-in j (Map k w v ∷ xs) m = unit_of-in j xs m
unit_of-in j (Link i v ∷ xs) m = unit_of-in j xs m
unit_of-in j (Fence ∷ xs) m = unit_of-in j xs m

pub unit_of-none : (j : ℕ) (xs : List Step) → (member j (pieces xs) ≡ true → ⊥) → unit_of j xs ≡ X
unfolding unit_of collect piece_in
unit_of-none j [] n = refl
unit_of-none j (Data u i wr ∷ xs) n =
    cond-false (eqb i j) u (unit_of j xs)
    (ne_eqb i j (λ e. n (subst (λ (z : ℕ). member z (i ∷ pieces xs) ≡ true) e (member-head i i (pieces xs) refl))))
    ∙ unit_of-none j xs (λ m. n (member-tail j i (pieces xs) m))
unit_of-none j (Map k w v ∷ xs) n = unit_of-none j xs n
unit_of-none j (Link i v ∷ xs) n = unit_of-none j xs n
unit_of-none j (Fence ∷ xs) n = unit_of-none j xs n

-- the steps that start at a DATA step: its piece is on its unit, and another piece on a unit of the later steps
pub unit_of-here : (u i wr j : ℕ) (xs : List Step) → j ≡ i → unit_of j (Data u i wr ∷ xs) ≡ u
unfolding unit_of
unit_of-here u i wr j xs e = cond-true (eqb i j) u (unit_of j xs) (eq-eqb i j (sym e))

pub unit_of-later : (u i wr j : ℕ) (xs : List Step) → j ≢ i → unit_of j (Data u i wr ∷ xs) ≡ unit_of j xs
unfolding unit_of
unit_of-later u i wr j xs n = cond-false (eqb i j) u (unit_of j xs) (ne_eqb i j (λ e. n (sym e)))

-- different pieces are on different units
pub unit_of-one : (j k : ℕ) (xs : List Step) → distinct (units xs) ≡ true → member j (pieces xs) ≡ true → member k (pieces xs) ≡ true
    → unit_of j xs ≡ unit_of k xs → j ≡ k
unfolding unit_of collect piece_in unit_in
unit_of-one j k [] d p q e = contradict p (member-nil j)
unit_of-one j k (Data u i wr ∷ xs) d p q e =
    go (unit_of-one j k xs (distinct_tail u (units xs) d)) (either (eqb j i)) (either (eqb k i)) (member-cons j i (pieces xs) p) (member-cons k i (pieces xs) q)
  where
    fresh : (l : ℕ) → member l (pieces xs) ≡ true → u ≡ unit_of l xs → ⊥
    fresh l m f = contradict (ap (λ (z : ℕ). member z (units xs)) f ∙ unit_of-in l xs m) (distinct_head u (units xs) d)

    go : (member j (pieces xs) ≡ true → member k (pieces xs) ≡ true → unit_of j xs ≡ unit_of k xs → j ≡ k) → (eqb j i ≡ true) ⊎ (eqb j i ≡ false)
        → (eqb k i ≡ true) ⊎ (eqb k i ≡ false) → (j ≡ i) ⊎ (member j (pieces xs) ≡ true)
        → (k ≡ i) ⊎ (member k (pieces xs) ≡ true)
        → j ≡ k
    go rest (inl a) (inl b) c f = eqb-true j i a ∙ sym (eqb-true k i b)
    go rest (inl a) (inr b) c (inl f) = absurd (eqb-false k i b f)
    go rest (inl a) (inr b) c (inr f) =
        absurd (fresh k f (sym (unit_of-here u i wr j xs (eqb-true j i a)) ∙ e ∙ unit_of-later u i wr k xs (eqb-false k i b)))
    go rest (inr a) (inl b) (inl c) f = absurd (eqb-false j i a c)
    go rest (inr a) (inl b) (inr c) f =
        absurd (fresh j c (sym (unit_of-here u i wr k xs (eqb-true k i b)) ∙ sym e ∙ unit_of-later u i wr j xs (eqb-false j i a)))
    go rest (inr a) (inr b) (inl c) f = absurd (eqb-false j i a c)
    go rest (inr a) (inr b) (inr c) (inl f) = absurd (eqb-false k i b f)
    go rest (inr a) (inr b) (inr c) (inr f) =
        rest c f (sym (unit_of-later u i wr j xs (eqb-false j i a)) ∙ e ∙ unit_of-later u i wr k xs (eqb-false k i b))
unit_of-one j k (Map m w v ∷ xs) d p q e = unit_of-one j k xs d p q e
unit_of-one j k (Link i v ∷ xs) d p q e = unit_of-one j k xs d p q e
unit_of-one j k (Fence ∷ xs) d p q e = unit_of-one j k xs d p q e
