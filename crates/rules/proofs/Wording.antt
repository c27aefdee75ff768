-- Rules 1 to 4 to read against what is computed, both ways. Rule 3 is compared where rule 2 is kept, rule 4 where rule 3 is.
use Rattle.std.specs.Prelude.{Option, Some, None}
use Prim.Native.Nat.{ℕ, ◌+◌, ◌-◌, ◌*◌, ◌%◌, ◌<◌, ◌≤◌}
use mathlib.Core.Path.{◌≡◌, refl, sym, ap, ◌∙◌, subst}
use mathlib.Core.Logic.{⊎_elim}
use mathlib.Core.Bool.{Bool, true, false, ◌&&◌}
use mathlib.Core.List.{List, []}
use native.Mathlib.Omega.{arith}
use lib.ListN.{length}
use lib.Dec.{eqb, ltb, leb}
use borrow.Author.Tests.{eqb-true, eq-eqb, ltb-true, ltb-false, lt-ltb, le-ltb, leb-true, le-leb}
use Rattle.search.specs.Search.{below, all, member, first_or}
use Rattle.search.proofs.Bools.{contradict, either, cond-true, cond-false, and_left, and_right, and_intro, and-three}
use Rattle.search.proofs.Members.{member-nil, all-at, all-intro, first_member}
use Rattle.search.proofs.Ranges.{below-member, all-below-intro}
use Rattle.layout.specs.declared.Shape.{Shape}
use Rattle.layout.specs.Layout.{X, unit_bytes, units_for, head, map_words, after_head}
use Rattle.layout.proofs.Heads.{in_head, past_head, after-head}
use Rattle.steps.specs.declared.Step.{Step}
use Rattle.steps.specs.declared.Step.TheVariants.{Data, Map, Link, Fence}
use Rattle.steps.specs.declared.Request.{Request}
use Rattle.steps.specs.declared.Request.TheVariants.{Write, Discard}
use Rattle.steps.specs.Steps.{step_bytes, whole_steps, decode_at, word_of}
use Rattle.rules.specs.Rules.{max_steps, value_below, size_value, word_in_range, in_range, whole_in_range, rule1, piece_in, map_in, word_in, link_in, linked_in, pieces, maps, words, links, linked, unit_of, word_for, plan_map, once_each, every, data_fits, rule2, map_fits, maps_fit, rule3, links_are, rule4}
use Rattle.rules.specs.Reading.{At, ValueBelow, SizeValue, Bounded, Rule1, Pieces, Rule2, MapWords, Rule3, OneLink, Rule4}
use Rattle.rules.proofs.Places.{at_one, every-at, every-intro, collect-in, collect-at, collect-once, collect-distinct, at_length, single-place, collect-none, collect-few}
use Rattle.rules.proofs.StepLaws.{unit_of-none}
use Rattle.rules.proofs.Once.{once, once-tested, once-below, once-there}
use Rattle.rules.proofs.Dealing.{in_one, here, piece-in, piece-at, unit-at, data-told, data-tested, rule2-pieces, rule2-data}

-- ---- rule 1

value-told : (n : ℕ) (v : Option ℕ) → value_below n v ≡ true → ValueBelow n v
value-told n (Some w) h = ltb-true w n h
value-told n None h = tt

value-tested : (n : ℕ) (v : Option ℕ) → ValueBelow n v → value_below n v ≡ true
value-tested n (Some w) h = lt-ltb w n h
value-tested n None h = refl

size-told : (g : Shape) (v : Option ℕ) → size_value g v ≡ true → SizeValue g v
size-told g (Some w) h =
    let p = g.p * unit_bytes in (leb-true 1 w (and_left (leb 1 w) (leb w p) h), leb-true w p (and_right (leb 1 w) (leb w p) h))
size-told g None h = contradict h refl

size-tested : (g : Shape) (v : Option ℕ) → SizeValue g v → size_value g v ≡ true
size-tested g (Some w) h = let p = g.p * unit_bytes in and_intro (leb 1 w) (leb w p) (le-leb 1 w h.0) (le-leb w p h.1)
size-tested g None h = absurd h

word-told : (g : Shape) (j : ℕ) (v : Option ℕ) → word_in_range g j v ≡ true → (j < head g → SizeValue g v) × (head g ≤ j → ValueBelow g.n v)
unfolding word_in_range
word-told g j v h = (
  λ l. size-told g v (sym (cond-true (ltb j (head g)) (size_value g v) (value_below g.n v) (lt-ltb j (head g) l)) ∙ h),
  λ l. value-told g.n v (sym (cond-false (ltb j (head g)) (size_value g v) (value_below g.n v) (le-ltb j (head g) l)) ∙ h),
)

word-tested : (g : Shape) (j : ℕ) (v : Option ℕ) → (j < head g → SizeValue g v) → (head g ≤ j → ValueBelow g.n v) → word_in_range g j v ≡ true
unfolding word_in_range
word-tested g j v a b =
    ⊎_elim (λ l. cond-true (ltb j (head g)) (size_value g v) (value_below g.n v) l ∙ size-tested g v (a (ltb-true j (head g) l)))
    (λ l. cond-false (ltb j (head g)) (size_value g v) (value_below g.n v) l ∙ value-tested g.n v (b (ltb-false j (head g) l)))
    (either (ltb j (head g)))

bounds-told : (g : Shape) (x : Step) → in_range g x ≡ true → Bounded g x
bounds-told g (Data u j w) h =
    let a = and-three (ltb u g.n) (ltb j g.p) (eqb w 0) h in (ltb-true u g.n a.0, ltb-true j g.p a.1, eqb-true w 0 a.2)
bounds-told g (Map k j v) h =
    let a = and-three (ltb k g.m) (ltb j (map_words g)) (word_in_range g j v) h in
    let w = word-told g j v a.2 in
    (ltb-true k g.m a.0, ltb-true j (map_words g) a.1, w.0, w.1)
bounds-told g (Link i v) h =
    (ltb-true i g.c (and_left (ltb i g.c) (value_below g.m v) h), value-told g.m v (and_right (ltb i g.c) (value_below g.m v) h))
bounds-told g Fence h = tt

bounds-tested : (g : Shape) (x : Step) → Bounded g x → in_range g x ≡ true
bounds-tested g (Data u j w) h =
    and_intro (ltb u g.n && ltb j g.p) (eqb w 0) (and_intro (ltb u g.n) (ltb j g.p) (lt-ltb u g.n h.0) (lt-ltb j g.p h.1))
    (eq-eqb w 0 h.2)
bounds-tested g (Map k j v) h =
    and_intro (ltb k g.m && ltb j (map_words g)) (word_in_range g j v)
    (and_intro (ltb k g.m) (ltb j (map_words g)) (lt-ltb k g.m h.0) (lt-ltb j (map_words g) h.1)) (word-tested g j v h.2 h.3)
bounds-tested g (Link i v) h = and_intro (ltb i g.c) (value_below g.m v) (lt-ltb i g.c h.0) (value-tested g.m v h.1)
bounds-tested g Fence h = refl

whole-told : (g : Shape) (d : Option Step) → whole_in_range g d ≡ true → (x : Step) × (d ≡ Some x) × Bounded g x
whole-told g (Some x) h = (x, refl, bounds-told g x h)
whole-told g None h = contradict h refl

module _ (g : Shape) (plan : List ℕ) where
  pub rule1-told : rule1 g plan ≡ true → Rule1 g plan
  unfolding rule1
  rule1-told h =
      let n = whole_steps plan in
      let test : ℕ → Bool = λ i. whole_in_range g (decode_at plan i) in
      let a = and-three (eqb (length plan % step_bytes) 0) (leb n max_steps) (all test (below n)) h in
      record {
        whole = let e = eqb-true (length plan % step_bytes) 0 a.0 in omega arith;
        few = leb-true n max_steps a.1;
        steps = λ i l. whole-told g (decode_at plan i) (all-at test (below n) a.2 i (below-member i n l));
      }

  pub rule1-tested : Rule1 g plan → rule1 g plan ≡ true
  unfolding rule1
  rule1-tested h =
      let n = whole_steps plan in
      let test : ℕ → Bool = λ i. whole_in_range g (decode_at plan i) in
      let e = h.whole in
      and_intro (eqb (length plan % step_bytes) 0 && leb n max_steps) (all test (below n))
      (and_intro (eqb (length plan % step_bytes) 0) (leb n max_steps) (eq-eqb (length plan % step_bytes) 0 (omega arith)) (le-leb n max_steps h.few))
      (all-below-intro test n (λ i l. let s = h.steps i l in ap (whole_in_range g) s.1 ∙ bounds-tested g s.0 s.2))

-- ---- the numbers that each kind of step gives

map-in : (x : Step) (n : ℕ) → member n (map_in x) ≡ true → (j : ℕ) × (v : Option ℕ) × (x ≡ Map n j v)
unfolding map_in
map-in (Data u j w) n m = contradict m (member-nil n)
map-in (Map k j v) n m = (j, v, ap (λ (z : ℕ). Map z j v) (sym (in_one n k m)))
map-in (Link i v) n m = contradict m (member-nil n)
map-in Fence n m = contradict m (member-nil n)

word-in : (x : Step) (n : ℕ) → member n (word_in x) ≡ true → (k : ℕ) × (v : Option ℕ) × (x ≡ Map k n v)
unfolding word_in
word-in (Data u j w) n m = contradict m (member-nil n)
word-in (Map k j v) n m = (k, v, ap (λ (z : ℕ). Map k z v) (sym (in_one n j m)))
word-in (Link i v) n m = contradict m (member-nil n)
word-in Fence n m = contradict m (member-nil n)

link-in : (x : Step) (n : ℕ) → member n (link_in x) ≡ true → (v : Option ℕ) × (x ≡ Link n v)
unfolding link_in
link-in (Data u j w) n m = contradict m (member-nil n)
link-in (Map k j v) n m = contradict m (member-nil n)
link-in (Link i v) n m = (v, ap (λ (z : ℕ). Link z v) (sym (in_one n i m)))
link-in Fence n m = contradict m (member-nil n)

linked-in : (x : Step) (n : ℕ) → member n (linked_in x) ≡ true → (i : ℕ) × (v : Option ℕ) × (x ≡ Link i v) × (n ≡ word_of v)
unfolding linked_in
linked-in (Data u j w) n m = contradict m (member-nil n)
linked-in (Map k j v) n m = contradict m (member-nil n)
linked-in (Link i v) n m = (i, v, refl, in_one n (word_of v) m)
linked-in Fence n m = contradict m (member-nil n)

-- each gives at most one number
few : (x : Step) → (length (piece_in x) ≤ 1) × (length (word_in x) ≤ 1) × (length (link_in x) ≤ 1)
unfolding piece_in word_in link_in
few (Data u j w) = (omega arith, omega arith, omega arith)
few (Map k j v) = (omega arith, omega arith, omega arith)
few (Link i v) = (omega arith, omega arith, omega arith)
few Fence = (omega arith, omega arith, omega arith)

-- a step that gives a LINK's number is a LINK
link-some : (x : Step) → 1 ≤ length (link_in x) → (i : ℕ) × (v : Option ℕ) × (x ≡ Link i v)
unfolding link_in
link-some (Data u j w) h = absurd (omega arith)
link-some (Map k j v) h = absurd (omega arith)
link-some (Link i v) h = (i, v, refl)
link-some Fence h = absurd (omega arith)

one_link : (i : ℕ) (v : Option ℕ) → length (link_in (Link i v)) ≡ 1
unfolding link_in
one_link i v = refl

-- the MAP step of a word
word_at : (xs : List Step) (j : ℕ) → member j (words xs) ≡ true → (i : ℕ) × (k : ℕ) × (v : Option ℕ) × At xs i (Map k j v)
word_at xs j m = let r = collect-at word_in xs j m in let d = word-in r.1 j r.3 in (r.0, d.0, d.1, subst (At xs r.0) d.2 r.2)

-- ---- rule 2

module _ (free : List ℕ) (xs : List Step) where
  pieces-told : (k : ℕ) → once_each k (pieces xs) ≡ true → every (data_fits free) xs ≡ true → Pieces free k xs
  unfolding piece_in
  pieces-told k a f =
      let p = once k (pieces xs) a in
      record {
        each = λ j l. piece-at xs j (once-there k (pieces xs) a j l);
        once = λ i i' u u' j w w' s t. collect-once piece_in xs i i' (Data u j w) (Data u' j w') j p.1 s t (here j) (here j);
        no_other = λ i u j w s. once-below k (pieces xs) a j (collect-in piece_in xs i (Data u j w) j s (here j));
        lowest = data-told free xs f;
      }

  pieces-tested : (k : ℕ) → Pieces free k xs → (once_each k (pieces xs) && every (data_fits free) xs) ≡ true
  unfolding piece_in
  pieces-tested k h =
      let p = collect-distinct piece_in (λ x. (few x).0) xs (λ i j n x y s t m q.
      let d = piece-in x n m in
      let e = piece-in y n q in
      h.once i j d.0 e.0 n d.1 e.1 (subst (At xs i) d.2 s) (subst (At xs j) e.2 t)) in
      and_intro (once_each k (pieces xs)) (every (data_fits free) xs)
      (once-tested k (pieces xs) p
      (λ j m. let r = piece-at xs j m in h.no_other r.0 r.1 j r.2 r.3)
      (λ j l. let r = h.each j l in collect-in piece_in xs r.0 (Data r.1 j r.2) j r.3 (here j)))
      (data-tested free xs h.lowest)

  pub rule2-told : (r : Request) → rule2 free r xs ≡ true → Rule2 free r xs
  rule2-told (Write c size) h = pieces-told (units_for size) (rule2-pieces free xs (Write c size) h) (rule2-data free xs (Write c size) h)
  rule2-told (Discard c) h = λ i u j w s.
      let b = (pieces-told 0 (rule2-pieces free xs (Discard c) h) (rule2-data free xs (Discard c) h)).no_other i u j w s in omega arith

  pub rule2-tested : (r : Request) → Rule2 free r xs → rule2 free r xs ≡ true
  unfolding rule2
  rule2-tested (Write c size) h = pieces-tested (units_for size) h
  rule2-tested (Discard c) h =
      pieces-tested 0 (record {
        each = λ j l. absurd (omega arith);
        once = λ i i' u u' j w w' s t. absurd (h i u j w s);
        no_other = λ i u j w s. absurd (h i u j w s);
        lowest = λ i u j w s. absurd (h i u j w s);
      })

-- ---- rule 3

-- a MAP step, where there is one, is on the plan's map
on-plan-map : (xs : List Step) (i m j : ℕ) (v : Option ℕ) → At xs i (Map m j v) → (i' : ℕ) × (j' : ℕ) × (v' : Option ℕ) × At xs i' (Map (plan_map xs) j' v')
unfolding plan_map map_in
on-plan-map xs i m j v h =
    let some : 1 ≤ length (maps xs) = at_length map_in xs i (Map m j v) h in
    let r = collect-at map_in xs (first_or X (maps xs)) (first_member X (maps xs) (omega arith)) in
    let d = map-in r.1 (first_or X (maps xs)) r.3 in
    (r.0, d.0, d.1, subst (At xs r.0) d.2 r.2)

module _ (free : ℕ → Bool) (xs : List Step) where
  module _ (p heads size k : ℕ) (ps : once_each k (pieces xs) ≡ true) where
    abbrev word : ℕ → ℕ
    word = after_head heads size (λ j. unit_of j xs)

    words-told : (once_each p (words xs) && maps_fit (plan_map xs) free word xs) ≡ true → MapWords p heads size k free xs
    unfolding word_in map_fits
    words-told h =
        let fits = maps_fit (plan_map xs) free word xs in
        let a = and_left (once_each p (words xs)) fits h in
        let f : (i m j : ℕ) (v : Option ℕ) → At xs i (Map m j v) → (eqb (plan_map xs) m ≡ true) × (free m ≡ true) × (eqb (word_of v) (word j) ≡ true) =
        λ i m j v s.
        and-three (eqb (plan_map xs) m) (free m) (eqb (word_of v) (word j))
        (every-at (map_fits (plan_map xs) free word) xs i (Map m j v) (and_right (once_each p (words xs)) fits h) s) in
        record {
          one_map = λ i i' m m' j j' v v' s t. sym (eqb-true (plan_map xs) m (f i m j v s).0) ∙ eqb-true (plan_map xs) m' (f i' m' j' v' t).0;
          free-map = λ i m j v s. (f i m j v s).1;
          each = λ j l. word_at xs j (once-there p (words xs) a j l);
          once = λ i i' m m' j v v' s t. collect-once word_in xs i i' (Map m j v) (Map m' j v') j (once p (words xs) a).1 s t (here j) (here j);
          no_other = λ i m j v s. once-below p (words xs) a j (collect-in word_in xs i (Map m j v) j s (here j));
          sizes = λ i m j v l s. eqb-true (word_of v) (word j) (f i m j v s).2 ∙ in_head heads size (λ a. unit_of a xs) j l;
          units = λ i i' m j u w v l s t.
              eqb-true (word_of v) (word (heads + j)) (f i m (heads + j) v s).2 ∙ after-head heads size (λ a. unit_of a xs) j
              ∙ unit-at xs i' u j w (once k (pieces xs) ps).1 t;
          rest = λ i m j v l s.
              eqb-true (word_of v) (word (heads + j)) (f i m (heads + j) v s).2
              ∙ after-head heads size (λ a. unit_of a xs) j
              ∙ unit_of-none j xs (λ q. let b = once-below k (pieces xs) ps j q in omega arith);
        }

    module _ (h : MapWords p heads size k free xs) where
      unit-stored : (i m j : ℕ) (v : Option ℕ) → At xs i (Map m (heads + j) v) → word_of v ≡ unit_of j xs
      unit-stored i m j v s =
          ⊎_elim
          (λ l. let b = ltb-true j k l in
          let r = piece-at xs j (once-there k (pieces xs) ps j b) in
          h.units i r.0 m j r.1 r.2 v b s r.3 ∙ sym (unit-at xs r.0 r.1 j r.2 (once k (pieces xs) ps).1 r.3))
          (λ l. let b = ltb-false j k l in
          h.rest i m j v (omega arith) s ∙ sym (unit_of-none j xs (λ q. let o = once-below k (pieces xs) ps j q in omega arith)))
          (either (ltb j k))

      stores : (i m j : ℕ) (v : Option ℕ) → At xs i (Map m j v) → word_of v ≡ word j
      stores i m j v s =
          ⊎_elim
          (λ l. let b = ltb-true j heads l in h.sizes i m j v b s ∙ sym (in_head heads size (λ a. unit_of a xs) j b))
          (λ l. let b = ltb-false j heads l in
          unit-stored i m (j - heads) v (subst (λ (a : ℕ). At xs i (Map m a v)) (omega arith) s) ∙ sym (past_head heads size (λ a. unit_of a xs) j b))
          (either (ltb j heads))

      fits : (i : ℕ) (x : Step) → At xs i x → map_fits (plan_map xs) free word x ≡ true
      unfolding map_fits
      fits i (Data u j w) s = refl
      fits i (Map m j v) s =
          let r = on-plan-map xs i m j v s in
          and_intro (eqb (plan_map xs) m && free m) (eqb (word_of v) (word j))
          (and_intro (eqb (plan_map xs) m) (free m) (eq-eqb (plan_map xs) m (h.one_map r.0 i (plan_map xs) m r.1 j r.2 v r.3 s)) (h.free-map i m j v s))
          (eq-eqb (word_of v) (word j) (stores i m j v s))
      fits i (Link c v) s = refl
      fits i Fence s = refl

      words-tested : (once_each p (words xs) && maps_fit (plan_map xs) free word xs) ≡ true
      unfolding word_in
      words-tested =
          let d = collect-distinct word_in (λ x. (few x).1) xs (λ i j n x y s t m q.
          let a = word-in x n m in
          let b = word-in y n q in
          h.once i j a.0 b.0 n a.1 b.1 (subst (At xs i) a.2 s) (subst (At xs j) b.2 t)) in
          and_intro (once_each p (words xs)) (maps_fit (plan_map xs) free word xs)
          (once-tested p (words xs) d
          (λ j m. let r = word_at xs j m in h.no_other r.0 r.1 j r.2 r.3)
          (λ j l. let r = h.each j l in collect-in word_in xs r.0 (Map r.1 j r.2) j r.3 (here j)))
          (every-intro (map_fits (plan_map xs) free word) xs fits)

  module _ (g : Shape) (us : List ℕ) where
    pub rule3-told : (r : Request) → rule2 us r xs ≡ true → rule3 g free r xs ≡ true → Rule3 g free r xs
    unfolding rule3
    rule3-told (Write c size) r2 h = words-told (map_words g) (head g) size (units_for size) (rule2-pieces us xs (Write c size) r2) h
    rule3-told (Discard c) r2 h = λ i m j v s. let b = (words-told 0 (head g) 0 0 (rule2-pieces us xs (Discard c) r2) h).no_other i m j v s in omega arith

    pub rule3-tested : (r : Request) → rule2 us r xs ≡ true → Rule3 g free r xs → rule3 g free r xs ≡ true
    unfolding rule3
    rule3-tested (Write c size) r2 h = words-tested (map_words g) (head g) size (units_for size) (rule2-pieces us xs (Write c size) r2) h
    rule3-tested (Discard c) r2 h =
        words-tested 0 (head g) 0 0 (rule2-pieces us xs (Discard c) r2) (record {
          one_map = λ i i' m m' j j' v v' s t. absurd (h i m j v s);
          free-map = λ i m j v s. absurd (h i m j v s);
          each = λ j l. absurd (omega arith);
          once = λ i i' m m' j v v' s t. absurd (h i m j v s);
          no_other = λ i m j v s. absurd (h i m j v s);
          sizes = λ i m j v l s. absurd (h i m j v s);
          units = λ i i' m j u w v l s t. absurd (h i m (head g + j) v s);
          rest = λ i m j v l s. absurd (h i m (head g + j) v s);
        })

-- ---- rule 4

module _ (xs : List Step) where
  module _ (n c w : ℕ) (h : links_are n c w xs ≡ true) where
    parts : (length (links xs) ≡ n) × (all (eqb c) (links xs) ≡ true) × (all (eqb w) (linked xs) ≡ true)
    unfolding links_are
    parts =
        let a = and-three (eqb (length (links xs)) n) (all (eqb c) (links xs)) (all (eqb w) (linked xs)) h in
        (eqb-true (length (links xs)) n a.0, a.1, a.2)

    link-told : (i a : ℕ) (v : Option ℕ) → At xs i (Link a v) → (c ≡ a) × (w ≡ word_of v)
    unfolding link_in linked_in
    link-told i a v s = (
      eqb-true c a (all-at (eqb c) (links xs) parts.1 a (collect-in link_in xs i (Link a v) a s (here a))),
      eqb-true w (word_of v) (all-at (eqb w) (linked xs) parts.2 (word_of v) (collect-in linked_in xs i (Link a v) (word_of v) s (here (word_of v)))),
    )

    some-link : n ≡ 1 → (i : ℕ) × (v : Option ℕ) × At xs i (Link c v)
    some-link e =
        let r = collect-at link_in xs (first_or 0 (links xs)) (first_member 0 (links xs) (let l = parts.0 in omega arith)) in
        let d = link-in r.1 (first_or 0 (links xs)) r.3 in
        let t : At xs r.0 (Link (first_or 0 (links xs)) d.0) = subst (At xs r.0) d.1 r.2 in
        (r.0, d.0, subst (λ (a : ℕ). At xs r.0 (Link a d.0)) (sym (link-told r.0 (first_or 0 (links xs)) d.0 t).0) t)

    link-alone : n ≡ 1 → OneLink c xs
    unfolding link_in
    link-alone e = record {
      there = some-link e;
      alone = λ i i' a a' v v' s t. single-place link_in xs i i' (Link a v) (Link a' v') (let l = parts.0 in omega arith) s t (omega arith) (omega arith);
    }

  links-tested : (c w : ℕ) → OneLink c xs → ((i a : ℕ) (v : Option ℕ) → At xs i (Link a v) → word_of v ≡ w) → links_are 1 c w xs ≡ true
  unfolding links_are link_in linked_in
  links-tested c w o h =
      let few = collect-few link_in (λ x. (few x).2) xs (λ i j x y s t p q.
      let a = link-some x p in
      let b = link-some y q in
      o.alone i j a.0 b.0 a.1 b.1 (subst (At xs i) a.2 s) (subst (At xs j) b.2 t)) in
      let y = o.there in
      let some : 1 ≤ length (links xs) = at_length link_in xs y.0 (Link c y.1) y.2 in
      and_intro (eqb (length (links xs)) 1 && all (eqb c) (links xs)) (all (eqb w) (linked xs))
      (and_intro (eqb (length (links xs)) 1) (all (eqb c) (links xs)) (eq-eqb (length (links xs)) 1 (omega arith))
      (all-intro (eqb c) (links xs) (λ n m.
      let r = collect-at link_in xs n m in
      let d = link-in r.1 n r.3 in
      let t : At xs r.0 (Link n d.0) = subst (At xs r.0) d.1 r.2 in
      let place = o.alone y.0 r.0 c n y.1 d.0 y.2 t in
      eq-eqb c n (same-chunk c n y.1 d.0 (at_one xs r.0 (Link c y.1) (Link n d.0) (subst (λ (i : ℕ). At xs i (Link c y.1)) place y.2) t)))))
      (all-intro (eqb w) (linked xs) (λ n m.
      let r = collect-at linked_in xs n m in
      let d = linked-in r.1 n r.3 in
      eq-eqb w n (sym (h r.0 d.0 d.1 (subst (At xs r.0) d.2 r.2)) ∙ sym d.3)))
    where
      same-chunk : (a b : ℕ) (v v' : Option ℕ) → Link a v ≡ Link b v' → a ≡ b
      same-chunk a b v v' e = cc

  none-linked : ((i a : ℕ) (v : Option ℕ) → At xs i (Link a v) → ⊥) → (i : ℕ) (x : Step) → At xs i x → (link_in x ≡ []) × (linked_in x ≡ [])
  unfolding link_in linked_in
  none-linked h i (Data u j w) s = (refl, refl)
  none-linked h i (Map k j v) s = (refl, refl)
  none-linked h i (Link a v) s = absurd (h i a v s)
  none-linked h i Fence s = (refl, refl)

  no-links : (c w : ℕ) → ((i a : ℕ) (v : Option ℕ) → At xs i (Link a v) → ⊥) → links_are 0 c w xs ≡ true
  unfolding links_are all
  no-links c w h =
      rw (collect-none link_in xs (λ i x s. (none-linked h i x s).0), collect-none linked_in xs (λ i x s. (none-linked h i x s).1)) refl

  -- a write's map has words, so that the plan is on a map
  module _ (g : Shape) (some : 1 ≤ map_words g) (free : ℕ → Bool) where
    has-map : (c size : ℕ) → rule3 g free (Write c size) xs ≡ true → (i : ℕ) × (j : ℕ) × (v : Option ℕ) × At xs i (Map (plan_map xs) j v)
    unfolding rule3
    has-map c size h =
        let a = and_left (once_each (map_words g) (words xs)) (maps_fit (plan_map xs) free (word_for g size xs) xs) h in
        let r = word_at xs 0 (once-there (map_words g) (words xs) a 0 (omega arith)) in
        on-plan-map xs r.0 r.1 0 r.2 r.3

    all-on-map : (c size : ℕ) → rule3 g free (Write c size) xs ≡ true → (i m j : ℕ) (v : Option ℕ) → At xs i (Map m j v) → plan_map xs ≡ m
    unfolding rule3 map_fits
    all-on-map c size h i m j v s =
        let fits = maps_fit (plan_map xs) free (word_for g size xs) xs in
        let f = every-at (map_fits (plan_map xs) free (word_for g size xs)) xs i (Map m j v) (and_right (once_each (map_words g) (words xs)) fits h) s in
        eqb-true (plan_map xs) m (and-three (eqb (plan_map xs) m) (free m) (eqb (word_of v) (word_for g size xs j)) f).0

    pub rule4-told : (r : Request) (b : Bool) → rule3 g free r xs ≡ true → rule4 b r xs ≡ true → Rule4 r b xs
    unfolding rule4
    rule4-told (Write c size) b r3 h = (
      link-alone 1 c (plan_map xs) h refl,
      λ i i' a m j v v' s t. sym (link-told 1 c (plan_map xs) h i a v s).1 ∙ all-on-map c size r3 i' m j v' t,
    )
    rule4-told (Discard c) true r3 h = (link-alone 1 c X h refl, λ i a v s. sym (link-told 1 c X h i a v s).1)
    rule4-told (Discard c) false r3 h =
        λ i a v s. let l = at_length link_in xs i (Link a v) s in let e = (parts 0 c X h).0 in let o = one_link a v in omega arith

    pub rule4-tested : (r : Request) (b : Bool) → rule3 g free r xs ≡ true → Rule4 r b xs → rule4 b r xs ≡ true
    unfolding rule4
    rule4-tested (Write c size) b r3 h =
        let m = has-map c size r3 in
        links-tested c (plan_map xs) h.0 (λ i a v s. h.1 i m.0 a (plan_map xs) m.1 v m.2 s m.3)
    rule4-tested (Discard c) true r3 h = links-tested c X h.0 h.1
    rule4-tested (Discard c) false r3 h = no-links c X h
