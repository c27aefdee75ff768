-- The planner's own plans keep every rule of the checker.
use Rattle.std.specs.Prelude.{Option, Some, None, Ok}
use Prim.Native.Nat.{ℕ, ◌+◌, ◌-◌, ◌*◌, ◌%◌, ◌≤◌, ◌<◌}
use native.Mathlib.Omega.{arith}
use mathlib.Core.Path.{◌≡◌, refl, ap, sym, ◌∙◌, fun_ext}
use mathlib.Core.Logic.{⊎_elim}
use mathlib.Core.Bool.{Bool, true, false, ◌&&◌}
use mathlib.Core.List.{List, [], ◌∷◌, ◌++◌, map, map-id, append_assoc, append-nil}
use lib.ListN.{length, get_or, take}
use lib.Seq.{length-take-le, get_or-take}
use lib.Dec.{eqb, ltb, leb}
use borrow.Author.Tests.{lt-ltb, ltb-true, ltb-false, le-leb, leb-true, eq-eqb, eqb-true}
use Rattle.search.specs.Search.{below, all, distinct, first_or}
use Rattle.search.proofs.Bools.{either, and_left, and_right, and_intro, cond-true, cond-false}
use Rattle.search.proofs.Members.{all_first}
use Rattle.search.proofs.Kept.{member-keep, all-kept}
use Rattle.search.proofs.Distinct.{distinct_from}
use Rattle.search.proofs.Ranges.{all-below-intro, length_from}
use Rattle.search.proofs.Mapping.{map-places, first-constant}
use Rattle.layout.specs.declared.Shape.{Shape}
use Rattle.layout.specs.Layout.{is_size, max_chunk_bytes, X, unit_bytes, units_for, head, map_words, after_head, shape_of}
use Rattle.layout.proofs.Heads.{in_head, past_head, after-ap}
use Rattle.layout.specs.Shaped.{Limits}
use Rattle.layout.proofs.Limits.{fitting-limits, units-high, words-high, map-words}
use Rattle.image.specs.Soundness.{mapped}
use Rattle.image.specs.Claims.{Tested}
use Rattle.image.specs.Free.{free_unit, free_map, free_units, free_maps}
use Rattle.image.proofs.Room.{free_unit-below, free_map-below, some-map-free}
use Rattle.steps.specs.declared.Step.{Step}
use Rattle.steps.specs.declared.Step.TheVariants.{Data, Map, Link, Fence}
use Rattle.steps.specs.declared.Request.{Request}
use Rattle.steps.specs.declared.Request.TheVariants.{Write, Discard}
use Rattle.steps.specs.Steps.{step_bytes, need_of, good_chunk, good_size, word_of, decode_at, steps_of, encode_all}
use Rattle.steps.specs.Encodable.{Each, ValueFits, Fits}
use Rattle.steps.proofs.Codec.{each_map, decoded, whole-encoded, steps-encoded, length-encoded}
use Rattle.rules.specs.Rules.{max_steps, collect, every, piece_in, unit_in, map_in, word_in, link_in, linked_in, unit_of, word_for, data_fits, map_fits, plan_map, ends_in, before_link, after_link, once_each, links_are, size_value, value_below, word_in_range, in_range, whole_in_range, rule1, rule2, rule3, rule4, rule5, known_of, checked, pieces, units, maps, words, links, linked}
use Rattle.rules.specs.Reading.{At}
use Rattle.rules.proofs.Places.{at-get_or, get_d_at, at-below, at-member}
use Rattle.rules.proofs.StepLaws.{word_small}
use Rattle.rules.proofs.Accepting.{Unbroken, accepted}
use Rattle.planner.specs.Planner.{data_step, data_steps, unit_value, value_for, map_step, map_steps, link_steps, write_steps, plan_of}
use Rattle.planner.proofs.Storing.{length-write_steps}
use Rattle.planner.proofs.StepLists.{passed_over, drawn, every-from, before-link, each_from, unit-here, unit-past, ends-in-fence}

-- ---- rule 1: a list of steps in range, at most 64 of them, and its bytes

abbrev InRange : Shape → Step → Type 0
InRange g x = in_range g x ≡ true

module _ (g : Shape) (l : Limits g) where
  -- a step in range has bytes of its own: the limits leave room for X in a field
  value-small : (n : ℕ) (v : Option ℕ) → n < 4294967295 → value_below n v ≡ true → ValueFits v
  value-small n (Some a) h e = let b = ltb-true a n e in omega arith
  value-small n None h e = tt

  small : (x : Step) → InRange g x → Fits x
  small (Data u j w) e =
      let both = and_left (ltb u g.n && ltb j g.p) (eqb w 0) e in
      let a = ltb-true u g.n (and_left (ltb u g.n) (ltb j g.p) both) in
      let b = ltb-true j g.p (and_right (ltb u g.n) (ltb j g.p) both) in
      let z = eqb-true w 0 (and_right (ltb u g.n && ltb j g.p) (eqb w 0) e) in
      (omega (arith, units-high g l), omega (arith, l.p-high), omega arith)
  small (Map k j v) e =
      let both = and_left (ltb k g.m && ltb j (map_words g)) (word_in_range g j v) e in
      let a = ltb-true k g.m (and_left (ltb k g.m) (ltb j (map_words g)) both) in
      let b = ltb-true j (map_words g) (and_right (ltb k g.m) (ltb j (map_words g)) both) in (
        omega (arith, l.m-high, l.c-high),
        omega (arith, words-high g l),
        value-small (max_chunk_bytes + 1) v (omega arith) (word_small g j v l (and_right (ltb k g.m && ltb j (map_words g)) (word_in_range g j v) e)),
      )
  small (Link i v) e =
      let a = ltb-true i g.c (and_left (ltb i g.c) (value_below g.m v) e) in
      (omega (arith, l.c-high), value-small g.m v (omega (arith, l.m-high, l.c-high)) (and_right (ltb i g.c) (value_below g.m v) e))
  small Fence e = tt

  all_whole :
      (f : ℕ → Option Step) (is : List ℕ) (xs : List Step) → map f is ≡ map Some xs → Each (InRange g) xs → all (λ i. whole_in_range g (f i)) is ≡ true
  unfolding all
  all_whole f [] xs e r = refl
  all_whole f (i ∷ is) [] e r = absurd (let z : ◌≡◌ {A = ℕ} 0 1 = cc in omega arith)
  all_whole f (i ∷ is) (x ∷ xs) e r =
      let here : f i ≡ Some x = cc in
      let rest : map f is ≡ map Some xs = cc in
      rw here (and_intro (in_range g x) (all (λ k. whole_in_range g (f k)) is) r.0 (all_whole f is xs rest r.1))

  module _ (xs : List Step) (r : Each (InRange g) xs) where
    fits : Each Fits xs
    fits = each_map (InRange g) Fits xs small r

    -- its bytes are read back as the steps
    read_back : steps_of (encode_all xs) ≡ xs
    read_back = steps-encoded xs fits

    rule1-kept : length xs ≤ max_steps → rule1 g (encode_all xs) ≡ true
    unfolding rule1
    rule1-kept h =
        let long = length-encoded xs in
        let even : length (encode_all xs) % step_bytes ≡ 0 = omega arith in
        rw (even, whole-encoded xs, le-leb (length xs) max_steps h) (all_whole (decode_at (encode_all xs)) (below (length xs)) xs (decoded xs fits) r)

-- each number below n once
once-each : (n : ℕ) → once_each n (below n) ≡ true
unfolding once_each
once-each n = rw (length_from 0 n, eq-eqb n n refl, distinct_from 0 n, all-below-intro (λ j. ltb j n) n (λ j h. lt-ltb j n h))

-- ---- rules 1 to 5 for a write, on the lowest free units and a free map

module _ (s : List ℕ) (i size : ℕ) (us : List ℕ) (m : ℕ) (l : Limits (shape_of s)) (chunk : i < (shape_of s).c)
    (need : length us ≡ units_for size) (few : units_for size ≤ (shape_of s).p) (lowest : (j : ℕ) → j < length us → At (free_units s) j (get_or us j 0))
    (mfree : free_map s m ≡ true) (sized : is_size (shape_of s) size ≡ true) where
  abbrev g : Shape
  g = shape_of s

  abbrev k : ℕ
  k = length us

  abbrev p : ℕ
  p = map_words (shape_of s)

  abbrev xs : List Step
  xs = write_steps (head g) size us m p i

  -- the steps after the DATA steps
  abbrev later : List Step
  later = map (map_step (head g) size m us) (below p) ++ link_steps i m

  flat : xs ≡ map (data_step us) (below k) ++ later
  unfolding write_steps data_steps map_steps
  flat = refl

  unit-below : (j : ℕ) → j < k → get_or us j 0 < g.n
  unfolding free_units
  unit-below j h =
      let m = at-member (free_units s) j (get_or us j 0) (lowest j h) in
      free_unit-below s (get_or us j 0) (member-keep (free_unit s) (get_or us j 0) (below g.n) m).1

  -- unit word j of the map as it is stored
  word-unit : (j : ℕ) → j < k → word_of (unit_value us j) ≡ get_or us j 0
  unfolding unit_value
  word-unit j h = rw (lt-ltb j k h)

  word-past : (j : ℕ) → ltb j k ≡ false → word_of (unit_value us j) ≡ X
  unfolding unit_value
  word-past j h = rw h

  unit-in : (j : ℕ) → value_below g.n (unit_value us j) ≡ true
  unfolding unit_value
  unit-in j = ⊎_elim (λ e. rw e (lt-ltb (get_or us j 0) g.n (unit-below j (ltb-true j k e)))) (λ e. rw e) (either (ltb j k))

  size_word : (j : ℕ) (v : Option ℕ) → ltb j (head g) ≡ true → word_in_range g j v ≡ size_value g v
  unfolding word_in_range
  size_word j v e = cond-true (ltb j (head g)) (size_value g v) (value_below g.n v) e

  unit-word : (j : ℕ) (v : Option ℕ) → ltb j (head g) ≡ false → word_in_range g j v ≡ value_below g.n v
  unfolding word_in_range
  unit-word j v e = cond-false (ltb j (head g)) (size_value g v) (value_below g.n v) e

  value_in : (j : ℕ) → word_in_range g j (value_for (head g) size us j) ≡ true
  value_in j =
      ⊎_elim
      (λ e. ap (word_in_range g j) (in_head (head g) (Some size) (unit_value us) j (ltb-true j (head g) e)) ∙ size_word j (Some size) e ∙ sized)
      (λ e. ap (word_in_range g j) (past_head (head g) (Some size) (unit_value us) j (ltb-false j (head g) e))
      ∙ unit-word j (unit_value us (j - head g)) e
      ∙ unit-in (j - head g))
      (either (ltb j (head g)))

  in-range : Each (InRange g) xs
  in-range =
      let mb : m < g.m = free_map-below s m mfree in
      rw flat
      (each_from (data_step us) later (InRange g) 0 k
      (λ j a b. rw (lt-ltb (get_or us j 0) g.n (unit-below j (omega arith)), lt-ltb j g.p (omega arith)))
      (each_from (map_step (head g) size m us) (link_steps i m) (InRange g) 0 p
      (λ j a b. rw (lt-ltb m g.m mb, lt-ltb j p (omega arith), value_in j))
      (refl, (rw (lt-ltb i g.c chunk, lt-ltb m g.m mb), (refl, tt)))))

  steps-few : length xs ≤ max_steps
  steps-few = omega (arith, length-write_steps (head g) size us m p i, l.p-high, words-high g l)

  pieces_are : pieces xs ≡ below k
  unfolding collect piece_in
  pieces_are =
      rw flat
      (drawn (data_step us) later piece_in (λ j. j) (λ j. refl) (below k)
      ∙ rw (passed_over (map_step (head g) size m us) (link_steps i m) (collect piece_in) (λ j ys. refl) (below p))
      (append-nil (map (λ (j : ℕ). j) (below k)) ∙ map-id (below k)))

  units-are : units (write_steps (head (shape_of s)) size us m (map_words (shape_of s)) i) ≡ us
  unfolding collect unit_in
  units-are =
      rw flat
      (drawn (data_step us) later unit_in (λ j. get_or us j 0) (λ j. refl) (below k)
      ∙ rw (passed_over (map_step (head g) size m us) (link_steps i m) (collect unit_in) (λ j ys. refl) (below p))
      (append-nil (map (λ (j : ℕ). get_or us j 0) (below k)) ∙ map-places us))

  words_are : words xs ≡ below p
  unfolding collect word_in
  words_are =
      rw flat
      (passed_over (data_step us) later (collect word_in) (λ j ys. refl) (below k)
      ∙ drawn (map_step (head g) size m us) (link_steps i m) word_in (λ j. j) (λ j. refl) (below p)
      ∙ append-nil (map (λ (j : ℕ). j) (below p))
      ∙ map-id (below p))

  map_is : plan_map (write_steps (head (shape_of s)) size us m (map_words (shape_of s)) i) ≡ m
  unfolding plan_map collect map_in
  map_is =
      ap (first_or X)
      (ap maps flat ∙ passed_over (data_step us) later (collect map_in) (λ j ys. refl) (below k)
      ∙ drawn (map_step (head g) size m us) (link_steps i m) map_in (λ j. m) (λ j. refl) (below p)
      ∙ append-nil (map (λ (j : ℕ). m) (below p)))
      ∙ first-constant m X 0 p (omega (arith, l.p-low, map-words g))

  links-are : links xs ≡ i ∷ []
  unfolding collect link_in
  links-are =
      rw flat
      (passed_over (data_step us) later (collect link_in) (λ j ys. refl) (below k)
      ∙ passed_over (map_step (head g) size m us) (link_steps i m) (collect link_in) (λ j ys. refl) (below p))

  linked-are : linked xs ≡ m ∷ []
  unfolding collect linked_in
  linked-are =
      rw flat
      (passed_over (data_step us) later (collect linked_in) (λ j ys. refl) (below k)
      ∙ passed_over (map_step (head g) size m us) (link_steps i m) (collect linked_in) (λ j ys. refl) (below p))

  unit-of : (j : ℕ) → unit_of j xs ≡ word_of (unit_value us j)
  unfolding unit_of
  unit-of j =
      ap (unit_of j) flat
      ∙ ⊎_elim
      (λ e. let h = ltb-true j k e in unit-here (λ a. get_or us a 0) later j 0 k (omega arith) (omega arith) ∙ sym (word-unit j h))
      (λ e.
      let h = ltb-false j k e in
      unit-past (λ a. get_or us a 0) later j 0 k (omega arith) ∙ passed_over (map_step (head g) size m us) (link_steps i m) (unit_of j) (λ a ys. refl) (below p)
      ∙ sym (word-past j e))
      (either (ltb j k))

  -- word j of the map as it is stored
  word-of : (j : ℕ) → word_of (value_for (head g) size us j) ≡ word_for g size xs j
  word-of j =
      after-ap word_of (head g) (Some size) (unit_value us) j
      ∙ ap (λ (f : ℕ → ℕ). after_head (head g) size f j) (fun_ext (λ a. sym (unit-of a)))

  stores : every (map_fits m (free_map s) (word_for g size xs)) xs ≡ true
  unfolding every map_fits
  stores =
      let test = map_fits m (free_map s) (word_for g size xs) in
      ap (every test) flat
      ∙ every-from (data_step us) later test 0 k (λ j a b. refl)
      ∙ every-from (map_step (head g) size m us) (link_steps i m) test 0 p
      (λ j a b. rw (eq-eqb m m refl, mfree, eq-eqb (word_of (value_for (head g) size us j)) (word_for g size xs j) (word-of j)))

  before : before_link xs ≡ (map (data_step us) (below k) ++ map (map_step (head g) size m us) (below p)) ++ (Fence ∷ [])
  unfolding before_link
  before =
      ap before_link flat
      ∙ before-link (data_step us) later (λ j ys. refl) (below k)
      ∙ ap (λ (ys : List Step). map (data_step us) (below k) ++ ys) (before-link (map_step (head g) size m us) (link_steps i m) (λ j ys. refl) (below p))
      ∙ sym (append_assoc (map (data_step us) (below k)) (map (map_step (head g) size m us) (below p)) (Fence ∷ []))

  after : after_link xs ≡ Fence ∷ []
  unfolding after_link
  after =
      ap after_link flat
      ∙ passed_over (data_step us) later after_link (λ j ys. refl) (below k)
      ∙ passed_over (map_step (head g) size m us) (link_steps i m) after_link (λ j ys. refl) (below p)

  -- each DATA step is on the free unit at its piece's place
  dealt : every (data_fits (free_units s)) xs ≡ true
  unfolding every data_fits
  dealt =
      let test = data_fits (free_units s) in
      ap (every test) flat
      ∙ every-from (data_step us) later test 0 k (λ j a b.
      let h = lowest j (omega arith) in
      rw (lt-ltb j (length (free_units s)) (at-below (free_units s) j (get_or us j 0) h), eq-eqb _ (get_or us j 0) (at-get_or (free_units s) j (get_or us j 0) X h)))
      ∙ every-from (map_step (head g) size m us) (link_steps i m) test 0 p (λ j a b. refl)

  two : rule2 (free_units s) (Write i size) xs ≡ true
  unfolding rule2
  two = rw (pieces_are, ← need, once-each k, dealt)

  three : rule3 g (free_map s) (Write i size) xs ≡ true
  unfolding rule3
  three = rw (words_are, once-each p, map_is, stores)

  four : rule4 (mapped s i) (Write i size) xs ≡ true
  unfolding rule4 links_are all
  four = rw (links-are, map_is, linked-are, eq-eqb i i refl, eq-eqb m m refl)

  five : rule5 (mapped s i) (Write i size) xs ≡ true
  unfolding rule5 ends_in collect unit_in map_in
  five = rw (before, after, ends-in-fence false (map (data_step us) (below k) ++ map (map_step (head g) size m us) (below p)))

  back :
      steps_of (encode_all (write_steps (head (shape_of s)) size us m (map_words (shape_of s)) i))
      ≡ write_steps (head (shape_of s)) size us m (map_words (shape_of s)) i
  back = read_back g l xs in-range

  write-unbroken : Unbroken s (Write i size) (encode_all (write_steps (head (shape_of s)) size us m (map_words (shape_of s)) i))
  write-unbroken = record {
    one = rule1-kept g l xs in-range steps-few;
    two = rw back two;
    three = rw back three;
    four = rw back four;
    five = rw back five;
  }

-- ---- for a discard

module _ (s : List ℕ) (i : ℕ) (l : Limits (shape_of s)) (chunk : i < (shape_of s).c) where
  discard-unbroken : Unbroken s (Discard i) (encode_all (plan_of (known_of s (Discard i)) (Discard i)))
  unfolding plan_of rule2 rule3 rule4 rule5 links_are once_each every collect piece_in unit_in map_in word_in link_in linked_in data_fits map_fits ends_in all distinct
  discard-unbroken = go (mapped s i) refl
    where
      go : (b : Bool) → mapped s i ≡ b → Unbroken s (Discard i) (encode_all (plan_of (known_of s (Discard i)) (Discard i)))
      go true e =
          let xs : List Step = Link i None ∷ Fence ∷ [] in
          let r : Each (InRange (shape_of s)) xs = (rw (lt-ltb i (shape_of s).c chunk), (refl, tt)) in
          let back = read_back (shape_of s) l xs r in
          rw e (record {
            one = rule1-kept (shape_of s) l xs r (omega arith);
            two = rw back;
            three = rw back;
            four = rw (back, e, eq-eqb i i refl);
            five = rw (back, e);
          })
      go false e =
          let back = read_back (shape_of s) l [] tt in
          rw e (record {
            one = rule1-kept (shape_of s) l [] tt (omega arith);
            two = rw back;
            three = rw back;
            four = rw (back, e);
            five = rw (back, e);
          })

-- ---- on every sound image, for every good request with room

-- the lowest free map
pub lowest-free : (s : List ℕ) → Tested s → free_map s (first_or X (free_maps s)) ≡ true
unfolding free_maps
lowest-free s z = all_first (free_map s) X (free_maps s) (all-kept (free_map s) (below (shape_of s).m)) (some-map-free s z.fitting)

module _ (s : List ℕ) (i size : ℕ) (z : Tested s) (gc : good_chunk (shape_of s) (Write i size) ≡ true) (gs : good_size (shape_of s) (Write i size) ≡ true)
    (room : units_for size ≤ length (free_units s)) where
  abbrev us : List ℕ
  us = take (units_for size) (free_units s)

  abbrev m : ℕ
  m = first_or X (free_maps s)

  l : Limits (shape_of s)
  l = fitting-limits s z.fitting

  low : i < (shape_of s).c
  low = ltb-true i (shape_of s).c gc

  taken : length us ≡ units_for size
  taken = length-take-le (units_for size) (free_units s) room

  few : units_for size ≤ (shape_of s).p
  few =
      let p = (shape_of s).p in
      let high = leb-true size (p * unit_bytes) (and_right (leb 1 size) (leb size (p * unit_bytes)) gs) in
      omega arith

  lowest : (j : ℕ) → j < length us → At (free_units s) j (get_or us j 0)
  lowest j h = get_d_at (free_units s) j (get_or us j 0) 0 (omega (arith, taken)) (sym (get_or-take (units_for size) (free_units s) j 0 (omega (arith, taken))))

  plan-unbroken : Unbroken s (Write i size) (encode_all (plan_of (known_of s (Write i size)) (Write i size)))
  unfolding plan_of free_maps
  plan-unbroken = write-unbroken s i size us m l low taken few lowest (lowest-free s z) gs

  -- the units and the map that the plan takes
  pub plan-units : units (plan_of (known_of s (Write i size)) (Write i size)) ≡ take (units_for size) (free_units s)
  unfolding plan_of free_maps
  plan-units = units-are s i size us m l low taken few lowest (lowest-free s z) gs

  pub plan-map : plan_map (plan_of (known_of s (Write i size)) (Write i size)) ≡ first_or X (free_maps s)
  unfolding plan_of free_maps
  plan-map = map_is s i size us m l low taken few lowest (lowest-free s z) gs

  -- its bytes are read back as its steps
  pub plan-read : steps_of (encode_all (plan_of (known_of s (Write i size)) (Write i size))) ≡ plan_of (known_of s (Write i size)) (Write i size)
  unfolding plan_of free_maps
  plan-read = back s i size us m l low taken few lowest (lowest-free s z) gs

pub planned-accepted :
    (s : List ℕ) (r : Request) → Tested s → good_chunk (shape_of s) r ≡ true → good_size (shape_of s) r ≡ true → need_of r ≤ length (free_units s)
    → checked s r (encode_all (plan_of (known_of s r) r)) ≡ Ok tt
planned-accepted s (Write i size) z gc gs room =
    accepted s (Write i size) (encode_all (plan_of (known_of s (Write i size)) (Write i size)))
    (record { sound = z; chunk = gc; size = gs; rules = plan-unbroken s i size z gc gs room })
planned-accepted s (Discard i) z gc gs room =
    accepted s (Discard i) (encode_all (plan_of (known_of s (Discard i)) (Discard i)))
    (record { sound = z; chunk = gc; size = gs; rules = discard-unbroken s i (fitting-limits s z.fitting) (ltb-true i (shape_of s).c gc) })
