-- The one bridge from the rules to the crash proof: what an accepted write, and an accepted discard, says of each step.
use Prim.Native.Nat.{ℕ, ◌*◌, ◌≤◌, ◌<◌}
use mathlib.Core.Path.{◌≡◌, refl, sym, ◌∙◌, ap}
use mathlib.Core.Bool.{Bool, true, false, cond}
use mathlib.Core.List.{List, [], ◌∷◌}
use native.Mathlib.Omega.{arith}
use lib.ListN.{length}
use lib.Dec.{eqb, ltb, leb}
use borrow.Author.Tests.{eqb-true, ltb-true, leb-true}
use Rattle.search.specs.Search.{all, member, distinct}
use Rattle.layout.specs.Layout.{X, unit_bytes, units_for, head, map_words, after_head, shape_of}
use Rattle.image.specs.Soundness.{mapped}
use Rattle.image.specs.Free.{free_unit, free_units, free_map}
use Rattle.search.proofs.Bools.{and-three, and-four, contradict, and_left, and_right, cond-true, cond-false}
use Rattle.search.proofs.Members.{all-at}
use Rattle.search.proofs.Counting.{covers}
use Rattle.steps.specs.declared.Step.{Step}
use Rattle.steps.specs.declared.Step.TheVariants.{Data, Map, Link, Fence}
use Rattle.steps.specs.declared.Request.TheVariants.{Write, Discard}
use Rattle.steps.specs.Steps.{good_size}
use Rattle.rules.specs.Rules.{collect, link_in, pieces, units, maps, words, links, linked, unit_of, word_for, maps_fit, ends_in, before_link, after_link, is_none, plan_map, once_each, links_are, rule2, rule3, rule4, rule5}
use Rattle.steps.specs.Encodable.{Each}
use Rattle.steps.proofs.Codec.{each_map}
use Rattle.rules.proofs.Once.{once}
use Rattle.rules.proofs.Dealing.{rule2-pieces, rule2_before, kept-before}
use Rattle.rules.proofs.Places.{empty}
use Rattle.rules.proofs.StepLaws.{InRange, OnMap, OnLink, NoMap, Stores, Links, on-links, words_on, words-on, words-below, each-on-map, fit_free, each-link, each-stores, each-no-map, same_count, unit_of-in, unit_of-none, unit_of-one}

-- What a plan does for one chunk c: it puts k free units on the free map m, `unit j` for piece j, with the size where a map keeps it, and links c to it.
pub record Deal (s : List ℕ) (xs : List Step) (c size k m : ℕ) (unit : ℕ → ℕ) : Type 0 where
  pub sized : units_for size ≡ k
  pub some : 1 ≤ k
  pub fits : k ≤ (shape_of s).p
  pub map-free : free_map s m ≡ true
  pub unit-free : (j : ℕ) → j < k → free_unit s (unit j) ≡ true
  pub unit-one : (i j : ℕ) → i < k → j < k → unit i ≡ unit j → i ≡ j
  pub unit-past : (j : ℕ) → k ≤ j → unit j ≡ X
  pub has_word : (j : ℕ) → j < map_words (shape_of s) → member j (words_on m xs) ≡ true
  pub stores : Each (Stores m (after_head (head (shape_of s)) size unit)) xs
  pub links : Each (Links c m) xs

-- There is a LINK, and every DATA and MAP stands before the first one, with a FENCE between.
pub record Guarded (xs : List Step) : Type 0 where
  pub a-link : is_none (links xs) ≡ false
  pub fence : ends_in false (before_link xs) ≡ true
  pub later-units : is_none (units (after_link xs)) ≡ true
  pub later-maps : is_none (maps (after_link xs)) ≡ true
  pub last : ends_in false xs ≡ true

-- an accepted write of `size` bytes on chunk c
pub record Writes (s : List ℕ) (c size : ℕ) (xs : List Step) : Type 0 where
  pub deal : Deal s xs c size (units_for size) (plan_map xs) (λ j. unit_of j xs)
  pub guarded : Guarded xs
  pub has-piece : (j : ℕ) → j < units_for size → member j (pieces xs) ≡ true
  pub units-differ : distinct (units xs) ≡ true
  pub units-free : (u : ℕ) → member u (units xs) ≡ true → free_unit s u ≡ true
  pub on-map : Each (OnMap (plan_map xs)) xs
  pub on-link : Each (OnLink c (plan_map xs)) xs

-- an accepted discard of chunk c, a mapped one
pub record Discards (c : ℕ) (xs : List Step) : Type 0 where
  pub no-data : is_none (units xs) ≡ true
  pub no-map : Each NoMap xs
  pub on-link : Each (OnLink c X) xs
  pub a-link : is_none (links xs) ≡ false
  pub last : ends_in false xs ≡ true

one-some : (xs : List ℕ) → length xs ≡ 1 → is_none xs ≡ false
one-some [] h = absurd (omega arith)
one-some (x ∷ xs) h = refl

-- the last step is a FENCE where the last one after the LINK is
pub ends-after : (b : Bool) (xs : List Step) → is_none (links xs) ≡ false → ends_in false (after_link xs) ≡ true → ends_in b xs ≡ true
unfolding collect link_in after_link ends_in
ends-after b [] n h = contradict refl n
ends-after b (Data u j wr ∷ xs) n h = ends-after false xs n h
ends-after b (Map k j v ∷ xs) n h = ends-after false xs n h
ends-after b (Link i v ∷ xs) n h = h
ends-after b (Fence ∷ xs) n h = ends-after true xs n h

module _ (s : List ℕ) (c : ℕ) (xs : List Step) where
  pub writes :
      (size : ℕ) → Each (InRange (shape_of s)) xs → good_size (shape_of s) (Write c size) ≡ true → 1 ≤ map_words (shape_of s)
      → rule2 (free_units s) (Write c size) xs ≡ true
      → rule3 (shape_of s) (free_map s) (Write c size) xs ≡ true
      → rule4 (mapped s c) (Write c size) xs ≡ true
      → rule5 (mapped s c) (Write c size) xs ≡ true
      → Writes s c size xs
  unfolding rule2_before free_units rule3 rule4 rule5 links_are
  writes size r h some r2 r3 r4 r5 =
      let g = shape_of s in
      let k = units_for size in
      let m = plan_map xs in
      let low : 1 ≤ size = leb-true 1 size (and_left (leb 1 size) (leb size (g.p * unit_bytes)) h) in
      let high : size ≤ g.p * unit_bytes = leb-true size (g.p * unit_bytes) (and_right (leb 1 size) (leb size (g.p * unit_bytes)) h) in
      let a = and-three (once_each k (pieces xs)) (distinct (units xs)) (all (free_unit s) (units xs)) (kept-before (free_unit s) g.n (Write c size) xs r2) in
      let p = once k (pieces xs) a.0 in
      let word = word_for g size xs in
      let fit = maps_fit m (free_map s) word xs in
      let w = once (map_words g) (words xs) (and_left (once_each (map_words g) (words xs)) fit r3) in
      let fits : fit ≡ true = and_right (once_each (map_words g) (words xs)) fit r3 in
      let l = and-three (eqb (length (links xs)) 1) (all (eqb c) (links xs)) (all (eqb m) (linked xs)) r4 in
      let d = and-four (ends_in false (before_link xs)) (ends_in false (after_link xs)) (is_none (units (after_link xs))) (is_none (maps (after_link xs))) r5 in
      let below : (j : ℕ) → member j (pieces xs) ≡ true → j < k = λ j q. ltb-true j k (all-at (λ i. ltb i k) (pieces xs) p.2 j q) in
      let has : (j : ℕ) → j < k → member j (pieces xs) ≡ true = covers k (pieces xs) p.1 p.0 below in
      let free : (u : ℕ) → member u (units xs) ≡ true → free_unit s u ≡ true = λ u q. all-at (free_unit s) (units xs) a.2 u q in
      let on-map : Each (OnMap m) xs = each-on-map m (free_map s) word xs fits in
      let on-link : Each (OnLink c m) xs = each-link c m xs l.1 l.2 in
      let count = w.0 in
      let a-link : is_none (links xs) ≡ false = one-some (links xs) (eqb-true (length (links xs)) 1 l.0) in
      record {
        deal = record {
          sized = refl;
          some = omega arith;
          fits = omega arith;
          map-free = fit_free m (free_map s) word xs fits (omega arith);
          unit-free = λ j q. free (unit_of j xs) (unit_of-in j xs (has j q));
          unit-one = λ i j q z. unit_of-one i j xs a.1 (has i q) (has j z);
          unit-past = λ j q. unit_of-none j xs (λ z. let o : j < k = below j z in omega arith);
          has_word = λ j q. ap (member j) (words-on m xs on-map) ∙ covers (map_words g) (words xs) w.1 w.0 (words-below g xs r) j q;
          stores = each-stores m (free_map s) word xs fits;
          links = each_map (OnLink c m) (Links c m) xs (on-links c m) on-link;
        };
        guarded = record { a-link = a-link; fence = d.0; later-units = d.2; later-maps = d.3; last = ends-after false xs a-link d.1 };
        has-piece = has;
        units-differ = a.1;
        units-free = free;
        on-map = on-map;
        on-link = on-link;
      }

  none_of : (ys : List ℕ) → length ys ≡ 0 → is_none ys ≡ true
  none_of [] h = refl
  none_of (y ∷ ys) h = absurd (omega arith)

  pub discards :
      mapped s c ≡ true → rule2 (free_units s) (Discard c) xs ≡ true → rule3 (shape_of s) (free_map s) (Discard c) xs ≡ true
      → rule4 (mapped s c) (Discard c) xs ≡ true
      → rule5 (mapped s c) (Discard c) xs ≡ true
      → Discards c xs
  unfolding rule3 rule4 rule5 links_are
  discards m r2 r3 r4 r5 =
      let n : ℕ = cond (mapped s c) 1 0 in
      let one : n ≡ 1 = cond-true (mapped s c) 1 0 m in
      let l = and-three (eqb (length (links xs)) n) (all (eqb c) (links xs)) (all (eqb X) (linked xs)) r4 in
      let p = once 0 (pieces xs) (rule2-pieces (free_units s) xs (Discard c) r2) in
      let w = once 0 (words xs) (and_left (once_each 0 (words xs)) (maps_fit (plan_map xs) (free_map s) (word_for (shape_of s) 0 xs) xs) r3) in
      record {
        no-data = none_of (units xs) (same_count xs ∙ p.0);
        no-map = each-no-map xs w.0;
        on-link = each-link c X xs l.1 l.2;
        a-link = one-some (links xs) (eqb-true (length (links xs)) n l.0 ∙ one);
        last = sym (cond-true (mapped s c) (ends_in false xs) (eqb (length xs) 0) m) ∙ r5;
      }

  pub discards-nothing : mapped s c ≡ false → rule5 (mapped s c) (Discard c) xs ≡ true → xs ≡ []
  unfolding rule5
  discards-nothing m r5 = empty xs (eqb-true (length xs) 0 (sym (cond-false (mapped s c) (ends_in false xs) (eqb (length xs) 0) m) ∙ r5))
