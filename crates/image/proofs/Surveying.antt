-- Laws of the one pass over the chunks: the words of a map put in, and what one chunk more claims.
use Rattle.std.specs.Prelude.{Option, Some, None}
use Prim.Native.Nat.{ℕ, ◌+◌, ◌*◌, ◌<◌, ◌≤◌}
use mathlib.Core.Path.{◌≡◌, refl, ap, sym, subst, ◌∙◌}
use mathlib.Core.Bool.{Bool, true, false, not, ◌&&◌, ◌||◌, or-false, or_assoc, cond}
use mathlib.Core.List.{List, [], ◌∷◌}
use mathlib.Core.Logic.{⊎_elim}
use native.Mathlib.Omega.{arith}
use native.Mathlib.Numerals.{add-one}
use lib.ListN.{length, get_or, take, drop, length-append}
use lib.Dec.{eqb, ltb, leb}
use borrow.Author.Tests.{eq-eqb, ne_eqb, lt-ltb, le-ltb, ltb-false, le-leb}
use Rattle.search.specs.Search.{from, below, all, any, member, joined}
use Rattle.search.specs.Sets.{put, with_all}
use Rattle.search.proofs.Taken.{put-in, put_other, with_all-none, with_all-more}
use Rattle.search.proofs.Bools.{contradict, either, is_false, is_true, and_intro, and-false-left, and-false-right, cond-true, cond-false}
use Rattle.search.proofs.Members.{member-append}
use Rattle.search.proofs.Joined.{joined-last}
use Rattle.bitset.specs.Bits.{bit_set, inserted, words_for}
use Rattle.bitset.proofs.BitSets.{bit_set-ext, length_inserted, inserted-set}
use Rattle.layout.specs.declared.Shape.{Shape}
use Rattle.layout.specs.Layout.{X, is_unit, shape_of, link_of}
use Rattle.layout.specs.Shaped.{Shaped, map_of, unit_words_of}
use Rattle.image.specs.Soundness.{leading, mapped}
use Rattle.image.specs.Verdicts.{good_link, size_fits}
use Rattle.image.specs.Survey.{has_bit, claimed_in, claimed_by, names_of, form_by, passable_map, passable, taken, units_taken, maps_taken}
use Rattle.image.proofs.Chunks.{form-empty, form-held, absent-link, named-link, length-unit_words, mapped-named, unmapped-absent}
use Rattle.image.proofs.Leading.{leading-prefix, length-leading, leading-more, leading-stop, leading_end}
use Rattle.image.proofs.MapWords.{length-units_in}
use Rattle.image.proofs.Naming.{names-absent, names-named}

-- ---- the words of a map, put into a set

put-none : (f : ℕ → Bool) (n : ℕ) (set : List ℕ) → set ≡ bit_set f n → set ≡ bit_set (with_all f []) n
put-none f n set e = e ∙ bit_set-ext _ _ n (λ y h. with_all-none f y)

-- the first j of them have been put in: how many more will be, and, of whatever set the n words had before, which set they have now
pub record PutWords (s : List ℕ) (k n : ℕ) (before : List ℕ) (j : ℕ) (set : List ℕ) : Type 0 where
  pub size : length set ≡ n
  pub count : length (claimed_in s k) ≡ j + length (leading (has_bit (shape_of s)) (drop j (unit_words_of s k)))
  pub holds : (f : ℕ → Bool) → before ≡ bit_set f n → set ≡ bit_set (with_all f (take j (unit_words_of s k))) n

-- what `put_units` promises of its answer r and the set that it left
abbrev AllPut : List ℕ → ℕ → ℕ → List ℕ → ℕ → List ℕ → Type 0
AllPut s k n before r set = (r ≡ length (claimed_in s k)) × ((f : ℕ → Bool) → before ≡ bit_set f n → set ≡ bit_set (with_all f (claimed_in s k)) n)

module _ (s : List ℕ) (k n : ℕ) (before : List ℕ) where
  pub puts_none : length before ≡ n → PutWords s k n before 0 before
  puts_none e = record { size = e; count = omega arith; holds = λ f q. put-none f n before q }

  module _ (j : ℕ) (set : List ℕ) (p : PutWords s k n before j set) where
    -- no word is left, or none that has a bit
    puts-stop : length (leading (has_bit (shape_of s)) (drop j (unit_words_of s k))) ≡ 0 → AllPut s k n before j set
    puts-stop z =
        let e : length (claimed_in s k) ≡ j = omega (arith, p.count) in (
          sym e,
          λ f q. p.holds f q ∙ ap (λ (l : List ℕ). bit_set (with_all f l) n)
              (ap (λ (i : ℕ). take i (unit_words_of s k)) (sym e) ∙ sym (leading-prefix (has_bit (shape_of s)) (unit_words_of s k))),
        )

    pub puts-end : length (unit_words_of s k) ≤ j → AllPut s k n before j set
    puts-end h = puts-stop (leading_end (has_bit (shape_of s)) (unit_words_of s k) j h)

    -- word j goes in, and b says whether it has a bit
    module _ (g : Shape) (h : Shaped s g) (en : n ≡ words_for g.n) (l : j < g.p) (w : ℕ) (ew : w ≡ get_or (unit_words_of s k) j 0)
        (b : Bool) (eb : b ≡ ltb w (64 * length set)) (after : List ℕ) (ea : after ≡ inserted set w) where
      there : j < length (unit_words_of s k)
      there = omega (arith, length-units_in s g k h)

      bit : has_bit (shape_of s) (get_or (unit_words_of s k) j 0) ≡ b
      unfolding has_bit
      bit = sym (eb ∙ rw (ew, p.size, en, h.same))

      pub puts_one : (i : ℕ) → i ≡ j + 1 → b ≡ true → PutWords s k n before i after
      puts_one i e t =
          subst (λ (x : ℕ). PutWords s k n before x after) (sym e)
          record {
            size = ap length ea ∙ length_inserted set w ∙ p.size;
            count = omega (arith, p.count, leading-more (has_bit (shape_of s)) (unit_words_of s k) j there (bit ∙ t));
            holds = λ f q. ea ∙ ap (λ (v : List ℕ). inserted v w) (p.holds f q) ∙ inserted-set (with_all f (take j (unit_words_of s k))) n w
                ∙ rw ew (bit_set-ext _ _ n (λ y m. with_all-more f (unit_words_of s k) j there y));
          }

      -- it has none, and goes in without a trace
      pub puts-no : b ≡ false → AllPut s k n before j after
      puts-no t =
          let all = puts-stop (leading-stop (has_bit (shape_of s)) (unit_words_of s k) j there (bit ∙ t)) in
          let past : 64 * n ≤ w = let q = ltb-false w (64 * length set) (sym eb ∙ t) in omega (arith, p.size) in (
            all.0,
            λ f q. ea ∙ ap (λ (v : List ℕ). inserted v w) (all.1 f q) ∙ inserted-set (with_all f (claimed_in s k)) n w
                ∙ bit_set-ext _ _ n (λ y m. put_other (with_all f (claimed_in s k)) w true y (λ z. absurd (omega arith))),
          )

-- ---- what one chunk claims

module _ (s : List ℕ) (i : ℕ) where
  pub claims-absent : link_of s i ≡ X → claimed_by s i ≡ []
  unfolding claimed_by
  claims-absent e = rw (eq-eqb (link_of s i) X e)

  pub claims-named : (link_of s i ≡ X → ⊥) → claimed_by s i ≡ claimed_in s (link_of s i)
  unfolding claimed_by
  claims-named e = rw (ne_eqb (link_of s i) X e)

  pub form-absent : link_of s i ≡ X → passable_map s i ≡ true
  form-absent e = rw (eq-eqb (link_of s i) X e)

  pub form-named : (link_of s i ≡ X → ⊥) → passable_map s i ≡ form_by (has_bit (shape_of s)) (shape_of s) (map_of s (link_of s i))
  form-named e = rw (ne_eqb (link_of s i) X e)

  length-claims : length (claimed_by s i) ≤ (shape_of s).p
  length-claims = ⊎_elim
      (λ m. let e = ap length (claims-named (mapped-named s i m)) in
      let l = length-leading (has_bit (shape_of s)) (unit_words_of s (link_of s i)) in
      let w = length-unit_words (shape_of s) s (link_of s i) in
      omega arith)
      (λ m. let e = ap length (claims-absent (unmapped-absent s i m)) in omega arith)
      (either (mapped s i))

-- ---- before the first chunk, and one chunk more

-- nothing is claimed: the numbers that are not free are those of which f does not hold
start : (f : ℕ → Bool) (q : ℕ → List ℕ) (n : ℕ) (set : List ℕ) → set ≡ bit_set (λ u. not (f u)) n → set ≡ bit_set (taken f (joined q (below 0))) n
unfolding joined from
start f q n set e = put-none (λ u. not (f u)) n set e

pub units-start : (s : List ℕ) (g : Shape) (us : List ℕ) → g ≡ shape_of s → us ≡ bit_set (λ u. not (leb g.r u && ltb u g.n)) (words_for g.n)
    → us ≡ bit_set (units_taken s 0) (words_for g.n)
unfolding is_unit
units-start s g us q e =
    start (is_unit (shape_of s)) (claimed_by s) (words_for g.n) us
    (e ∙ ap (λ (h : Shape). bit_set (λ u. not (leb h.r u && ltb u h.n)) (words_for g.n)) q)

pub maps-start : (s : List ℕ) (g : Shape) (ms : List ℕ) → g ≡ shape_of s → ms ≡ bit_set (λ u. not (leb 0 u && ltb u g.m)) (words_for g.m)
    → ms ≡ bit_set (maps_taken s 0) (words_for g.m)
maps-start s g ms q e =
    start (λ k. ltb k (shape_of s).m) (names_of s) (words_for g.m) ms
    (e ∙ bit_set-ext _ _ (words_for g.m) (λ y h. rw (le-leb 0 y (omega arith))) ∙ ap (λ (h : Shape). bit_set (λ k. not (ltb k h.m)) (words_for g.m)) q)

pub claims-none : (s : List ℕ) → 0 ≡ length (joined (claimed_by s) (below 0))
unfolding joined from
claims-none s = refl

-- the numbers of one list more are not free
taken_more : (f : ℕ → Bool) (q : ℕ → List ℕ) (i y : ℕ) → taken f (joined q (below (i + 1))) y ≡ (taken f (joined q (below i)) y || member y (q i))
unfolding with_all
taken_more f q i y =
    rw (add-one i, joined-last q i, member-append y (joined q (below i)) (q i)) (sym (or_assoc (not (f y)) (member y (joined q (below i))) (member y (q i))))

claims-more : (s : List ℕ) (i : ℕ) → length (joined (claimed_by s) (below (i + 1))) ≡ length (joined (claimed_by s) (below i)) + length (claimed_by s i)
claims-more s i = rw (add-one i, joined-last (claimed_by s) i) (length-append (joined (claimed_by s) (below i)) (claimed_by s i))

-- ---- what `put_claims` owes at each of its returns, where the code has the chunk's entry k and the count h of what it claims

-- how many words chunk i claims, or nothing of a chunk that is not passable
abbrev claim_count : List ℕ → ℕ → Option ℕ
claim_count s i = cond (passable s i) (Some (length (claimed_by s i))) None

-- its promises on chunk i, of the answer r and the sets it left, which have n and m words
abbrev Put : List ℕ → ℕ → ℕ → ℕ → Option ℕ → List ℕ → List ℕ → Type 0
Put s i n m r units maps =
    (r ≡ claim_count s i)
    × ((passable s i ≡ true → units ≡ bit_set (units_taken s (i + 1)) n)
    × (passable s i ≡ true → maps ≡ bit_set (maps_taken s (i + 1)) m))

-- so a count is answered of just the chunks that are passable
pub put-bad : (s : List ℕ) (i : ℕ) → None ≡ claim_count s i → passable s i ≡ false
put-bad s i e = is_false (passable s i) (λ g.
    let q : None ≡ Some (length (claimed_by s i)) = e ∙ cond-true (passable s i) _ None g in
    let z : ◌≡◌ {A = ℕ} 0 1 = cc in absurd (omega arith))

module _ (s : List ℕ) (i r : ℕ) (e : Some r ≡ claim_count s i) where
  pub put-good : passable s i ≡ true
  put-good = is_true (passable s i) (λ g.
      let q : Some r ≡ None = e ∙ cond-false (passable s i) _ None g in
      let z : ◌≡◌ {A = ℕ} 0 1 = cc in absurd (omega arith))

  good-count : r ≡ length (claimed_by s i)
  good-count = let q : Some r ≡ Some (length (claimed_by s i)) = e ∙ cond-true (passable s i) _ None put-good in cc

  pub put-few : r ≤ (shape_of s).p
  put-few = omega (arith, good-count, length-claims s i)

  pub put_count : length (joined (claimed_by s) (below (i + 1))) ≡ length (joined (claimed_by s) (below i)) + r
  put_count = claims-more s i ∙ omega (arith, good-count)

pub put-refused : (s : List ℕ) (i n m : ℕ) (units maps : List ℕ) → passable s i ≡ false → Put s i n m None units maps
put-refused s i n m units maps h =
    (sym (cond-false (passable s i) _ None h), (λ t. contradict t h, λ t. contradict t h))

module _ (s : List ℕ) (i k : ℕ) (l : k ≡ link_of s i) where
  pub put-absent : (n m : ℕ) (units maps : List ℕ) → k ≡ X → units ≡ bit_set (units_taken s i) n → maps ≡ bit_set (maps_taken s i) m
      → Put s i n m (Some 0) units maps
  unfolding member any
  put-absent n m units maps x u v =
      let e : link_of s i ≡ X = sym l ∙ x in
      let none = claims-absent s i e in
      let no_name = names-absent s i e in
      let good = and_intro (good_link s i) (passable_map s i) (absent-link s i e) (form-absent s i e) in
      let units-more = taken_more (is_unit (shape_of s)) (claimed_by s) i in
      let maps-more = taken_more (λ j. ltb j (shape_of s).m) (names_of s) i in (
        sym (cond-true (passable s i) _ None good ∙ ap (λ (us : List ℕ). Some (length us)) none),
        (
          λ t. u ∙ bit_set-ext _ _ n (λ y h. sym (units-more y ∙ rw none (or-false (units_taken s i y)))),
          λ t. v ∙ bit_set-ext _ _ m (λ y h. sym (maps-more y ∙ rw no_name (or-false (maps_taken s i y)))),
        ),
      )

  module _ (x : k ≡ X → ⊥) where
    named : link_of s i ≡ X → ⊥
    named w = x (l ∙ w)

    pub put-high : (shape_of s).m ≤ k → passable s i ≡ false
    put-high b = and-false-left (good_link s i) (passable_map s i) (named-link s i named ∙ le-ltb (link_of s i) (shape_of s).m (omega arith))

    module _ (h : ℕ) (e : h ≡ length (claimed_in s k)) where
      bad-form : passable_map s i ≡ false → passable s i ≡ false
      bad-form b = and-false-right (good_link s i) (passable_map s i) b

      form : passable_map s i ≡ form_by (has_bit (shape_of s)) (shape_of s) (map_of s k)
      form = form-named s i named ∙ ap (λ (j : ℕ). form_by (has_bit (shape_of s)) (shape_of s) (map_of s j)) (sym l)

      pub put-empty : h ≡ 0 → passable s i ≡ false
      put-empty z = bad-form (form ∙ form-empty (has_bit (shape_of s)) (shape_of s) (map_of s k) h e z)

      module _ (z : h ≡ 0 → ⊥) where
        rest-size : passable_map s i ≡ (all (eqb X) (drop h (unit_words_of s k)) && size_fits (shape_of s) h (map_of s k))
        rest-size = form ∙ form-held (has_bit (shape_of s)) (shape_of s) (map_of s k) h e z

        pub put_rest : all (eqb X) (drop h (unit_words_of s k)) ≡ false → passable s i ≡ false
        put_rest b = bad-form (rest-size ∙ and-false-left _ (size_fits (shape_of s) h (map_of s k)) b)

        pub put-size : size_fits (shape_of s) h (map_of s k) ≡ false → passable s i ≡ false
        put-size b = bad-form (rest-size ∙ and-false-right (all (eqb X) (drop h (unit_words_of s k))) _ b)

        pub put-named : (n m : ℕ) (units maps : List ℕ) → k < (shape_of s).m
            → all (eqb X) (drop h (unit_words_of s k)) ≡ true → size_fits (shape_of s) h (map_of s k) ≡ true
            → units ≡ bit_set (with_all (units_taken s i) (claimed_in s k)) n
            → maps ≡ bit_set (put (maps_taken s i) k true) m
            → Put s i n m (Some h) units maps
        unfolding with_all member any
        put-named n m units maps b a f u v =
            let us : claimed_by s i ≡ claimed_in s k = claims-named s i named ∙ ap (claimed_in s) (sym l) in
            let ks : names_of s i ≡ k ∷ [] = names-named s i named ∙ ap (λ (y : ℕ). y ∷ []) (sym l) in
            let good = and_intro (good_link s i) (passable_map s i) (named-link s i named ∙ lt-ltb (link_of s i) (shape_of s).m (omega arith))
            (rest-size ∙ and_intro (all (eqb X) (drop h (unit_words_of s k))) (size_fits (shape_of s) h (map_of s k)) a f) in
            let units-more = taken_more (is_unit (shape_of s)) (claimed_by s) i in
            let maps-more = taken_more (λ j. ltb j (shape_of s).m) (names_of s) i in (
              sym (cond-true (passable s i) _ None good ∙ ap Some (ap length us ∙ sym e)),
              (
                λ t. u ∙ bit_set-ext _ _ n (λ y q. sym (units-more y ∙ rw us)),
                λ t. v ∙ bit_set-ext _ _ m (λ y q. put-in (maps_taken s i) k y ∙ sym (maps-more y ∙ rw (ks, or-false (eqb y k)))),
              ),
            )
