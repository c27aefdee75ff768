-- The end of the one pass: free and claimed units are N-R in all exactly where no row of 4 to 6 holds, and then the sets hold what is free.
use Rattle.std.specs.Prelude.{Result, Ok, Err, ⊤}
use Prim.Native.Nat.{ℕ, ◌+◌, ◌-◌, ◌*◌, ◌<◌}
use mathlib.Core.Path.{◌≡◌, refl, ap, ap₂, sym, subst, ◌∙◌}
use mathlib.Core.Bool.{Bool, true, false, not, ◌&&◌, ◌||◌, false≢true}
use mathlib.Core.List.{List, [], ◌∷◌, ◌++◌}
use mathlib.Core.Logic.{⊎_elim}
use native.Mathlib.Omega.{arith}
use lib.ListN.{length, get_or, drop, replicate}
use lib.Dec.{eqb, ltb}
use borrow.Author.Tests.{eq-eqb, eqb-true, ltb-true, ltb-false, lt-ltb, le-ltb}
use Rattle.search.specs.Search.{below, keep, member, distinct, disjoint, joined}
use Rattle.search.specs.Sets.{without, with_all}
use Rattle.search.proofs.Bools.{contradict, either, is_false, is_true, same, and_left, and_right, and_intro, or_cases}
use Rattle.search.proofs.Members.{member-nil, member-place, member-get_or, member-head, member-tail}
use Rattle.search.proofs.Ranges.{any-below-intro}
use Rattle.search.proofs.Kept.{keep-ext}
use Rattle.search.proofs.Distinct.{distinct_from, disjoint-intro}
use Rattle.search.proofs.Joined.{member-joined, joined-ext}
use Rattle.search.proofs.Repeated.{repeated-some, repeated-twice, repeated-in-one, repeated-in-two}
use Rattle.search.proofs.Counting.{left-counted}
use Rattle.bitset.specs.Bits.{bit_set, in_set, members, words_for}
use Rattle.bitset.proofs.BitSets.{bit_set-ext, set-over}
use Rattle.bitset.proofs.Others.{inverted-set}
use Rattle.bitset.proofs.Members.{members-below}
use Rattle.layout.proofs.Limits.{units-high, maps-few, unit-below}
use Rattle.layout.specs.declared.Shape.{Shape}
use Rattle.layout.specs.Layout.{X, is_unit, shape_of, link_of}
use Rattle.layout.specs.Shaped.{Limits, Shaped, map_of, unit_words_of}
use Rattle.image.specs.Soundness.{leading, mapped, units_of}
use Rattle.image.specs.Verdicts.{good_link, good_map, clash, chunk_verdict, well_formed}
use Rattle.image.specs.Free.{free_unit, free_map, free_units, held_units}
use Rattle.image.specs.Loading.{unit_set_words, map_set_words}
use Rattle.image.specs.Claims.{held_in}
use Rattle.image.specs.Survey.{has_bit, claimed_in, claimed_by, form_by, passable_map, passable, taken, units_taken, maps_taken, passed, Surveyed}
use Rattle.image.proofs.Leading.{leading-true, leading-false, leading_at, length-leading}
use Rattle.image.proofs.Chunks.{map-form, form-by-units, named-map, absent-map, mapped-named, unmapped-absent, units-mapped, units-unmapped, good-some}
use Rattle.image.proofs.SoundLaws.{ChunksTested, chunks-tested, chunks-passed}
use Rattle.image.proofs.Naming.{names, named-any}
use Rattle.image.proofs.Surveying.{claims-absent, claims-named, form-absent, form-named}
use Rattle.image.proofs.Room.{free_unit-below, free_map-below, units-many, free-and-held-units, free-unheld}
use Rattle.layout.specs.declared.Refusal.{Refusal}

-- ---- what is claimed, and what is held

-- a test that holds of every word that leads by a wider one leads as far
leading-same : (f t : ℕ → Bool) → ((u : ℕ) → f u ≡ true → t u ≡ true) → (ws : List ℕ)
    → ((u : ℕ) → member u (leading t ws) ≡ true → f u ≡ true) → leading f ws ≡ leading t ws
unfolding leading
leading-same f t wide [] h = refl
leading-same f t wide (w ∷ ws) h = ⊎_elim
    (λ p. let e = leading-true t w ws p in
    let here = h w (ap (member w) e ∙ member-head w w (leading t ws) refl) in
    leading-true f w ws here
    ∙ ap (λ (l : List ℕ). w ∷ l) (leading-same f t wide ws (λ u m. h u (ap (member u) e ∙ member-tail u w (leading t ws) m))) ∙ sym e)
    (λ p. leading-false f w ws (is_false (f w) (λ q. contradict (wide w q) p)) ∙ sym (leading-false t w ws p))
    (either (t w))

module _ (s : List ℕ) where
  unit-has-bit : (u : ℕ) → is_unit (shape_of s) u ≡ true → has_bit (shape_of s) u ≡ true
  unfolding has_bit
  unit-has-bit u e = let l = unit-below (shape_of s) u e in lt-ltb u (64 * words_for (shape_of s).n) (omega arith)

  absent-no-bit : Limits (shape_of s) → has_bit (shape_of s) X ≡ false
  unfolding has_bit
  absent-no-bit l = let n = units-high (shape_of s) l in le-ltb X (64 * words_for (shape_of s).n) (omega arith)

  module _ (i : ℕ) where
    -- a chunk that claims units alone holds what it claims, and the form of its map is that of row 5
    module _ (only : (u : ℕ) → member u (claimed_by s i) ≡ true → is_unit (shape_of s) u ≡ true) where
      leads : mapped s i ≡ true → leading (is_unit (shape_of s)) (unit_words_of s (link_of s i)) ≡ claimed_in s (link_of s i)
      leads m = leading-same (is_unit (shape_of s)) (has_bit (shape_of s)) unit-has-bit (unit_words_of s (link_of s i)) (λ u h.
          only u (ap (member u) (claims-named s i (mapped-named s i m)) ∙ h))

      holds-claims : units_of s i ≡ claimed_by s i
      holds-claims = ⊎_elim (λ m. units-mapped s i m ∙ leads m ∙ sym (claims-named s i (mapped-named s i m)))
          (λ m. units-unmapped s i m ∙ sym (claims-absent s i (unmapped-absent s i m))) (either (mapped s i))

      form-same : mapped s i ≡ true → form_by (is_unit (shape_of s)) (shape_of s) (map_of s (link_of s i)) ≡ form_by (has_bit (shape_of s)) (shape_of s) (map_of s (link_of s i))
      unfolding form_by well_formed
      form-same m = rw (leads m)

      good-same : good_map s i ≡ passable_map s i
      good-same = ⊎_elim
          (λ m. let n = mapped-named s i m in
          named-map s i n ∙ form-by-units (shape_of s) (map_of s (link_of s i)) ∙ form-same m ∙ sym (form-named s i n))
          (λ m. let x = unmapped-absent s i m in absent-map s i x ∙ sym (form-absent s i x)) (either (mapped s i))

    -- and so does one whose map has the form of row 5: past its units it has X alone, which has no bit
    claims-units : Limits (shape_of s) → good_map s i ≡ true → (u : ℕ) → member u (claimed_by s i) ≡ true → is_unit (shape_of s) u ≡ true
    claims-units lim good u h = ⊎_elim
        (λ m.
        let ws = unit_words_of s (link_of s i) in
        let o = (map-form (shape_of s) (map_of s (link_of s i)) (sym (named-map s i (mapped-named s i m)) ∙ good)).units in
        let k = length (leading (is_unit (shape_of s)) ws) in
        let r = member-place u (claimed_in s (link_of s i)) (sym (ap (member u) (claims-named s i (mapped-named s i m))) ∙ h) in
        let a = leading_at (has_bit (shape_of s)) ws r.0 r.1 in
        let e : get_or ws r.0 0 ≡ u = sym a.0 ∙ r.2 in
        ⊎_elim (λ q. ap (is_unit (shape_of s)) (sym e) ∙ o.units r.0 (ltb-true r.0 k q))
        (λ q. contradict a.1 (ap (has_bit (shape_of s)) (o.rest r.0 (ltb-false r.0 k q) (omega (arith, r.1, length-leading (has_bit (shape_of s)) ws))) ∙ absent-no-bit lim))
        (either (ltb r.0 k)))
        (λ m. contradict (sym (ap (member u) (claims-absent s i (unmapped-absent s i m))) ∙ h) (member-nil u))
        (either (mapped s i))

-- ---- where nothing is held twice, no two chunks clash and none has a unit twice

module _ (s : List ℕ) (d : distinct (held_units s) ≡ true) where
  once : (i : ℕ) → i < (shape_of s).c → distinct (units_of s i) ≡ true
  unfolding held_units
  once i h = is_true (distinct (units_of s i)) (λ e.
      let r = repeated-some (units_of s i) e in
      contradict d (repeated-twice r.0 (held_units s) (repeated-in-one (units_of s) r.0 (shape_of s).c i h r.1)))

  module _ (i j : ℕ) (h : i < j) (l : j < (shape_of s).c) where
    one-holder : (u : ℕ) → member u (units_of s i) ≡ true → member u (units_of s j) ≡ false
    unfolding held_units
    one-holder u m = is_false (member u (units_of s j)) (λ k.
        contradict d (repeated-twice u (held_units s) (repeated-in-two (units_of s) u (shape_of s).c i j h l m k)))

    -- who names another's map holds its units, of which there is one at least
    other-map : good_map s i ≡ true → mapped s i ≡ true → mapped s j ≡ true → eqb (link_of s i) (link_of s j) ≡ false
    other-map f a b = is_false (eqb (link_of s i) (link_of s j)) (λ e.
        let u = get_or (units_of s i) 0 0 in
        let m = member-get_or (units_of s i) 0 (good-some s i a f) in
        let q : units_of s i ≡ units_of s j =
        units-mapped s i a ∙ ap (held_in s) (eqb-true (link_of s i) (link_of s j) e) ∙ sym (units-mapped s j b) in
        contradict (sym (ap (member u) q) ∙ m) (one-holder u m))

    no-clash : good_map s i ≡ true → clash s i j ≡ false
    unfolding clash
    no-clash f = is_false _ (λ e.
        let both = mapped s i && mapped s j in
        let apart = disjoint (units_of s i) (units_of s j) in
        let rest = eqb (link_of s i) (link_of s j) || not apart in
        let m = and_left both rest e in
        ⊎_elim (λ q. contradict q (other-map f (and_left (mapped s i) (mapped s j) m) (and_right (mapped s i) (mapped s j) m)))
        (λ q. contradict q (ap not (disjoint-intro (units_of s i) (units_of s j) one-holder)))
        (or_cases (eqb (link_of s i) (link_of s j)) (not apart) (and_right both rest e)))

-- ---- free and claimed units are N-R in all exactly where no row holds

-- what all chunks claim
abbrev claimed : List ℕ → List ℕ
claimed s = joined (claimed_by s) (below (shape_of s).c)

module _ (s : List ℕ) (lim : Limits (shape_of s)) where
  held-claimed : ((i : ℕ) → i < (shape_of s).c → units_of s i ≡ claimed_by s i) → held_units s ≡ claimed s
  unfolding held_units
  held-claimed h = joined-ext (units_of s) (claimed_by s) (shape_of s).c h

  module _ (z : ChunksTested s) where
    passed-holds : (i : ℕ) → i < (shape_of s).c → units_of s i ≡ claimed_by s i
    passed-holds i h = holds-claims s i (claims-units s i lim (z.maps i h))

    passed-claims : (i : ℕ) → i < (shape_of s).c → passable s i ≡ true
    passed-claims i h =
        and_intro (good_link s i) (passable_map s i) (z.links i h) (sym (good-same s i (claims-units s i lim (z.maps i h))) ∙ z.maps i h)

    passed-free : keep (without (is_unit (shape_of s)) (claimed s)) (below (shape_of s).n) ≡ free_units s
    unfolding free_units
    passed-free = keep-ext _ (free_unit s) (below (shape_of s).n) (λ u m.
        ap (λ (l : List ℕ). without (is_unit (shape_of s)) l u) (sym (held-claimed passed-holds)) ∙ free-unheld s u)

    passed_counted : length (claimed s) + length (keep (without (is_unit (shape_of s)) (claimed s)) (below (shape_of s).n)) ≡ (shape_of s).n - (shape_of s).r
    passed_counted =
        omega (arith, free-and-held-units s z (omega (arith, lim.r-high)), ap length passed-free, ap length (held-claimed passed-holds))

  module _ (good : (i : ℕ) → i < (shape_of s).c → passable s i ≡ true)
      (e : length (claimed s) + length (keep (without (is_unit (shape_of s)) (claimed s)) (below (shape_of s).n)) ≡ (shape_of s).n - (shape_of s).r) where
    counted : (distinct (claimed s) ≡ true) × ((u : ℕ) → member u (claimed s) ≡ true → (member u (below (shape_of s).n) ≡ true) × (is_unit (shape_of s) u ≡ true))
    counted = left-counted (is_unit (shape_of s)) (below (shape_of s).n) (claimed s) (distinct_from 0 (shape_of s).n) (omega (arith, units-many (shape_of s) (omega (arith, lim.r-high))))

    only-units : (i : ℕ) → i < (shape_of s).c → (u : ℕ) → member u (claimed_by s i) ≡ true → is_unit (shape_of s) u ≡ true
    only-units i h u m =
        (counted.1 u (member-joined (claimed_by s) u (below (shape_of s).c) ∙ any-below-intro (λ j. member u (claimed_by s j)) (shape_of s).c i h m)).1

    counted-maps : (i : ℕ) → i < (shape_of s).c → good_map s i ≡ true
    counted-maps i h = good-same s i (only-units i h) ∙ and_right (good_link s i) (passable_map s i) (good i h)

    counted-held : held_units s ≡ claimed s
    counted-held = held-claimed (λ i h. holds-claims s i (only-units i h))

    counted-tested : ChunksTested s
    counted-tested =
        let d : distinct (held_units s) ≡ true = ap distinct counted-held ∙ counted.0 in
        record {
          links = λ i h. and_left (good_link s i) (passable_map s i) (good i h);
          maps = counted-maps;
          apart = λ i j h l. no-clash s d i j h l (counted-maps i (omega arith));
          single = once s d;
        }

-- ---- what `survey_words` owes at its returns, and `survey`

passed-no : (v : Result ⊤ Refusal) → (v ≡ Ok tt → ⊥) → false ≡ passed v
passed-no (Ok tt) n = absurd (n refl)
passed-no (Err r) n = refl

pub passed-yes : (v : Result ⊤ Refusal) → passed v ≡ true → v ≡ Ok tt
passed-yes (Ok tt) e = refl
passed-yes (Err r) e = absurd (false≢true e)

limits-said : (s : List ℕ) (g : Shape) → Shaped s g → Limits (shape_of s)
limits-said s g h = subst Limits h.same h.limits

-- a chunk is not passable: a row holds, and nothing is said of the sets
pub survey-bad : (s : List ℕ) (g : Shape) → Shaped s g → (n m : ℕ) (us ms : List ℕ) (i : ℕ) → i < g.c → passable s i ≡ false
    → Surveyed s false n m us ms
survey-bad s g h n m us ms i l b =
    let c = ap (λ (q : Shape). q.c) h.same in
    record {
      right = passed-no (chunk_verdict s) (λ p. contradict (passed-claims s (limits-said s g h) (chunks-tested s p) i (omega arith)) b);
      units-left = λ z. absurd (false≢true z);
      maps-left = λ z. absurd (false≢true z);
    }

-- what is left of a set once the numbers that are not free are out of it
left-cell : (a b : Bool) → not (not a || b) ≡ (a && not b)
left-cell true b = refl
left-cell false b = refl

left-set : (f : ℕ → Bool) (xs : List ℕ) (n : ℕ) (set after : List ℕ) → set ≡ bit_set (taken f xs) n
    → after ≡ bit_set (λ u. not (in_set set u)) (length set) → after ≡ bit_set (without f xs) n
unfolding with_all without
left-set f xs n set after e a =
    a ∙ ap (λ (l : List ℕ). bit_set (λ u. not (in_set l u)) (length l)) e ∙ inverted-set (taken f xs) n
    ∙ bit_set-ext _ _ n (λ y h. left-cell (f y) (member y xs))

-- all chunks are passable: the sets as they were then, what they were turned into, and how many members the units' set has
module _ (s : List ℕ) (lim : Limits (shape_of s)) (good : (i : ℕ) → i < (shape_of s).c → passable s i ≡ true)
    (us ms after rest : List ℕ)
    (eu : us ≡ bit_set (units_taken s (shape_of s).c) (words_for (shape_of s).n)) (au : after ≡ bit_set (λ u. not (in_set us u)) (length us))
    (em : ms ≡ bit_set (maps_taken s (shape_of s).c) (words_for (shape_of s).m)) (am : rest ≡ bit_set (λ u. not (in_set ms u)) (length ms))
    (held free : ℕ) (eh : held ≡ length (claimed s)) (ef : free ≡ length (members after)) where
  abbrev left : ℕ → Bool
  left = without (is_unit (shape_of s)) (claimed s)

  units-are : after ≡ bit_set left (words_for (shape_of s).n)
  units-are = left-set (is_unit (shape_of s)) (claimed s) (words_for (shape_of s).n) us after eu au

  left-low : (u : ℕ) → left u ≡ true → u < (shape_of s).n
  unfolding without
  left-low u e = unit-below (shape_of s) u (and_left (is_unit (shape_of s) u) (not (member u (claimed s))) e)

  free-count : free ≡ length (keep left (below (shape_of s).n))
  free-count = ef ∙ ap length (ap members units-are ∙ members-below left (shape_of s).n (words_for (shape_of s).n) left-low (omega arith))

  module _ (e : held + free ≡ (shape_of s).n - (shape_of s).r) where
    all-claimed : length (claimed s) + length (keep left (below (shape_of s).n)) ≡ (shape_of s).n - (shape_of s).r
    all-claimed = omega (arith, eh, free-count)

    free-units : after ≡ bit_set (free_unit s) (words_for (shape_of s).n)
    free-units = units-are ∙ bit_set-ext left (free_unit s) (words_for (shape_of s).n) (λ y h.
        ap (λ (l : List ℕ). without (is_unit (shape_of s)) l y) (sym (counted-held s lim good all-claimed)) ∙ free-unheld s y)

    free-maps : rest ≡ bit_set (free_map s) (words_for (shape_of s).m)
    unfolding free_map without
    free-maps =
        left-set (λ k. ltb k (shape_of s).m) (names s) (words_for (shape_of s).m) ms rest em am
        ∙ bit_set-ext _ _ (words_for (shape_of s).m) (λ y h. rw (named-any s y (λ x. absurd (omega (arith, maps-few (shape_of s) lim)))))

  counted-right : eqb (held + free) ((shape_of s).n - (shape_of s).r) ≡ passed (chunk_verdict s)
  counted-right = same (eqb (held + free) ((shape_of s).n - (shape_of s).r)) (passed (chunk_verdict s))
      (λ t. rw (chunks-passed s (counted-tested s lim good (all-claimed (eqb-true _ _ t)))))
      (λ t. eq-eqb (held + free) ((shape_of s).n - (shape_of s).r) (omega (arith, eh, free-count, passed_counted s lim (chunks-tested s (passed-yes (chunk_verdict s) t)))))

  survey-told : Surveyed s (eqb (held + free) ((shape_of s).n - (shape_of s).r)) (words_for (shape_of s).n) (words_for (shape_of s).m) after rest
  survey-told = record { right = counted-right; units-left = λ t. free-units (eqb-true _ _ t); maps-left = λ t. free-maps (eqb-true _ _ t) }

-- the same where the code has the shape as g, and went through j chunks
pub survey-done : (s : List ℕ) (g : Shape) → Shaped s g → (j : ℕ) → j ≡ g.c → ((i : ℕ) → i < j → passable s i ≡ true) → (us ms after rest : List ℕ)
    → us ≡ bit_set (units_taken s j) (words_for g.n) → after ≡ bit_set (λ u. not (in_set us u)) (length us)
    → ms ≡ bit_set (maps_taken s j) (words_for g.m) → rest ≡ bit_set (λ u. not (in_set ms u)) (length ms)
    → (held free : ℕ) → held ≡ length (joined (claimed_by s) (below j)) → free ≡ length (members after)
    → Surveyed s (eqb (held + free) (g.n - g.r)) (words_for g.n) (words_for g.m) after rest
survey-done s g h j whole good us ms after rest eu au em am held free eh ef =
    let c : j ≡ (shape_of s).c = whole ∙ ap (λ (q : Shape). q.c) h.same in
    subst (λ (q : Shape). Surveyed s (eqb (held + free) (q.n - q.r)) (words_for q.n) (words_for q.m) after rest) (sym h.same)
    (survey-told s (limits-said s g h) (λ i l. good i (omega arith)) us ms after rest
    (eu ∙ ap₂ (λ (i : ℕ) (q : Shape). bit_set (units_taken s i) (words_for q.n)) c h.same) au
    (em ∙ ap₂ (λ (i : ℕ) (q : Shape). bit_set (maps_taken s i) (words_for q.m)) c h.same) am
    held free (eh ∙ ap (λ (i : ℕ). length (joined (claimed_by s) (below i))) c) ef)

-- where the sets are the first words of empty ones: n and m of them
pub survey-over : (s : List ℕ) (g : Shape) → Shaped s g → (n m : ℕ) → n ≡ words_for g.n → m ≡ words_for g.m → (ok : Bool) (us ms : List ℕ)
    → Surveyed s ok (words_for g.n) (words_for g.m) us ms → (units maps : List ℕ) → units ≡ replicate unit_set_words 0 → maps ≡ replicate map_set_words 0
    → Surveyed s ok unit_set_words map_set_words (us ++ drop n units) (ms ++ drop m maps)
survey-over s g h n m en em ok us ms v units maps eu es =
    let size = ap (λ (q : Shape). q.n) h.same in
    let count = ap (λ (q : Shape). q.m) h.same in
    record {
      right = v.right;
      units-left = λ t. set-over (free_unit s) n unit_set_words us units (omega (arith, units-high g h.limits)) eu (v.units-left t ∙ ap (bit_set (free_unit s)) (sym en))
          (λ u l. is_false (free_unit s u) (λ e. let b = free_unit-below s u e in absurd (omega arith)));
      maps-left = λ t. set-over (free_map s) m map_set_words ms maps (omega (arith, maps-few g h.limits)) es (v.maps-left t ∙ ap (bit_set (free_map s)) (sym em))
          (λ k l. is_false (free_map s k) (λ e. let b = free_map-below s k e in absurd (omega arith)));
    }
