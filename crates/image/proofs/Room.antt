-- What is free, and how much of it there is.
--     free_unit-.., free_map-..     the tests against what they say of every chunk
--     some-map-free               a fitting image has a free map
--     units-free                  with N-R at least (C+1)·P, at least P units are free
--     free-and-held               in a sound image free and held units are N-R in all
--     free-and-named              and free maps and mapped chunks are M
use Prim.Native.Nat.{ℕ, ◌+◌, ◌-◌, ◌*◌, ◌≤◌, ◌<◌}
use native.Mathlib.Omega.{arith}
use mathlib.Core.Path.{◌≡◌, sym, ap, ap₂, subst, ◌∙◌}
use mathlib.Core.Logic.{⊎_elim}
use mathlib.Core.Bool.{Bool, true, false, not, ◌&&◌}
use mathlib.Core.List.{List, ◌++◌}
use lib.ListN.{length}
use lib.Dec.{eqb, ltb, leb}
use borrow.Author.Tests.{ltb-true, lt-ltb, leb-true, leb-false, eqb-false, ne_eqb, not-true}
use Rattle.search.specs.Search.{from, below, keep, member, distinct, joined}
use Rattle.layout.specs.declared.Shape.{Shape}
use Rattle.layout.specs.Layout.{is_unit, shape_of, link_of, fitting}
use Rattle.image.specs.Claims.{Tested}
use Rattle.image.specs.Soundness.{mapped, units_of}
use Rattle.image.specs.Survey.{names_of}
use Rattle.image.specs.Free.{free_unit, free_map, free_units, free_maps, held_units}
use Rattle.search.proofs.Bools.{either, and_left, and_right, and_intro, not_of_false}
use Rattle.search.proofs.Ranges.{member-from, member_below, below-member, any_below, any-below-none, any-below-none-intro, length_from}
use Rattle.search.proofs.Kept.{keep_all, keep-none, keep-ext, keep-cut, member-keep}
use Rattle.search.proofs.Distinct.{distinct_from}
use Rattle.search.proofs.Counting.{left-at-least, left-exactly, unlisted, unlisted-exactly}
use Rattle.search.proofs.Joined.{member-joined, length-joined, length-joined-low, joined-kept, distinct-joined}
use Rattle.search.specs.Sets.{without}
use Rattle.layout.proofs.Limits.{maps-few, fitting-limits, unit-below, unit-unreserved, between-unit, reserved-no-unit}
use Rattle.image.proofs.Chunks.{length-units, units-are-units, mapped-named, unmapped-absent, clash-units}
use Rattle.image.proofs.SoundLaws.{ChunksTested, tested-chunks}
use Rattle.image.proofs.Naming.{names-absent, names-named, names-few, names, named-maps, names-once, named-any}

-- ---- the tests

pub free_unit-unit : (s : List ℕ) (u : ℕ) → free_unit s u ≡ true → is_unit (shape_of s) u ≡ true
unfolding free_unit
free_unit-unit s u e = and_left (is_unit (shape_of s) u) _ e

pub free_unit-below : (s : List ℕ) (u : ℕ) → free_unit s u ≡ true → u < (shape_of s).n
free_unit-below s u e = unit-below (shape_of s) u (free_unit-unit s u e)

-- no reserved unit is free
pub free_unit-unreserved : (s : List ℕ) (u : ℕ) → free_unit s u ≡ true → (shape_of s).r ≤ u
free_unit-unreserved s u e = unit-unreserved (shape_of s) u (free_unit-unit s u e)

pub free_unit-unheld : (s : List ℕ) (u : ℕ) → free_unit s u ≡ true → (i : ℕ) → i < (shape_of s).c → member u (units_of s i) ≡ false
unfolding free_unit
free_unit-unheld s u e =
    any-below-none (λ i. member u (units_of s i)) (shape_of s).c (not-true _ (and_right (is_unit (shape_of s) u) _ e))

pub free_unit-intro : (s : List ℕ) (u : ℕ) → is_unit (shape_of s) u ≡ true → ((i : ℕ) → i < (shape_of s).c → member u (units_of s i) ≡ false)
    → free_unit s u ≡ true
unfolding free_unit
free_unit-intro s u h f =
    and_intro (is_unit (shape_of s) u) _ h
    (not_of_false _ (any-below-none-intro (λ i. member u (units_of s i)) (shape_of s).c f))

pub free_map-below : (s : List ℕ) (k : ℕ) → free_map s k ≡ true → k < (shape_of s).m
unfolding free_map
free_map-below s k e = ltb-true k (shape_of s).m (and_left (ltb k (shape_of s).m) _ e)

pub free_map-unnamed : (s : List ℕ) (k : ℕ) → free_map s k ≡ true → (i : ℕ) → i < (shape_of s).c → link_of s i ≡ k → ⊥
unfolding free_map
free_map-unnamed s k e i h =
    eqb-false (link_of s i) k
    (any-below-none (λ j. eqb (link_of s j) k) (shape_of s).c (not-true _ (and_right (ltb k (shape_of s).m) _ e)) i h)

pub free_map-intro : (s : List ℕ) (k : ℕ) → k < (shape_of s).m → ((i : ℕ) → i < (shape_of s).c → link_of s i ≡ k → ⊥) → free_map s k ≡ true
unfolding free_map
free_map-intro s k h f =
    and_intro (ltb k (shape_of s).m) _ (lt-ltb k (shape_of s).m h)
    (not_of_false _ (any-below-none-intro (λ i. eqb (link_of s i) k) (shape_of s).c (λ i l. ne_eqb (link_of s i) k (f i l))))

-- ---- how many

module _ (s : List ℕ) (e : fitting s ≡ true) where
  -- the free maps are those that no chunk names
  keep-unnamed : keep (without (λ u. true) (names s)) (below (shape_of s).m) ≡ free_maps s
  unfolding free_maps free_map without
  keep-unnamed = keep-ext (without (λ u. true) (names s)) (free_map s) (below (shape_of s).m) (λ k h.
      let low = member_below k (shape_of s).m h in
      rw (lt-ltb k (shape_of s).m low, named-any s k (λ x. absurd (omega (arith, maps-few (shape_of s) (fitting-limits s e))))))

  -- a fitting image has a free map
  pub some-map-free : 1 ≤ length (free_maps s)
  some-map-free =
      let a = unlisted (shape_of s).m (names s) in
      let b = length-joined (names_of s) 1 (below (shape_of s).c) (names-few s) in
      let c = length_from 0 (shape_of s).c in
      let k = ap length keep-unnamed in
      omega (arith, (fitting-limits s e).m-low)

-- free is what is a unit and not held
pub free-unheld : (s : List ℕ) (u : ℕ) → without (is_unit (shape_of s)) (held_units s) u ≡ free_unit s u
unfolding free_unit held_units without
free-unheld s u = ap (λ (b : Bool). is_unit (shape_of s) u && not b) (member-joined (units_of s) u (below (shape_of s).c))

-- of the units each is free or held
pub free-or-held : (s : List ℕ) (u : ℕ) → is_unit (shape_of s) u ≡ true → free_unit s u ≡ not (member u (held_units s))
unfolding without
free-or-held s u h = sym (free-unheld s u) ∙ ap (λ (b : Bool). b && not (member u (held_units s))) h

pub held-unit : (s : List ℕ) (u : ℕ) → member u (held_units s) ≡ true → is_unit (shape_of s) u ≡ true
unfolding held_units
held-unit s u m =
    let r = any_below (λ i. member u (units_of s i)) (shape_of s).c (sym (member-joined (units_of s) u (below (shape_of s).c)) ∙ m) in
    units-are-units s u r.0 r.2

pub held_below : (s : List ℕ) (u : ℕ) → member u (held_units s) ≡ true → u < (shape_of s).n
held_below s u m = unit-below (shape_of s) u (held-unit s u m)

-- a shape has N-R units
pub units-many : (g : Shape) → g.r ≤ g.n → length (keep (is_unit g) (below g.n)) ≡ g.n - g.r
units-many g h =
    let n : g.n ≡ g.r + (g.n - g.r) = omega arith in
    let low = keep-none (is_unit g) (from 0 g.r) (λ u m. reserved-no-unit g u (member_below u g.r m)) in
    let high = keep_all (is_unit g) (from (0 + g.r) (g.n - g.r)) (λ u m.
    let b = member-from u (0 + g.r) (g.n - g.r) m in between-unit g u (omega (arith, b.0)) (omega (arith, b.1))) in
    ap (λ (k : ℕ). length (keep (is_unit g) (from 0 k))) n
    ∙ ap length (keep-cut (is_unit g) 0 g.r (g.n - g.r) ∙ ap₂ (λ (a b : List ℕ). a ++ b) low high)
    ∙ length_from (0 + g.r) (g.n - g.r)

keep-unheld : (s : List ℕ) → keep (without (is_unit (shape_of s)) (held_units s)) (below (shape_of s).n) ≡ free_units s
unfolding free_units
keep-unheld s = keep-ext (without (is_unit (shape_of s)) (held_units s)) (free_unit s) (below (shape_of s).n) (λ u m. free-unheld s u)

free-units-count : (s : List ℕ) → (shape_of s).n - (shape_of s).r ≤ length (free_units s) + length (held_units s)
free-units-count s =
    let g = shape_of s in
    let a = left-at-least (is_unit g) (below g.n) (held_units s) (distinct_from 0 g.n) in
    let e = ap length (keep-unheld s) in
    ⊎_elim (λ q. let k = units-many g (leb-true g.r g.n q) in omega arith) (λ q. let l = leb-false g.r g.n q in omega arith)
    (either (leb g.r g.n))

pub held_high : (s : List ℕ) → length (held_units s) ≤ (shape_of s).c * (shape_of s).p
unfolding held_units
held_high s =
    let a = length-joined (units_of s) (shape_of s).p (below (shape_of s).c) (length-units s) in
    subst (λ (k : ℕ). length (joined (units_of s) (below (shape_of s).c)) ≤ k * (shape_of s).p) (length_from 0 (shape_of s).c) a

-- with N-R at least (C+1)·P, refusal 9 cannot occur for one write: at least P units are free
pub units-free : (s : List ℕ) → ((shape_of s).c + 1) * (shape_of s).p ≤ (shape_of s).n - (shape_of s).r → (shape_of s).p ≤ length (free_units s)
units-free s h = let a = free-units-count s in let b = held_high s in omega arith

-- ---- a sound image: just so many

-- no unit is held twice
units-once : (s : List ℕ) → ChunksTested s → distinct (held_units s) ≡ true
unfolding held_units
units-once s z =
    distinct-joined (units_of s) 0 (shape_of s).c (λ j h. z.single j (omega arith)) (λ j k h l. clash-units s j k (z.apart j k h (omega arith)))

pub distinct-held : (s : List ℕ) → Tested s → distinct (held_units s) ≡ true
distinct-held s z = units-once s (tested-chunks z)

-- each unit is free or held, and none is both
pub free-and-held-units : (s : List ℕ) → ChunksTested s → (shape_of s).r ≤ (shape_of s).n
    → length (free_units s) + length (held_units s) ≡ (shape_of s).n - (shape_of s).r
free-and-held-units s z h =
    let n = (shape_of s).n in
    let a = left-exactly (is_unit (shape_of s)) (below n) (held_units s) (distinct_from 0 n) (units-once s z) (λ u m.
    (below-member u n (held_below s u m), held-unit s u m)) in
    omega (arith, ap length (keep-unheld s), units-many (shape_of s) h)

pub free-and-held : (s : List ℕ) → Tested s → length (free_units s) + length (held_units s) ≡ (shape_of s).n - (shape_of s).r
free-and-held s z = free-and-held-units s (tested-chunks z) (omega (arith, (fitting-limits s z.fitting).r-high))

-- each mapped chunk names a map of its own
pub free-and-named : (s : List ℕ) → Tested s → length (free_maps s) + length (keep (mapped s) (below (shape_of s).c)) ≡ (shape_of s).m
free-and-named s z =
    let c = (shape_of s).c in
    let a = unlisted-exactly (shape_of s).m (names s) (names-once s (tested-chunks z)) (named-maps s z.links) in
    let e = ap length (keep-unnamed s z.fitting) in
    let n = ap length (joined-kept (names_of s) (mapped s) (below c) (λ i h. names-absent s i (unmapped-absent s i h))) in
    let most = length-joined (names_of s) 1 (keep (mapped s) (below c)) (names-few s) in
    let least = length-joined-low (names_of s) 1 (keep (mapped s) (below c)) (λ i h.
    omega (arith, ap length (names-named s i (mapped-named s i (member-keep (mapped s) i (below c) h).1)))) in
    omega arith
