-- Soundness as propositions at a fixed shape: `Orderly g s` says of each chunk, and of each two, what `Tested s` says by tests.
use Prim.Native.Nat.{ℕ, ◌<◌}
use mathlib.Core.Path.{◌≡◌, refl, sym, ap, subst, ◌∙◌}
use mathlib.Core.Logic.{◌⊎◌, inl, inr, ◌≢◌, ⊎_elim}
use mathlib.Core.Bool.{true, false, not, ◌&&◌, ◌||◌, cond}
use mathlib.Core.List.{List, []}
use native.Mathlib.Omega.{arith}
use lib.Dec.{eqb, ltb}
use borrow.Author.Tests.{eqb-true, ltb-true, ltb-false, lt-ltb}
use Rattle.layout.specs.declared.Shape.{Shape}
use Rattle.search.specs.Search.{member, distinct, disjoint}
use Rattle.layout.specs.Layout.{is_unit, unit_words, shape_of, link_of, words_of}
use Rattle.image.specs.Claims.{Tested}
use Rattle.image.specs.Soundness.{leading, mapped, units_of}
use Rattle.image.specs.Verdicts.{good_form, clash}
use Rattle.search.proofs.Bools.{implied, implies, contradict, either, is_false, and_left, and_right, or_cases}
use Rattle.search.proofs.Members.{any_at}
use Rattle.search.proofs.Distinct.{disjoint-at, meets}
use Rattle.image.proofs.Chunks.{clash-links, clash-units, mapped-of-unit, units-unmapped}
use Rattle.layout.specs.Shaped.{On}

-- the units of chunk i, the shape being known
abbrev pub units_in : Shape → List ℕ → ℕ → List ℕ
units_in g s i = cond (mapped s i) (leading (is_unit g) (unit_words g (words_of g s (link_of s i)))) []

pub units_in_lem : {g : Shape} {s : List ℕ} → On g s → (i : ℕ) → units_of s i ≡ units_in g s i
unfolding units_of
units_in_lem {g} {s} o i = ap (λ (h : Shape). units_in h s i) o.shape

-- chunk i's entry and map are in order
pub record Chunk (g : Shape) (s : List ℕ) (i : ℕ) : Type 0 where
  pub bound : mapped s i ≡ true → link_of s i < g.m
  pub formed : mapped s i ≡ true → good_form g (words_of g s (link_of s i)) ≡ true
  pub single : distinct (units_of s i) ≡ true

-- chunks i and j share neither map nor unit
pub record Apart (s : List ℕ) (i j : ℕ) : Type 0 where
  pub maps : mapped s i ≡ true → mapped s j ≡ true → link_of s i ≢ link_of s j
  pub units : (u : ℕ) → member u (units_of s i) ≡ true → member u (units_of s j) ≡ true → ⊥

pub record Orderly (g : Shape) (s : List ℕ) : Type 0 where
  pub on : On g s
  pub chunk : (i : ℕ) → i < g.c → Chunk g s i
  pub apart : (i j : ℕ) → i < g.c → j < g.c → i ≢ j → Apart s i j

pub apart-flip : {s : List ℕ} {i j : ℕ} → Apart s i j → Apart s j i
apart-flip a = record { maps = λ p q e. a.maps q p (sym e); units = λ u p q. a.units u q p }

-- a chunk with no map is in order, and apart from every other
pub unmapped-chunk : (g : Shape) (s : List ℕ) (i : ℕ) → mapped s i ≡ false → Chunk g s i
unfolding distinct
unmapped-chunk g s i e = record { bound = λ p. contradict p e; formed = λ p. contradict p e; single = ap distinct (units-unmapped s i e) }

pub unmapped-apart : {s : List ℕ} {i j : ℕ} → mapped s i ≡ false → Apart s i j
unmapped-apart {s} {i} e = record { maps = λ p q. contradict p e; units = λ u p q. contradict (mapped-of-unit s u i p) e }

pub clash-apart : (s : List ℕ) (i j : ℕ) → clash s i j ≡ false → Apart s i j
clash-apart s i j h = record {
  maps = λ p q e. clash-links s i j h p q e;
  units = λ u p q. contradict q (disjoint-at (units_of s i) (units_of s j) (clash-units s i j h) u p);
}

-- two chunks that clash both name a map, the same one or two with a common unit
pub record Clashing (s : List ℕ) (i j : ℕ) : Type 0 where
  pub first : mapped s i ≡ true
  pub second : mapped s j ≡ true
  pub common : (link_of s i ≡ link_of s j) ⊎ ((u : ℕ) × (member u (units_of s i) ≡ true) × (member u (units_of s j) ≡ true))

pub clashing : (s : List ℕ) (i j : ℕ) → clash s i j ≡ true → Clashing s i j
unfolding clash
clashing s i j e =
    let links = eqb (link_of s i) (link_of s j) in
    let units = not (disjoint (units_of s i) (units_of s j)) in
    let both = and_left (mapped s i && mapped s j) (links || units) e in
    record {
      first = and_left (mapped s i) (mapped s j) both;
      second = and_right (mapped s i) (mapped s j) both;
      common = ⊎_elim (λ q. inl (eqb-true (link_of s i) (link_of s j) q))
          (λ q. let r = any_at (λ u. member u (units_of s i)) (units_of s j) (sym (meets (units_of s i) (units_of s j)) ∙ q) in inr (r.0, r.2, r.1))
          (or_cases links units (and_right (mapped s i && mapped s j) (links || units) e));
    }

pub apart-clash : (s : List ℕ) (i j : ℕ) → Apart s i j → clash s i j ≡ false
apart-clash s i j a = is_false (clash s i j) (λ h.
    let c = clashing s i j h in ⊎_elim (λ e. a.maps c.first c.second e) (λ r. a.units r.0 r.1 r.2) c.common)

pub orderly : {s : List ℕ} → Tested s → Orderly (shape_of s) s
orderly {s} d = record {
  on = record { long = d.long; shape = refl; known = d.known; fitting = d.fitting };
  chunk = λ i h. record {
    bound = λ p. ltb-true (link_of s i) (shape_of s).m (implied (mapped s i) (ltb (link_of s i) (shape_of s).m) (d.links i h) p);
    formed = λ p. implied (mapped s i) (good_form (shape_of s) (words_of (shape_of s) s (link_of s i))) (d.maps i h) p;
    single = d.single i h;
  };
  apart = λ i j h k n. ordered i j h k n (either (ltb i j));
}
  where
    ordered : (i j : ℕ) → i < (shape_of s).c → j < (shape_of s).c → i ≢ j → (ltb i j ≡ true) ⊎ (ltb i j ≡ false) → Apart s i j
    ordered i j h k n (inl l) = clash-apart s i j (d.apart i j (ltb-true i j l) k)
    ordered i j h k n (inr l) = apart-flip (clash-apart s j i (d.apart j i (omega (arith, ltb-false i j l)) h))

pub orderly-tested : {g : Shape} {s : List ℕ} → Orderly g s → Tested s
orderly-tested {g} {s} d =
    let e : shape_of s ≡ g = d.on.shape in
    record {
      long = d.on.long;
      known = d.on.known;
      fitting = d.on.fitting;
      links = λ i h. implies (mapped s i) (ltb (link_of s i) (shape_of s).m) (λ p. lt-ltb (link_of s i) (shape_of s).m (subst (λ (k : Shape). link_of s i < k.m) (sym e) ((d.chunk i (below-c i h)).bound p)));
      maps = λ i h. implies (mapped s i) (good_form (shape_of s) (words_of (shape_of s) s (link_of s i))) (λ p. subst (λ (k : Shape). good_form k (words_of k s (link_of s i)) ≡ true) (sym e) ((d.chunk i (below-c i h)).formed p));
      apart = λ i j l h. apart-clash s i j (d.apart i j (omega (arith, below-c j h)) (below-c j h) (λ q. omega arith));
      single = λ i h. (d.chunk i (below-c i h)).single;
    }
  where
    below-c : (i : ℕ) → i < (shape_of s).c → i < g.c
    below-c i h = subst (λ (k : Shape). i < k.c) d.on.shape h
