-- The maps that chunks name: each chunk one or none, all below M where row 4 does not hold, and each once in a sound image.
use Prim.Native.Nat.{ℕ, ◌<◌, ◌≤◌}
use mathlib.Core.Path.{◌≡◌, ap, sym, ◌∙◌}
use mathlib.Core.Bool.{true}
use mathlib.Core.List.{List, [], ◌∷◌}
use mathlib.Core.Logic.{⊎_elim}
use native.Mathlib.Omega.{arith}
use lib.ListN.{length}
use lib.Dec.{eqb}
use borrow.Author.Tests.{eq-eqb, ne_eqb, eqb-true}
use Rattle.search.specs.Search.{below, any, member, distinct, joined}
use Rattle.search.proofs.Bools.{contradict, either, is_false, is_true, same}
use Rattle.search.proofs.Members.{member-nil, member-cons, member-head, any-ext}
use Rattle.search.proofs.Ranges.{any_below}
use Rattle.search.proofs.Distinct.{distinct-few, disjoint-intro}
use Rattle.search.proofs.Joined.{member-joined, distinct-joined}
use Rattle.layout.specs.Layout.{X, shape_of, link_of}
use Rattle.image.specs.Soundness.{mapped}
use Rattle.image.specs.Verdicts.{good_link}
use Rattle.image.specs.Survey.{names_of}
use Rattle.image.proofs.Chunks.{mapped-named, unmapped-absent, named-below, clash-links}
use Rattle.image.proofs.SoundLaws.{ChunksTested}

-- ---- one chunk

module _ (s : List ℕ) (i : ℕ) where
  pub names-absent : link_of s i ≡ X → names_of s i ≡ []
  unfolding names_of
  names-absent e = rw (eq-eqb (link_of s i) X e)

  pub names-named : (link_of s i ≡ X → ⊥) → names_of s i ≡ link_of s i ∷ []
  unfolding names_of
  names-named e = rw (ne_eqb (link_of s i) X e)

  pub names-few : length (names_of s i) ≤ 1
  names-few = ⊎_elim (λ m. omega (arith, ap length (names-named (mapped-named s i m))))
      (λ m. omega (arith, ap length (names-absent (unmapped-absent s i m))))
      (either (mapped s i))

  module _ (k : ℕ) where
    name_of : member k (names_of s i) ≡ true → (mapped s i ≡ true) × (link_of s i ≡ k)
    name_of h = ⊎_elim
        (λ m. (
          m,
          ⊎_elim (λ e. sym e) (λ e. contradict e (member-nil k))
              (member-cons k (link_of s i) [] (sym (ap (member k) (names-named (mapped-named s i m))) ∙ h)),
        ))
        (λ m. contradict (sym (ap (member k) (names-absent (unmapped-absent s i m))) ∙ h) (member-nil k))
        (either (mapped s i))

    name_in : mapped s i ≡ true → link_of s i ≡ k → member k (names_of s i) ≡ true
    name_in m e = ap (member k) (names-named (mapped-named s i m)) ∙ member-head k (link_of s i) [] (sym e)

    -- a number that is not X is named where the entry is this number
    name-test : (k ≡ X → ⊥) → member k (names_of s i) ≡ eqb (link_of s i) k
    name-test n = same (member k (names_of s i)) (eqb (link_of s i) k)
        (λ p. eq-eqb (link_of s i) k (name_of p).1)
        (λ p. let e = eqb-true (link_of s i) k p in
        name_in (is_true (mapped s i) (λ z. absurd (n (sym e ∙ unmapped-absent s i z)))) e)

-- ---- all chunks

module _ (s : List ℕ) where
  abbrev pub names : List ℕ
  names = joined (names_of s) (below (shape_of s).c)

  pub named-maps : ((i : ℕ) → i < (shape_of s).c → good_link s i ≡ true) → (k : ℕ) → member k names ≡ true → k < (shape_of s).m
  named-maps good k m =
      let r = any_below (λ i. member k (names_of s i)) (shape_of s).c (sym (member-joined (names_of s) k (below (shape_of s).c)) ∙ m) in
      let q = name_of s r.0 k r.2 in
      omega (arith, q.1, named-below s r.0 (mapped-named s r.0 q.0) (good r.0 r.1))

  pub names-once : ChunksTested s → distinct names ≡ true
  names-once z = distinct-joined (names_of s) 0 (shape_of s).c (λ j h. distinct-few (names_of s j) (names-few s j)) (λ j k h l.
      disjoint-intro (names_of s j) (names_of s k) (λ x a. is_false (member x (names_of s k)) (λ b.
      let p = name_of s j x a in
      let q = name_of s k x b in
      absurd (clash-links s j k (z.apart j k h (omega arith)) p.0 q.0 (p.1 ∙ sym q.1)))))

  -- a map is named where an entry says its number
  pub named-any : (y : ℕ) → (y ≡ X → ⊥) → member y names ≡ any (λ i. eqb (link_of s i) y) (below (shape_of s).c)
  named-any y h =
      member-joined (names_of s) y (below (shape_of s).c)
      ∙ any-ext (λ i. member y (names_of s i)) (λ i. eqb (link_of s i) y) (λ i. name-test s i y h) (below (shape_of s).c)
