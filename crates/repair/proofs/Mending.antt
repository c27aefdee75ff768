-- The repaired image: its words, that the chunks left are in order and lie apart, and so that it passes; and that a sound image has no fault.
use Prim.Native.Nat.{ℕ, ◌*◌, ◌≤◌, ◌<◌}
use native.Mathlib.Omega.{arith}
use mathlib.Core.Path.{◌≡◌, refl, sym, ap, ◌∙◌}
use mathlib.Core.Logic.{◌≢◌, ⊎_elim}
use mathlib.Core.Bool.{true, false, ◌&&◌, ◌||◌}
use mathlib.Core.List.{List, [], ◌∷◌}
use lib.ListN.{drop}
use lib.Dec.{ltb}
use borrow.Author.Tests.{ltb-true, not-false}
use Rattle.search.specs.Search.{below, member, distinct}
use Rattle.search.proofs.Bools.{contradict, either, implied, is_false, and_intro, or-none, or-false-left, or-false-right, not-of-true}
use Rattle.search.proofs.Members.{member-cons, member-head, member-tail, member-nil}
use Rattle.search.proofs.Kept.{keep-none, member-keep, keep-member}
use Rattle.search.proofs.Ranges.{member_below, below-member}
use Rattle.words.proofs.Store.{drop-store}
use Rattle.layout.specs.declared.Shape.{Shape}
use Rattle.layout.specs.Layout.{X, shape_of, link_of, words_of, word_at, put_word, map_word_place}
use Rattle.layout.specs.Shaped.{On}
use Rattle.layout.proofs.Place.{word_at-same, word_at-other, on-put, place-past}
use Rattle.image.specs.Soundness.{mapped, units_of}
use Rattle.image.specs.Verdicts.{good_form, good_link, good_map, clash}
use Rattle.image.specs.Claims.{Tested}
use Rattle.image.proofs.Chunks.{not-mapped}
use Rattle.image.proofs.Order.{Chunk, Apart, Orderly, apart-flip, unmapped-chunk, unmapped-apart, clash-apart, apart-clash, orderly}
use Rattle.image.proofs.Fate.{Same, same-chunk, same-apart, same_units}
use Rattle.repair.specs.Repair.{bad, shares, names_twice, unlinks, unlinked, unlink, repaired}
use Rattle.repair.proofs.Chunks.{good-link, good-map, sharer, shared-with}

-- ---- the words of an image after chunks were unlinked

abbrev Chunks : Shape → List ℕ → Type 0
Chunks g xs = (i : ℕ) → member i xs ≡ true → i < g.c

unlink-other : (q : ℕ) (xs s : List ℕ) → member q xs ≡ false → word_at (unlink s xs) q ≡ word_at s q
unfolding unlink
unlink-other q [] s n = refl
unlink-other q (x ∷ xs) s n =
    unlink-other q xs (put_word s x X) (is_false (member q xs) (λ m. contradict (member-tail q x xs m) n))
    ∙ word_at-other s x q X (λ e. contradict (member-head q x xs (sym e)) n)

module _ (g : Shape) where
  unlink-on : (xs s : List ℕ) → Chunks g xs → On g s → On g (unlink s xs)
  unfolding unlink
  unlink-on [] s h o = o
  unlink-on (x ∷ xs) s h o =
      let b = h x (member-head x x xs refl) in
      unlink-on xs (put_word s x X) (λ i m. h i (member-tail i x xs m)) (on-put g s o x X (omega arith))

  unlink-member : (q : ℕ) (xs s : List ℕ) → Chunks g xs → On g s → member q xs ≡ true → word_at (unlink s xs) q ≡ X
  unfolding unlink
  unlink-member q [] s h o m = contradict m (member-nil q)
  unlink-member q (x ∷ xs) s h o m =
      let b = h x (member-head x x xs refl) in
      let p = on-put g s o x X (omega arith) in
      ⊎_elim (λ k. unlink-member q xs (put_word s x X) (λ i m. h i (member-tail i x xs m)) p k)
      (λ k. let e : q ≡ x = ⊎_elim (λ w. w) (λ w. contradict w k) (member-cons q x xs m) in
      unlink-other q xs (put_word s x X) k ∙ ap (word_at (put_word s x X)) e ∙ word_at-same g s o x X (omega arith) (omega arith))
      (either (member q xs))

  unlink-rest : (n : ℕ) (xs s : List ℕ) → Chunks g xs → 8 * g.c ≤ n → drop n (unlink s xs) ≡ drop n s
  unfolding unlink
  unlink-rest n [] s h l = refl
  unlink-rest n (x ∷ xs) s h l =
      let b = h x (member-head x x xs refl) in
      unlink-rest n xs (put_word s x X) (λ i m. h i (member-tail i x xs m)) l ∙ drop-store 8 s (8 * x) X n (omega arith)

-- ---- which chunks are in the list

module _ (s : List ℕ) (i : ℕ) where
  pub unlinked-chunk : member i (unlinked s) ≡ true → (i < (shape_of s).c) × (unlinks s i ≡ true)
  unfolding unlinked
  unlinked-chunk m =
      let r = member-keep (unlinks s) i (below (shape_of s).c) m in
      (member_below i (shape_of s).c r.0, r.1)

  pub chunk-unlinked : i < (shape_of s).c → unlinks s i ≡ true → member i (unlinked s) ≡ true
  unfolding unlinked
  chunk-unlinked b e = keep-member (unlinks s) i (below (shape_of s).c) (below-member i (shape_of s).c b) e

  -- a chunk that is not
  module _ (b : i < (shape_of s).c) (n : member i (unlinked s) ≡ false) where
    unfaulted : unlinks s i ≡ false
    unfaulted = is_false (unlinks s i) (λ e. contradict (chunk-unlinked b e) n)

    left-good : bad s i ≡ false
    unfolding unlinks
    left-good = or-false-left (bad s i) (shares s i || names_twice s i) unfaulted

    left_alone : shares s i ≡ false
    unfolding unlinks
    left_alone = or-false-left (shares s i) (names_twice s i) (or-false-right (bad s i) (shares s i || names_twice s i) unfaulted)

    left-single : distinct (units_of s i) ≡ true
    unfolding unlinks names_twice
    left-single = not-false (distinct (units_of s i)) (or-false-right (shares s i) (names_twice s i) (or-false-right (bad s i) (shares s i || names_twice s i) unfaulted))

-- ---- the repaired image: its words, and the chunks that are left

module _ (s : List ℕ) where
  chunks : Chunks (shape_of s) (unlinked s)
  chunks i m = (unlinked-chunk s i m).0

  pub repaired-rest : (n : ℕ) → 8 * (shape_of s).c ≤ n → drop n (repaired s) ≡ drop n s
  unfolding repaired
  repaired-rest n l = unlink-rest (shape_of s) n (unlinked s) s chunks l

  kept_word : (q : ℕ) → member q (unlinked s) ≡ false → word_at (repaired s) q ≡ word_at s q
  unfolding repaired
  kept_word q n = unlink-other q (unlinked s) s n

  left-same : (i : ℕ) → member i (unlinked s) ≡ false → Same (shape_of s) s (repaired s) i
  left-same i n = record {
    link = kept_word i n;
    words = λ m j h.
        let q = map_word_place (shape_of s) (link_of s i) j in
        kept_word q (is_false (member q (unlinked s)) (λ k. place-past (shape_of s) (link_of s i) j q (chunks q k) refl));
  }

  -- a chunk that is left was in order, and two that are left lay apart
  left-chunk : (i : ℕ) → i < (shape_of s).c → member i (unlinked s) ≡ false → Chunk (shape_of s) s i
  left-chunk i b n =
      let g = shape_of s in
      let e = left-good s i b n in
      record {
        bound = λ p. ltb-true (link_of s i) g.m (implied (mapped s i) (ltb (link_of s i) g.m) (good-link s i e) p);
        formed = λ p. implied (mapped s i) (good_form g (words_of g s (link_of s i))) (good-map s i e) p;
        single = left-single s i b n;
      }

  left-apart : (i j : ℕ) → i < (shape_of s).c → j < (shape_of s).c → i ≢ j → member i (unlinked s) ≡ false → member j (unlinked s) ≡ false → Apart s i j
  left-apart i j hi hj n li lj = clash-apart s i j (is_false (clash s i j) (λ e.
      contradict (shared-with s j i (record { chunk = hi; good = left-good s i hi li; other = n; clashes = e })) (left_alone s j hj lj)))

-- where the trailer passes, it passes too
module _ (s : List ℕ) (o : On (shape_of s) s) where
  pub repaired-on : On (shape_of s) (repaired s)
  unfolding repaired
  repaired-on = unlink-on (shape_of s) (unlinked s) s (chunks s) o

  pub repaired-absent : (i : ℕ) → member i (unlinked s) ≡ true → link_of (repaired s) i ≡ X
  unfolding repaired
  repaired-absent i m = unlink-member (shape_of s) i (unlinked s) s (chunks s) o m

  pub repaired-kept : (i : ℕ) → member i (unlinked s) ≡ false → (link_of (repaired s) i ≡ link_of s i) × (units_of (repaired s) i ≡ units_of s i)
  repaired-kept i n = (kept_word s i n, same_units (shape_of s) s (repaired s) o repaired-on i (left-same s i n))

  gone : (i : ℕ) → member i (unlinked s) ≡ true → mapped (repaired s) i ≡ false
  gone i m = not-mapped (repaired s) i (repaired-absent i m)

  pub repaired-orderly : Orderly (shape_of s) (repaired s)
  repaired-orderly =
      let g = shape_of s in
      let t = repaired s in
      record {
        on = repaired-on;
        chunk = λ i b. ⊎_elim (λ m. unmapped-chunk g t i (gone i m))
            (λ n. same-chunk g s t o repaired-on i (left-same s i n) (left-chunk s i b n)) (either (member i (unlinked s)));
        apart = λ i j hi hj n. ⊎_elim (λ m. unmapped-apart (gone i m))
            (λ li. ⊎_elim (λ m. apart-flip (unmapped-apart (gone j m)))
            (λ lj. same-apart g s t o repaired-on i j (left-same s i li) (left-same s j lj) (left-apart s i j hi hj n li lj))
            (either (member j (unlinked s)))) (either (member i (unlinked s)));
      }

-- ---- an image that passes has no fault

module _ (s : List ℕ) (z : Tested s) where
  in_order : (i : ℕ) → i < (shape_of s).c → bad s i ≡ false
  unfolding bad
  in_order i b = not-of-true (good_link s i && good_map s i) (and_intro (good_link s i) (good_map s i) (z.links i b) (z.maps i b))

  alone : (j : ℕ) → j < (shape_of s).c → shares s j ≡ false
  alone j b = is_false (shares s j) (λ e.
      let r = sharer s j e in
      contradict r.1.clashes (apart-clash s r.0 j ((orderly z).apart r.0 j r.1.chunk b r.1.other)))

  single : (i : ℕ) → i < (shape_of s).c → names_twice s i ≡ false
  unfolding names_twice
  single i b = not-of-true (distinct (units_of s i)) (z.single i b)

  pub tested-none : unlinked s ≡ []
  unfolding unlinked unlinks
  tested-none = keep-none (λ i. bad s i || (shares s i || names_twice s i)) (below (shape_of s).c) (λ i m.
      let b = member_below i (shape_of s).c m in
      or-none (bad s i) (shares s i || names_twice s i) (in_order i b) (or-none (shares s i) (names_twice s i) (alone i b) (single i b)))

  pub tested-same : repaired s ≡ s
  unfolding repaired unlink
  tested-same = ap (unlink s) tested-none
