-- The chunks one by one, as the code finds them: what each claims, and into which sets it goes.
use Prim.Native.Nat.{ℕ, ◌+◌, ◌*◌, ◌<◌}
use native.Mathlib.Numerals.{add-one}
use native.Mathlib.Omega.{arith}
use mathlib.Core.Path.{◌≡◌, sym, ap, ◌∙◌, subst}
use mathlib.Core.Logic.{◌≢◌}
use mathlib.Core.Bool.{Bool, true, false, not, ◌&&◌, ◌||◌, or-false}
use mathlib.Core.List.{List, [], ◌∷◌, ◌++◌, append_assoc, append-nil}
use lib.Dec.{eqb}
use borrow.Author.Tests.{eqb-false, ne_eqb, lt-ltb, le-ltb, not-true, not-false}
use Rattle.search.specs.Search.{from, joined}
use Rattle.search.proofs.Bools.{and_left, and_right, and_intro, and-three, cond-true, cond-false, or_right, not_of_false, ltb_next}
use Rattle.search.proofs.Ranges.{any_below, any-below-intro}
use Rattle.search.proofs.Joined.{joined-last}
use Rattle.bitset.specs.Bits.{bit_set, in_set, inserted}
use Rattle.bitset.proofs.BitSets.{bit_set-ext, in-bit_set, set-kept, set-with}
use Rattle.layout.specs.Layout.{X, shape_of, link_of}
use Rattle.image.specs.Soundness.{mapped, units_of}
use Rattle.image.specs.Verdicts.{good_link, good_map, clash}
use Rattle.image.specs.Claims.{held_in}
use Rattle.image.proofs.Chunks.{not-mapped, is_mapped, units-named}
use Rattle.repair.specs.Repair.{bad, shares_with, shares, names_twice}
use Rattle.repair.specs.Claims.{map_claim, chunk_set_words, claims_of, good_claims, claims_below, Counted, bad_below, unlinks_below}

-- ---- chunks with a bad link or a bad map, where the code has the answers l to good_link and m to good_map

module _ (s : List ℕ) (i : ℕ) where
  pub bad-link : (l : Bool) → l ≡ good_link s i → l ≡ false → true ≡ bad s i
  unfolding bad
  bad-link l e h = rw (sym e ∙ h)

  pub bad-map : (l m : Bool) → l ≡ good_link s i → l ≡ true → m ≡ good_map s i → not m ≡ bad s i
  unfolding bad
  bad-map l m e h f = rw (sym e ∙ h, f)

  good : bad s i ≡ false → (good_link s i && good_map s i) ≡ true
  unfolding bad
  good e = not-false (good_link s i && good_map s i) e

  pub good-link : bad s i ≡ false → good_link s i ≡ true
  good-link e = and_left (good_link s i) (good_map s i) (good e)

  pub good-map : bad s i ≡ false → good_map s i ≡ true
  good-map e = and_right (good_link s i) (good_map s i) (good e)

-- ---- a chunk that shares a map or unit with another good one

pub record Sharer (s : List ℕ) (i j : ℕ) : Type 0 where
  pub chunk : i < (shape_of s).c
  pub good : bad s i ≡ false
  pub other : i ≢ j
  pub clashes : clash s i j ≡ true

module _ (s : List ℕ) (j : ℕ) where
  pub sharer : shares s j ≡ true → (i : ℕ) × Sharer s i j
  unfolding shares shares_with
  sharer e =
      let r = any_below (shares_with s j) (shape_of s).c e in
      let k = and-three (not (bad s r.0)) (not (eqb r.0 j)) (clash s r.0 j) r.2 in
      (r.0, record { chunk = r.1; good = not-true (bad s r.0) k.0; other = eqb-false r.0 j (not-true (eqb r.0 j) k.1); clashes = k.2 })

  pub shared-with : (i : ℕ) → Sharer s i j → shares s j ≡ true
  unfolding shares shares_with
  shared-with i h =
      any-below-intro (shares_with s j) (shape_of s).c i h.chunk
      (and_intro (not (bad s i) && not (eqb i j)) (clash s i j)
      (and_intro (not (bad s i)) (not (eqb i j)) (not_of_false (bad s i) h.good) (not_of_false (eqb i j) (ne_eqb i j h.other))) h.clashes)

-- ---- what a chunk claims

pub claims-unmapped : (s : List ℕ) (i : ℕ) → mapped s i ≡ false → claims_of s i ≡ []
unfolding claims_of
claims-unmapped s i e = cond-false (mapped s i) _ [] e

pub claims-mapped : (s : List ℕ) (i : ℕ) → mapped s i ≡ true → claims_of s i ≡ map_claim (link_of s i) ∷ units_of s i
unfolding claims_of
claims-mapped s i e = cond-true (mapped s i) _ [] e

-- where the code has the chunk's entry k
module _ (s : List ℕ) (i k : ℕ) (l : k ≡ link_of s i) where
  pub claims-absent : k ≡ X → claims_of s i ≡ []
  claims-absent x = claims-unmapped s i (not-mapped s i (sym l ∙ x))

  module _ (x : k ≡ X → ⊥) where
    named : link_of s i ≡ X → ⊥
    named w = x (l ∙ w)

    pub claims-named : claims_of s i ≡ map_claim k ∷ held_in s k
    claims-named =
        claims-mapped s i (is_mapped s i named) ∙ ap (λ (us : List ℕ). map_claim (link_of s i) ∷ us) (units-named s i named)
        ∙ ap (λ (h : ℕ). map_claim h ∷ held_in s h) (sym l)

  -- the chunk's claims counted after xs
  pub counted-absent : (xs once again : List ℕ) → k ≡ X → Counted xs once again → Counted (xs ++ claims_of s i) once again
  counted-absent xs once again x c =
      subst (λ (ys : List ℕ). Counted ys once again) (sym (ap (λ (ys : List ℕ). xs ++ ys) (claims-absent x) ∙ append-nil xs)) c

  pub counted-named : (xs once again : List ℕ) → (k ≡ X → ⊥) → Counted ((xs ++ (map_claim k ∷ [])) ++ held_in s k) once again
      → Counted (xs ++ claims_of s i) once again
  counted-named xs once again x c =
      subst (λ (ys : List ℕ). Counted ys once again)
      (append_assoc xs (map_claim k ∷ []) (held_in s k) ∙ ap (λ (ys : List ℕ). xs ++ ys) (sym (claims-named x))) c

-- ---- the claims of the chunks below i, and then of chunk i

module _ (s : List ℕ) (i : ℕ) where
  claims-more : claims_below s (i + 1) ≡ claims_below s i ++ good_claims s i
  unfolding claims_below
  claims-more = rw (add-one i) (joined-last (good_claims s) i)

  module _ (once again : List ℕ) where
    pub counted-bad : bad s i ≡ true → Counted (claims_below s i) once again → Counted (claims_below s (i + 1)) once again
    unfolding good_claims
    counted-bad e c =
        subst (λ (ys : List ℕ). Counted ys once again)
        (sym (claims-more ∙ ap (λ (ys : List ℕ). claims_below s i ++ ys) (cond-true (bad s i) [] (claims_of s i) e) ∙ append-nil (claims_below s i))) c

    pub counted-good : bad s i ≡ false → Counted (claims_below s i ++ claims_of s i) once again → Counted (claims_below s (i + 1)) once again
    unfolding good_claims
    counted-good e c =
        subst (λ (ys : List ℕ). Counted ys once again)
        (sym (claims-more ∙ ap (λ (ys : List ℕ). claims_below s i ++ ys) (cond-false (bad s i) [] (claims_of s i) e))) c

pub counted-from : (s once again : List ℕ) → Counted [] once again → Counted (claims_below s 0) once again
unfolding claims_below joined from
counted-from s once again c = c

-- ---- the bad chunks below i, and then chunk i

module _ (s : List ℕ) (i : ℕ) (faulty : List ℕ) where
  bad-other : (y : ℕ) → y ≢ i → bad_below s i y ≡ bad_below s (i + 1) y
  unfolding bad_below
  bad-other y n = ap (λ (b : Bool). b && bad s y) (ltb_next y i n)

  bad-here : bad_below s (i + 1) i ≡ bad s i
  unfolding bad_below
  bad-here = rw (lt-ltb i (i + 1) (omega arith))

  not-here : bad_below s i i ≡ false
  unfolding bad_below
  not-here = rw (le-ltb i i (omega arith))

  module _ (e : faulty ≡ bit_set (bad_below s i) chunk_set_words) where
    pub classified-bad : (after : List ℕ) → bad s i ≡ true → after ≡ inserted faulty i → after ≡ bit_set (bad_below s (i + 1)) chunk_set_words
    classified-bad after b a =
        a ∙ ap (λ (ws : List ℕ). inserted ws i) e ∙ set-with (bad_below s i) (bad_below s (i + 1)) chunk_set_words i bad-other (bad-here ∙ b)

    pub classified-good : bad s i ≡ false → faulty ≡ bit_set (bad_below s (i + 1)) chunk_set_words
    classified-good b = e ∙ set-kept (bad_below s i) (bad_below s (i + 1)) chunk_set_words i bad-other (not-here ∙ sym (bad-here ∙ b))

pub classified-none : (s faulty : List ℕ) → faulty ≡ bit_set (λ u. false) chunk_set_words → faulty ≡ bit_set (bad_below s 0) chunk_set_words
unfolding bad_below
classified-none s faulty e = e ∙ bit_set-ext _ _ chunk_set_words (λ y l. rw (le-ltb y 0 (omega arith)))

-- ---- the bad chunks and those below i that share something or name a unit twice, and then chunk i

module _ (s : List ℕ) (i : ℕ) (b : i < (shape_of s).c) (small : i < 64 * chunk_set_words) (faulty : List ℕ)
    (e : faulty ≡ bit_set (unlinks_below s i) chunk_set_words) where
  shared-other : (y : ℕ) → y ≢ i → unlinks_below s i y ≡ unlinks_below s (i + 1) y
  unfolding unlinks_below
  shared-other y n = ap (λ (q : Bool). bad_below s (shape_of s).c y || (q && (shares s y || names_twice s y))) (ltb_next y i n)

  shared-before : unlinks_below s i i ≡ bad s i
  unfolding unlinks_below bad_below
  shared-before = rw (le-ltb i i (omega arith), lt-ltb i (shape_of s).c b) (or-false (bad s i))

  shared-after : unlinks_below s (i + 1) i ≡ (bad s i || (shares s i || names_twice s i))
  unfolding unlinks_below bad_below
  shared-after = rw (lt-ltb i (i + 1) (omega arith), lt-ltb i (shape_of s).c b)

  -- the code asks whether the chunk is in the set
  pub known-bad : in_set faulty i ≡ bad s i
  known-bad = ap (λ (ws : List ℕ). in_set ws i) e ∙ in-bit_set (unlinks_below s i) chunk_set_words i small ∙ shared-before

  pub kept-bad : bad s i ≡ true → faulty ≡ bit_set (unlinks_below s (i + 1)) chunk_set_words
  kept-bad q =
      e ∙ set-kept (unlinks_below s i) (unlinks_below s (i + 1)) chunk_set_words i shared-other
      (shared-before ∙ q ∙ sym (shared-after ∙ ap (λ (b : Bool). b || (shares s i || names_twice s i)) q))

  pub added-sharing : (after : List ℕ) → (shares s i || names_twice s i) ≡ true → after ≡ inserted faulty i
      → after ≡ bit_set (unlinks_below s (i + 1)) chunk_set_words
  added-sharing after q a =
      a ∙ ap (λ (ws : List ℕ). inserted ws i) e
      ∙ set-with (unlinks_below s i) (unlinks_below s (i + 1)) chunk_set_words i shared-other (shared-after ∙ or_right (bad s i) (shares s i || names_twice s i) q)

  pub kept-apart : (shares s i || names_twice s i) ≡ false → faulty ≡ bit_set (unlinks_below s (i + 1)) chunk_set_words
  kept-apart q =
      e ∙ set-kept (unlinks_below s i) (unlinks_below s (i + 1)) chunk_set_words i shared-other
      (shared-before ∙ sym (shared-after ∙ ap (λ (b : Bool). bad s i || b) q ∙ or-false (bad s i)))

pub sharing-none : (s faulty : List ℕ) (c : ℕ) → c ≡ (shape_of s).c → faulty ≡ bit_set (bad_below s c) chunk_set_words
    → faulty ≡ bit_set (unlinks_below s 0) chunk_set_words
unfolding unlinks_below
sharing-none s faulty c w e = e ∙ bit_set-ext _ _ chunk_set_words (λ y l. rw (le-ltb y 0 (omega arith), ← w) (sym (or-false (bad_below s c y))))
