-- When an index goes with an image: what the functions that admit a call owe, and what a call that was admitted knows.
use Rattle.std.specs.Prelude.{Result, Ok, Err, ⊤}
use Prim.Native.Nat.{ℕ, ◌*◌, ◌≤◌, ◌<◌}
use mathlib.Core.Path.{◌≡◌, refl, sym, ap, subst, ◌∙◌}
use mathlib.Core.Bool.{Bool, true, false, not, not-not}
use mathlib.Core.Logic.{◌⊎◌, inl, inr}
use mathlib.Core.List.{List}
use native.Mathlib.Omega.{arith}
use lib.Dec.{ltb}
use borrow.Author.Tests.{eqb-true, lt-ltb, le-ltb, ltb-true, ltb-false}
use Rattle.search.proofs.Bools.{and_left, and_right, either, cond-true, cond-false}
use Rattle.layout.specs.declared.Shape.{Shape}
use Rattle.layout.specs.declared.Refusal.{Refusal}
use Rattle.layout.specs.declared.Refusal.TheVariants.{Geometry, BadLink, Small}
use Rattle.layout.specs.Trailer.{trailer_outcome}
use Rattle.layout.specs.Shaped.{Shaped, On}
use Rattle.layout.proofs.Limits.{fits_on, on-shaped}
use Rattle.image.specs.Verdicts.{good_link, after_trailer}
use Rattle.image.proofs.Loads.{sound-passed}
use Rattle.indexed.specs.Admitting.{same_shape, matched, trailer_by, enough, bad_entry, entry_verdict, verdict_by, chunk_verdict_by, outcome_by}
use Rattle.renewal.specs.Renewal.{set_words}

-- ---- the shape

pub same-shape : (g h : Shape) → same_shape g h ≡ true → g ≡ h
unfolding same_shape
same-shape g h e =
    let q1 : g.edition ≡ h.edition = search (and_left, and_right, eqb-true) depth 16 in
    let q2 : g.p ≡ h.p = search (and_left, and_right, eqb-true) depth 16 in
    let q3 : g.c ≡ h.c = search (and_left, and_right, eqb-true) depth 16 in
    let q4 : g.m ≡ h.m = search (and_left, and_right, eqb-true) depth 16 in
    let q5 : g.n ≡ h.n = search (and_left, and_right, eqb-true) depth 16 in
    let q6 : g.r ≡ h.r = search (and_left, and_right, eqb-true) depth 16 in
    λ i. record { edition = q1 i; p = q2 i; c = q3 i; m = q4 i; n = q5 i; r = q6 i }

-- ---- the trailer

pub trailer-same : (h : Shape) (s : List ℕ) (g : Shape) → trailer_outcome s ≡ Ok g → same_shape g h ≡ true → Ok g ≡ trailer_by h s
unfolding trailer_by
trailer-same h s g e q = rw (e, q)

-- a shape that is handed on is the image's own and the index's
match-fits : (h g : Shape) (t : Result Shape Refusal) → matched h t ≡ Ok g → (t ≡ Ok g) × (g ≡ h)
match-fits h g (Ok k) e = go (either (same_shape k h))
  where
    go : (same_shape k h ≡ true) ⊎ (same_shape k h ≡ false) → (◌≡◌ {A = Result Shape Refusal} (Ok k) (Ok g)) × (g ≡ h)
    go (inl q) =
        let z : ◌≡◌ {A = Result Shape Refusal} (Ok k) (Ok g) = sym (cond-true (same_shape k h) (Ok k) (Err Geometry) q) ∙ e in
        let y : k ≡ g = cc in
        (z, sym y ∙ same-shape k h q)
    go (inr q) =
        let z : ◌≡◌ {A = Result Shape Refusal} (Err Geometry) (Ok g) = sym (cond-false (same_shape k h) (Ok k) (Err Geometry) q) ∙ e in
        let y : ◌≡◌ {A = ℕ} 0 1 = cc in
        absurd (omega arith)
match-fits h g (Err r) e = let y : ◌≡◌ {A = ℕ} 0 1 = cc in absurd (omega arith)

pub trailer-fits : (h g : Shape) (s : List ℕ) → trailer_by h s ≡ Ok g → On g s × (g ≡ h)
unfolding trailer_by
trailer-fits h g s e = let m = match-fits h g (trailer_outcome s) e in (fits_on s g m.0, m.1)

-- ---- the words and the entry

pub few : (words : ℕ) → words < set_words → enough words ≡ Err (Small (8 * set_words))
unfolding enough
few words l = rw (lt-ltb words set_words l)

pub many : (words : ℕ) → set_words ≤ words → enough words ≡ Ok tt
unfolding enough
many words l = rw (le-ltb words set_words l)

passed-many : (words : ℕ) → enough words ≡ Ok tt → set_words ≤ words
unfolding enough
passed-many words e = go (either (ltb words set_words))
  where
    go : (ltb words set_words ≡ true) ⊎ (ltb words set_words ≡ false) → set_words ≤ words
    go (inl q) =
        let z : ◌≡◌ {A = Result ⊤ Refusal} (Err (Small (8 * set_words))) (Ok tt) = sym (cond-true (ltb words set_words) (Err (Small (8 * set_words))) (Ok tt) q) ∙ e in
        let y : ◌≡◌ {A = ℕ} 0 1 = cc in
        absurd (omega arith)
    go (inr q) = ltb-false words set_words q

-- the entry of a chunk
module _ (h : Shape) (s : List ℕ) (i : ℕ) where
  pub entry_past : h.c ≤ i → bad_entry h s i ≡ false
  unfolding bad_entry
  entry_past l = rw (le-ltb i h.c l)

  pub entry-tested : i < h.c → bad_entry h s i ≡ not (good_link s i)
  unfolding bad_entry
  entry-tested l = rw (lt-ltb i h.c l)

  pub entry-below : bad_entry h s i ≡ true → i < h.c
  unfolding bad_entry
  entry-below e = ltb-true i h.c (and_left (ltb i h.c) (not (good_link s i)) e)

  entry-good : bad_entry h s i ≡ false → i < h.c → good_link s i ≡ true
  entry-good e l = sym (not-not (good_link s i)) ∙ ap not (sym (entry-tested l) ∙ e)

  pub entry-refused : (words : ℕ) → bad_entry h s i ≡ true → entry_verdict h words s i ≡ Err (BadLink i)
  entry-refused words e = cond-true (bad_entry h s i) (Err (BadLink i)) (enough words) e

  pub entry-passed : (words : ℕ) → bad_entry h s i ≡ false → entry_verdict h words s i ≡ enough words
  entry-passed words e = cond-false (bad_entry h s i) (Err (BadLink i)) (enough words) e

  passed_entry : (words : ℕ) → entry_verdict h words s i ≡ Ok tt → (bad_entry h s i ≡ false) × (enough words ≡ Ok tt)
  passed_entry words e = go (either (bad_entry h s i))
    where
      go : (bad_entry h s i ≡ true) ⊎ (bad_entry h s i ≡ false) → (bad_entry h s i ≡ false) × (enough words ≡ Ok tt)
      go (inl q) =
          let z : ◌≡◌ {A = Result ⊤ Refusal} (Err (BadLink i)) (Ok tt) = sym (entry-refused words q) ∙ e in
          let y : ◌≡◌ {A = ℕ} 0 1 = cc in
          absurd (omega arith)
      go (inr q) = (q, sym (entry-passed words q) ∙ e)

-- ---- what `admit` and `admit_chunk` owe at each return: v is what is asked after the trailer

module _ (h : Shape) (s : List ℕ) (v : Result ⊤ Refusal) where
  module _ (g : Shape) (e : trailer_by h s ≡ Ok g) where
    pub after-denied : (r : Refusal) → v ≡ Err r → Err r ≡ outcome_by h (after_trailer (trailer_by h s) v)
    after-denied r q = rw (e, q)

    pub after-passed : v ≡ Ok tt → Ok g ≡ outcome_by h (after_trailer (trailer_by h s) v)
    after-passed q = rw (e, q, (trailer-fits h g s e).1)

-- of a call on chunk i, where b is what `bad_entry` answers
module _ (h g : Shape) (words : ℕ) (s : List ℕ) (i : ℕ) (e : trailer_by h s ≡ Ok g) (b : Bool) (k : b ≡ bad_entry g s i) where
  here : bad_entry h s i ≡ b
  here = ap (λ (q : Shape). bad_entry q s i) (sym (trailer-fits h g s e).1) ∙ sym k

  pub chunk-below : b ≡ true → i < g.c
  chunk-below q = entry-below g s i (sym k ∙ q)

  pub chunk-denied : b ≡ true → Err (BadLink i) ≡ outcome_by h (chunk_verdict_by h words s i)
  unfolding chunk_verdict_by
  chunk-denied q = after-denied h s (entry_verdict h words s i) g e (BadLink i) (entry-refused h s i words (here ∙ q))

  module _ (q : b ≡ false) where
    pub chunk-few : words < set_words → Err (Small (8 * set_words)) ≡ outcome_by h (chunk_verdict_by h words s i)
    unfolding chunk_verdict_by
    chunk-few l =
        after-denied h s (entry_verdict h words s i) g e (Small (8 * set_words)) (entry-passed h s i words (here ∙ q) ∙ few words l)

    pub chunk-passed : set_words ≤ words → Ok g ≡ outcome_by h (chunk_verdict_by h words s i)
    unfolding chunk_verdict_by
    chunk-passed l = after-passed h s (entry_verdict h words s i) g e (entry-passed h s i words (here ∙ q) ∙ many words l)

-- ---- what a call that was admitted knows

pub record Admitted (s : List ℕ) (h g : Shape) (words : ℕ) : Type 0 where
  pub shape : g ≡ h
  pub on : On g s
  pub shaped : Shaped s g
  pub room : set_words ≤ words

after-fits : (t : Result Shape Refusal) (v : Result ⊤ Refusal) → after_trailer t v ≡ Ok tt → ((g : Shape) × (t ≡ Ok g)) × (v ≡ Ok tt)
after-fits (Ok g) v e = ((g, refl), e)
after-fits (Err r) v e = let y : ◌≡◌ {A = ℕ} 0 1 = cc in absurd (omega arith)

module _ (h g : Shape) (words : ℕ) (s : List ℕ) where
  fitted : (v : Result ⊤ Refusal) → Ok g ≡ outcome_by h (after_trailer (trailer_by h s) v) → On g s × (g ≡ h) × (v ≡ Ok tt)
  fitted v e =
      let p = sound-passed (after_trailer (trailer_by h s) v) h g (sym e) in
      let f = after-fits (trailer_by h s) v p.0 in
      let k = trailer-fits h f.0.0 s f.0.1 in
      (subst (λ (x : Shape). On x s) (k.1 ∙ sym p.1) k.0, p.1, f.1)

  pub admitted : Ok g ≡ outcome_by h (verdict_by h words s) → Admitted s h g words
  unfolding verdict_by
  admitted e =
      let f = fitted (enough words) e in
      record { shape = f.1; on = f.0; shaped = on-shaped g s f.0; room = passed-many words f.2 }

  module _ (i : ℕ) (e : Ok g ≡ outcome_by h (chunk_verdict_by h words s i)) where
    pub admitted-chunk : Admitted s h g words
    unfolding chunk_verdict_by
    admitted-chunk =
        let f = fitted (entry_verdict h words s i) e in
        record { shape = f.1; on = f.0; shaped = on-shaped g s f.0; room = passed-many words (passed_entry h s i words f.2).1 }

    pub admitted-entry : i < g.c → good_link s i ≡ true
    unfolding chunk_verdict_by
    admitted-entry l =
        let f = fitted (entry_verdict h words s i) e in
        entry-good h s i (passed_entry h s i words f.2).0 (subst (λ (x : Shape). i < x.c) f.1 l)
