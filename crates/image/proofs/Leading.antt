-- The words of a map before the first that is no unit, and the form of a map: the test `well_formed` is `Form`, document 01's "1 to P units below N,
-- then only X".
use Prim.Native.Nat.{ℕ, zero, suc, ◌+◌, ◌-◌, ◌≤◌, ◌<◌}
use native.Mathlib.Omega.{arith}
use native.Mathlib.Nat.{not-suc-le-zero}
use native.Mathlib.Numerals.{add-one}
use mathlib.Core.Path.{◌≡◌, refl, sym, ap, ◌∙◌}
use mathlib.Core.Bool.{Bool, true, false, cond}
use mathlib.Core.List.{List, [], ◌∷◌}
use lib.ListN.{length, get_or, take, drop, length-drop, drop_of_length-le}
use lib.Seq.{get_or-drop, length-take-le, drop-cons}
use lib.Dec.{eqb, leb}
use borrow.Author.Tests.{leb-true, le-leb, lt-leb, eqb-true, eq-eqb}
use Rattle.search.specs.Search.{all}
use Rattle.search.proofs.Bools.{and_left, and_right, and_intro, cond-true, cond-false}
use Rattle.search.proofs.Members.{all-at, all-intro, member-get_or, member-place}
use Rattle.layout.specs.Layout.{X}
use Rattle.image.specs.Soundness.{leading, Form}
use Rattle.image.specs.Verdicts.{well_formed}

module _ (f : ℕ → Bool) where
  pub leading-true : (w : ℕ) (ws : List ℕ) → f w ≡ true → leading f (w ∷ ws) ≡ w ∷ leading f ws
  unfolding leading
  leading-true w ws h = cond-true (f w) (w ∷ leading f ws) [] h

  pub leading-false : (w : ℕ) (ws : List ℕ) → f w ≡ false → leading f (w ∷ ws) ≡ []
  unfolding leading
  leading-false w ws h = cond-false (f w) (w ∷ leading f ws) [] h

  pub length-leading : (ws : List ℕ) → length (leading f ws) ≤ length ws
  unfolding leading
  length-leading [] = omega arith
  length-leading (w ∷ ws) = go (length-leading ws) (f w)
    where
      go : length (leading f ws) ≤ length ws → (b : Bool) → length (cond b (w ∷ leading f ws) []) ≤ suc (length ws)
      go ih true = omega arith
      go ih false = omega arith

  -- they are the first words, and pass the test
  pub leading_at : (ws : List ℕ) (j : ℕ) → j < length (leading f ws) → (get_or (leading f ws) j 0 ≡ get_or ws j 0) × (f (get_or ws j 0) ≡ true)
  unfolding leading
  leading_at [] j h = absurd (not-suc-le-zero h)
  leading_at (w ∷ ws) j h = go (leading_at ws) (f w) refl j h
    where
      go : ((i : ℕ) → i < length (leading f ws) → (get_or (leading f ws) i 0 ≡ get_or ws i 0) × (f (get_or ws i 0) ≡ true))
          → (b : Bool) → f w ≡ b → (i : ℕ) → i < length (cond b (w ∷ leading f ws) [])
          → (get_or (cond b (w ∷ leading f ws) []) i 0 ≡ get_or (w ∷ ws) i 0) × (f (get_or (w ∷ ws) i 0) ≡ true)
      go ih true e zero l = (refl, e)
      go ih true e (suc i) l = ih i (omega arith)
      go ih false e i l = absurd (not-suc-le-zero l)

  pub leading-all : (ws : List ℕ) → all f (leading f ws) ≡ true
  leading-all ws = all-intro f (leading f ws) (λ w m.
      let r = member-place w (leading f ws) m in
      let a = leading_at ws r.0 r.1 in
      ap f (sym r.2 ∙ a.0) ∙ a.1)

  -- k words that pass and then one that fails: the first k
  pub leading-take : (k : ℕ) (ws : List ℕ) → k ≤ length ws → ((j : ℕ) → j < k → f (get_or ws j 0) ≡ true) → (k < length ws → f (get_or ws k 0) ≡ false)
      → leading f ws ≡ take k ws
  unfolding leading
  leading-take zero [] h u r = refl
  leading-take (suc k) [] h u r = absurd (not-suc-le-zero h)
  leading-take zero (w ∷ ws) h u r = leading-false w ws (r (omega arith))
  leading-take (suc k) (w ∷ ws) h u r =
      leading-true w ws (u 0 (omega arith))
      ∙ ap (λ (l : List ℕ). w ∷ l) (leading-take k ws (omega arith) (λ j l. u (suc j) (omega arith)) (λ l. r (omega arith)))

  pub leading-prefix : (ws : List ℕ) → leading f ws ≡ take (length (leading f ws)) ws
  unfolding leading
  leading-prefix [] = refl
  leading-prefix (w ∷ ws) = go (leading-prefix ws) (f w)
    where
      go : leading f ws ≡ take (length (leading f ws)) ws → (b : Bool)
          → cond b (w ∷ leading f ws) [] ≡ take (length (cond b (w ∷ leading f ws) [])) (w ∷ ws)
      go ih true = ap (λ (l : List ℕ). w ∷ l) ih
      go ih false = refl

  -- ---- how many there are from word j on

  module _ (ws : List ℕ) (j : ℕ) where
    pub leading-more : j < length ws → f (get_or ws j 0) ≡ true → length (leading f (drop j ws)) ≡ suc (length (leading f (drop (j + 1) ws)))
    leading-more h l = rw (add-one j, drop-cons ws j 0 h, leading-true (get_or ws j 0) (drop (suc j) ws) l)

    pub leading-stop : j < length ws → f (get_or ws j 0) ≡ false → length (leading f (drop j ws)) ≡ 0
    leading-stop h l = rw (drop-cons ws j 0 h, leading-false (get_or ws j 0) (drop (suc j) ws) l)

    pub leading_end : length ws ≤ j → length (leading f (drop j ws)) ≡ 0
    unfolding leading
    leading_end h = rw (drop_of_length-le ws h)

  -- ---- the form of a map

  pub form-none : (ws : List ℕ) → length (leading f ws) ≡ 0 → well_formed f ws ≡ false
  unfolding well_formed
  form-none ws e = rw (lt-leb 1 (length (leading f ws)) (omega arith))

  pub form-some : (ws : List ℕ) → (length (leading f ws) ≡ 0 → ⊥) → well_formed f ws ≡ all (eqb X) (drop (length (leading f ws)) ws)
  unfolding well_formed
  form-some ws e = rw (le-leb 1 (length (leading f ws)) (omega arith))

  pub form_of : (ws : List ℕ) → well_formed f ws ≡ true → Form f (length (leading f ws)) ws
  unfolding well_formed
  form_of ws e =
      let k = length (leading f ws) in
      record {
        some = leb-true 1 k (and_left (leb 1 k) (all (eqb X) (drop k ws)) e);
        high = length-leading ws;
        units = λ j h. (leading_at ws j h).1;
        rest = λ j h l.
            let m : j - k < length (drop k ws) = let q = length-drop k ws in omega arith in
            let a = all-at (eqb X) (drop k ws) (and_right (leb 1 k) (all (eqb X) (drop k ws)) e) (get_or (drop k ws) (j - k) 0) (member-get_or (drop k ws) (j - k) m) in
            ap (λ (i : ℕ). get_or ws i 0) (omega arith) ∙ sym (get_or-drop k ws (j - k) 0) ∙ sym (eqb-true X (get_or (drop k ws) (j - k) 0) a);
      }

  -- where X is no unit, the units of a map of that form are its first k words
  pub form-leading : (k : ℕ) (ws : List ℕ) → f X ≡ false → Form f k ws → leading f ws ≡ take k ws
  form-leading k ws x o = leading-take k ws o.high o.units (λ h. ap f (o.rest k (omega arith) h) ∙ x)

  pub well-formed : (k : ℕ) (ws : List ℕ) → f X ≡ false → Form f k ws → well_formed f ws ≡ true
  unfolding well_formed
  well-formed k ws x o =
      let e : leading f ws ≡ take k ws = form-leading k ws x o in
      let q : length (leading f ws) ≡ k = ap length e ∙ length-take-le k ws o.high in
      and_intro (leb 1 (length (leading f ws))) (all (eqb X) (drop (length (leading f ws)) ws))
      (le-leb 1 (length (leading f ws)) (omega (arith, o.some)))
      (all-intro (eqb X) (drop (length (leading f ws)) ws) (λ w m.
      let r = member-place w (drop (length (leading f ws)) ws) m in
      let d = length-drop (length (leading f ws)) ws in
      eq-eqb X w (sym (o.rest (length (leading f ws) + r.0) (omega arith) (omega (arith, r.1)))
      ∙ sym (get_or-drop (length (leading f ws)) ws r.0 0) ∙ r.2)))
