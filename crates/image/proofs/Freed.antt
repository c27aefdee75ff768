-- What is free once one chunk of a sound image has changed: what it now has is taken, and what it had before is free again.
use Prim.Native.Nat.{ℕ, ◌<◌}
use native.Mathlib.Omega.{arith}
use mathlib.Core.Path.{◌≡◌, sym, ap, subst, ◌∙◌}
use mathlib.Core.Logic.{◌⊎◌, inl, inr, ◌≢◌, ⊎_elim}
use mathlib.Core.Bool.{true, false, not, ◌&&◌, ◌||◌}
use mathlib.Core.List.{List}
use lib.Dec.{eqb}
use borrow.Author.Tests.{eqb-true, eqb-false, not-true}
use Rattle.search.specs.Search.{member}
use Rattle.search.proofs.Bools.{either, is_false, same, and_left, and_right, and_intro, or_cases, or_left, or_right, not_of_false}
use Rattle.layout.specs.declared.Shape.{Shape}
use Rattle.layout.specs.Layout.{is_unit, shape_of, link_of}
use Rattle.image.specs.Soundness.{units_of, Sound}
use Rattle.image.specs.Free.{free_unit, free_map}
use Rattle.image.proofs.Chunks.{units-are-units, owner}
use Rattle.image.proofs.Wording.{sound-shape, sound-tested}
use Rattle.image.proofs.Room.{free_unit-unit, free_unit-unheld, free_unit-intro, free_map-unnamed, free_map-intro}

-- chunk c of the sound image s changed, and t is a sound image of the same shape
module _ (g : Shape) (s t : List ℕ) (z : Sound g s) (w : Sound g t) (c : ℕ) (b : c < g.c) where
  from-s : (i : ℕ) → i < (shape_of s).c → i < g.c
  from-s i h = subst (λ (q : Shape). i < q.c) (sound-shape g s z) h

  to-s : (i : ℕ) → i < g.c → i < (shape_of s).c
  to-s i h = subst (λ (q : Shape). i < q.c) (sym (sound-shape g s z)) h

  from-t : (i : ℕ) → i < (shape_of t).c → i < g.c
  from-t i h = subst (λ (q : Shape). i < q.c) (sound-shape g t w) h

  to-t : (i : ℕ) → i < g.c → i < (shape_of t).c
  to-t i h = subst (λ (q : Shape). i < q.c) (sym (sound-shape g t w)) h

  -- ---- the units: chunk c has the units us, and every other chunk the same as before

  module _ (us : List ℕ) (own : units_of t c ≡ us) (others : (i : ℕ) → i < g.c → i ≢ c → units_of t i ≡ units_of s i) (u : ℕ) where
    held-now : (i : ℕ) → i < g.c → member u (units_of s c) ≡ false → member u (units_of t i) ≡ false → member u (units_of s i) ≡ false
    held-now i h old now =
        ⊎_elim (λ q. ap (λ (j : ℕ). member u (units_of s j)) (eqb-true i c q) ∙ old)
        (λ q. ap (member u) (sym (others i h (eqb-false i c q))) ∙ now)
        (either (eqb i c))

    was_free : free_unit t u ≡ true → (free_unit s u || member u (units_of s c)) ≡ true
    was_free e =
        ⊎_elim (λ q. or_right (free_unit s u) (member u (units_of s c)) q)
        (λ q. or_left (free_unit s u) (member u (units_of s c))
        (free_unit-intro s u (subst (λ (k : Shape). is_unit k u ≡ true) (sound-shape g t w ∙ sym (sound-shape g s z)) (free_unit-unit t u e))
        (λ i h. held-now i (from-s i h) q (free_unit-unheld t u e i (to-t i (from-s i h))))))
        (either (member u (units_of s c)))

    not-held : (free_unit s u ≡ true) ⊎ (member u (units_of s c) ≡ true) → member u us ≡ false → (i : ℕ) → i < g.c → member u (units_of t i) ≡ false
    not-held e n i h =
        ⊎_elim (λ q. ap (λ (j : ℕ). member u (units_of t j)) (eqb-true i c q) ∙ ap (member u) own ∙ n)
        (λ q. ap (member u) (others i h (eqb-false i c q)) ∙ elsewhere (eqb-false i c q) e)
        (either (eqb i c))
      where
        elsewhere : i ≢ c → (free_unit s u ≡ true) ⊎ (member u (units_of s c) ≡ true) → member u (units_of s i) ≡ false
        elsewhere q (inl f) = free_unit-unheld s u f i (to-s i h)
        elsewhere q (inr m) = is_false (member u (units_of s i)) (λ k. q (owner s (sound-tested g s z) u i c (to-s i h) (to-s c b) k m))

    is-unit : (free_unit s u ≡ true) ⊎ (member u (units_of s c) ≡ true) → is_unit (shape_of t) u ≡ true
    is-unit e =
        subst (λ (k : Shape). is_unit k u ≡ true) (sound-shape g s z ∙ sym (sound-shape g t w))
        (⊎_elim (λ f. free_unit-unit s u f) (λ m. units-are-units s u c m) e)

    pub freed-unit : free_unit t u ≡ ((free_unit s u || member u (units_of s c)) && not (member u us))
    freed-unit =
        let old = free_unit s u || member u (units_of s c) in
        same (free_unit t u) (old && not (member u us))
        (λ e. and_intro old (not (member u us)) (was_free e)
        (not_of_false (member u us) (ap (member u) (sym own) ∙ free_unit-unheld t u e c (to-t c b))))
        (λ e. let f = or_cases (free_unit s u) (member u (units_of s c)) (and_left old (not (member u us)) e) in
        free_unit-intro t u (is-unit f) (λ i h. not-held f (not-true (member u us) (and_right old (not (member u us)) e)) i (from-t i h)))

  -- ---- the maps: chunk c has the entry l, and every other chunk the same as before

  module _ (l : ℕ) (own : link_of t c ≡ l) (others : (i : ℕ) → i < g.c → i ≢ c → link_of t i ≡ link_of s i) (k : ℕ) (low : k < g.m) where
    unnamed-was : free_map t k ≡ true → k ≢ link_of s c → (i : ℕ) → i < g.c → link_of s i ≢ k
    unnamed-was e old i h q =
        ⊎_elim (λ p. old (sym q ∙ ap (link_of s) (eqb-true i c p)))
        (λ p. free_map-unnamed t k e i (to-t i h) (others i h (eqb-false i c p) ∙ q))
        (either (eqb i c))

    unnamed-now : (free_map s k ≡ true) ⊎ (eqb k (link_of s c) ≡ true) → k ≢ l → (i : ℕ) → i < g.c → link_of t i ≢ k
    unnamed-now e n i h q =
        ⊎_elim (λ p. n (sym q ∙ ap (link_of t) (eqb-true i c p) ∙ own))
        (λ p. elsewhere (eqb-false i c p) (sym (others i h (eqb-false i c p)) ∙ q) e)
        (either (eqb i c))
      where
        elsewhere : i ≢ c → link_of s i ≡ k → (free_map s k ≡ true) ⊎ (eqb k (link_of s c) ≡ true) → ⊥
        elsewhere p r (inl f) = free_map-unnamed s k f i (to-s i h) r
        elsewhere p r (inr f) =
            p (z.maps i c h b (λ x. let y = r in omega (arith, low, z.limits.m-high, z.limits.c-high)) (r ∙ eqb-true k (link_of s c) f))

    pub freed-map : free_map t k ≡ ((free_map s k || eqb k (link_of s c)) && not (eqb k l))
    freed-map =
        let old = free_map s k || eqb k (link_of s c) in
        same (free_map t k) (old && not (eqb k l))
        (λ e. and_intro old (not (eqb k l))
        (⊎_elim (λ q. or_right (free_map s k) (eqb k (link_of s c)) q)
        (λ q. or_left (free_map s k) (eqb k (link_of s c))
        (free_map-intro s k (subst (λ (h : Shape). k < h.m) (sym (sound-shape g s z)) low)
        (λ i h. unnamed-was e (eqb-false k (link_of s c) q) i (from-s i h))))
        (either (eqb k (link_of s c))))
        (not_of_false (eqb k l) (is_false (eqb k l) (λ q. free_map-unnamed t k e c (to-t c b) (own ∙ sym (eqb-true k l q))))))
        (λ e. let f = or_cases (free_map s k) (eqb k (link_of s c)) (and_left old (not (eqb k l)) e) in
        free_map-intro t k (subst (λ (h : Shape). k < h.m) (sym (sound-shape g t w)) low)
        (λ i h. unnamed-now f (eqb-false k l (not-true (eqb k l) (and_right old (not (eqb k l)) e))) i (from-t i h)))
