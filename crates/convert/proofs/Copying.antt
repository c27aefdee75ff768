-- The converted image is sound; every chunk has the entry and the units that it had, with the size of just so many; every other map is X throughout.
use Prim.Native.Nat.{ℕ, zero, suc, ◌+◌, ◌-◌, ◌*◌, ◌≤◌, ◌<◌}
use native.Mathlib.Omega.{arith}
use mathlib.Core.Path.{◌≡◌, sym, ap, subst, ◌∙◌}
use mathlib.Core.Logic.{◌⊎◌, inl, inr, ⊎_elim, ◌≢◌}
use mathlib.Core.Bool.{true, false}
use mathlib.Core.List.{List, map}
use lib.ListN.{length, get_or, drop, get_or-eq_default}
use lib.Dec.{eqb, ltb}
use borrow.Author.Tests.{ltb-true, ltb-false, eqb-true, eqb-false}
use Rattle.search.specs.Search.{below, member, distinct}
use Rattle.search.proofs.Bools.{contradict, either, cond-true, cond-false}
use Rattle.search.proofs.Members.{member-nil, member-get_or}
use Rattle.search.proofs.Mapping.{map-below-ext, map-places, length-map-from, get_or-map-below}
use Rattle.layout.specs.declared.Shape.{Shape}
use Rattle.layout.specs.Layout.{X, unit_bytes, is_unit, map_words, word_at, put_word, map_word_place, trailer_start, trailer_of, link_of, shape_of, fresh}
use Rattle.layout.specs.Shaped.{Limits, On, word_count}
use Rattle.layout.proofs.Limits.{fitting-limits, map-words, map-within, units-high, unit-below, between-unit}
use Rattle.layout.proofs.Heads.{in_head, past_head}
use Rattle.layout.proofs.Place.{on-put, word_at-same, word_at-other, place_in, place-past, put-trailer}
use Rattle.image.specs.Soundness.{mapped, units_of, Named, Sound}
use Rattle.image.specs.Claims.{Tested}
use Rattle.image.proofs.Chunks.{named-below, mapped-named, unmapped-absent, units-absent, units-are-units, length-units, units-some, owner, map-owner, is_mapped}
use Rattle.image.proofs.Order.{Orderly, Apart, orderly, orderly-tested}
use Rattle.image.proofs.Fate.{Fate, kept, renewed, Same, Renewed, same_units, orderly-after}
use Rattle.image.proofs.NewMap.{NewMap, new-form, new-units}
use Rattle.image.proofs.Fresh.{word-fresh, sound-fresh, shape-fresh, absent-fresh}
use Rattle.image.proofs.Wording.{sound-tested, trailed-sound}
use Rattle.convert.specs.Convert.{second_of, second_word, put_words, put_map, copied, copied_below, converted}
use Rattle.convert.proofs.Second.{second-limits, unit-here}
use Rattle.convert.proofs.Putting.{Small, on-puts, puts-at, puts-other, puts-trailer}

module _ (s : List ℕ) (z : Tested s) where
  abbrev g : Shape
  g = second_of (shape_of s)

  abbrev w : ℕ
  w = map_words g

  old : Limits (shape_of s)
  old = fitting-limits s z.fitting

  lim : Limits g
  lim = second-limits (shape_of s) old

  words_are : w ≡ 1 + g.p
  words_are = map-words g

  -- the chunks below j are as they were, and the others name no map
  record Copied (j : ℕ) (t : List ℕ) : Type 0 where
    orderly : Orderly g t
    trailer : drop (trailer_start g) t ≡ trailer_of g
    links : (i : ℕ) → i < j → link_of t i ≡ link_of s i
    later : (i : ℕ) → j ≤ i → i < g.c → link_of t i ≡ X
    units : (i : ℕ) → i < j → units_of t i ≡ units_of s i
    sizes : (i : ℕ) → i < j → mapped s i ≡ true → word_at t (map_word_place g (link_of s i) 0) ≡ length (units_of s i) * unit_bytes
    dead : (k a : ℕ) → k < g.m → a < w → ((i : ℕ) → i < j → link_of s i ≢ k) → word_at t (map_word_place g k a) ≡ X

  start : Copied 0 (fresh g)
  start = record {
    orderly = subst (λ (q : Shape). Orderly q (fresh g)) (shape-fresh g lim) (orderly (sound-tested g (fresh g) (sound-fresh g lim)));
    trailer = (sound-fresh g lim).trailer;
    links = λ i l. absurd (omega arith);
    later = λ i l b. absent-fresh g lim i b;
    units = λ i l. absurd (omega arith);
    sizes = λ i l m. absurd (omega arith);
    dead = λ k a l q n. word-fresh g (map_word_place g k a) (place_in g k a l q);
  }

  -- ---- one chunk more

  module _ (j : ℕ) (b : j < g.c) (t : List ℕ) (h : Copied j t) where
    below_or : (i : ℕ) → i < suc j → (i < j) ⊎ (i ≡ j)
    below_or i l = ⊎_elim (λ q. inr (eqb-true i j q)) (λ q. let n = eqb-false i j q in inl (omega (arith, n))) (either (eqb i j))

    -- it names no map
    module _ (m : mapped s j ≡ false) where
      none : link_of s j ≡ X
      none = unmapped-absent s j m

      left_out : Copied (suc j) t
      left_out = record {
        orderly = h.orderly;
        trailer = h.trailer;
        links = λ i l.
            ⊎_elim (λ q. h.links i q) (λ q. ap (link_of t) q ∙ h.later j (omega arith) b ∙ sym none ∙ ap (link_of s) (sym q)) (below_or i l);
        later = λ i l c. h.later i (omega arith) c;
        units = λ i l.
            ⊎_elim (λ q. h.units i q)
            (λ q. ap (units_of t) q ∙ units-absent t j (h.later j (omega arith) b) ∙ sym (units-absent s j none) ∙ ap (units_of s) (sym q))
            (below_or i l);
        sizes = λ i l y. ⊎_elim (λ q. h.sizes i q y) (λ q. contradict (ap (mapped s) (sym q) ∙ y) m) (below_or i l);
        dead = λ k a l q n. h.dead k a l q (λ i p. n i (omega arith));
      }

    -- it names map k, with the units us
    module _ (m : mapped s j ≡ true) where
      abbrev k : ℕ
      k = link_of s j

      abbrev us : List ℕ
      us = units_of s j

      abbrev unit : ℕ → ℕ
      unit a = get_or us a X

      abbrev word : ℕ → ℕ
      word = second_word us

      abbrev ws : List ℕ
      ws = map word (below w)

      abbrev first : ℕ
      first = map_word_place g k 0

      abbrev t₁ : List ℕ
      t₁ = put_words t first ws

      abbrev t₂ : List ℕ
      t₂ = put_word t₁ j k

      low : k < g.m
      low = named-below s j (mapped-named s j m) (z.links j b)

      few : length us ≤ g.p
      few = length-units s j

      full : length ws ≡ w
      full = length-map-from word 0 w

      room : first + length ws ≤ word_count g
      room = omega (arith, full, map-within k g.m w low)

      is-unit : (a : ℕ) → a < length us → is_unit (shape_of s) (get_or us a 0) ≡ true
      is-unit a l = units-are-units s (get_or us a 0) j (member-get_or us a l)

      unit-small : (a : ℕ) → unit a ≤ X
      unit-small a =
          ⊎_elim
          (λ q. let l = ltb-true a (length us) q in
          let e = unit-here us a l in
          let u = unit-below (shape_of s) (get_or us a 0) (is-unit a l) in
          omega (arith, units-high (shape_of s) old))
          (λ q. let e = get_or-eq_default us X (ltb-false a (length us) q) in omega arith)
          (either (ltb a (length us)))

      small : Small ws
      small a l =
          let e = get_or-map-below word w a 0 (omega (arith, full)) in
          ⊎_elim
          (λ q. let d = in_head 1 (length us * unit_bytes) unit a (ltb-true a 1 q) in omega (arith, few, lim.p-high))
          (λ q. let d = past_head 1 (length us * unit_bytes) unit a (ltb-false a 1 q) in omega (arith, unit-small (a - 1)))
          (either (ltb a 1))

      o₁ : On g t₁
      o₁ = on-puts g ws t first h.orderly.on room

      in_words : j < word_count g
      in_words = omega arith

      o₂ : On g t₂
      o₂ = on-put g t₁ o₁ j k in_words

      link-new : link_of t₂ j ≡ k
      link-new = word_at-same g t₁ o₁ j k in_words (omega (arith, low, lim.m-high, lim.c-high))

      link-old : (i : ℕ) → i < g.c → i ≢ j → link_of t₂ i ≡ link_of t i
      link-old i c n = word_at-other t₁ j i k (λ e. n (sym e)) ∙ puts-other ws t first i (inl (omega arith))

      word-new : (a : ℕ) → a < w → word_at t₂ (map_word_place g k a) ≡ word a
      word-new a l =
          let e : map_word_place g k a ≡ first + a = omega arith in
          word_at-other t₁ j (map_word_place g k a) k (place-past g k a j b)
          ∙ ap (word_at t₁) e
          ∙ puts-at g ws t first h.orderly.on room small a (omega (arith, full))
          ∙ get_or-map-below word w a 0 l

      word-old : (k' a : ℕ) → k' ≢ k → a < w → word_at t₂ (map_word_place g k' a) ≡ word_at t (map_word_place g k' a)
      word-old k' a n l =
          word_at-other t₁ j (map_word_place g k' a) k (place-past g k' a j b)
          ∙ puts-other ws t first (map_word_place g k' a)
          (⊎_elim (λ q. inl (omega (arith, map-within k' k w (ltb-true k' k q))))
          (λ q. inr (let up = above (ltb-false k' k q) in omega (arith, full, map-within k k' w up)))
          (either (ltb k' k)))
        where
          above : k ≤ k' → k < k'
          above q = omega (arith, n)

      still-unit : (u : ℕ) → is_unit (shape_of s) u ≡ true → is_unit g u ≡ true
      still-unit u e = between-unit g u (omega arith) (unit-below (shape_of s) u e)

      new-map : NewMap g t₂ j k (length us * unit_bytes) (length us) unit
      new-map = record {
        on = o₂;
        link = link-new;
        low = low;
        word = word-new;
        some = units-some s z j b m;
        fits = few;
        sized = omega arith;
        here = λ a l. ap (is_unit g) (unit-here us a l) ∙ still-unit (get_or us a 0) (is-unit a l);
        past = λ a l. get_or-eq_default us X l;
      }

      size-now : word_at t₂ (map_word_place g k 0) ≡ length us * unit_bytes
      size-now = word-new 0 (omega (arith, words_are)) ∙ in_head 1 (length us * unit_bytes) unit 0 (omega arith)

      units-now : units_of t₂ j ≡ us
      units-now =
          new-units g t₂ j k (length us * unit_bytes) (length us) unit new-map
          ∙ map-below-ext unit (λ a. get_or us a 0) (length us) (unit-here us)
          ∙ map-places us

      -- no other chunk has its map or one of its units
      other-link : (i : ℕ) → i < g.c → link_of t i ≢ k
      other-link i c e =
          ⊎_elim
          (λ q. let l = ltb-true i j q in
          let r = map-owner s z i j c b (is_mapped s i (λ x. named-s (sym e ∙ h.links i l ∙ x))) m (sym (h.links i l) ∙ e) in
          omega arith)
          (λ q. let x = h.later i (ltb-false i j q) c in omega (arith, low, lim.m-high, lim.c-high))
          (either (ltb i j))
        where
          named-s : Named s j
          named-s = mapped-named s j m

      other-units : (i u : ℕ) → i < g.c → member u (units_of t₂ j) ≡ true → member u (units_of t i) ≡ true → ⊥
      other-units i u c p q =
          ⊎_elim
          (λ y. let l = ltb-true i j y in
          let r = owner s z u i j c b (ap (member u) (sym (h.units i l)) ∙ q) (ap (member u) (sym units-now) ∙ p) in
          omega arith)
          (λ y. contradict q (ap (member u) (units-absent t i (h.later i (ltb-false i j y) c)) ∙ member-nil u))
          (either (ltb i j))

      as_before : (i : ℕ) → i < g.c → i ≢ j → Same g t t₂ i
      as_before i c n = record { link = link-old i c n; words = λ p a l. word-old (link_of t i) a (other-link i c) l }

      fate : (i : ℕ) → i < g.c → Fate g t t₂ i
      fate i c = ⊎_elim (λ q. subst (Fate g t t₂) (sym (eqb-true i j q)) now) (λ q. kept (as_before i c (eqb-false i j q))) (either (eqb i j))
        where
          now : Fate g t t₂ j
          now = renewed (record {
            bound = subst (λ (l : ℕ). l < g.m) (sym link-new) low;
            formed = new-form g t₂ j k (length us * unit_bytes) (length us) unit new-map;
            single = ap distinct units-now ∙ z.single j b;
            free-map = λ a l e. other-link a l (e ∙ link-new);
            free-units = λ a u l p q. other-units a u l p q;
          })

      in_order : Orderly g t₂
      in_order =
          orderly-after g t t₂ h.orderly.on o₂ h.orderly (λ a d p q n r r'. alone a d p q n r r') fate
        where
          -- only chunk j is renewed
          alone : (a d : ℕ) → a < g.c → d < g.c → a ≢ d → Renewed g t t₂ a → Renewed g t t₂ d → Apart t₂ a d
          alone a d p q n r r' =
              ⊎_elim (λ y. absurd (r'.free-map d q (sym (link-old d q (λ e. n (eqb-true a j y ∙ sym e))))))
              (λ y. absurd (r.free-map a p (sym (link-old a p (eqb-false a j y)))))
              (either (eqb a j))

      put-in : Copied (suc j) t₂
      put-in = record {
        orderly = in_order;
        trailer = put-trailer g t₁ j k in_words ∙ puts-trailer g ws t first room ∙ h.trailer;
        links = λ i l.
            ⊎_elim (λ q. link-old i (omega arith) (λ e. omega arith) ∙ h.links i q) (λ q. ap (link_of t₂) q ∙ link-new ∙ ap (link_of s) (sym q))
            (below_or i l);
        later = λ i l c. link-old i c (λ e. omega arith) ∙ h.later i (omega arith) c;
        units = λ i l.
            ⊎_elim
            (λ q. same_units g t t₂ h.orderly.on o₂ i (as_before i (omega arith) (λ e. omega arith)) ∙ h.units i q)
            (λ q. ap (units_of t₂) q ∙ units-now ∙ ap (units_of s) (sym q))
            (below_or i l);
        sizes = λ i l y.
            ⊎_elim (λ q. word-old (link_of s i) 0 (λ e. other-link i (omega arith) (h.links i q ∙ e)) (omega (arith, words_are)) ∙ h.sizes i q y)
            (λ q. subst (λ (a : ℕ). word_at t₂ (map_word_place g (link_of s a) 0) ≡ length (units_of s a) * unit_bytes) (sym q) size-now)
            (below_or i l);
        dead = λ k' a l q n. word-old k' a (λ e. n j (omega arith) (sym e)) q ∙ h.dead k' a l q (λ i p. n i (omega arith));
      }

  -- ---- all of them

  copied-below : (j : ℕ) → j ≤ g.c → Copied j (copied_below s j)
  unfolding copied_below copied put_map
  copied-below zero h = start
  copied-below (suc j) h =
      let c = copied-below j (omega arith) in
      ⊎_elim (λ m. subst (Copied (suc j)) (sym (cond-true (mapped s j) _ _ m)) (put-in j (omega arith) (copied_below s j) c m))
      (λ m. subst (Copied (suc j)) (sym (cond-false (mapped s j) _ _ m)) (left_out j (omega arith) (copied_below s j) c m))
      (either (mapped s j))

  whole : Copied g.c (converted s)
  unfolding converted
  whole = copied-below g.c (omega arith)

  pub converted-sound : Sound g (converted s)
  converted-sound =
      let o = whole.orderly.on.shape in
      subst (λ (q : Shape). Sound q (converted s)) o
      (trailed-sound (converted s) (orderly-tested whole.orderly)
      (ap (λ (q : Shape). drop (trailer_start q) (converted s)) o ∙ whole.trailer ∙ ap trailer_of (sym o)))

  pub converted-links : (i : ℕ) → i < g.c → link_of (converted s) i ≡ link_of s i
  converted-links = whole.links

  pub converted-units : (i : ℕ) → i < g.c → units_of (converted s) i ≡ units_of s i
  converted-units = whole.units

  pub converted-sizes : (i : ℕ) → i < g.c → mapped s i ≡ true → word_at (converted s) (map_word_place g (link_of s i) 0) ≡ length (units_of s i) * unit_bytes
  converted-sizes = whole.sizes

  pub converted-dead : (k a : ℕ) → k < g.m → a < w → ((i : ℕ) → i < g.c → link_of s i ≢ k) → word_at (converted s) (map_word_place g k a) ≡ X
  converted-dead = whole.dead
