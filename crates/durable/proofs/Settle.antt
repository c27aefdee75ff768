-- What the steps of an event leave: which words and units stay, and which are set.
use Prim.Native.Nat.{ℕ, suc, ◌<◌}
use mathlib.Core.Path.{◌≡◌, refl, sym, ap, ap₂, ◌∙◌, subst}
use mathlib.Core.Logic.{◌⊎◌, inl, inr}
use mathlib.Core.Bool.{Bool, true, false, cond}
use mathlib.Core.List.{List, [], ◌∷◌}
use lib.ListN.{drop}
use lib.Dec.{eqb}
use borrow.Author.Tests.{eqb-true, eqb-false, eq-eqb, ne_eqb}
use Rattle.layout.specs.declared.Shape.{Shape}
use Rattle.search.specs.Search.{member, distinct}
use Rattle.layout.specs.Layout.{map_words, word_at, map_word_place, trailer_start}
use Rattle.search.proofs.Bools.{contradict, either, cond-true, cond-false}
use Rattle.search.proofs.Members.{member-nil, member-cons}
use Rattle.search.proofs.Distinct.{distinct_head, distinct_tail}
use Rattle.layout.specs.Shaped.{On}
use Rattle.layout.proofs.Place.{place-past, place_map, place-word}
use Rattle.steps.specs.declared.Step.{Step}
use Rattle.steps.specs.declared.Step.TheVariants.{Data, Map, Link, Fence}
use Rattle.rules.specs.Rules.{collect, unit_in, piece_in, pieces, units, unit_of}
use Rattle.steps.specs.Encodable.{Each}
use Rattle.rules.proofs.StepLaws.{InRange, each_two, Stores, Spares, Skips, words_on, words_on-here, words_on-other, each-spares, each-skips, unit_of-here, unit_of-later}
use Rattle.carry.specs.Carry.{Misses}
use Rattle.carry.proofs.CarryLaws.{word_below, chunk-below, on-carry, carry-miss, carry-trailer, carried-word}
use Rattle.durable.specs.Events.{Volume, Event, store, lands, fill, settle}

-- ---- one step

module _ (g : Shape) (s : List ℕ) (o : On g s) where
  pub on_store : (b : Bool) (x : Step) → InRange g x → On g (store b x s)
  on_store true x h = on-carry g s o x h
  on_store false x h = o

  pub store-miss : (b : Bool) (x : Step) (q : ℕ) → Misses g q x → word_at (store b x s) q ≡ word_at s q
  store-miss true x q h = carry-miss g s o x q h
  store-miss false x q h = refl

  -- the trailer's bytes stay
  pub store-trailer : (b : Bool) (x : Step) → InRange g x → drop (trailer_start g) (store b x s) ≡ drop (trailer_start g) s
  store-trailer true x h = carry-trailer g s o x h
  store-trailer false x h = refl

-- ---- the steps of an event

module _ {A : Type 0} where
  abbrev pub next : Event A → ℕ → Step → Volume A → Volume A
  next e i x v = record { image = store (lands e i) x v.image; content = fill e i x v.content }

  pub settle-nil : (e : Event A) (i : ℕ) (v : Volume A) → settle e i [] v ≡ v
  unfolding settle
  settle-nil e i v = refl

  pub settle-cons : (e : Event A) (i : ℕ) (x : Step) (xs : List Step) (v : Volume A) → settle e i (x ∷ xs) v ≡ settle e (suc i) xs (next e i x v)
  unfolding settle
  settle-cons e i x xs v = refl

  -- every DATA and MAP step landed
  abbrev pub Solid : Event A → ℕ → List Step → Type 0
  Solid e i [] = Unit {0}
  Solid e i (Data u j wr ∷ xs) = (lands e i ≡ true) × Solid e (suc i) xs
  Solid e i (Map k j v ∷ xs) = (lands e i ≡ true) × Solid e (suc i) xs
  Solid e i (Link c v ∷ xs) = Solid e (suc i) xs
  Solid e i (Fence ∷ xs) = Solid e (suc i) xs

  fill-spares : (e : Event A) (i : ℕ) (x : Step) (f : ℕ → A) (u : ℕ) → Spares u x → fill e i x f u ≡ f u
  fill-spares e i (Data w j wr) f u h = cond-false (eqb u w) (cond (lands e i) (e.payload j) (e.left i)) (f u) (ne_eqb u w h)
  fill-spares e i (Map k j v) f u h = refl
  fill-spares e i (Link c v) f u h = refl
  fill-spares e i Fence f u h = refl

  fill-data : (e : Event A) (i u j wr : ℕ) (f : ℕ → A) → lands e i ≡ true → fill e i (Data u j wr) f u ≡ e.payload j
  fill-data e i u j wr f h =
      cond-true (eqb u u) (cond (lands e i) (e.payload j) (e.left i)) (f u) (eq-eqb u u refl) ∙ cond-true (lands e i) (e.payload j) (e.left i) h

  module _ (e : Event A) where
    -- a unit that no DATA step is on stays
    pub keep-content : (u i : ℕ) (xs : List Step) (v : Volume A) → Each (Spares u) xs → (settle e i xs v).content u ≡ v.content u
    keep-content u i [] v h = ap (λ (w : Volume A). w.content u) (settle-nil e i v)
    keep-content u i (x ∷ xs) v h =
        ap (λ (w : Volume A). w.content u) (settle-cons e i x xs v)
        ∙ keep-content u (suc i) xs (next e i x v) h.1
        ∙ fill-spares e i x v.content u h.0

    -- where every DATA step lands, each piece is on its unit
    pub set-content :
        (j i : ℕ) (xs : List Step) (v : Volume A) → distinct (units xs) ≡ true → member j (pieces xs) ≡ true → Solid e i xs
        → (settle e i xs v).content (unit_of j xs) ≡ e.payload j
    unfolding collect unit_in piece_in unit_of
    set-content j i [] v d m s = contradict m (member-nil j)
    set-content j i (Data u l wr ∷ xs) v d m s = go (set-content j (suc i) xs (next e i (Data u l wr) v) (distinct_tail u (units xs) d)) (either (eqb j l)) (member-cons j l (pieces xs) m)
      where
        go : (member j (pieces xs) ≡ true → Solid e (suc i) xs → (settle e (suc i) xs (next e i (Data u l wr) v)).content (unit_of j xs) ≡ e.payload j)
            → (eqb j l ≡ true) ⊎ (eqb j l ≡ false) → (j ≡ l) ⊎ (member j (pieces xs) ≡ true)
            → (settle e i (Data u l wr ∷ xs) v).content (unit_of j (Data u l wr ∷ xs)) ≡ e.payload j
        go rest (inl q) c =
            ap (settle e i (Data u l wr ∷ xs) v).content (unit_of-here u l wr j xs (eqb-true j l q))
            ∙ ap (λ (w : Volume A). w.content u) (settle-cons e i (Data u l wr) xs v)
            ∙ keep-content u (suc i) xs (next e i (Data u l wr) v) (each-spares u xs (λ p. contradict p (distinct_head u (units xs) d)))
            ∙ fill-data e i u l wr v.content s.0
            ∙ ap e.payload (sym (eqb-true j l q))
        go rest (inr q) (inl c) = absurd (eqb-false j l q c)
        go rest (inr q) (inr c) =
            ap (settle e i (Data u l wr ∷ xs) v).content (unit_of-later u l wr j xs (eqb-false j l q))
            ∙ ap (λ (w : Volume A). w.content (unit_of j xs)) (settle-cons e i (Data u l wr) xs v)
            ∙ rest c s.1
    set-content j i (Map k w b ∷ xs) v d m s =
        ap (λ (y : Volume A). y.content (unit_of j xs)) (settle-cons e i (Map k w b) xs v) ∙ set-content j (suc i) xs (next e i (Map k w b) v) d m s.1
    set-content j i (Link c w ∷ xs) v d m s =
        ap (λ (y : Volume A). y.content (unit_of j xs)) (settle-cons e i (Link c w) xs v) ∙ set-content j (suc i) xs (next e i (Link c w) v) d m s
    set-content j i (Fence ∷ xs) v d m s =
        ap (λ (y : Volume A). y.content (unit_of j xs)) (settle-cons e i Fence xs v) ∙ set-content j (suc i) xs (next e i Fence v) d m s

    module _ (g : Shape) where
      pub on-settle : (i : ℕ) (xs : List Step) (v : Volume A) → On g v.image → Each (InRange g) xs → On g (settle e i xs v).image
      on-settle i [] v o r = subst (λ (w : Volume A). On g w.image) (sym (settle-nil e i v)) o
      on-settle i (x ∷ xs) v o r =
          subst (λ (w : Volume A). On g w.image) (sym (settle-cons e i x xs v))
          (on-settle (suc i) xs (next e i x v) (on_store g v.image o (lands e i) x r.0) r.1)

      pub settle-trailer : (i : ℕ) (xs : List Step) (v : Volume A) → On g v.image → Each (InRange g) xs
          → drop (trailer_start g) (settle e i xs v).image ≡ drop (trailer_start g) v.image
      settle-trailer i [] v o r = ap (λ (w : Volume A). drop (trailer_start g) w.image) (settle-nil e i v)
      settle-trailer i (x ∷ xs) v o r =
          ap (λ (w : Volume A). drop (trailer_start g) w.image) (settle-cons e i x xs v)
          ∙ settle-trailer (suc i) xs (next e i x v) (on_store g v.image o (lands e i) x r.0) r.1
          ∙ store-trailer g v.image o (lands e i) x r.0

      -- a word that no step stores stays
      pub keep_word :
          (q i : ℕ) (xs : List Step) (v : Volume A) → On g v.image → Each (InRange g) xs → Each (Misses g q) xs
          → word_at (settle e i xs v).image q ≡ word_at v.image q
      keep_word q i [] v o r h = ap (λ (w : Volume A). word_at w.image q) (settle-nil e i v)
      keep_word q i (x ∷ xs) v o r h =
          ap (λ (w : Volume A). word_at w.image q) (settle-cons e i x xs v)
          ∙ keep_word q (suc i) xs (next e i x v) (on_store g v.image o (lands e i) x r.0) r.1 h.1
          ∙ store-miss g v.image o (lands e i) x q h.0

      -- where every MAP step lands, a word that the steps on map k store is as they say
      skips-misses : (k j : ℕ) → j < map_words g → (x : Step) → InRange g x → Skips k j x → Misses g (map_word_place g k j) x
      skips-misses k j b (Data u l wr) r h = tt
      skips-misses k j b (Map m l v) r h = λ p. h (place_map g m l k j (word_below g m l v r) b p) (place-word g m l k j (word_below g m l v r) b p)
      skips-misses k j b (Link c v) r h = place-past g k j c (chunk-below g c v r)
      skips-misses k j b Fence r h = tt

      module _ (k : ℕ) (f : ℕ → ℕ) (j : ℕ) (b : j < map_words g) where
        at_next : (i : ℕ) (x : Step) (xs : List Step) (v : Volume A)
            → word_at (settle e i (x ∷ xs) v).image (map_word_place g k j) ≡ word_at (settle e (suc i) xs (next e i x v)).image (map_word_place g k j)
        at_next i x xs v = ap (λ (z : Volume A). word_at z.image (map_word_place g k j)) (settle-cons e i x xs v)

        pub set_word :
            (i : ℕ) (xs : List Step) (v : Volume A) → On g v.image → Each (InRange g) xs → Each (Stores k f) xs → Solid e i xs
            → member j (words_on k xs) ≡ true
            → word_at (settle e i xs v).image (map_word_place g k j) ≡ f j
        unfolding words_on
        set_word i [] v o r t s m = contradict m (member-nil j)
        set_word i (Map l w y ∷ xs) v o r t s m =
            at_next i (Map l w y) xs v ∙ go (set_word (suc i) xs after on r.1 t.1 s.1) (either (eqb l k)) (either (member j (words_on k xs)))
          where
            after : Volume A
            after = next e i (Map l w y) v

            on : On g after.image
            on = on_store g v.image o (lands e i) (Map l w y) r.0

            stored : l ≡ k → j ≡ w → word_at after.image (map_word_place g k j) ≡ f j
            stored p q =
                ap (λ (c : Bool). word_at (store c (Map l w y) v.image) (map_word_place g k j)) s.0
                ∙ ap₂ (λ (c d : ℕ). word_at (store true (Map l w y) v.image) (map_word_place g c d)) (sym p) q
                ∙ carried-word g v.image o l w y r.0
                ∙ t.0 p
                ∙ ap f (sym q)

            last : l ≡ k → member j (words_on k xs) ≡ false → (j ≡ w) ⊎ (member j (words_on k xs) ≡ true)
                → word_at (settle e (suc i) xs after).image (map_word_place g k j) ≡ f j
            last p q (inr c) = contradict c q
            last p q (inl c) =
                keep_word (map_word_place g k j) (suc i) xs after on r.1
                (each_two (skips-misses k j b) xs r.1 (each-skips k j xs (λ z. contradict z q)))
                ∙ stored p c

            go : (member j (words_on k xs) ≡ true → word_at (settle e (suc i) xs after).image (map_word_place g k j) ≡ f j)
                → (eqb l k ≡ true) ⊎ (eqb l k ≡ false) → (member j (words_on k xs) ≡ true) ⊎ (member j (words_on k xs) ≡ false)
                → word_at (settle e (suc i) xs after).image (map_word_place g k j) ≡ f j
            go rest p (inl q) = rest q
            go rest (inl p) (inr q) =
                last (eqb-true l k p) q (member-cons j w (words_on k xs) (ap (member j) (sym (words_on-here l k w y xs (eqb-true l k p))) ∙ m))
            go rest (inr p) (inr q) = absurd (contradict (ap (member j) (sym (words_on-other l k w y xs (eqb-false l k p))) ∙ m) q)
        set_word i (Data u l wr ∷ xs) v o r t s m =
            at_next i (Data u l wr) xs v
            ∙ set_word (suc i) xs (next e i (Data u l wr) v) (on_store g v.image o (lands e i) (Data u l wr) r.0) r.1 t.1 s.1 m
        set_word i (Link c w ∷ xs) v o r t s m =
            at_next i (Link c w) xs v
            ∙ set_word (suc i) xs (next e i (Link c w) v) (on_store g v.image o (lands e i) (Link c w) r.0) r.1 t.1 s m
        set_word i (Fence ∷ xs) v o r t s m =
            at_next i Fence xs v ∙ set_word (suc i) xs (next e i Fence v) (on_store g v.image o (lands e i) Fence r.0) r.1 t.1 s m
