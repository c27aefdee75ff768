-- The LINK steps of an event, chunk by chunk: where none of a chunk landed its entry stays, and where one landed it is the word that they store.
use Rattle.std.specs.Prelude.{Option}
use Prim.Native.Nat.{ℕ, suc, ◌<◌}
use mathlib.Core.Path.{◌≡◌, refl, sym, ap, ◌∙◌}
use mathlib.Core.Logic.{◌⊎◌, inl, inr, ◌≢◌}
use mathlib.Core.Bool.{Bool, true, false, ◌&&◌, ◌||◌}
use mathlib.Core.List.{List, [], ◌∷◌}
use lib.Dec.{eqb}
use borrow.Author.Tests.{eqb-true, eqb-false, eq-eqb, ne_eqb}
use Rattle.layout.specs.declared.Shape.{Shape}
use Rattle.layout.specs.Layout.{word_at, map_word_place}
use Rattle.search.proofs.Bools.{contradict, either, is_false, and_left, and_right, and_intro, or-false-left, or-false-right, or_cases}
use Rattle.layout.specs.Shaped.{On}
use Rattle.layout.proofs.Place.{place-past}
use Rattle.steps.specs.declared.Step.{Step}
use Rattle.steps.specs.declared.Step.TheVariants.{Data, Map, Link, Fence}
use Rattle.steps.specs.Encodable.{Each}
use Rattle.rules.proofs.StepLaws.{InRange, OnLink, Links}
use Rattle.carry.proofs.CarryLaws.{carried-link}
use Rattle.durable.specs.Events.{Volume, Event, store, lands, settle, link_lands}
use Rattle.durable.proofs.Settle.{on_store, store-miss, next, settle-nil, settle-cons}

module _ {A : Type 0} where
  -- some LINK of chunk q landed, of the steps from step i on
  unfoldable pub link_lands_on : Event A → ℕ → ℕ → List Step → Bool
  unfolding lands
  link_lands_on e q i [] = false
  link_lands_on e q i (Data u j wr ∷ xs) = link_lands_on e q (suc i) xs
  link_lands_on e q i (Map k j v ∷ xs) = link_lands_on e q (suc i) xs
  link_lands_on e q i (Link c v ∷ xs) = eqb c q && lands e i || link_lands_on e q (suc i) xs
  link_lands_on e q i (Fence ∷ xs) = link_lands_on e q (suc i) xs

  -- where every LINK is of chunk c, the LINKs that land are all of c
  pub lands-own : (e : Event A) (c w i : ℕ) (xs : List Step) → Each (OnLink c w) xs → link_lands_on e c i xs ≡ link_lands e i xs
  unfolding link_lands_on link_lands
  lands-own e c w i [] h = refl
  lands-own e c w i (Data u j wr ∷ xs) h = lands-own e c w (suc i) xs h.1
  lands-own e c w i (Map k j v ∷ xs) h = lands-own e c w (suc i) xs h.1
  lands-own e c w i (Link q v ∷ xs) h =
      ap (λ (b : Bool). b && lands e i || link_lands_on e c (suc i) xs) (eq-eqb q c h.0.0)
      ∙ ap (λ (b : Bool). lands e i || b) (lands-own e c w (suc i) xs h.1)
  lands-own e c w i (Fence ∷ xs) h = lands-own e c w (suc i) xs h.1

  pub lands-other : (e : Event A) (c w q i : ℕ) (xs : List Step) → Each (OnLink c w) xs → q ≢ c → link_lands_on e q i xs ≡ false
  unfolding link_lands_on
  lands-other e c w q i [] h n = refl
  lands-other e c w q i (Data u j wr ∷ xs) h n = lands-other e c w q (suc i) xs h.1 n
  lands-other e c w q i (Map k j v ∷ xs) h n = lands-other e c w q (suc i) xs h.1 n
  lands-other e c w q i (Link p v ∷ xs) h n =
      ap (λ (b : Bool). b && lands e i || link_lands_on e q (suc i) xs) (ne_eqb p q (λ z. n (sym z ∙ h.0.0)))
      ∙ lands-other e c w q (suc i) xs h.1 n
  lands-other e c w q i (Fence ∷ xs) h n = lands-other e c w q (suc i) xs h.1 n

module _ {A : Type 0} (e : Event A) (g : Shape) (q : ℕ) (b : q < g.c) where
  -- a MAP step misses the links
  map-misses : (k j : ℕ) → map_word_place g k j ≢ q
  map-misses k j p = place-past g k j q b (sym p)

  at_next : (i : ℕ) (x : Step) (xs : List Step) (v : Volume A) → word_at (settle e i (x ∷ xs) v).image q ≡ word_at (settle e (suc i) xs (next e i x v)).image q
  at_next i x xs v = ap (λ (w : Volume A). word_at w.image q) (settle-cons e i x xs v)

  -- a LINK that is of another chunk, or did not land, leaves the entry
  quiet-link : (c i : ℕ) (y : Option ℕ) (s : List ℕ) → On g s → (eqb c q && lands e i) ≡ false → word_at (store (lands e i) (Link c y) s) q ≡ word_at s q
  quiet-link c i y s o h = go (either (eqb c q))
    where
      go : (eqb c q ≡ true) ⊎ (eqb c q ≡ false) → word_at (store (lands e i) (Link c y) s) q ≡ word_at s q
      go (inl p) =
          ap (λ (t : Bool). word_at (store t (Link c y) s) q) (is_false (lands e i) (λ l. contradict (and_intro (eqb c q) (lands e i) p l) h))
      go (inr p) = store-miss g s o (lands e i) (Link c y) q (eqb-false c q p)

  pub keep-link :
      (i : ℕ) (xs : List Step) (v : Volume A) → On g v.image → Each (InRange g) xs → link_lands_on e q i xs ≡ false
      → word_at (settle e i xs v).image q ≡ word_at v.image q
  unfolding link_lands_on
  keep-link i [] v o r h = ap (λ (w : Volume A). word_at w.image q) (settle-nil e i v)
  keep-link i (Data u j wr ∷ xs) v o r h =
      at_next i (Data u j wr) xs v
      ∙ keep-link (suc i) xs (next e i (Data u j wr) v) (on_store g v.image o (lands e i) (Data u j wr) r.0) r.1 h
      ∙ store-miss g v.image o (lands e i) (Data u j wr) q tt
  keep-link i (Map k j w ∷ xs) v o r h =
      at_next i (Map k j w) xs v
      ∙ keep-link (suc i) xs (next e i (Map k j w) v) (on_store g v.image o (lands e i) (Map k j w) r.0) r.1 h
      ∙ store-miss g v.image o (lands e i) (Map k j w) q (map-misses k j)
  keep-link i (Link c w ∷ xs) v o r h =
      at_next i (Link c w) xs v
      ∙ keep-link (suc i) xs (next e i (Link c w) v) (on_store g v.image o (lands e i) (Link c w) r.0) r.1
      (or-false-right (eqb c q && lands e i) (link_lands_on e q (suc i) xs) h)
      ∙ quiet-link c i w v.image o (or-false-left (eqb c q && lands e i) (link_lands_on e q (suc i) xs) h)
  keep-link i (Fence ∷ xs) v o r h =
      at_next i Fence xs v
      ∙ keep-link (suc i) xs (next e i Fence v) (on_store g v.image o (lands e i) Fence r.0) r.1 h
      ∙ store-miss g v.image o (lands e i) Fence q tt

  module _ (w : ℕ) where
    stored-link : (c : ℕ) (y : Option ℕ) (s : List ℕ) → On g s → InRange g (Link c y) → Links q w (Link c y) → c ≡ q → word_at (store true (Link c y) s) q ≡ w
    stored-link c y s o r l p = ap (word_at (store true (Link c y) s)) (sym p) ∙ carried-link g s o c y r ∙ l p

    -- once the entry is w, a step that stores w there or misses it leaves it so
    step-link : (t : Bool) (x : Step) (s : List ℕ) → On g s → InRange g x → Links q w x → word_at s q ≡ w → word_at (store t x s) q ≡ w
    step-link t (Data u j wr) s o r l h = store-miss g s o t (Data u j wr) q tt ∙ h
    step-link t (Map k j y) s o r l h = store-miss g s o t (Map k j y) q (map-misses k j) ∙ h
    step-link true (Link c y) s o r l h = go (either (eqb c q))
      where
        go : (eqb c q ≡ true) ⊎ (eqb c q ≡ false) → word_at (store true (Link c y) s) q ≡ w
        go (inl p) = stored-link c y s o r l (eqb-true c q p)
        go (inr p) = store-miss g s o true (Link c y) q (eqb-false c q p) ∙ h
    step-link false (Link c y) s o r l h = h
    step-link t Fence s o r l h = store-miss g s o t Fence q tt ∙ h

    stay-link :
        (i : ℕ) (xs : List Step) (v : Volume A) → On g v.image → Each (InRange g) xs → Each (Links q w) xs → word_at v.image q ≡ w
        → word_at (settle e i xs v).image q ≡ w
    stay-link i [] v o r l h = ap (λ (z : Volume A). word_at z.image q) (settle-nil e i v) ∙ h
    stay-link i (x ∷ xs) v o r l h =
        at_next i x xs v
        ∙ stay-link (suc i) xs (next e i x v) (on_store g v.image o (lands e i) x r.0) r.1 l.1
        (step-link (lands e i) x v.image o r.0 l.0 h)

    pub set_link :
        (i : ℕ) (xs : List Step) (v : Volume A) → On g v.image → Each (InRange g) xs → Each (Links q w) xs → link_lands_on e q i xs ≡ true
        → word_at (settle e i xs v).image q ≡ w
    unfolding link_lands_on
    set_link i [] v o r l h = contradict h refl
    set_link i (Data u j wr ∷ xs) v o r l h =
        at_next i (Data u j wr) xs v
        ∙ set_link (suc i) xs (next e i (Data u j wr) v) (on_store g v.image o (lands e i) (Data u j wr) r.0) r.1 l.1 h
    set_link i (Map k j y ∷ xs) v o r l h =
        at_next i (Map k j y) xs v
        ∙ set_link (suc i) xs (next e i (Map k j y) v) (on_store g v.image o (lands e i) (Map k j y) r.0) r.1 l.1 h
    set_link i (Link c y ∷ xs) v o r l h =
        at_next i (Link c y) xs v
        ∙ go (set_link (suc i) xs after on r.1 l.1) (or_cases (eqb c q && lands e i) (link_lands_on e q (suc i) xs) h)
      where
        after : Volume A
        after = next e i (Link c y) v

        on : On g after.image
        on = on_store g v.image o (lands e i) (Link c y) r.0

        go : (link_lands_on e q (suc i) xs ≡ true → word_at (settle e (suc i) xs after).image q ≡ w)
            → ((eqb c q && lands e i) ≡ true) ⊎ (link_lands_on e q (suc i) xs ≡ true)
            → word_at (settle e (suc i) xs after).image q ≡ w
        go rest (inr p) = rest p
        go rest (inl p) =
            stay-link (suc i) xs after on r.1 l.1
            (ap (λ (t : Bool). word_at (store t (Link c y) v.image) q) (and_right (eqb c q) (lands e i) p)
            ∙ stored-link c y v.image o r.0 l.0 (eqb-true c q (and_left (eqb c q) (lands e i) p)))
    set_link i (Fence ∷ xs) v o r l h =
        at_next i Fence xs v
        ∙ set_link (suc i) xs (next e i Fence v) (on_store g v.image o (lands e i) Fence r.0) r.1 l.1 h
