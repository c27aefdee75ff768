-- The pass, part by part: each part of what is kept goes its own way over the steps.
use Prim.Native.Nat.{ℕ}
use mathlib.Core.Path.{◌≡◌, refl, sym, ap, ◌∙◌}
use mathlib.Core.Logic.{inl, inr}
use mathlib.Core.Bool.{Bool, true, false, ◌&&◌, ◌||◌}
use mathlib.Core.List.{List, [], ◌∷◌}
use lib.Dec.{eqb}
use borrow.Author.Tests.{eq-eqb}
use Rattle.search.proofs.Bools.{cond-false}
use Rattle.layout.specs.Layout.{X}
use Rattle.steps.specs.declared.Step.{Step}
use Rattle.steps.specs.declared.Step.TheVariants.{Data, Map, Link, Fence}
use Rattle.steps.specs.Steps.{word_of}
use Rattle.steps.specs.Encodable.{Each}
use Rattle.rules.specs.Rules.{collect, piece_in, map_in, word_in, linked_in, linked, plan_map}
use Rattle.tally.specs.Tallies.{fold, tick_off}
use Rattle.tally.proofs.Meeting.{met, Draws}
use Rattle.pass.specs.declared.Seen.{Seen}
use Rattle.pass.specs.Passes.{order_after, on_map, first_map, see}
use Rattle.pass.proofs.Folding.{fold-part}

-- ---- the tests of the steps that the three tallies count

-- a DATA step is on the unit of its piece
abbrev pub placed : (ℕ → ℕ) → Step → Bool
placed unit (Data u j w) = eqb (unit j) u
placed unit (Map k j v) = true
placed unit (Link c v) = true
placed unit Fence = true

pub draws-piece : (unit : ℕ → ℕ) (x : Step) → Draws piece_in (placed unit) x
unfolding piece_in
draws-piece unit (Data u j w) = inr (j, refl)
draws-piece unit (Map k j v) = inl (refl, refl)
draws-piece unit (Link c v) = inl (refl, refl)
draws-piece unit Fence = inl (refl, refl)

-- a MAP step is on map a, and stores what its word must hold
abbrev pub stored : ℕ → (ℕ → ℕ) → Step → Bool
stored a word (Data u j w) = true
stored a word (Map k j v) = eqb a k && eqb (word_of v) (word j)
stored a word (Link c v) = true
stored a word Fence = true

pub draws-word : (a : ℕ) (word : ℕ → ℕ) (x : Step) → Draws word_in (stored a word) x
unfolding word_in
draws-word a word (Data u j w) = inl (refl, refl)
draws-word a word (Map k j v) = inr (j, refl)
draws-word a word (Link c v) = inl (refl, refl)
draws-word a word Fence = inl (refl, refl)

-- a LINK step is chunk i's; every LINK is number 0
abbrev pub of_chunk : ℕ → Step → Bool
of_chunk i (Data u j w) = true
of_chunk i (Map k j v) = true
of_chunk i (Link c v) = eqb i c
of_chunk i Fence = true

abbrev pub zero_in : Step → List ℕ
zero_in (Data u j w) = []
zero_in (Map k j v) = []
zero_in (Link c v) = 0 ∷ []
zero_in Fence = []

pub draws-link : (i : ℕ) (x : Step) → Draws zero_in (of_chunk i) x
draws-link i (Data u j w) = inl (refl, refl)
draws-link i (Map k j v) = inl (refl, refl)
draws-link i (Link c v) = inr (0, refl)
draws-link i Fence = inl (refl, refl)

-- the last number of a list, or d
abbrev pub last_or : ℕ → List ℕ → ℕ
last_or d [] = d
last_or d (x ∷ xs) = last_or x xs

-- a MAP step is on a map that is not X, as where rule 1 is kept
abbrev pub OnSome : Step → Type 0
OnSome (Data u j w) = Unit {0}
OnSome (Map k j v) = eqb k X ≡ false
OnSome (Link c v) = Unit {0}
OnSome Fence = Unit {0}

-- ---- the parts

module _ (i : ℕ) (unit word : ℕ → ℕ) where
  abbrev step : Seen → Step → Seen
  step = see i unit word

  pub pieces-part : (xs : List Step) (st : Seen) → (fold step st xs).pieces ≡ fold (met piece_in (placed unit)) st.pieces xs
  unfolding piece_in
  pieces-part = fold-part step (met piece_in (placed unit)) (λ (st : Seen). st.pieces) go
    where
      go : (st : Seen) (x : Step) → (step st x).pieces ≡ met piece_in (placed unit) st.pieces x
      go st (Data u j w) = refl
      go st (Map k j v) = refl
      go st (Link c v) = refl
      go st Fence = refl

  pub links-part : (xs : List Step) (st : Seen) → (fold step st xs).links ≡ fold (met zero_in (of_chunk i)) st.links xs
  links-part = fold-part step (met zero_in (of_chunk i)) (λ (st : Seen). st.links) go
    where
      go : (st : Seen) (x : Step) → (step st x).links ≡ met zero_in (of_chunk i) st.links x
      go st (Data u j w) = refl
      go st (Map k j v) = refl
      go st (Link c v) = refl
      go st Fence = refl

  pub order-part : (xs : List Step) (st : Seen) → (fold step st xs).order ≡ fold order_after st.order xs
  order-part = fold-part step order_after (λ (st : Seen). st.order) go
    where
      go : (st : Seen) (x : Step) → (step st x).order ≡ order_after st.order x
      go st (Data u j w) = refl
      go st (Map k j v) = refl
      go st (Link c v) = refl
      go st Fence = refl

  pub linked-part : (xs : List Step) (st : Seen) → (fold step st xs).linked ≡ last_or st.linked (linked xs)
  unfolding fold collect linked_in
  linked-part [] st = refl
  linked-part (Data u j w ∷ xs) st = linked-part xs (step st (Data u j w))
  linked-part (Map k j v ∷ xs) st = linked-part xs (step st (Map k j v))
  linked-part (Link c v ∷ xs) st = linked-part xs (step st (Link c v))
  linked-part (Fence ∷ xs) st = linked-part xs (step st Fence)

  -- after the first MAP step, which was on map a
  module _ (a : ℕ) (n : eqb a X ≡ false) where
    still : (m k : ℕ) → m ≡ a → first_map m k ≡ a
    still m k e = ap (λ (m : ℕ). first_map m k) e ∙ cond-false (eqb a X) k a n

    words-known : (xs : List Step) (st : Seen) → st.map ≡ a → (fold step st xs).words ≡ fold (met word_in (stored a word)) st.words xs
    unfolding fold word_in
    words-known [] st e = refl
    words-known (Data u j w ∷ xs) st e = words-known xs (step st (Data u j w)) e
    words-known (Map k j v ∷ xs) st e =
        words-known xs (step st (Map k j v)) (still st.map k e)
        ∙ ap (λ (b : Bool). fold (met word_in (stored a word)) (tick_off st.words j (b && eqb (word_of v) (word j))) xs)
        (ap (λ (m : ℕ). on_map m k) e ∙ ap (λ (b : Bool). b || eqb a k) n)
    words-known (Link c v ∷ xs) st e = words-known xs (step st (Link c v)) e
    words-known (Fence ∷ xs) st e = words-known xs (step st Fence) e

    map-known : (xs : List Step) (st : Seen) → st.map ≡ a → (fold step st xs).map ≡ a
    unfolding fold
    map-known [] st e = e
    map-known (Data u j w ∷ xs) st e = map-known xs (step st (Data u j w)) e
    map-known (Map k j v ∷ xs) st e = map-known xs (step st (Map k j v)) (still st.map k e)
    map-known (Link c v ∷ xs) st e = map-known xs (step st (Link c v)) e
    map-known (Fence ∷ xs) st e = map-known xs (step st Fence) e

  -- from the start on
  pub words-part : (xs : List Step) → Each OnSome xs → (st : Seen) → st.map ≡ X
      → (fold step st xs).words ≡ fold (met word_in (stored (plan_map xs) word)) st.words xs
  unfolding fold word_in plan_map collect map_in
  words-part [] h st e = refl
  words-part (Data u j w ∷ xs) h st e = words-part xs h.1 (step st (Data u j w)) e
  words-part (Map k j v ∷ xs) h st e =
      words-known k h.0 xs (step st (Map k j v)) (ap (λ (m : ℕ). first_map m k) e)
      ∙ ap (λ (b : Bool). fold (met word_in (stored k word)) (tick_off st.words j (b && eqb (word_of v) (word j))) xs)
      (ap (λ (m : ℕ). on_map m k) e ∙ sym (eq-eqb k k refl))
  words-part (Link c v ∷ xs) h st e = words-part xs h.1 (step st (Link c v)) e
  words-part (Fence ∷ xs) h st e = words-part xs h.1 (step st Fence) e

  pub map-part : (xs : List Step) → Each OnSome xs → (st : Seen) → st.map ≡ X → (fold step st xs).map ≡ plan_map xs
  unfolding fold plan_map collect map_in
  map-part [] h st e = e
  map-part (Data u j w ∷ xs) h st e = map-part xs h.1 (step st (Data u j w)) e
  map-part (Map k j v ∷ xs) h st e = map-known k h.0 xs (step st (Map k j v)) (ap (λ (m : ℕ). first_map m k) e)
  map-part (Link c v ∷ xs) h st e = map-part xs h.1 (step st (Link c v)) e
  map-part (Fence ∷ xs) h st e = map-part xs h.1 (step st Fence) e
