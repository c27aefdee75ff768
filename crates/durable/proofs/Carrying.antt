-- Where all of the first n steps landed, the image is what carrying out n steps leaves, and a LINK landed where one is among them.
use Rattle.std.specs.Prelude.{Option, Some, None, Result, Ok, Err, ⊤}
use Prim.Native.Nat.{ℕ, zero, suc, ◌+◌, ◌≤◌, ◌<◌}
use mathlib.Core.Path.{◌≡◌, refl, ap, ◌∙◌}
use mathlib.Core.Logic.{⊎_elim}
use mathlib.Core.Bool.{Bool, true, false, ◌&&◌, ◌||◌, cond}
use mathlib.Core.List.{List, [], ◌∷◌}
use native.Mathlib.Omega.{arith}
use native.Mathlib.Numerals.{add-one}
use lib.ListN.{length, take}
use Rattle.search.specs.Search.{from, below, any}
use Rattle.search.proofs.Bools.{contradict, same, less-or-not, and_left, and_right, and_intro}
use Rattle.search.proofs.Ranges.{any_below, any-below-intro}
use Rattle.layout.specs.declared.Shape.{Shape}
use Rattle.steps.specs.declared.Step.{Step}
use Rattle.steps.specs.declared.Step.TheVariants.{Data, Map, Link, Fence}
use Rattle.steps.specs.Steps.{whole_steps, decode_at, steps_append, steps_of}
use Rattle.steps.proofs.Rest.{rest, rest-start, rest-next, rest_end}
use Rattle.rules.specs.Rules.{whole_in_range, rule1}
use Rattle.carry.specs.Carry.{carry_all, carried, says_link, link_within, carry_answer, left_by, carry_image}
use Rattle.carry.proofs.Turns.{step_in}
use Rattle.carry.proofs.Linked.{link-place, place-link}
use Rattle.durable.specs.Events.{Volume, Event, store, accepted, goes_ahead, lands, settle, link_lands, after}
use Rattle.durable.proofs.Settle.{next, settle-nil, settle-cons}
use Rattle.durable.proofs.Fences.{lands-not}
use Rattle.layout.specs.declared.Refusal.{Refusal}

module _ {A : Type 0} (e : Event A) where
  stays_put : (i : ℕ) (xs : List Step) (v : Volume A) → ((m : ℕ) → i ≤ m → m < i + length xs → lands e m ≡ false) → (settle e i xs v).image ≡ v.image
  stays_put i [] v h = ap (λ (w : Volume A). w.image) (settle-nil e i v)
  stays_put i (x ∷ xs) v h =
      ap (λ (w : Volume A). w.image) (settle-cons e i x xs v)
      ∙ stays_put (suc i) xs (next e i x v) (λ m p q. h m (omega arith) (omega arith))
      ∙ ap (λ (b : Bool). store b x v.image) (h i (omega arith) (omega arith))

  carries :
      (i n : ℕ) (xs : List Step) (v : Volume A) → ((m : ℕ) → i ≤ m → m < i + n → lands e m ≡ true)
      → ((m : ℕ) → i + n ≤ m → m < i + length xs → lands e m ≡ false)
      → (settle e i xs v).image ≡ carry_all v.image (take n xs)
  unfolding carry_all
  carries i zero xs v h k = stays_put i xs v (λ m p q. k m (omega arith) q)
  carries i (suc n) [] v h k = ap (λ (w : Volume A). w.image) (settle-nil e i v)
  carries i (suc n) (x ∷ xs) v h k =
      ap (λ (w : Volume A). w.image) (settle-cons e i x xs v)
      ∙ carries (suc i) n xs (next e i x v) (λ m p q. h m (omega arith) (omega arith)) (λ m p q. k m (omega arith) (omega arith))
      ∙ ap (λ (b : Bool). carry_all (store b x v.image) (take n xs)) (h i (omega arith) (omega arith))

  carried-out : (v : Volume A) → ((i : ℕ) → i < e.count → lands e i ≡ true) → (settle e 0 (steps_of e.plan) v).image ≡ carried v.image e.plan e.count
  unfolding carried
  carried-out v h = carries 0 e.count (steps_of e.plan) v (λ m p q. h m (omega arith)) (λ m p q. lands-not e m (omega arith))

  -- and so what the call `carry` leaves, refused or not
  pub as-carry : (v : Volume A) → ((i : ℕ) → i < e.count → lands e i ≡ true)
      → (after v e).image ≡ carry_image v.image e.request e.plan e.count
  unfolding after goes_ahead
  as-carry v h = go (carry_answer v.image e.request e.plan e.count)
    where
      go : (a : Result ⊤ Refusal) → (cond (accepted a) (settle e 0 (steps_of e.plan) v) v).image ≡ left_by a v.image e.plan e.count
      go (Ok tt) = carried-out v h
      go (Err x) = refl

  -- ---- the LINK, of a plan that keeps rule 1: its steps stand at the places of their bytes

  first-link : (g : Shape) (i : ℕ) (d : Option Step) (xs : List Step) → whole_in_range g d ≡ true
      → link_lands e i (steps_append d xs) ≡ (says_link d && lands e i || link_lands e (suc i) xs)
  unfolding link_lands
  first-link g i (Some (Data u j w)) xs h = refl
  first-link g i (Some (Map k j v)) xs h = refl
  first-link g i (Some (Link c v)) xs h = refl
  first-link g i (Some Fence) xs h = refl
  first-link g i None xs h = contradict h refl

  module _ (g : Shape) (keeps : rule1 g e.plan ≡ true) where
    -- step i is a LINK, and landed
    abbrev lands_at : ℕ → Bool
    lands_at i = says_link (decode_at e.plan i) && lands e i

    links-rest : (i n : ℕ) → i + n ≡ whole_steps e.plan → link_lands e i (rest e.plan i) ≡ any lands_at (from i n)
    unfolding link_lands any from
    links-rest i zero q = ap (link_lands e i) (rest_end e.plan i (omega arith))
    links-rest i (suc n) q =
        ap (link_lands e i) (rest-next e.plan i (omega arith))
        ∙ first-link g i (decode_at e.plan i) (rest e.plan (i + 1)) (step_in g e.plan keeps i (omega arith))
        ∙ rw (add-one i) (ap (λ (b : Bool). lands_at i || b) (links-rest (suc i) n (omega arith)))

    pub as-linked : e.count ≤ whole_steps e.plan → ((i : ℕ) → i < e.count → lands e i ≡ true)
        → link_lands e 0 (steps_of e.plan) ≡ link_within e.plan e.count
    as-linked b h =
        let m = whole_steps e.plan in
        ap (link_lands e 0) (rest-start e.plan) ∙ links-rest 0 m (omega arith)
        ∙ same (any lands_at (below m)) (link_within e.plan e.count) (λ p.
        let r = any_below lands_at m p in
        let said = says_link (decode_at e.plan r.0) in
        place-link e.plan e.count r.0
        (⊎_elim (λ l. l) (λ l. contradict (and_right said (lands e r.0) r.2) (lands-not e r.0 l)) (less-or-not r.0 e.count))
        (and_left said (lands e r.0) r.2))
        (λ p.
        let r = link-place e.plan e.count p in
        let low : r.0 < e.count = r.1 in
        any-below-intro lands_at m r.0 (omega arith) (and_intro (says_link (decode_at e.plan r.0)) (lands e r.0) r.2 (h r.0 low)))
