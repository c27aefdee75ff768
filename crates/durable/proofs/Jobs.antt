-- What a careful plan does for the chunks whose LINKs landed: each is put on a free map, or cleared.
-- The image stays orderly, each such chunk holds what it was given, and this for any number of chunks in one plan.
use Prim.Native.Nat.{ℕ, ◌+◌, ◌<◌}
use mathlib.Core.Path.{◌≡◌, sym, ap, ◌∙◌, subst}
use mathlib.Core.Logic.{◌≢◌}
use mathlib.Core.Bool.{true, false}
use mathlib.Core.List.{List, [], map}
use native.Mathlib.Omega.{arith}
use lib.Dec.{eqb}
use borrow.Author.Tests.{eq-eqb}
use Rattle.layout.specs.declared.Shape.{Shape}
use Rattle.search.specs.Search.{below, member}
use Rattle.layout.specs.Layout.{X, shape_of, link_of}
use Rattle.image.specs.Soundness.{mapped, units_of}
use Rattle.image.specs.Stored.{kept_size, stored_size}
use Rattle.search.proofs.Bools.{not-of-true}
use Rattle.search.proofs.Mapping.{member-map-from}
use Rattle.image.proofs.Chunks.{units-unmapped}
use Rattle.image.proofs.Order.{Orderly, Apart, apart-flip, unmapped-apart}
use Rattle.image.proofs.Fate.{Fate, emptied, renewed}
use Rattle.image.proofs.Storing.{stored-unmapped}
use Rattle.steps.specs.declared.Step.{Step}
use Rattle.steps.specs.Steps.{steps_of}
use Rattle.steps.specs.Encodable.{Each}
use Rattle.rules.proofs.StepLaws.{Links}
use Rattle.rules.proofs.Facts.{Deal}
use Rattle.durable.specs.Events.{Volume, Event, settle, holds}
use Rattle.durable.proofs.Settle.{Solid}
use Rattle.durable.proofs.Linking.{link_lands_on, set_link}
use Rattle.durable.proofs.Careful.{Careful, holds-is}
use Rattle.durable.proofs.Written.{linked, units-now, size-now, written, written-holds}
use Rattle.durable.proofs.Core.{carefully}

-- what is done for chunk c by the steps xs of an event
pub data Job {A : Type 0} (v : Volume A) (e : Event A) (xs : List Step) (c : ℕ) : Type 0 where
  puts : (size k m : ℕ) (unit : ℕ → ℕ) (payload : ℕ → A) → Deal v.image xs c size k m unit → Solid e 0 xs
      → ((j : ℕ) → j < k → (settle e 0 xs v).content (unit j) ≡ payload j)
      → Job v e xs c
  clears : Each (Links c X) xs → Job v e xs c

module _ {A : Type 0} {v : Volume A} {e : Event A} {xs : List Step} where
  -- the pieces that a job gives its chunk
  abbrev pub given : {c : ℕ} → Job v e xs c → List A
  given (puts size k m unit payload h z q) = map payload (below k)
  given (clears h) = []

  -- and the units
  abbrev pub dealt : {c : ℕ} → Job v e xs c → List ℕ
  dealt (puts size k m unit payload h z q) = map unit (below k)
  dealt (clears h) = []

  -- and what is kept of its size
  abbrev pub kept : {c : ℕ} → Job v e xs c → ℕ
  kept (puts size k m unit payload h z q) = kept_size (shape_of v.image) size k
  kept (clears h) = 0

  -- two jobs share neither map nor unit
  abbrev pub Differ : {c i : ℕ} → Job v e xs c → Job v e xs i → Type 0
  Differ (puts size k m unit payload h z q) (puts size' k' m' unit' payload' h' z' q') = (m ≢ m') × ((i j : ℕ) → i < k → j < k' → unit i ≢ unit' j)
  Differ (puts size k m unit payload h z q) (clears h') = Unit {0}
  Differ (clears h) b = Unit {0}

module _ {A : Type 0} (v : Volume A) (e : Event A) (d : Orderly (shape_of v.image) v.image) where
  abbrev s : List ℕ
  s = v.image

  abbrev g : Shape
  g = shape_of s

  abbrev xs : List Step
  xs = steps_of e.plan

  abbrev t : Volume A
  t = settle e 0 xs v

  module _ (k : Careful g s xs) where
    module _ (c : ℕ) (b : c < g.c) (l : link_lands_on e c 0 xs ≡ true) where
      cleared : Each (Links c X) xs → mapped t.image c ≡ false
      cleared h = not-of-true (eqb (link_of t.image c) X) (eq-eqb (link_of t.image c) X (set_link e g c b X 0 xs v d.on k.range h l))

      fate : Job v e xs c → Fate g s t.image c
      fate (puts size n m unit payload h z q) = renewed (written v e xs c size n m unit d.on k.range h b z l)
      fate (clears h) = emptied (cleared h)

      pub job-units : (a : Job v e xs c) → units_of t.image c ≡ dealt a
      job-units (puts size n m unit payload h z q) = units-now v e xs c size n m unit d.on k.range h b z l
      job-units (clears h) = units-unmapped t.image c (cleared h)

      pub job-size : (a : Job v e xs c) → stored_size t.image c ≡ kept a
      job-size (puts size n m unit payload h z q) = size-now v e xs c size n m unit d.on k.range h b z l
      job-size (clears h) = stored-unmapped t.image c (cleared h)

      pub job-holds : (a : Job v e xs c) → holds t c ≡ given a
      job-holds (puts size n m unit payload h z q) = written-holds v e xs c size n m unit d.on k.range h b z l payload q
      job-holds (clears h) = holds-is t c ∙ ap (map t.content) (job-units (clears h))

    apart : (i j : ℕ) (bi : i < g.c) (bj : j < g.c) → link_lands_on e i 0 xs ≡ true → link_lands_on e j 0 xs ≡ true
        → (a : Job v e xs i) (b : Job v e xs j) → Differ a b → Apart t.image i j
    apart i j bi bj li lj (puts size n m unit f h z q) (puts size' n' m' unit' f' h' z' q') y = record {
      maps = λ p w r.
          y.0 (sym (linked v e xs i size n m unit d.on k.range h bi z li) ∙ r ∙ linked v e xs j size' n' m' unit' d.on k.range h' bj z' lj);
      units = λ u p w.
          let a = member-map-from unit 0 n u (subst (λ (r : List ℕ). member u r ≡ true) (units-now v e xs i size n m unit d.on k.range h bi z li) p) in
          let b = member-map-from unit' 0 n' u (subst (λ (r : List ℕ). member u r ≡ true) (units-now v e xs j size' n' m' unit' d.on k.range h' bj z' lj) w) in
          let ha : a.0 < 0 + n = a.2 in
          let hb : b.0 < 0 + n' = b.2 in
          y.1 a.0 b.0 (omega arith) (omega arith) (sym a.3 ∙ b.3);
    }
    apart i j bi bj li lj (puts size n m unit f h z q) (clears h') y = apart-flip (unmapped-apart (cleared j bj lj h'))
    apart i j bi bj li lj (clears h) b y = unmapped-apart (cleared i bi li h)

    module _ (jobs : (i : ℕ) → link_lands_on e i 0 xs ≡ true → Job v e xs i) where
      pub jobs-orderly :
          ((i j : ℕ) → i ≢ j → (p : link_lands_on e i 0 xs ≡ true) (q : link_lands_on e j 0 xs ≡ true) → Differ (jobs i p) (jobs j q)) → Orderly g t.image
      jobs-orderly y =
          carefully v e d k (λ i b p. fate i b p (jobs i p)) (λ i j bi bj n p q. apart i j bi bj p q (jobs i p) (jobs j q) (y i j n p q))
