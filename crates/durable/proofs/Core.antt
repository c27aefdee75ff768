-- A careful plan on an orderly image: where each chunk with a landed LINK has a fate, and no two of them share a map or unit, the image stays orderly.
-- Each other chunk is kept, with its pieces.
use Prim.Native.Nat.{ℕ, ◌<◌}
use mathlib.Core.Path.{◌≡◌, sym}
use mathlib.Core.Logic.{◌⊎◌, inl, inr, ◌≢◌}
use mathlib.Core.Bool.{true, false}
use mathlib.Core.List.{List}
use Rattle.layout.specs.declared.Shape.{Shape}
use Rattle.layout.specs.Layout.{shape_of, link_of}
use Rattle.image.specs.Soundness.{units_of}
use Rattle.image.specs.Stored.{stored_size}
use Rattle.search.proofs.Bools.{is_true, either}
use Rattle.image.proofs.Order.{Orderly, Apart}
use Rattle.image.proofs.Fate.{Renewed, Fate, same_units, orderly-after, kept}
use Rattle.image.proofs.Storing.{same_size}
use Rattle.steps.specs.declared.Step.{Step}
use Rattle.steps.specs.Steps.{steps_of}
use Rattle.durable.specs.Events.{Volume, Event, settle, holds}
use Rattle.durable.proofs.Linking.{link_lands_on, keep-link}
use Rattle.durable.proofs.Careful.{Careful, left-on, same-chunk, same-holds}

module _ {A : Type 0} (v : Volume A) (e : Event A) (d : Orderly (shape_of v.image) v.image) where
  abbrev s : List ℕ
  s = v.image

  abbrev g : Shape
  g = shape_of s

  abbrev xs : List Step
  xs = steps_of e.plan

  abbrev t : Volume A
  t = settle e 0 xs v

  module _ (k : Careful g s xs) where
    pub still : (i : ℕ) → i < g.c → link_lands_on e i 0 xs ≡ false → link_of t.image i ≡ link_of s i
    still i b h = keep-link e g i b 0 xs v d.on k.range h

    pub still-units : (i : ℕ) → i < g.c → link_lands_on e i 0 xs ≡ false → units_of t.image i ≡ units_of s i
    still-units i b h = same_units g s t.image d.on (left-on v e g xs d.on k) i (same-chunk v e g xs d.on k i b (still i b h))

    pub still-size : (i : ℕ) → i < g.c → link_lands_on e i 0 xs ≡ false → stored_size t.image i ≡ stored_size s i
    still-size i b h = same_size g s t.image i d.on (left-on v e g xs d.on k) (same-chunk v e g xs d.on k i b (still i b h))

    pub still-holds : (i : ℕ) → i < g.c → link_lands_on e i 0 xs ≡ false → holds t i ≡ holds v i
    still-holds i b h = same-holds v e g xs d.on k i b (still i b h)

    -- a chunk that is on a map that was free has a landed LINK
    renewed-landed : (i : ℕ) → i < g.c → Renewed g s t.image i → link_lands_on e i 0 xs ≡ true
    renewed-landed i b r = is_true (link_lands_on e i 0 xs) (λ h. r.free-map i b (sym (still i b h)))

    pub carefully :
        ((i : ℕ) → i < g.c → link_lands_on e i 0 xs ≡ true → Fate g s t.image i)
        → ((i j : ℕ) → i < g.c → j < g.c → i ≢ j → link_lands_on e i 0 xs ≡ true → link_lands_on e j 0 xs ≡ true → Apart t.image i j)
        → Orderly g t.image
    carefully f n =
        orderly-after g s t.image d.on (left-on v e g xs d.on k) d
        (λ i j bi bj q ri rj. n i j bi bj q (renewed-landed i bi ri) (renewed-landed j bj rj)) (λ i b. fate i b (either (link_lands_on e i 0 xs)))
      where
        fate : (i : ℕ) → i < g.c → (link_lands_on e i 0 xs ≡ true) ⊎ (link_lands_on e i 0 xs ≡ false) → Fate g s t.image i
        fate i b (inl h) = f i b h
        fate i b (inr h) = kept (same-chunk v e g xs d.on k i b (still i b h))
