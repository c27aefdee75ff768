-- A chunk whose LINK landed, every DATA and MAP step with it: it is on its free map, with the units dealt to it, and holds what stands on them.
use Prim.Native.Nat.{ℕ, ◌+◌, ◌≤◌, ◌<◌}
use mathlib.Core.Path.{◌≡◌, sym, ap, ◌∙◌, subst}
use mathlib.Core.Bool.{true}
use mathlib.Core.List.{List, map, map-map}
use native.Mathlib.Omega.{arith}
use lib.ListN.{length, get_or}
use Rattle.layout.specs.declared.Shape.{Shape}
use Rattle.search.specs.Search.{below, member, distinct}
use Rattle.layout.specs.Layout.{head, after_head, shape_of, link_of, words_of}
use Rattle.image.specs.Soundness.{units_of}
use Rattle.image.specs.Stored.{kept_size, stored_size}
use Rattle.search.proofs.Bools.{contradict}
use Rattle.search.proofs.Mapping.{map-below-ext, length-map-from, member-map-from, distinct-map-from}
use Rattle.layout.specs.Shaped.{On}
use Rattle.image.proofs.Fate.{Renewed}
use Rattle.image.proofs.Storing.{stored-mapped, kept_same}
use Rattle.image.proofs.NewMap.{NewMap, new-size, new-form, new-mapped, new-units}
use Rattle.image.proofs.Room.{free_unit-unit, free_unit-unheld, free_map-below, free_map-unnamed}
use Rattle.steps.specs.declared.Step.{Step}
use Rattle.steps.specs.Encodable.{Each}
use Rattle.rules.proofs.StepLaws.{InRange}
use Rattle.rules.proofs.Facts.{Deal}
use Rattle.durable.specs.Events.{Volume, Event, settle, holds}
use Rattle.durable.proofs.Settle.{Solid, on-settle, set_word}
use Rattle.durable.proofs.Linking.{link_lands_on, set_link}
use Rattle.durable.proofs.Careful.{holds-is}

module _ {A : Type 0} (v : Volume A) (e : Event A) (xs : List Step) (c size k m : ℕ) (unit : ℕ → ℕ) (o : On (shape_of v.image) v.image)
    (r : Each (InRange (shape_of v.image)) xs) (h : Deal v.image xs c size k m unit) (b : c < (shape_of v.image).c) (solid : Solid e 0 xs)
    (link : link_lands_on e c 0 xs ≡ true) where
  abbrev s : List ℕ
  s = v.image

  abbrev g : Shape
  g = shape_of s

  abbrev t : Volume A
  t = settle e 0 xs v

  on : On g t.image
  on = on-settle e g 0 xs v o r

  pub linked : link_of t.image c ≡ m
  linked = set_link e g c b m 0 xs v o r h.links link

  map_below : m < g.m
  map_below = free_map-below s m h.map-free

  new-map : NewMap g t.image c m size k unit
  new-map = record {
    on = on;
    link = linked;
    low = map_below;
    word = λ j p. set_word e g m (after_head (head g) size unit) j p 0 xs v o r h.stores solid (h.has_word j p);
    some = h.some;
    fits = h.fits;
    sized = h.sized;
    here = λ j p. free_unit-unit s (unit j) (h.unit-free j p);
    past = h.unit-past;
  }

  pub units-now : units_of t.image c ≡ map unit (below k)
  units-now = new-units g t.image c m size k unit new-map

  pub size-now : stored_size t.image c ≡ kept_size g size k
  size-now =
      stored-mapped g t.image c on.shape (new-mapped g t.image c m size k unit new-map)
      ∙ kept_same g (get_or (words_of g t.image (link_of t.image c)) 0 0) size (length (units_of t.image c)) k
      (ap length units-now ∙ length-map-from unit 0 k) (new-size g t.image c m size k unit new-map)

  -- a unit that the chunk now holds is one of the plan's, and was free
  was_free : (j u : ℕ) → j < g.c → member u (units_of t.image c) ≡ true → member u (units_of s j) ≡ true → ⊥
  was_free j u p w q =
      let y = member-map-from unit 0 k u (subst (λ (l : List ℕ). member u l ≡ true) units-now w) in
      let low : 0 ≤ y.0 = y.1 in
      let high : y.0 < 0 + k = y.2 in
      let held : member (unit y.0) (units_of s j) ≡ true = subst (λ (z : ℕ). member z (units_of s j) ≡ true) y.3 q in
      contradict held (free_unit-unheld s (unit y.0) (h.unit-free y.0 (omega arith)) j p)

  pub written : Renewed g s t.image c
  written = record {
    bound = subst (λ (l : ℕ). l < g.m) (sym linked) map_below;
    formed = new-form g t.image c m size k unit new-map;
    single = ap distinct units-now ∙ distinct-map-from unit 0 k (λ i j p q y z w. h.unit-one i j (omega arith) (omega arith) w);
    free-map = λ j p q. free_map-unnamed s m h.map-free j p (q ∙ linked);
    free-units = was_free;
  }

  -- the chunk holds what stands on its new units
  pub written-holds : (f : ℕ → A) → ((j : ℕ) → j < k → t.content (unit j) ≡ f j) → holds t c ≡ map f (below k)
  written-holds f q =
      holds-is t c
      ∙ ap (map t.content) units-now
      ∙ map-map t.content unit (below k)
      ∙ map-below-ext (λ j. t.content (unit j)) f k q
