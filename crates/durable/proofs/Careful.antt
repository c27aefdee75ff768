-- A careful plan stores in no named map and writes to no held and no reserved unit. So each chunk whose entry stays keeps its units and its pieces.
use Prim.Native.Nat.{ℕ, ◌<◌}
use native.Mathlib.Omega.{arith}
use mathlib.Core.Path.{◌≡◌, refl, sym, ap, ◌∙◌}
use mathlib.Core.Bool.{true}
use mathlib.Core.List.{List, map}
use Rattle.layout.specs.declared.Shape.{Shape}
use Rattle.search.specs.Search.{member}
use Rattle.layout.specs.Layout.{map_words, shape_of, link_of, word_at, map_word_place}
use Rattle.image.specs.Soundness.{mapped, units_of}
use Rattle.search.proofs.Bools.{contradict}
use Rattle.search.proofs.Members.{member-nil}
use Rattle.search.proofs.Mapping.{map-ext}
use Rattle.layout.specs.Shaped.{On}
use Rattle.layout.proofs.Place.{place-past, place_map}
use Rattle.image.proofs.Fate.{Same, same_units}
use Rattle.image.proofs.Room.{free_unit-unreserved, free_unit-unheld, free_map-unnamed}
use Rattle.steps.specs.declared.Step.{Step}
use Rattle.steps.specs.declared.Step.TheVariants.{Data, Map, Link, Fence}
use Rattle.rules.specs.Rules.{plan_map, units}
use Rattle.steps.specs.Encodable.{Each}
use Rattle.rules.proofs.StepLaws.{InRange, each_two, OnMap, NoMap, Spares, each-spares, none-empty}
use Rattle.rules.proofs.Facts.{Writes, Discards}
use Rattle.carry.specs.Carry.{Misses}
use Rattle.carry.proofs.CarryLaws.{word_below, chunk-below}
use Rattle.durable.specs.Events.{Volume, Event, settle, holds}
use Rattle.durable.proofs.Settle.{on-settle, keep_word, keep-content}

pub record Careful (g : Shape) (s : List ℕ) (xs : List Step) : Type 0 where
  pub range : Each (InRange g) xs
  pub maps : (i j : ℕ) → i < g.c → mapped s i ≡ true → j < map_words g → Each (Misses g (map_word_place g (link_of s i) j)) xs
  pub units : (i u : ℕ) → i < g.c → member u (units_of s i) ≡ true → Each (Spares u) xs
  pub reserved : (u : ℕ) → u < g.r → Each (Spares u) xs

module _ {A : Type 0} where
  pub holds-is : (v : Volume A) (i : ℕ) → holds v i ≡ map v.content (units_of v.image i)
  unfolding holds
  holds-is v i = refl

  module _ (v : Volume A) (e : Event A) (g : Shape) (xs : List Step) (o : On g v.image) (k : Careful g v.image xs) where
    -- the volume that the event leaves
    abbrev pub left_by_lem : Volume A
    left_by_lem = settle e 0 xs v

    pub left-on : On g left_by_lem.image
    left-on = on-settle e g 0 xs v o k.range

    pub named-word : (i j : ℕ) → i < g.c → mapped v.image i ≡ true → j < map_words g
        → word_at left_by_lem.image (map_word_place g (link_of v.image i) j) ≡ word_at v.image (map_word_place g (link_of v.image i) j)
    named-word i j b m h = keep_word e g (map_word_place g (link_of v.image i) j) 0 xs v o k.range (k.maps i j b m h)

    module _ (i : ℕ) (b : i < g.c) (l : link_of left_by_lem.image i ≡ link_of v.image i) where
      pub same-chunk : Same g v.image left_by_lem.image i
      same-chunk = record { link = l; words = λ m j h. named-word i j b m h }

      pub same-holds : holds left_by_lem i ≡ holds v i
      same-holds =
          holds-is left_by_lem i
          ∙ ap (map left_by_lem.content) (same_units g v.image left_by_lem.image o left-on i same-chunk)
          ∙ map-ext left_by_lem.content v.content (units_of v.image i) (λ u m. keep-content e u 0 xs v (k.units i u b m))
          ∙ sym (holds-is v i)

-- a write is careful: its map and its units are free
pub careful-write : (s : List ℕ) (c size : ℕ) (xs : List Step) → Each (InRange (shape_of s)) xs → Writes s c size xs → Careful (shape_of s) s xs
careful-write s c size xs r h = record {
  range = r;
  maps = λ i j b m p. each_two (off i j b p) xs r h.on-map;
  units = λ i u b m. each-spares u xs (λ q. contradict m (free_unit-unheld s u (h.units-free u q) i b));
  reserved = λ u b. each-spares u xs (λ q. let past = free_unit-unreserved s u (h.units-free u q) in omega arith);
}
  where
    off : (i j : ℕ) → i < (shape_of s).c → j < map_words (shape_of s) → (x : Step) → InRange (shape_of s) x → OnMap (plan_map xs) x
        → Misses (shape_of s) (map_word_place (shape_of s) (link_of s i) j) x
    off i j b p (Data u w wr) q n = tt
    off i j b p (Map k w y) q n =
        λ e. free_map-unnamed s (plan_map xs) h.deal.map-free i b (sym (place_map (shape_of s) k w (link_of s i) j (word_below (shape_of s) k w y q) p e) ∙ n)
    off i j b p (Link q y) z n = place-past (shape_of s) (link_of s i) j q (chunk-below (shape_of s) q y z)
    off i j b p Fence q n = tt

-- a discard is careful: it has neither MAP nor DATA
pub careful-discard : (s : List ℕ) (c : ℕ) (xs : List Step) → Each (InRange (shape_of s)) xs → Discards c xs → Careful (shape_of s) s xs
careful-discard s c xs r h = record {
  range = r;
  maps = λ i j b m p. each_two (off i j) xs r h.no-map;
  units = λ i u b m. none u;
  reserved = λ u b. none u;
}
  where
    none : (u : ℕ) → Each (Spares u) xs
    none u = each-spares u xs (λ q. contradict q (ap (member u) (none-empty (units xs) h.no-data) ∙ member-nil u))

    off : (i j : ℕ) → (x : Step) → InRange (shape_of s) x → NoMap x → Misses (shape_of s) (map_word_place (shape_of s) (link_of s i) j) x
    off i j (Data u w wr) q n = tt
    off i j (Map k w y) q n = absurd n
    off i j (Link q y) z n = place-past (shape_of s) (link_of s i) j q (chunk-below (shape_of s) q y z)
    off i j Fence q n = tt
