-- The verdict on what the pass has seen is the lowest rule broken, where rule 1 is kept.
use Prim.Native.Nat.{ℕ, ◌<◌, ◌≤◌}
use mathlib.Core.Path.{◌≡◌, refl, sym, ap, ◌∙◌}
use mathlib.Core.Bool.{Bool, true, false, not, ◌&&◌, ◌||◌, cond, and_assoc}
use mathlib.Core.List.{List}
use native.Mathlib.Omega.{arith}
use lib.ListN.{take}
use lib.Dec.{eqb, ltb}
use borrow.Author.Tests.{ltb-true, ne_eqb}
use Rattle.search.proofs.Bools.{and-three}
use Rattle.layout.specs.declared.Shape.{Shape}
use Rattle.layout.specs.Layout.{X, head, map_words, after_head}
use Rattle.steps.specs.declared.Step.{Step}
use Rattle.steps.specs.declared.Step.TheVariants.{Data, Map, Link, Fence}
use Rattle.steps.specs.declared.Request.{Request}
use Rattle.steps.specs.declared.Request.TheVariants.{Write, Discard}
use Rattle.steps.specs.Steps.{steps_of, chunk_of, size_of, need_of}
use Rattle.steps.specs.Encodable.{Each}
use Rattle.steps.proofs.Codec.{each_map}
use Rattle.rules.specs.Rules.{collect, every, pieces, maps, words, is_none, plan_map, word_in, once_each, map_fits, stored_words}
use Rattle.rules.specs.Rules.{word_in_range, Known, links_are, rule1, rule2, rule3, rule4, rule5, broken_rule}
use Rattle.rules.specs.Reading.{At}
use Rattle.rules.proofs.StepLaws.{InRange, each-in-range}
use Rattle.rules.proofs.Places.{each_at}
use Rattle.tally.specs.Tallies.{fold, complete}
use Rattle.tally.proofs.Meeting.{tally-decides}
use Rattle.pass.specs.declared.Seen.{Seen}
use Rattle.pass.specs.declared.Order.{Order}
use Rattle.pass.specs.Passes.{no_order, order_after, unit_at, see, links_for, unseen, keeps3, keeps4, keeps5, broken_by}
use Rattle.pass.proofs.Parts.{placed, stored, of_chunk, zero_in, OnSome, draws-piece, draws-word, draws-link}
use Rattle.pass.proofs.Parts.{pieces-part, words-part, map-part, links-part, linked-part, order-part}
use Rattle.pass.proofs.Placed.{unit, placed-is, dealt-is}
use Rattle.pass.proofs.Stored.{stored-free, map-is-free}
use Rattle.pass.proofs.Linked.{links-are}
use Rattle.pass.proofs.Ordered.{rule5-write, rule5-mapped, rule5-unmapped}

stored-few : (n : ℕ) (r : Request) → n ≤ 63 → stored_words n r ≤ 63
stored-few n (Write i size) h = h
stored-few n (Discard i) h = omega arith

links-few : (m : Bool) (r : Request) → links_for m r ≤ 1
links-few m (Write i size) = omega arith
links-few true (Discard i) = omega arith
links-few false (Discard i) = omega arith

-- where rule 1 is kept, no map and no unit is X
map-some : (g : Shape) → g.m < X → (x : Step) → InRange g x → OnSome x
map-some g few (Data u j w) h = tt
map-some g few (Map k j v) h =
    let b = ltb-true k g.m (and-three (ltb k g.m) (ltb j (map_words g)) (word_in_range g j v) h).0 in ne_eqb k X (λ e. omega arith)
map-some g few (Link c v) h = tt
map-some g few Fence h = tt

pub on_some : (g : Shape) (plan : List ℕ) → g.m < X → rule1 g plan ≡ true → Each OnSome (steps_of plan)
on_some g plan few one = each_map (InRange g) OnSome (steps_of plan) (map-some g few) (each-in-range g plan one)

unit-some : (g : Shape) (plan : List ℕ) → g.n < X → rule1 g plan ≡ true → (i u j w : ℕ) → At (steps_of plan) i (Data u j w) → u ≡ X → ⊥
unit-some g plan small one i u j w s e =
    let h = each_at (InRange g) (steps_of plan) (each-in-range g plan one) i (Data u j w) s in
    let b = ltb-true u g.n (and-three (ltb u g.n) (ltb j g.p) (eqb w 0) h).0 in
    omega arith

-- ---- what is seen for a request, and each rule

module _ (n : ℕ) (m : Bool) (unit word : ℕ → ℕ) (xs : List Step) where
  abbrev start : Request → Seen
  start r = unseen (need_of r) (stored_words n r) (links_for m r)

  abbrev pub seen : Request → Seen
  seen r = fold (see (chunk_of r) unit word) (start r) xs

  two : (us : List ℕ) (r : Request) → need_of r ≤ 63 → ((i u j w : ℕ) → At xs i (Data u j w) → u ≡ X → ⊥) → unit ≡ unit_at (take (need_of r) us)
      → complete (seen r).pieces ≡ rule2 us r xs
  unfolding unseen
  two us r few ne e =
      ap complete (pieces-part (chunk_of r) unit word xs (start r))
      ∙ tally-decides _ (placed unit) (draws-piece unit) (need_of r) few xs
      ∙ ap (λ (f : ℕ → ℕ). once_each (need_of r) (pieces xs) && every (placed f) xs) e
      ∙ placed-is us r xs ne

  module _ (some : Each OnSome xs) where
    three : (free : ℕ → Bool) (r : Request) → n ≤ 63
        → keeps3 free (seen r) ≡ (once_each (stored_words n r) (words xs) && every (map_fits (plan_map xs) free word) xs)
    unfolding keeps3 unseen
    three free r few =
        let i = chunk_of r in
        let k = stored_words n r in
        let a = plan_map xs in
        let tallied = ap complete (words-part i unit word xs some (start r) refl)
        ∙ tally-decides word_in (stored a word) (draws-word a word) k (stored-few n r few) xs in
        let map-free = ap (λ (a : ℕ). eqb a X || free a) (map-part i unit word xs some (start r) refl) ∙ map-is-free free xs some in
        ap (λ (b : Bool). b && (eqb (seen r).map X || free (seen r).map)) tallied
        ∙ ap (λ (b : Bool). (once_each k (words xs) && every (stored a word) xs) && b) map-free
        ∙ and_assoc (once_each k (words xs)) (every (stored a word) xs) (is_none (maps xs) || free a)
        ∙ ap (λ (b : Bool). once_each k (words xs) && b) (sym (stored-free a free word xs))

    linked-told : (r : Request) (w : ℕ) → (links_for m r ≡ 0 → w ≡ X)
        → (complete (seen r).links && eqb w (seen r).linked) ≡ links_are (links_for m r) (chunk_of r) w xs
    unfolding unseen
    linked-told r w z =
        let i = chunk_of r in
        let l = links_for m r in
        let f = links-few m r in
        ap (λ (b : Bool). b && eqb w (seen r).linked)
        (ap complete (links-part i unit word xs (start r)) ∙ tally-decides zero_in (of_chunk i) (draws-link i) l (omega arith) xs)
        ∙ ap (λ (v : ℕ). (once_each l (collect zero_in xs) && every (of_chunk i) xs) && eqb w v) (linked-part i unit word xs (start r))
        ∙ links-are l i w f z xs

    four : (r : Request) → keeps4 r (seen r) ≡ rule4 m r xs
    unfolding keeps4 rule4 unseen
    four (Write i size) =
        let r = Write i size in
        ap (λ (w : ℕ). complete (seen r).links && eqb w (seen r).linked) (map-part i unit word xs some (start r) refl)
        ∙ linked-told r (plan_map xs) (λ e. absurd (omega arith))
    four (Discard i) = linked-told (Discard i) X (λ e. refl)

  five : (r : Request) → keeps5 m r (seen r).order ≡ rule5 m r xs
  unfolding keeps5 unseen
  five (Write i size) = let r = Write i size in rule5-write xs i m size (seen r).order (order-part i unit word xs (start r))
  five (Discard i) = go m refl
    where
      o : Order
      o = (seen (Discard i)).order

      ordered : o ≡ fold order_after no_order xs
      ordered = order-part i unit word xs (start (Discard i))

      go : (b : Bool) → m ≡ b → cond m o.fenced (not o.any) ≡ rule5 m (Discard i) xs
      go true e = ap (λ (b : Bool). cond b o.fenced (not o.any)) e ∙ rule5-mapped xs i m o e ordered
      go false e = ap (λ (b : Bool). cond b o.fenced (not o.any)) e ∙ rule5-unmapped xs i m o e ordered

-- the lowest of rules 2 to 5 that fails
abbrev lowest_of : Bool → Bool → Bool → Bool → ℕ
lowest_of a b c d = cond a (cond b (cond c (cond d 0 5) 4) 3) 2

-- rule 3's words are those of the units dealt, where rule 2 is kept
words-dealt : (g : Shape) (us : List ℕ) (free : ℕ → Bool) (r : Request) (xs : List Step) → rule2 us r xs ≡ true
    → (once_each (stored_words (map_words g) r) (words xs) && every (map_fits (plan_map xs) free (after_head (head g) (size_of r) (unit us (need_of r)))) xs)
    ≡ rule3 g free r xs
unfolding rule3
words-dealt g us free r xs h =
    ap (λ (f : ℕ → ℕ). once_each (stored_words (map_words g) r) (words xs) && every (map_fits (plan_map xs) free (after_head (head g) (size_of r) f)) xs)
    (dealt-is us r xs h)

-- the five together
module _ (kn : Known) (r : Request) (plan : List ℕ) (few : need_of r ≤ 63) (few_words : map_words kn.shape ≤ 63) (small : kn.shape.n < X)
    (few_maps : kn.shape.m < X) (one : rule1 kn.shape plan ≡ true) where
  abbrev g : Shape
  g = kn.shape

  abbrev xs : List Step
  xs = steps_of plan

  abbrev u : ℕ → ℕ
  u = unit kn.free_units (need_of r)

  abbrev st : Seen
  st = seen (map_words g) kn.chunk_mapped u (after_head (head g) (size_of r) u) xs r

  decided-on : broken_by kn.map_free kn.chunk_mapped r st ≡ broken_rule kn r plan
  unfolding broken_by broken_rule
  decided-on = rw one (go (rule2 kn.free_units r xs) refl)
    where
      w : ℕ → ℕ
      w = after_head (head kn.shape) (size_of r) (unit kn.free_units (need_of r))

      some : Each OnSome (steps_of plan)
      some = on_some kn.shape plan few_maps one

      second : complete st.pieces ≡ rule2 kn.free_units r (steps_of plan)
      second = two (map_words g) kn.chunk_mapped u w xs kn.free_units r few (unit-some g plan small one) refl

      go : (b : Bool) → rule2 kn.free_units r xs ≡ b
          → lowest_of (complete st.pieces) (keeps3 kn.map_free st) (keeps4 r st) (keeps5 kn.chunk_mapped r st.order)
          ≡ lowest_of (rule2 kn.free_units r xs) (rule3 g kn.map_free r xs) (rule4 kn.chunk_mapped r xs) (rule5 kn.chunk_mapped r xs)
      go true q =
          rw (
            second,
            q,
            three (map_words g) kn.chunk_mapped u w xs some kn.map_free r few_words ∙ words-dealt g kn.free_units kn.map_free r xs q,
            four (map_words g) kn.chunk_mapped u w xs some r,
            five (map_words g) kn.chunk_mapped u w xs r,
          )
      go false q = rw (second, q)

-- for what the code has: the units dealt, and what was seen
pub decided : (kn : Known) (r : Request) (plan : List ℕ) → need_of r ≤ 63 → map_words kn.shape ≤ 63 → kn.shape.n < X → kn.shape.m < X
    → rule1 kn.shape plan ≡ true
    → (dealt : List ℕ) → dealt ≡ take (need_of r) kn.free_units
    → (s : Seen)
    → s ≡ seen (map_words kn.shape) kn.chunk_mapped (unit_at dealt) (after_head (head kn.shape) (size_of r) (unit_at dealt)) (steps_of plan) r
    → broken_by kn.map_free kn.chunk_mapped r s ≡ broken_rule kn r plan
decided kn r plan few few_words small few_maps one dealt ed s es =
    let g = kn.shape in
    ap (broken_by kn.map_free kn.chunk_mapped r)
    (es ∙ ap (λ (l : List ℕ). seen (map_words g) kn.chunk_mapped (unit_at l) (after_head (head g) (size_of r) (unit_at l)) (steps_of plan) r) ed)
    ∙ decided-on kn r plan few few_words small few_maps one
