-- The one pass over a plan: what it keeps, what a step does to it, and the verdict of rules 2 to 5 on what was seen. Laws in proofs/ say that it decides the
-- rules.
use Rattle.std.specs.Prelude.{ℕ, ◌≡◌, Bool, true, false, not, ◌&&◌, ◌||◌, cond, List, get_or, eqb, Option, Some, None, is_some}
use Rattle.layout.specs.declared.Shape.{Shape}
use Rattle.layout.specs.Layout.{X}
use Rattle.steps.specs.declared.Step.{Step}
use Rattle.steps.specs.declared.Step.TheVariants.{Data, Map, Link, Fence}
use Rattle.steps.specs.declared.Request.{Request}
use Rattle.steps.specs.declared.Request.TheVariants.{Write, Discard}
use Rattle.steps.specs.Steps.{steps_of, word_of}
use Rattle.rules.specs.Rules.{Known, rule1}
use Rattle.tally.specs.Tallies.{fold, expected, tick_off, complete}
use Rattle.pass.specs.declared.Order.{Order}
use Rattle.pass.specs.declared.Seen.{Seen}

-- what is known, with the free units given as a list
abbrev pub known_by : Shape → List ℕ → (ℕ → Bool) → Bool → Known
known_by g free maps m = record { shape = g; free_units = free; map_free = maps; chunk_mapped = m }

module _ {A : Type 0} where
  -- a malformed step changes nothing
  abbrev pub on_decoded : (A → Step → A) → A → Option Step → A
  on_decoded f a (Some x) = f a x
  on_decoded f a None = a

-- ---- rule 5: whether there was a step and a LINK, whether the last step was a FENCE, and whether all stood in order so far

abbrev pub no_order : Order
no_order = record { good = true; linked = false; fenced = false; any = false }

-- a LINK comes after a FENCE or a LINK, and no DATA or MAP after a LINK
abbrev pub order_after : Order → Step → Order
order_after o (Data u j w) = record { good = o.good && not o.linked; linked = o.linked; fenced = false; any = true }
order_after o (Map k j v) = record { good = o.good && not o.linked; linked = o.linked; fenced = false; any = true }
order_after o (Link i v) = record { good = o.good && (o.linked || o.fenced); linked = true; fenced = false; any = true }
order_after o Fence = record { good = o.good; linked = o.linked; fenced = true; any = true }

-- ---- all of them

-- what stands at place j of the units dealt to the pieces, X past them
abbrev pub unit_at : List ℕ → ℕ → ℕ
unit_at dealt j = get_or dealt j X

-- a MAP step of map k is on the map m of the first MAP step; m is X before that
abbrev pub on_map : ℕ → ℕ → Bool
on_map m k = eqb m X || eqb m k

-- the map of the first MAP step, after one of map k
abbrev pub first_map : ℕ → ℕ → ℕ
first_map m k = cond (eqb m X) k m

-- what is kept after a step, for a request on chunk i whose piece j goes on `unit j` and whose map holds `word j` in word j
abbrev pub see : ℕ → (ℕ → ℕ) → (ℕ → ℕ) → Seen → Step → Seen
see i unit word st (Data u j w) = record {
  pieces = tick_off st.pieces j (eqb (unit j) u);
  words = st.words;
  links = st.links;
  map = st.map;
  linked = st.linked;
  order = order_after st.order (Data u j w);
}
see i unit word st (Map k j v) = record {
  pieces = st.pieces;
  words = tick_off st.words j (on_map st.map k && eqb (word_of v) (word j));
  links = st.links;
  map = first_map st.map k;
  linked = st.linked;
  order = order_after st.order (Map k j v);
}
see i unit word st (Link c v) = record {
  pieces = st.pieces;
  words = st.words;
  links = tick_off st.links 0 (eqb i c);
  map = st.map;
  linked = word_of v;
  order = order_after st.order (Link c v);
}
see i unit word st Fence = record {
  pieces = st.pieces;
  words = st.words;
  links = st.links;
  map = st.map;
  linked = st.linked;
  order = order_after st.order Fence;
}

-- how many LINK steps a request's plan has
abbrev pub links_for : Bool → Request → ℕ
links_for chunk_mapped (Write i size) = 1
links_for chunk_mapped (Discard i) = cond chunk_mapped 1 0

-- before the first step
unfoldable pub unseen : ℕ → ℕ → ℕ → Seen
unseen k words links = record {
  pieces = expected k;
  words = expected words;
  links = expected links;
  map = X;
  linked = X;
  order = no_order;
}

-- what the pass answers: where rule 1 is kept, what was seen
pub record Passes (g : Shape) (i : ℕ) (unit word : ℕ → ℕ) (start : Seen) (plan : List ℕ) (r : Option Seen) : Type 0 where
  pub decides : is_some r ≡ rule1 g plan
  pub holds : (st : Seen) → r ≡ Some st → st ≡ fold (see i unit word) start (steps_of plan)

-- ---- the lowest of rules 2 to 5 that is broken, by what was seen

-- the map of the MAP steps is free, where there are any
unfoldable pub keeps3 : (ℕ → Bool) → Seen → Bool
keeps3 free st = complete st.words && (eqb st.map X || free st.map)

-- the word that LINK must store
abbrev pub target : Request → ℕ → ℕ
target (Write i size) m = m
target (Discard i) m = X

unfoldable pub keeps4 : Request → Seen → Bool
keeps4 r st = complete st.links && eqb (target r st.map) st.linked

unfoldable pub keeps5 : Bool → Request → Order → Bool
keeps5 chunk_mapped (Write i size) o = o.good && o.linked && o.fenced
keeps5 chunk_mapped (Discard i) o = cond chunk_mapped o.fenced (not o.any)

unfoldable pub broken_by : (ℕ → Bool) → Bool → Request → Seen → ℕ
broken_by free chunk_mapped r st =
    let after4 : ℕ = cond (keeps5 chunk_mapped r st.order) 0 5 in
    let after3 : ℕ = cond (keeps4 r st) after4 4 in
    let after2 : ℕ = cond (keeps3 free st) after3 3 in
    cond (complete st.pieces) after2 2
