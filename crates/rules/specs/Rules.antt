-- The checker's five rules, over what it knows of the image, and its answer: what is computed. Reading.antt has the rules to read.
use Rattle.std.specs.Prelude.{ℕ, zero, suc, ◌%◌, Bool, true, false, ◌&&◌, cond, List, [], ◌∷◌, ◌++◌, length, get_or, eqb, ltb, leb, Option, Some, None, Result, Ok, Err, ⊤}
use Rattle.layout.specs.declared.Shape.{Shape}
use Rattle.layout.specs.declared.Refusal.TheVariants.{Range, Size, BadPlan}
use Rattle.image.specs.Answers.{if_sound}
use Rattle.search.specs.Search.{below, all, distinct, first_or, keep}
use Rattle.layout.specs.Layout.{X, is_size, head, map_words, after_head, shape_of}
use Rattle.image.specs.Soundness.{mapped}
use Rattle.image.specs.Verdicts.{verdict}
use Rattle.image.specs.Free.{free_units, free_map}
use Rattle.steps.specs.declared.Step.{Step}
use Rattle.steps.specs.declared.Step.TheVariants.{Data, Map, Link, Fence}
use Rattle.steps.specs.declared.Request.{Request}
use Rattle.steps.specs.declared.Request.TheVariants.{Write, Discard}
use Rattle.steps.specs.Steps.{step_bytes, whole_steps, decode_at, steps_of, chunk_of, size_of, need_of, good_chunk, good_size, word_of}
use Rattle.layout.specs.declared.Refusal.{Refusal}

-- "at most 64"
abbrev pub max_steps : ℕ
max_steps = 64

-- ---- what a plan's steps say

-- the numbers that a function of one step draws from a list of steps, in order
unfoldable pub collect : (Step → List ℕ) → List Step → List ℕ
collect f [] = []
collect f (x ∷ xs) = f x ++ collect f xs

-- a test holds of every step
unfoldable pub every : (Step → Bool) → List Step → Bool
every f [] = true
every f (x ∷ xs) = f x && every f xs

-- "DATA: 1, unit, piece, 0": the piece and the unit of a DATA step; of any other step nothing, and so below
unfoldable pub piece_in : Step → List ℕ
piece_in (Data u j w) = j ∷ []
piece_in (Map k j v) = []
piece_in (Link i v) = []
piece_in Fence = []

unfoldable pub unit_in : Step → List ℕ
unit_in (Data u j w) = u ∷ []
unit_in (Map k j v) = []
unit_in (Link i v) = []
unit_in Fence = []

-- "MAP: 2, map, word, value": the map and the word of a MAP step
unfoldable pub map_in : Step → List ℕ
map_in (Data u j w) = []
map_in (Map k j v) = k ∷ []
map_in (Link i v) = []
map_in Fence = []

unfoldable pub word_in : Step → List ℕ
word_in (Data u j w) = []
word_in (Map k j v) = j ∷ []
word_in (Link i v) = []
word_in Fence = []

-- "LINK: 3, chunk, 0, value": the chunk of a LINK step, and the word that it stores
unfoldable pub link_in : Step → List ℕ
link_in (Data u j w) = []
link_in (Map k j v) = []
link_in (Link i v) = i ∷ []
link_in Fence = []

unfoldable pub linked_in : Step → List ℕ
linked_in (Data u j w) = []
linked_in (Map k j v) = []
linked_in (Link i v) = word_of v ∷ []
linked_in Fence = []

abbrev pub pieces : List Step → List ℕ
pieces xs = collect piece_in xs

abbrev pub units : List Step → List ℕ
units xs = collect unit_in xs

abbrev pub maps : List Step → List ℕ
maps xs = collect map_in xs

abbrev pub words : List Step → List ℕ
words xs = collect word_in xs

abbrev pub links : List Step → List ℕ
links xs = collect link_in xs

abbrev pub linked : List Step → List ℕ
linked xs = collect linked_in xs

-- the unit of piece j, or X where no DATA step has it
unfoldable pub unit_of : ℕ → List Step → ℕ
unit_of j [] = X
unit_of j (Data u i w ∷ xs) = cond (eqb i j) u (unit_of j xs)
unit_of j (Map k i v ∷ xs) = unit_of j xs
unit_of j (Link i v ∷ xs) = unit_of j xs
unit_of j (Fence ∷ xs) = unit_of j xs

-- What the words of the new map hold: "word j is piece j's unit for j below k, else X". In edition 2 "word 0 holds .. the request's size (rule 3), and word
-- j+1 is piece j's unit or X".
abbrev pub word_for : Shape → ℕ → List Step → ℕ → ℕ
word_for g size xs = after_head (head g) size (λ j. unit_of j xs)

-- the map that a plan's MAP steps are on ("that map"), or X where it has none
unfoldable pub plan_map : List Step → ℕ
plan_map xs = first_or X (maps xs)

abbrev pub is_fence : Step → Bool
is_fence (Data u j w) = false
is_fence (Map k j v) = false
is_fence (Link i v) = false
is_fence Fence = true

-- the last step is a FENCE; b where there is no step
unfoldable pub ends_in : Bool → List Step → Bool
ends_in b [] = b
ends_in b (x ∷ xs) = ends_in (is_fence x) xs

-- the steps before the first LINK, and those after it
unfoldable pub before_link : List Step → List Step
before_link [] = []
before_link (Data u j w ∷ xs) = Data u j w ∷ before_link xs
before_link (Map k j v ∷ xs) = Map k j v ∷ before_link xs
before_link (Link i v ∷ xs) = []
before_link (Fence ∷ xs) = Fence ∷ before_link xs

unfoldable pub after_link : List Step → List Step
after_link [] = []
after_link (Data u j w ∷ xs) = after_link xs
after_link (Map k j v ∷ xs) = after_link xs
after_link (Link i v ∷ xs) = xs
after_link (Fence ∷ xs) = after_link xs

-- ---- rule 1: "Whole steps, at most 64, of the four kinds; units below N, pieces and words below P, maps below M, chunks below C;
-- a MAP value below N or X, a LINK value below M or X; unused fields 0." In edition 2 "MAP words run from 0 to P: word 0 holds 1 to P·4,096 (rule 1)".

abbrev pub value_below : ℕ → Option ℕ → Bool
value_below n (Some w) = ltb w n
value_below n None = true

abbrev pub size_value : Shape → Option ℕ → Bool
size_value g (Some w) = is_size g w
size_value g None = false

-- a MAP value; in edition 2 "word 0 holds 1 to P·4,096 (rule 1)"
unfoldable pub word_in_range : Shape → ℕ → Option ℕ → Bool
word_in_range g j v = cond (ltb j (head g)) (size_value g v) (value_below g.n v)

abbrev pub in_range : Shape → Step → Bool
in_range g (Data u j w) = ltb u g.n && ltb j g.p && eqb w 0
in_range g (Map k j v) = ltb k g.m && ltb j (map_words g) && word_in_range g j v
in_range g (Link i v) = ltb i g.c && value_below g.m v
in_range g Fence = true

-- bytes that say no step break the rule
abbrev pub whole_in_range : Shape → Option Step → Bool
whole_in_range g (Some x) = in_range g x
whole_in_range g None = false

unfoldable pub rule1 : Shape → List ℕ → Bool
rule1 g plan =
    eqb (length plan % step_bytes) 0 && leb (whole_steps plan) max_steps
    && all (λ i. whole_in_range g (decode_at plan i)) (below (whole_steps plan))

-- ---- rule 2: "Write: pieces 0 to k-1 once each, no other", "piece j goes on the j-th lowest free unit, piece 0 on the lowest" (02, request 6).
-- "Discard: no DATA."

-- each number below n stands in the list once, and no other number
unfoldable pub once_each : ℕ → List ℕ → Bool
once_each n xs = eqb (length xs) n && distinct xs && all (λ j. ltb j n) xs

-- a DATA step of piece j is on the unit at place j of the free units, rising, the lowest at place 0
unfoldable pub data_fits : List ℕ → Step → Bool
data_fits free (Data u j w) = ltb j (length free) && eqb (get_or free j X) u
data_fits free (Map k j v) = true
data_fits free (Link i v) = true
data_fits free Fence = true

-- a discard needs no unit, so that no piece is left for a DATA step
unfoldable pub rule2 : List ℕ → Request → List Step → Bool
rule2 free r xs = once_each (need_of r) (pieces xs) && every (data_fits free) xs

-- ---- rule 3: "Write: all MAP steps on one free map, each word 0 to P-1 once; word j is piece j's unit for j below k, else X. Discard: no MAP."
-- In edition 2 "MAP words run from 0 to P: word 0 holds .. the request's size (rule 3), and word j+1 is piece j's unit or X".

-- a MAP step is on map a, a free one, and stores what its word is to hold
unfoldable pub map_fits : ℕ → (ℕ → Bool) → (ℕ → ℕ) → Step → Bool
map_fits a free word (Data u j w) = true
map_fits a free word (Map k j v) = eqb a k && free k && eqb (word_of v) (word j)
map_fits a free word (Link i v) = true
map_fits a free word Fence = true

abbrev pub maps_fit : ℕ → (ℕ → Bool) → (ℕ → ℕ) → List Step → Bool
maps_fit a free word xs = every (map_fits a free word) xs

-- how many words of a map a request's plan stores: all of them for a write, none for a discard
abbrev pub stored_words : ℕ → Request → ℕ
stored_words n (Write i size) = n
stored_words n (Discard i) = 0

unfoldable pub rule3 : Shape → (ℕ → Bool) → Request → List Step → Bool
rule3 g free r xs = once_each (stored_words (map_words g) r) (words xs) && maps_fit (plan_map xs) free (word_for g (size_of r) xs) xs

-- ---- rule 4: "Write: one LINK, this chunk, that map. Discard of a mapped chunk: one LINK, this chunk, X. Of an unmapped one: no LINK."

-- n LINK steps, each to store w for chunk i
unfoldable pub links_are : ℕ → ℕ → ℕ → List Step → Bool
links_are n i w xs = eqb (length (links xs)) n && all (eqb i) (links xs) && all (eqb w) (linked xs)

unfoldable pub rule4 : Bool → Request → List Step → Bool
rule4 chunk_mapped (Write i size) xs = links_are 1 i (plan_map xs) xs
rule4 chunk_mapped (Discard i) xs = links_are (cond chunk_mapped 1 0) i X xs

-- ---- rule 5: "Write: every DATA and MAP precedes LINK, with a FENCE after the last of them and before LINK; the last step is FENCE.
-- Discard of a mapped chunk: the last step is FENCE. Of an unmapped one: no steps."

abbrev pub is_none : List ℕ → Bool
is_none [] = true
is_none (x ∷ xs) = false

-- Before LINK there are only DATA, MAP and FENCE steps: a FENCE stands after the last DATA and MAP of them exactly where the last of them is one.
unfoldable pub rule5 : Bool → Request → List Step → Bool
rule5 chunk_mapped (Write i size) xs =
    ends_in false (before_link xs) && ends_in false (after_link xs) && is_none (units (after_link xs)) && is_none (maps (after_link xs))
rule5 chunk_mapped (Discard i) xs = cond chunk_mapped (ends_in false xs) (eqb (length xs) 0)

-- ---- the lowest rule broken

-- What is known of an image where a plan is made or checked: its shape, the free units, rising, which maps are free, and whether the request's chunk is
-- mapped. No rule and no plan sees more of it.
pub record Known : Type 0 where
  pub shape : Shape
  pub free_units : List ℕ
  pub map_free : ℕ → Bool
  pub chunk_mapped : Bool

-- "Old units counted free for the write that replaces them" is a way to lie: what is free is asked of the image as it is, the chunk's own units not among it
abbrev pub known_of : List ℕ → Request → Known
known_of s r = record { shape = shape_of s; free_units = free_units s; map_free = free_map s; chunk_mapped = mapped s (chunk_of r) }

-- the same from a shape and any two sets: the free units are the first set's members below N, rising; which maps are free is asked of the second
abbrev pub known : Shape → (ℕ → Bool) → (ℕ → Bool) → Bool → Known
known g units maps m = record { shape = g; free_units = keep units (below g.n); map_free = maps; chunk_mapped = m }

-- "lowest rule broken", or 0 where none is
unfoldable pub broken_rule : Known → Request → List ℕ → ℕ
broken_rule kn r plan =
    let xs = steps_of plan in
    let after4 : ℕ = cond (rule5 kn.chunk_mapped r xs) 0 5 in
    let after3 : ℕ = cond (rule4 kn.chunk_mapped r xs) after4 4 in
    let after2 : ℕ = cond (rule3 kn.shape kn.map_free r xs) after3 3 in
    let after1 : ℕ = cond (rule2 kn.free_units r xs) after2 2 in
    cond (rule1 kn.shape plan) after1 1

-- ---- the checker's answer

-- 11 BAD PLAN, "a plan rule broken", with the "lowest rule broken"
abbrev pub broken : ℕ → Result ⊤ Refusal
broken zero = Ok tt
broken (suc r) = Err (BadPlan (suc r))

-- of what is known, of an image or from any sets: 7 "chunk not below C", 8 "compressed size 0 or above P·4,096", then 11. "Refusal 9 isn't given here."
unfoldable pub judged : Known → Request → List ℕ → Result ⊤ Refusal
judged kn r plan =
    let rules = broken (broken_rule kn r plan) in
    cond (good_chunk kn.shape r) (cond (good_size kn.shape r) rules (Err Size)) (Err Range)

-- for any image: "Every entry point first applies 1 to 6 to its image"
unfoldable pub checked : List ℕ → Request → List ℕ → Result ⊤ Refusal
checked s r plan = if_sound (verdict s) Err (judged (known_of s r) r plan)
