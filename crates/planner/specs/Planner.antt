-- The planner: its plans, what it answers, and every byte of the lent output afterwards.
use Rattle.std.specs.Prelude.{ℕ, ◌*◌, cond, List, [], ◌∷◌, ◌++◌, map, length, get_or, take, drop, ltb, Option, Some, None, Result, Ok, Err}
use Rattle.search.specs.Search.{below, first_or, keep}
use Rattle.layout.specs.declared.Shape.{Shape}
use Rattle.layout.specs.declared.Refusal.TheVariants.{Range, Size, NoRoom, Small}
use Rattle.layout.specs.Layout.{X, units_for, head, map_words, after_head}
use Rattle.image.specs.Verdicts.{verdict}
use Rattle.image.specs.Answers.{if_sound}
use Rattle.steps.specs.declared.Step.{Step}
use Rattle.steps.specs.declared.Step.TheVariants.{Data, Map, Link, Fence}
use Rattle.steps.specs.declared.Request.{Request}
use Rattle.steps.specs.declared.Request.TheVariants.{Write, Discard}
use Rattle.steps.specs.Steps.{step_bytes, need_of, good_chunk, good_size, encode_all}
use Rattle.rules.specs.Rules.{Known, known_of}
use Rattle.layout.specs.declared.Refusal.{Refusal}

-- ---- the plans

-- piece j of a write that has these units
abbrev pub data_step : List ℕ → ℕ → Step
data_step us j = Data (get_or us j 0) j 0

-- "DATA for pieces 0 to k-1"
unfoldable pub data_steps : List ℕ → List Step
data_steps us = map (data_step us) (below (length us))

-- what the unit words of the new map hold: "units, then X"
unfoldable pub unit_value : List ℕ → ℕ → Option ℕ
unit_value us j = cond (ltb j (length us)) (Some (get_or us j 0)) None

-- what word j of the new map holds: in edition 2 "first the compressed size, then the units"; in edition 1 no word stands before these
abbrev pub value_for : ℕ → ℕ → List ℕ → ℕ → Option ℕ
value_for heads size us = after_head heads (Some size) (unit_value us)

-- word j of map m
abbrev pub map_step : ℕ → ℕ → ℕ → List ℕ → ℕ → Step
map_step heads size m us j = Map m j (value_for heads size us j)

-- "MAP for words 0 to P-1"; in edition 2 to P
unfoldable pub map_steps : ℕ → ℕ → ℕ → List ℕ → ℕ → List Step
map_steps heads size m us words = map (map_step heads size m us) (below words)

-- "FENCE; LINK; FENCE": the first makes units and map durable before LINK, the last makes LINK durable before old units are used again
abbrev pub link_steps : ℕ → ℕ → List Step
link_steps i m = Fence ∷ Link i (Some m) ∷ Fence ∷ []

-- a write of `size` bytes to chunk i on these units and map m, which has `words` words, `heads` of them before the units
unfoldable pub write_steps : ℕ → ℕ → List ℕ → ℕ → ℕ → ℕ → List Step
write_steps heads size us m words i = data_steps us ++ (map_steps heads size m us words ++ link_steps i m)

-- "the lowest free map", or X where none is
abbrev pub lowest_map : Known → ℕ
lowest_map kn = first_or X (keep kn.map_free (below kn.shape.m))

unfoldable pub plan_of : Known → Request → List Step
-- "on the k lowest free units, rising": the first k of the rising list. What the chunk itself holds is not free: old units may be read until the new LINK is
-- durable.
plan_of kn (Write i size) =
    let g = kn.shape in write_steps (head g) size (take (units_for size) kn.free_units) (lowest_map kn) (map_words g) i
-- "Discard of a mapped chunk: LINK to X, FENCE. Of an unmapped one: an empty plan."
plan_of kn (Discard i) = cond kn.chunk_mapped (Link i None ∷ Fence ∷ []) []

-- ---- what `plan_write` and `plan_discard` answer

-- 7 "chunk not below C"; 8 "compressed size 0 or above P·4,096"
abbrev pub if_good : Shape → Request → Result ℕ Refusal → Result ℕ Refusal
if_good g r answer = cond (good_chunk g r) (cond (good_size g r) answer (Err Size)) (Err Range)

-- 9 "fewer than k units free", with the "free units"
abbrev pub if_free : ℕ → ℕ → Result ℕ Refusal → Result ℕ Refusal
if_free free k answer = cond (ltb free k) (Err (NoRoom free)) answer

-- A write takes a free map. A sound image has one, so no answer of the planner comes from here; sets from another hand may have none, and then there is room
-- for nothing.
abbrev pub if_map : Known → Request → Result ℕ Refusal → Result ℕ Refusal
if_map kn (Write i size) answer = cond (ltb (lowest_map kn) kn.shape.m) answer (Err (NoRoom 0))
if_map kn (Discard i) answer = answer

-- 10 "lent output too short", with the "bytes needed" for the whole plan; else how many steps. Just enough room is enough, and an empty plan needs none.
abbrev pub if_room : ℕ → ℕ → Result ℕ Refusal
if_room room steps = cond (ltb room (step_bytes * steps)) (Err (Small (step_bytes * steps))) (Ok steps)

-- 9 and 10, of a good request
abbrev pub plan_good : Known → Request → ℕ → Result ℕ Refusal
plan_good kn r room = if_free (length kn.free_units) (need_of r) (if_map kn r (if_room room (length (plan_of kn r))))

-- of what is known, of an image or from any sets, with `room` bytes lent
unfoldable pub plan_in : Known → Request → ℕ → Result ℕ Refusal
plan_in kn r room = if_good kn.shape r (plan_good kn r room)

-- of any image: "Every entry point first applies 1 to 6 to its image"
abbrev pub plan_answer : List ℕ → Request → ℕ → Result ℕ Refusal
plan_answer s r room = if_sound (verdict s) Err (plan_in (known_of s r) r room)

-- "A refusal changes nothing lent ..; an answer changes nothing past what it writes."
abbrev pub written : Result ℕ Refusal → List Step → List ℕ → List ℕ
written (Ok n) xs out = encode_all xs ++ drop (step_bytes * n) out
written (Err x) xs out = out

-- the lent output afterwards, of what is known, and of any image
abbrev pub out_in : Known → Request → List ℕ → List ℕ
out_in kn r out = written (plan_in kn r (length out)) (plan_of kn r) out

abbrev pub plan_out : List ℕ → Request → List ℕ → List ℕ
plan_out s r out = written (plan_answer s r (length out)) (plan_of (known_of s r) r) out
