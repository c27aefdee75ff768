-- Requests, values and steps, and the bytes of a plan both ways: document 01's section 'Plans' up to the planner.
use Rattle.std.specs.Prelude.{ℕ, ◌+◌, ◌*◌, ◌/◌, Bool, true, cond, List, [], ◌∷◌, ◌++◌, map, length, eqb, ltb, Option, Some, None}
use Rattle.std.proofs.lemmas.List.Edits.{sets}
use Rattle.search.specs.Search.{below}
use Rattle.words.specs.Words.{u32_at, digits}
use Rattle.layout.specs.declared.Shape.{Shape}
use Rattle.layout.specs.Layout.{X, is_size, units_for}
use Rattle.steps.specs.declared.Step.{Step}
use Rattle.steps.specs.declared.Step.TheVariants.{Data, Map, Link, Fence}
use Rattle.steps.specs.declared.Request.{Request}
use Rattle.steps.specs.declared.Request.TheVariants.{Write, Discard}

-- ---- requests: "a request (chunk and size, or discard)"

abbrev pub chunk_of : Request → ℕ
chunk_of (Write i size) = i
chunk_of (Discard i) = i

-- a write's compressed size; 0 for a discard
abbrev pub size_of : Request → ℕ
size_of (Write i size) = size
size_of (Discard i) = 0

-- "k pieces for a write", each on a unit of its own; none for a discard
abbrev pub need_of : Request → ℕ
need_of (Write i size) = units_for size
need_of (Discard i) = 0

-- "A request is good if its chunk is below C and a write's size is 1 to P·4,096."
abbrev pub good_chunk : Shape → Request → Bool
good_chunk g r = ltb (chunk_of r) g.c

abbrev pub good_size : Shape → Request → Bool
good_size g (Write i size) = is_size g size
good_size g (Discard i) = true

-- ---- values: "A MAP or LINK value is a number or X; X is written 4294967295 and stored as 2^64-1."

abbrev pub absent_field : ℕ
absent_field = 4294967295

-- the value that a field of a step says
abbrev pub value_of : ℕ → Option ℕ
value_of w = cond (eqb w absent_field) None (Some w)

-- the field that a value is written as
abbrev pub field_of : Option ℕ → ℕ
field_of (Some w) = w
field_of None = absent_field

-- the word of the image that it is stored as. The field of X is not that word: 4294967295 stored as it stands would be a bad link or unit.
abbrev pub word_of : Option ℕ → ℕ
word_of (Some w) = w
word_of None = X

-- ---- a step: "A step is 16 bytes, four u32"

abbrev pub step_bytes : ℕ
step_bytes = 16

-- four u32, "little-endian"
abbrev pub field_bytes : ℕ → ℕ → ℕ → ℕ → List ℕ
field_bytes kind a b d = digits 4 kind ++ digits 4 a ++ digits 4 b ++ digits 4 d

-- the bytes of a step
unfoldable pub encode : Step → List ℕ
-- "DATA: 1, unit, piece, 0." The last field is a number here, and rule 1 wants it 0.
encode (Data u j wr) = field_bytes 1 u j wr
-- "MAP: 2, map, word, value."
encode (Map k j v) = field_bytes 2 k j (field_of v)
-- "LINK: 3, chunk, 0, value."
encode (Link i v) = field_bytes 3 i 0 (field_of v)
-- "FENCE: 4, 0, 0, 0."
encode Fence = field_bytes 4 0 0 0

-- what four fields say: a step "of the four kinds", its unused fields 0 (DATA's last field is left to rule 1), or none
unfoldable pub decode_fields : ℕ → ℕ → ℕ → ℕ → Option Step
decode_fields kind a b d =
    let fence = cond (eqb a 0) (cond (eqb b 0) (cond (eqb d 0) (Some Fence) None) None) None in
    let link = cond (eqb b 0) (Some (Link a (value_of d))) None in
    cond (eqb kind 1) (Some (Data a b d))
    (cond (eqb kind 2) (Some (Map a b (value_of d))) (cond (eqb kind 3) link (cond (eqb kind 4) fence None)))

-- ---- a plan: "A plan is read one step at a time from the lent bytes."

-- its bytes
unfoldable pub encode_all : List Step → List ℕ
encode_all [] = []
encode_all (x ∷ xs) = encode x ++ encode_all xs

-- lent bytes with the steps xs stored from step i on, and every other byte as it was
unfoldable pub put_steps : List ℕ → ℕ → List Step → List ℕ
put_steps out i xs = sets out (step_bytes * i) (encode_all xs)

-- "the plan's whole steps": any lent bytes have them, and up to 15 bytes may be left over
abbrev pub whole_steps : List ℕ → ℕ
whole_steps plan = length plan / step_bytes

-- what the bytes of step i say
unfoldable pub decode_at : List ℕ → ℕ → Option Step
decode_at plan i =
    let at = step_bytes * i in decode_fields (u32_at plan at) (u32_at plan (at + 4)) (u32_at plan (at + 8)) (u32_at plan (at + 12))

-- what the whole steps say, one after the other
abbrev pub decoded_steps : List ℕ → List (Option Step)
decoded_steps plan = map (decode_at plan) (below (whole_steps plan))

-- the steps among them
abbrev pub steps_append : Option Step → List Step → List Step
steps_append (Some x) xs = x ∷ xs
steps_append None xs = xs

unfoldable pub gather : List (Option Step) → List Step
gather [] = []
gather (d ∷ ds) = steps_append d (gather ds)

-- the steps of a plan. A plan with a malformed one is shorter here, and rule 1 refuses it.
unfoldable pub steps_of : List ℕ → List Step
steps_of plan = gather (decoded_steps plan)
