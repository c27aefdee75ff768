-- What each indexed call answers, what it leaves in every lent byte, and the index that it gives back (02, request 7), for any index and any image: true, stale or
-- made up. "Over any calls that begin with an accepted load .. answers and bytes equal those of the scanning calls" is a theorem (crate sessions), of an index that
-- is current.
use Rattle.std.specs.Prelude.{ℕ, ◌≡◌, Bool, ◌&&◌, cond, List, length, ltb, Result, Ok, Err, ⊤}
use Rattle.bitset.specs.Bits.{bit_set, in_set}
use Rattle.layout.specs.declared.Shape.{Shape}
use Rattle.layout.specs.Layout.{shape_of, link_of}
use Rattle.image.specs.Soundness.{mapped}
use Rattle.image.specs.Verdicts.{verdict}
use Rattle.image.specs.Free.{free_unit, free_map}
use Rattle.image.specs.Loading.{unit_set_words, map_set_words}
use Rattle.image.specs.Answers.{if_sound}
use Rattle.access.specs.declared.Access.{Access}
use Rattle.access.specs.declared.Extent.{Extent}
use Rattle.access.specs.Ranges.{reads_first}
use Rattle.access.specs.Parts.{held_on}
use Rattle.access.specs.Sizes.{size_on}
use Rattle.report.specs.declared.Report.{Report}
use Rattle.report.specs.declared.Level.{Level}
use Rattle.report.specs.declared.Alarm.{Alarm}
use Rattle.report.specs.Reports.{report_on}
use Rattle.report.specs.Alarms.{alarm_on}
use Rattle.steps.specs.declared.Request.{Request}
use Rattle.steps.specs.Steps.{chunk_of}
use Rattle.rules.specs.Rules.{Known, known, judged}
use Rattle.planner.specs.Planner.{plan_of, plan_in, written}
use Rattle.carry.specs.Carry.{carry_in, left_by, link_within}
use Rattle.indexed.specs.Admitting.{Index}
use Rattle.indexed.specs.declared.HeldShape.{HeldShape}
use Rattle.indexed.specs.Admitting.{shape_from, verdict_by, chunk_verdict_by}
use Rattle.renewal.specs.Renewal.{units_in, maps_in, renewed_sets}
use Rattle.layout.specs.declared.Refusal.{Refusal}

-- ---- an index

-- ix is what load answers for the sound image s: its shape, its free units and its free maps. Words past those are of no account.
pub record Current (s : List ℕ) (ix : Index) : Type 0 where
  pub passed : verdict s ≡ Ok tt
  pub shape : ix.shape ≡ shape_of s
  pub units : units_in ix.sets ≡ bit_set (free_unit s) unit_set_words
  pub maps : maps_in ix.sets ≡ bit_set (free_map s) map_set_words

abbrev pub index_of : Shape → List ℕ → Index
index_of g sets = record { shape = g; sets = sets }

-- the index of a shape and words as a caller keeps them
abbrev pub index_held : HeldShape → List ℕ → Index
index_held h sets = index_of (shape_from h) sets

-- what a call is refused with first: on no chunk, and on chunk i
abbrev pub refuses_by : Index → List ℕ → Result ⊤ Refusal
refuses_by ix s = verdict_by ix.shape (length ix.sets) s

abbrev pub chunk_refuses_by : Index → List ℕ → ℕ → Result ⊤ Refusal
chunk_refuses_by ix s i = chunk_verdict_by ix.shape (length ix.sets) s i

-- What is known where a plan is made or checked: of the image no more than whether the chunk is mapped.
abbrev pub known_in : Index → List ℕ → Request → Known
known_in ix s r =
    known ix.shape (in_set (units_in ix.sets)) (in_set (maps_in ix.sets)) (ltb (chunk_of r) ix.shape.c && mapped s (chunk_of r))

-- ---- plans: "A plan, a check or a carrying out depends on no entry or map but its own chunk's."

abbrev pub plan_answer_by : Index → List ℕ → Request → ℕ → Result ℕ Refusal
plan_answer_by ix s r room = if_sound (chunk_refuses_by ix s (chunk_of r)) Err (plan_in (known_in ix s r) r room)

abbrev pub plan_out_by : Index → List ℕ → Request → List ℕ → List ℕ
plan_out_by ix s r out = written (plan_answer_by ix s r (length out)) (plan_of (known_in ix s r) r) out

abbrev pub checked_by : Index → List ℕ → Request → List ℕ → Result ⊤ Refusal
checked_by ix s r plan = if_sound (chunk_refuses_by ix s (chunk_of r)) Err (judged (known_in ix s r) r plan)

-- ---- carrying out

abbrev pub carry_answer_by : Index → List ℕ → Request → List ℕ → ℕ → Result ⊤ Refusal
carry_answer_by ix s r plan n = if_sound (chunk_refuses_by ix s (chunk_of r)) Err (carry_in (known_in ix s r) r plan n)

-- the image afterwards
abbrev pub carry_image_by : Index → List ℕ → Request → List ℕ → ℕ → List ℕ
carry_image_by ix s r plan n = left_by (carry_answer_by ix s r plan n) s plan n

-- "a refused call gives back the one it took"
abbrev pub sets_after : Result ⊤ Refusal → Bool → List ℕ → List ℕ → List ℕ
sets_after (Ok tt) linked sets next = cond linked next sets
sets_after (Err x) linked sets next = sets

-- the sets that an answer leaves, of a chunk's entry before and after
abbrev pub sets_left : Result ⊤ Refusal → List ℕ → List ℕ → Request → List ℕ → ℕ → List ℕ
sets_left answer sets s r plan n =
    let t = left_by answer s plan n in
    sets_after answer (link_within plan n) sets (renewed_sets sets t (link_of s (chunk_of r)) (link_of t (chunk_of r)))

-- the sets afterwards: they change exactly where carrying out is accepted and LINK is among the n steps
abbrev pub next_sets : Index → List ℕ → Request → List ℕ → ℕ → List ℕ
next_sets ix s r plan n = sets_left (carry_answer_by ix s r plan n) ix.sets s r plan n

-- "Each call takes the held index and gives the next one back"
abbrev pub next_index : Index → List ℕ → Request → List ℕ → ℕ → Index
next_index ix s r plan n = record { shape = ix.shape; sets = next_sets ix s r plan n }

-- ---- what a reader asks

-- "Which of these three holds is answered for one piece": of the image no more than whether its chunk is mapped
abbrev pub access_answer_by : Index → List ℕ → Bool → ℕ → ℕ → Result Access Refusal
access_answer_by ix s write offset span = if_sound (refuses_by ix s) Err (reads_first ix.shape (mapped s) write offset span)

-- the held words of a chunk's map, and its stored size
abbrev pub held_of_by : Index → List ℕ → ℕ → Result Extent Refusal
held_of_by ix s i = if_sound (chunk_refuses_by ix s i) Err (held_on s i)

abbrev pub size_answer_by : Index → List ℕ → ℕ → Result ℕ Refusal
size_answer_by ix s i = if_sound (chunk_refuses_by ix s i) Err (size_on s i)

-- report and alarm, by the sets alone
abbrev pub report_answer_by : Index → List ℕ → Result Report Refusal
report_answer_by ix s = if_sound (refuses_by ix s) Err (Ok (report_on ix.shape (in_set (units_in ix.sets)) (in_set (maps_in ix.sets))))

abbrev pub alarm_answer_by : Index → List ℕ → Level → Result Alarm Refusal
alarm_answer_by ix s level = if_sound (refuses_by ix s) Err (alarm_on ix.shape (in_set (units_in ix.sets)) level)
