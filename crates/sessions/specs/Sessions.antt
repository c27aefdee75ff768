-- "Over any calls that begin with an accepted load, where only these calls store to the image and each is given the newest index, answers and bytes equal
-- those of the scanning calls" (02, request 7): lists of calls, what each says, and what is left of image and index.
use Rattle.std.specs.Prelude.{ℕ, ◌≡◌, Bool, true, List, [], ◌∷◌, ◌++◌, length, replicate, Result, Ok, Err, ⊤, is_ok}
use Rattle.words.specs.Words.{Bytes}
use Rattle.layout.specs.declared.Shape.{Shape}
use Rattle.image.specs.declared.Loaded.{Loaded}
use Rattle.image.specs.Soundness.{Sound}
use Rattle.image.specs.Loading.{loaded}
use Rattle.access.specs.declared.Access.{Access}
use Rattle.access.specs.declared.Extent.{Extent}
use Rattle.access.specs.Ranges.{access_answer}
use Rattle.access.specs.Parts.{held_of}
use Rattle.access.specs.Sizes.{size_answer}
use Rattle.report.specs.declared.Report.{Report}
use Rattle.report.specs.declared.Level.{Level}
use Rattle.report.specs.declared.Alarm.{Alarm}
use Rattle.report.specs.Reports.{report_answer}
use Rattle.report.specs.Alarms.{alarm_answer}
use Rattle.steps.specs.declared.Request.{Request}
use Rattle.rules.specs.Rules.{checked}
use Rattle.planner.specs.Planner.{plan_answer, plan_out}
use Rattle.carry.specs.Carry.{carry_answer, carry_image}
use Rattle.renewal.specs.Renewal.{set_words}
use Rattle.indexed.specs.Admitting.{Index}
use Rattle.indexed.specs.Calls.{Current, index_of, plan_answer_by, plan_out_by, checked_by, carry_answer_by, carry_image_by, next_index}
use Rattle.indexed.specs.Opening.{open_outcome, open_sets}
use Rattle.indexed.specs.Calls.{access_answer_by, held_of_by, size_answer_by, report_answer_by, alarm_answer_by}
use Rattle.layout.specs.declared.Refusal.{Refusal}

-- ---- calls

-- a call, with what it is given besides image and index
pub data Call : Type 0 where
  -- a plan for a request, stored in a lent output that holds these bytes
  Plan : Request → List ℕ → Call
  -- a check of a plan from any hand
  Check : Request → List ℕ → Call
  -- a check of it, and its first n steps carried out
  Carry : Request → List ℕ → ℕ → Call
  -- what a read, or a write, of so many bytes from an offset on reads first
  AskAccess : Bool → ℕ → ℕ → Call
  -- a chunk's held words, and its stored size
  AskHeld : ℕ → Call
  AskSize : ℕ → Call
  -- the report, and the alarm at a level
  AskReport : Call
  AskAlarm : Level → Call

-- what a call says: its answer, and for a plan the lent output afterwards
pub data Said : Type 0 where
  Planning : Result ℕ Refusal → List ℕ → Said
  Checking : Result ⊤ Refusal → Said
  Accessing : Result Access Refusal → Said
  Holding : Result Extent Refusal → Said
  Sizing : Result ℕ Refusal → Said
  Reporting : Result Report Refusal → Said
  Alarming : Result Alarm Refusal → Said

-- ---- the scanning calls

abbrev pub says : List ℕ → Call → Said
says s (Plan r out) = Planning (plan_answer s r (length out)) (plan_out s r out)
says s (Check r plan) = Checking (checked s r plan)
says s (Carry r plan n) = Checking (carry_answer s r plan n)
says s (AskAccess write offset span) = Accessing (access_answer s write offset span)
says s (AskHeld i) = Holding (held_of s i)
says s (AskSize i) = Sizing (size_answer s i)
says s AskReport = Reporting (report_answer s)
says s (AskAlarm level) = Alarming (alarm_answer s level)

-- the image that a call leaves: only a carrying out stores to it
abbrev pub leaves : List ℕ → Call → List ℕ
leaves s (Plan r out) = s
leaves s (Check r plan) = s
leaves s (Carry r plan n) = carry_image s r plan n
leaves s (AskAccess write offset span) = s
leaves s (AskHeld i) = s
leaves s (AskSize i) = s
leaves s AskReport = s
leaves s (AskAlarm level) = s

-- "where only these calls store to the image": what a list of calls says, each on the image that the last one left, and the image afterwards
unfoldable pub says_all : List ℕ → List Call → List Said
says_all s [] = []
says_all s (k ∷ ks) = says s k ∷ says_all (leaves s k) ks

unfoldable pub leaves_all : List ℕ → List Call → List ℕ
leaves_all s [] = s
leaves_all s (k ∷ ks) = leaves_all (leaves s k) ks

-- ---- the indexed calls

abbrev pub says_by : Index → List ℕ → Call → Said
says_by ix s (Plan r out) = Planning (plan_answer_by ix s r (length out)) (plan_out_by ix s r out)
says_by ix s (Check r plan) = Checking (checked_by ix s r plan)
says_by ix s (Carry r plan n) = Checking (carry_answer_by ix s r plan n)
says_by ix s (AskAccess write offset span) = Accessing (access_answer_by ix s write offset span)
says_by ix s (AskHeld i) = Holding (held_of_by ix s i)
says_by ix s (AskSize i) = Sizing (size_answer_by ix s i)
says_by ix s AskReport = Reporting (report_answer_by ix s)
says_by ix s (AskAlarm level) = Alarming (alarm_answer_by ix s level)

abbrev pub leaves_by : Index → List ℕ → Call → List ℕ
leaves_by ix s (Plan r out) = s
leaves_by ix s (Check r plan) = s
leaves_by ix s (Carry r plan n) = carry_image_by ix s r plan n
leaves_by ix s (AskAccess write offset span) = s
leaves_by ix s (AskHeld i) = s
leaves_by ix s (AskSize i) = s
leaves_by ix s AskReport = s
leaves_by ix s (AskAlarm level) = s

-- "Each call takes the held index and gives the next one back"
abbrev pub gives_back : Index → List ℕ → Call → Index
gives_back ix s (Plan r out) = ix
gives_back ix s (Check r plan) = ix
gives_back ix s (Carry r plan n) = next_index ix s r plan n
gives_back ix s (AskAccess write offset span) = ix
gives_back ix s (AskHeld i) = ix
gives_back ix s (AskSize i) = ix
gives_back ix s AskReport = ix
gives_back ix s (AskAlarm level) = ix

-- "each is given the newest index": what a list of calls says, and the image and the index afterwards
unfoldable pub says_all_by : Index → List ℕ → List Call → List Said
says_all_by ix s [] = []
says_all_by ix s (k ∷ ks) = says_by ix s k ∷ says_all_by (gives_back ix s k) (leaves_by ix s k) ks

unfoldable pub leaves_all_by : Index → List ℕ → List Call → List ℕ
leaves_all_by ix s [] = s
leaves_all_by ix s (k ∷ ks) = leaves_all_by (gives_back ix s k) (leaves_by ix s k) ks

unfoldable pub gives_back_all : Index → List ℕ → List Call → Index
gives_back_all ix s [] = ix
gives_back_all ix s (k ∷ ks) = gives_back_all (gives_back ix s k) (leaves_by ix s k) ks

-- ---- the statement

-- A list of calls by the index ix on the image s: "answers and bytes equal those of the scanning calls", and the last index is the one that load answers then.
pub record Same (ix : Index) (s : List ℕ) (ks : List Call) : Type 0 where
  pub said : says_all_by ix s ks ≡ says_all s ks
  pub image : leaves_all_by ix s ks ≡ leaves_all s ks
  pub index : Current (leaves_all s ks) (gives_back_all ix s ks)

-- from any index that is current, whatever words follow its sets
abbrev pub SameFromCurrent : Type 0
SameFromCurrent = (g : Shape) (ix : Index) (s : List ℕ) (ks : List Call) → Sound g s → Current s ix → Same ix s ks

-- "Load once, keep an index of free units and maps": of what load answers
abbrev pub loaded_index : Result Loaded Refusal → Index
loaded_index (Ok l) = index_of l.shape (l.units ++ l.maps)
loaded_index (Err r) = index_of (record { edition = 0; p = 0; c = 0; m = 0; n = 0; r = 0 }) (replicate set_words 0)

-- "Over any calls that begin with an accepted load": refused calls and partial carryings out among them
abbrev pub SameAfterLoad : Type 0
SameAfterLoad = (s : List ℕ) (ks : List Call) → Bytes s → is_ok (loaded s) ≡ true → Same (loaded_index (loaded s)) s ks

-- the same where the image was opened with these words lent
abbrev pub SameAfterOpen : Type 0
SameAfterOpen =
    (s sets : List ℕ) (g : Shape) (ks : List Call) → Bytes s → open_outcome s (length sets) ≡ Ok g → Same (index_of g (open_sets s sets)) s ks
