-- How each answer is numbered for C: "Where an answer is an enum, a definition sets out this paper's number and values for each of its cases."
use Rattle.std.specs.Prelude.{ℕ, ◌-◌, Result, Ok, Err, ⊤}
use Rattle.layout.specs.declared.Refusal.{Refusal}
use Rattle.layout.specs.declared.Shape.{Shape}
use Rattle.layout.specs.Refusals.{refusal_number, refusal_place, refusal_second}
use Rattle.image.specs.declared.Loaded.{Loaded}
use Rattle.access.specs.declared.Access.{Access}
use Rattle.access.specs.declared.Access.TheVariants.{Nothing, Zeros, Chunk}
use Rattle.access.specs.declared.Extent.{Extent}
use Rattle.report.specs.declared.Report.{Report}
use Rattle.report.specs.Reports.{zero64}
use Rattle.report.specs.declared.Alarm.{Alarm}
use Rattle.report.specs.declared.Alarm.TheVariants.{Sounds, Silent}
use Rattle.indexed.specs.Admitting.{numbers_of}
use Rattle.answers.specs.declared.Answer.{Answer}
use Rattle.answers.specs.declared.ReportAnswer.{ReportAnswer}
use Rattle.answers.specs.declared.ShapeAnswer.{ShapeAnswer}
use Rattle.answers.specs.declared.Opened.{Opened}

-- an answer: number 0, and its values
abbrev pub given : ℕ → ℕ → Answer
given v e = record { number = 0; place = 0; second = 0; value = v; extent = e }

-- a refusal: its number and place, and "what it returns besides number and place is 0"
abbrev pub refused : Refusal → Answer
refused r = record { number = refusal_number r; place = refusal_place r; second = refusal_second r; value = 0; extent = 0 }

-- format, check, carry: no value
abbrev pub done_answer : Result ⊤ Refusal → Answer
done_answer (Ok tt) = given 0 0
done_answer (Err r) = refused r

-- one number: of split how many pieces, of the planner how many steps, of repair how many unlinked chunks, of convert and of the stored size the bytes
abbrev pub counted_answer : Result ℕ Refusal → Answer
counted_answer (Ok n) = given n 0
counted_answer (Err r) = refused r

-- access: 0 reads nothing, 1 zeros, 2 the chunk
abbrev pub access_answers : Result Access Refusal → Answer
access_answers (Ok Nothing) = given 0 0
access_answers (Ok Zeros) = given 1 0
access_answers (Ok Chunk) = given 2 0
access_answers (Err r) = refused r

-- held: the part's first byte and its length, both 0 for an unmapped chunk
abbrev pub held_answer : Result Extent Refusal → Answer
held_answer (Ok e) = given e.start (e.end - e.start)
held_answer (Err r) = refused r

-- alarm: 1 sounds, 0 silent
abbrev pub alarm_answers : Result Alarm Refusal → Answer
alarm_answers (Ok Silent) = given 0 0
alarm_answers (Ok Sounds) = given 1 0
alarm_answers (Err r) = refused r

-- report: the record beside number 0; of a refusal the record is all 0
abbrev pub reported_answer : Result Report Refusal → ReportAnswer
reported_answer (Ok x) = record {
  number = 0;
  place = 0;
  second = 0;
  mapped = x.mapped;
  held = x.held;
  free = x.free;
  saved = x.saved;
  held_ratio = x.held_ratio;
  saved_ratio = x.saved_ratio;
}
reported_answer (Err r) = record {
  number = refusal_number r;
  place = refusal_place r;
  second = refusal_second r;
  mapped = 0;
  held = 0;
  free = 0;
  saved = 0;
  held_ratio = zero64;
  saved_ratio = zero64;
}

-- shape: the edition and P, C, M, N and R beside number 0; of a refusal the shape is all 0
abbrev pub shape_numbers : Result Shape Refusal → ShapeAnswer
shape_numbers (Ok g) = record {
  number = 0;
  place = 0;
  second = 0;
  edition = g.edition;
  p = g.p;
  c = g.c;
  m = g.m;
  n = g.n;
  r = g.r;
}
shape_numbers (Err r) = record {
  number = refusal_number r;
  place = refusal_place r;
  second = refusal_second r;
  edition = 0;
  p = 0;
  c = 0;
  m = 0;
  n = 0;
  r = 0;
}

-- of what load answers
abbrev pub loaded_shape : Result Loaded Refusal → Result Shape Refusal
loaded_shape (Ok l) = Ok l.shape
loaded_shape (Err r) = Err r

abbrev pub shape_answer : Result Loaded Refusal → ShapeAnswer
shape_answer l = shape_numbers (loaded_shape l)

-- opening an image: the shape that the index holds beside the number; of a refusal it is all 0
abbrev pub opened_answer : Result Shape Refusal → Opened
opened_answer (Ok g) = record { answer = given 0 0; index = numbers_of g }
opened_answer (Err r) = record { answer = refused r; index = record { edition = 0; p = 0; c = 0; m = 0; n = 0; r = 0 } }
