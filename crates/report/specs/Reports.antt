-- The report: "one record of four counts and two ratios".
use Rattle.std.specs.Prelude.{ℕ, ◌-◌, ◌*◌, Bool, false, cond, List, length, eqb, pos, Float, Result, Ok, Err}
use Rattle.std.specs.Float.{fin, binary64}
use Rattle.std.specs.Float.Ieee.{div, of_int}
use Rattle.search.specs.Search.{below, keep}
use Rattle.layout.specs.declared.Refusal.{Refusal}
use Rattle.layout.specs.declared.Shape.{Shape}
use Rattle.layout.specs.Layout.{shape_of}
use Rattle.image.specs.Verdicts.{verdict}
use Rattle.image.specs.Answers.{if_sound}
use Rattle.report.specs.declared.Report.{Report}
use Rattle.report.specs.Counts.{mapped_count, held_count, free_count, raw_count, saved_count}

-- the float +0.0
abbrev pub zero64 : Float
zero64 = fin false 0 (pos 0)

-- "as f64 from exact counts and one rounded division": a / b
unfoldable pub ratio : ℕ → ℕ → Float
ratio a b = div binary64 (of_int binary64 (pos a)) (of_int binary64 (pos b))

-- "held/N"
abbrev pub held_ratio : List ℕ → Float
held_ratio s = ratio (held_count s) (shape_of s).n

-- "the ratio is 0.0 when nothing is mapped" (document 02, request 1); otherwise saved / raw
abbrev pub ratio_if_mapped : ℕ → ℕ → ℕ → Float
ratio_if_mapped mapped saved raw = cond (eqb mapped 0) zero64 (ratio saved raw)

-- "The ratio's divisor becomes mapped times P"
abbrev pub saved_ratio : List ℕ → Float
saved_ratio s = ratio_if_mapped (mapped_count s) (saved_count s) (raw_count s)

-- of a sound image
unfoldable pub report_of : List ℕ → Report
report_of s = record {
  mapped = mapped_count s;
  held = held_count s;
  free = free_count s;
  saved = saved_count s;
  held_ratio = held_ratio s;
  saved_ratio = saved_ratio s;
}

-- of any shape and any counts of mapped chunks and of free units: what is neither reserved nor free is held, and a difference that would be below 0 is 0
unfoldable pub report_from : Shape → ℕ → ℕ → Report
report_from g mapped free =
    let held = g.n - g.r - free in
    let raw = mapped * g.p in
    record {
      mapped = mapped;
      held = held;
      free = free;
      saved = raw - held;
      held_ratio = ratio held g.n;
      saved_ratio = ratio_if_mapped mapped (raw - held) raw;
    }

-- of any shape and any tests of which units and which maps are free: mapped chunks are as many as the maps that are not free. With the tests of a sound
-- image it is that image's report (report-sound, in proofs/CountLaws.antt).
unfoldable pub report_on : Shape → (ℕ → Bool) → (ℕ → Bool) → Report
report_on g free_unit free_map = report_from g (g.m - length (keep free_map (below g.m))) (length (keep free_unit (below g.n)))

-- what `report` answers
abbrev pub report_answer : List ℕ → Result Report Refusal
report_answer s = if_sound (verdict s) Err (Ok (report_of s))
