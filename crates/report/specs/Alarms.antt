-- The alarm: "An alarm level is given either as a count of free units or as a fraction of N (an f64)."
use Rattle.std.specs.Prelude.{ℕ, Bool, false, cond, ◌||◌, List, length, pos, ltb, Float, Result, Ok, Err}
use Rattle.std.specs.Float.{fin, binary64}
use Rattle.std.specs.Float.Ieee.{mul, of_int, lt, is_nan}
use Rattle.search.specs.Search.{below, keep}
use Rattle.layout.specs.declared.Refusal.TheVariants.{BadAlarm}
use Rattle.layout.specs.declared.Shape.{Shape}
use Rattle.layout.specs.Layout.{shape_of}
use Rattle.image.specs.Verdicts.{verdict}
use Rattle.image.specs.Answers.{if_sound}
use Rattle.report.specs.declared.Alarm.{Alarm}
use Rattle.report.specs.declared.Alarm.TheVariants.{Sounds, Silent}
use Rattle.report.specs.declared.Level.{Level}
use Rattle.report.specs.declared.Level.TheVariants.{Count, Fraction}
use Rattle.report.specs.Counts.{free_count}
use Rattle.report.specs.Reports.{zero64}
use Rattle.layout.specs.declared.Refusal.{Refusal}

-- the float 1.0
abbrev pub one64 : Float
one64 = fin false 1 (pos 0)

-- row 12: "fraction not a number, below 0 or above 1"; -0.0 is not below 0
abbrev pub bad_fraction : Float → Bool
bad_fraction x = is_nan x || lt x zero64 || lt one64 x

-- "the one rounded product fraction times N"
abbrev pub product : Float → ℕ → Float
product x n = mul binary64 x (of_int binary64 (pos n))

-- it sounds, or it is silent
abbrev pub sounds_if : Bool → Result Alarm Refusal
sounds_if b = cond b (Ok Sounds) (Ok Silent)

-- "It sounds when free units are below the count, or below the one rounded product fraction times N": with `free` of n units free. Any count
-- is a level. At a fraction the free units are compared as an f64.
unfoldable pub alarm_at : ℕ → ℕ → Level → Result Alarm Refusal
alarm_at free n (Count k) = sounds_if (ltb free k)
alarm_at free n (Fraction x) = cond (bad_fraction x) (Err BadAlarm) (sounds_if (lt (of_int binary64 (pos free)) (product x n)))

-- of any shape and any test of which units are free. With the test of a sound image it is that image's alarm (alarm-sound, in proofs/CountLaws.antt).
unfoldable pub alarm_on : Shape → (ℕ → Bool) → Level → Result Alarm Refusal
alarm_on g free_unit level = alarm_at (length (keep free_unit (below g.n))) g.n level

-- what `alarm` answers; the image's own refusals come before 12
abbrev pub alarm_answer : List ℕ → Level → Result Alarm Refusal
alarm_answer s level = if_sound (verdict s) Err (alarm_at (free_count s) (shape_of s).n level)
