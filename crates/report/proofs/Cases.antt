-- Worked cases of the report and the alarm as one table, computed: document 01's with document 02's figure of what is saved, and the edges of
-- row 12 and of the comparisons.
use Rattle.std.specs.Prelude.{Result, Ok, Err, ⊤}
use Prim.Native.Nat.{ℕ, ◌+◌, ◌-◌, ◌^◌}
use mathlib.Core.Path.{◌≡◌, refl}
use mathlib.Core.Bool.{Bool, true, false}
use mathlib.Core.List.{List, [], ◌∷◌}
use lib.IntN.{pos, negsuc}
use lib.Ieee.{Float, fin, nan, inf, lt, mul, div, of_int, is_nan}
use Rattle.words.specs.Words.{number, digits}
use Rattle.search.specs.Search.{from, all, any, keep, member, distinct, disjoint, lowest_from, joined}
use Rattle.layout.specs.declared.Refusal.TheVariants.{Short, BadAlarm}
use Rattle.layout.specs.Trailer.{trailer_outcome}
use Rattle.layout.specs.Layout.{edition1, edition2, is_unit, map_words, added_bytes, tagged_at, known_as, edition_of, spare_zero, fresh, put_word, trailer_of, shape_bytes, size_bytes, known, fitting, within_limits, max_reserved, reserved_at, agreeing, shape_of, words_of}
use Rattle.image.specs.Soundness.{leading, units_of}
use Rattle.image.specs.Verdicts.{verdict, chunk_verdict, bad_link, bad_map, double_claim, first_claim, contested, clash, well_formed, size_fits, good_form}
use Rattle.image.specs.Free.{free_unit, free_units, held_units}
use Rattle.image.proofs.Cases.{small, third}
use Rattle.report.specs.declared.Alarm.{Alarm}
use Rattle.report.specs.declared.Alarm.TheVariants.{Sounds, Silent}
use Rattle.report.specs.declared.Level.{Level}
use Rattle.report.specs.declared.Level.TheVariants.{Count, Fraction}
use Rattle.report.specs.Counts.{mapped_count}
use Rattle.report.specs.Reports.{ratio, report_of, report_answer}
use Rattle.report.specs.Alarms.{alarm_at, alarm_answer}
use Rattle.layout.specs.declared.Refusal.{Refusal}

-- one chunk that holds all of four units
abbrev pub full : List ℕ
unfolding fresh digits
full = put_word (put_word (put_word (put_word (put_word (fresh (edition1 4 1 2 4)) 0 0) 1 0) 2 1) 3 2) 4 3

-- one of two chunks on one of its five units
abbrev pub single : List ℕ
unfolding fresh digits
single = put_word (put_word (fresh (edition1 5 2 3 10)) 1 0) 2 0

-- edition 2, with 12 of 20 units reserved, and one of four chunks stored raw on the next four
abbrev pub reserved : List ℕ
unfolding fresh digits
reserved = put_word (put_word (put_word (put_word (put_word (put_word (fresh (edition2 4 4 5 20 12)) 0 0) 4 16384) 5 12) 6 13) 7 14) 8 15

-- ---- floats

-- 2^-1074, the least above 0; negative where s is true
abbrev pub least : Bool → Float
least s = fin s 1 (negsuc 1073)

abbrev pub zero : Bool → Float
zero s = fin s 0 (pos 0)

abbrev pub one : Float
one = fin false 1 (pos 0)

-- the next above 1.0
abbrev pub above_one : Float
above_one = fin false (2 ^ 52 + 1) (negsuc 51)

-- the f64 nearest to 0.1, to 0.2 and to 0.8, each a little above it
abbrev pub tenth : Float
tenth = fin false 3602879701896397 (negsuc 54)

abbrev pub fifth : Float
fifth = fin false 3602879701896397 (negsuc 53)

abbrev pub four_fifths : Float
four_fifths = fin false 3602879701896397 (negsuc 51)

-- 0.5, 0.75 and 0.875
abbrev pub half : Float
half = fin false 1 (negsuc 0)

abbrev pub three_quarters : Float
three_quarters = fin false 3 (negsuc 1)

abbrev pub seven_eighths : Float
seven_eighths = fin false 7 (negsuc 2)

-- ---- the table

pub data Case : Type 0 where
  Reports : List ℕ → ℕ → ℕ → ℕ → ℕ → Float → Float → Case
  Refuses : List ℕ → Refusal → Case
  Alarms : List ℕ → Level → Result Alarm Refusal → Case

abbrev pub Right : Case → Type 0
Right (Reports s m h f d x y) = report_answer s ≡ Ok (record { mapped = m; held = h; free = f; saved = d; held_ratio = x; saved_ratio = y })
Right (Refuses s r) = report_answer s ≡ Err r
Right (Alarms s level a) = alarm_answer s level ≡ a

abbrev pub AllRight : List Case → Type 0
AllRight [] = Unit {0}
AllRight (k ∷ ks) = Right k × AllRight ks

abbrev pub table : List Case
table =
    -- mapped, held, free, saved, held/N, saved/(mapped·P): 4/20 and 4/8, "4 saved and 0.5, where the old rule gave 12 and 0.75"
    Reports third 2 4 16 4 fifth half
    -- "the ratio is 0.0 when nothing is mapped"
    ∷ Reports (fresh small) 0 0 20 0 (zero false) (zero false)
    -- 1/10 and 4/5: a chunk that is not mapped counts for nothing
    ∷ Reports single 1 1 9 4 tenth four_fifths
    -- stored raw
    ∷ Reports full 1 4 0 0 one (zero false)
    -- reserved units are neither held nor free, and the held ratio is still of N: 4/20
    ∷ Reports reserved 1 4 4 0 fifth (zero false)
    -- no image
    ∷ Refuses [] Short
    -- "Free 16 of 20: fraction 0.75 silent, 0.875 sounds"
    ∷ Alarms third (Fraction three_quarters) (Ok Silent)
    ∷ Alarms third (Fraction seven_eighths) (Ok Sounds)
    -- free 4, and half of N is 10, of the units that are not reserved 4
    ∷ Alarms reserved (Fraction half) (Ok Sounds)
    ∷ Alarms reserved (Count 4) (Ok Silent)
    ∷ Alarms reserved (Count 5) (Ok Sounds)
    -- the product is rounded, here to 16, before it is compared
    ∷ Alarms third (Fraction four_fifths) (Ok Silent)
    -- below, not at, the level
    ∷ Alarms third (Count 16) (Ok Silent)
    ∷ Alarms third (Count 17) (Ok Sounds)
    ∷ Alarms (fresh small) (Fraction one) (Ok Silent)
    ∷ Alarms third (Fraction one) (Ok Sounds)
    -- any count is a level
    ∷ Alarms full (Count 0) (Ok Silent)
    ∷ Alarms third (Count (2 ^ 64 - 1)) (Ok Sounds)
    -- neither zero sounds, even where nothing is free; the least fraction above 0 does there
    ∷ Alarms full (Fraction (zero false)) (Ok Silent)
    ∷ Alarms full (Fraction (zero true)) (Ok Silent)
    ∷ Alarms full (Fraction (least false)) (Ok Sounds)
    ∷ Alarms third (Fraction (least false)) (Ok Silent)
    -- not a number, below 0, above 1
    ∷ Alarms third (Fraction nan) (Err BadAlarm)
    ∷ Alarms third (Fraction (least true)) (Err BadAlarm)
    ∷ Alarms third (Fraction above_one) (Err BadAlarm)
    ∷ Alarms third (Fraction (inf false)) (Err BadAlarm)
    ∷ Alarms third (Fraction (inf true)) (Err BadAlarm)
    -- the image's refusal comes first
    ∷ Alarms [] (Fraction nan) (Err Short)
    ∷ []

pub cases-right : AllRight table
unfolding verdict trailer_outcome chunk_verdict bad_link bad_map double_claim first_claim contested clash well_formed leading units_of free_unit free_units held_units lowest_from all any keep member distinct disjoint joined known fitting within_limits max_reserved reserved_at agreeing fresh trailer_of shape_bytes size_bytes is_unit map_words size_fits good_form added_bytes tagged_at known_as edition_of spare_zero number digits from shape_of words_of lt mul div of_int is_nan mapped_count ratio report_of alarm_at
cases-right =
    (refl, (refl, (refl, (refl, (refl, (refl, (refl, (refl, (refl, (refl, (refl, (refl, (refl, (refl, (refl, (refl, (refl, (refl, (refl, (refl, (refl, (refl, (refl, (refl, (refl, (refl, (refl, (refl, tt))))))))))))))))))))))))))))
