-- How the program of the alarm ends, by what the library answered it.
use Rattle.std.specs.Prelude.{Result, Ok, Err, Option, Some}
use Rattle.report.specs.declared.Alarm.{Alarm}
use Rattle.report.specs.declared.Alarm.TheVariants.{Sounds, Silent}
use Rattle.host.specs.declared.Failure.{Failure}
use Rattle.host.specs.declared.Failure.TheVariants.{Refused}
use Rattle.host.specs.declared.Word.{Word}
use Rattle.host.specs.declared.Word.TheVariants.{Sounds as sounds, Silent as silent}
use Rattle.layout.specs.declared.Refusal.{Refusal}

abbrev pub alarm_outcome : Result Alarm Refusal → Result (Option Word) Failure
alarm_outcome (Ok Sounds) = Ok (Some sounds)
alarm_outcome (Ok Silent) = Ok (Some silent)
alarm_outcome (Err r) = Err (Refused r)
