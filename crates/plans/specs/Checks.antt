-- How the program of the checker ends, by what the library answered it.
use Rattle.std.specs.Prelude.{Result, Ok, Err, Option, Some, ⊤}
use Rattle.host.specs.declared.Failure.{Failure}
use Rattle.host.specs.declared.Failure.TheVariants.{Refused}
use Rattle.host.specs.declared.Word.{Word}
use Rattle.host.specs.declared.Word.TheVariants.{Accepted as accepted}
use Rattle.layout.specs.declared.Refusal.{Refusal}

abbrev pub check_outcome : Result ⊤ Refusal → Result (Option Word) Failure
check_outcome (Ok tt) = Ok (Some accepted)
check_outcome (Err r) = Err (Refused r)
