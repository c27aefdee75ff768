-- `decimals::numbers::number_from` meets its contract: the value so far, with the digits that are left, is still the whole answer.
use Rattle.decimals.proofs.NumberLaws.{digits_after}
use Rattle.decimals.specs.Numbers.{number_from}
use Rattle.std.proofs.Common.{◌≡◌, ◌≤◌, drop}
use Rattle.decimals.proofs.numbers.number_from.Given as goal

abbrev pub invariant-loop-byte : goal.invariant-loop-byte
invariant-loop-byte l =
    (number_from l.start l.text ≡ digits_after l.value (drop l.byte-index l.text)) × (l.value ≤ 18446744073709551615)
