-- `answers::numbers::refused` meets its contract: the number and the two places are what the refusal's functions ensure.
use Rattle.answers.proofs.numbers.refused.Goals as goal

pub returns : goal.returns
returns c = rw (c.number-number.ensures, c.place-place.ensures, c.second_place-second.ensures)
