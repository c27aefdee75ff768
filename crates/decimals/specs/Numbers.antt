-- Decimal numbers of any length.
use Rattle.std.specs.Prelude.{ℕ, ◌+◌, ◌-◌, ◌*◌, min, Bool, false, cond, ◌&&◌, List, [], ◌∷◌, nat_le, Option, Some, None}
use Rattle.search.specs.Search.{all}

-- the bytes '0' to '9'
unfoldable pub is_digit : ℕ → Bool
is_digit b = nat_le 48 b && nat_le b 57

-- one or more digits and nothing else
unfoldable pub is_numeral : List ℕ → Bool
is_numeral [] = false
is_numeral (b ∷ bs) = all is_digit (b ∷ bs)

-- a number with the digits of a text after its own
unfoldable pub value_from : ℕ → List ℕ → ℕ
value_from n [] = n
value_from n (b ∷ bs) = value_from (10 * n + (b - 48)) bs

-- 2^64-1
abbrev pub greatest : ℕ
greatest = 18446744073709551615

-- A number past 2^64-1 is read as 2^64-1, which is past every limit, as it is itself: it gets the same answer.
abbrev pub capped : ℕ → ℕ
capped n = min n greatest

-- one digit more
abbrev pub appended : ℕ → ℕ → ℕ
appended n b = capped (10 * n + (b - 48))

-- a number and the digits of a text, of any length
unfoldable pub number_from : ℕ → List ℕ → Option ℕ
number_from n text = cond (is_numeral text) (Some (capped (value_from n text))) None

-- what a text is read as
abbrev pub number_of : List ℕ → Option ℕ
number_of text = number_from 0 text
