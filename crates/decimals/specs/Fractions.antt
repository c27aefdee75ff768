-- Decimal fractions: `-`? DIGITS [`.` DIGITS], with at most 15 digits.
use Rattle.std.specs.Prelude.{ℕ, suc, ◌+◌, ◌^◌, cond, ◌&&◌, List, [], ◌∷◌, ◌++◌, length, take, drop, pos, ◌==◌, nat_eq, nat_le, slice_index, Float, Option, Some, None}
use Rattle.std.specs.Float.{binary64}
use Rattle.std.specs.Float.Ieee.{div, neg, of_int}
use Rattle.search.specs.Search.{lowest}
use Rattle.decimals.specs.Numbers.{is_numeral, value_from, capped}

-- one rounded division
unfoldable pub ratio_of : ℕ → ℕ → Float
ratio_of a b = div binary64 (of_int binary64 (pos a)) (of_int binary64 (pos b))

-- The digits before a point and those after it: all of them, divided by a power of ten. With at most 15 of them both are below 2^53 and exact.
unfoldable pub point_fraction : List ℕ → List ℕ → Option Float
point_fraction before after =
    cond (is_numeral before && is_numeral after && nat_le (length before + length after) 15)
    (Some (ratio_of (capped (value_from 0 (before ++ after))) (10 ^ length after)))
    None

-- digits with no point
unfoldable pub whole_fraction : List ℕ → Option Float
whole_fraction text = cond (is_numeral text && nat_le (length text) 15) (Some (ratio_of (capped (value_from 0 text)) 1)) None

-- where the first point of a text stands, or its length
unfoldable pub point_of : List ℕ → ℕ
point_of text = lowest (λ i. nat_eq (slice_index text i) 46) (length text)

unfoldable pub unsigned_fraction : List ℕ → Option Float
unsigned_fraction text =
    cond (point_of text == length text) (whole_fraction text) (point_fraction (take (point_of text) text) (drop (suc (point_of text)) text))

abbrev pub negated : Option Float → Option Float
negated (Some x) = Some (neg x)
negated None = None

-- what a text is read as; -0 is -0.0
unfoldable pub fraction_of : List ℕ → Option Float
fraction_of [] = None
fraction_of (b ∷ bs) = cond (b == 45) (negated (unsigned_fraction bs)) (unsigned_fraction (b ∷ bs))
