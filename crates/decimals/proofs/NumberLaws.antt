-- Laws of decimal numbers: what a loop over the digits of a text still has to read.
use Rattle.std.specs.Prelude.{Option, Some, None}
use Rattle.std.proofs.Common.{◌≡◌, ◌≢◌, ℕ, ◌+◌, ◌-◌, ◌*◌, ◌<◌, ◌≤◌, true, false, cond, leb, List, [], ◌∷◌, length, get_or, drop, refl, ap, ⊎_elim, add-one, arith, drop_of_length-le, drop-cons, leb-false, leb-true}
use Rattle.search.specs.Search.{all}
use Rattle.search.proofs.Bools.{either}
use Rattle.search.proofs.Members.{all_more, all-stop, all_end}
use Rattle.decimals.specs.Numbers.{is_digit, is_numeral, value_from, greatest, capped, appended, number_from}

-- a number with the digits of a text after its own; there may be none
unfoldable pub digits_after : ℕ → List ℕ → Option ℕ
digits_after n text = cond (all is_digit text) (Some (capped (value_from n text))) None

value_grows : (n : ℕ) (bs : List ℕ) → n ≤ value_from n bs
unfolding value_from
value_grows n [] = omega arith
value_grows n (b ∷ bs) = omega (arith, value_grows (10 * n + (b - 48)) bs)

-- where a number is past the cap, so is every number with more digits
pub value-capped : (n : ℕ) (bs : List ℕ) → capped (value_from n bs) ≡ capped (value_from (capped n) bs)
value-capped n bs =
    ⊎_elim (λ t. let low = leb-true n greatest t in let e : capped n ≡ n = omega arith in rw e)
    (λ t.
    let high = leb-false n greatest t in
    let e : capped n ≡ greatest = omega arith in
    let a = value_grows n bs in
    let b = value_grows (capped n) bs in
    omega arith)
    (either (leb n greatest))

pub no-digits : (n : ℕ) (text : List ℕ) → length text ≡ 0 → None ≡ number_from n text
unfolding number_from is_numeral
no-digits n [] h = refl
no-digits n (b ∷ bs) h = absurd (omega arith)

pub some-digits : (n : ℕ) (text : List ℕ) → length text ≢ 0 → number_from n text ≡ digits_after n text
unfolding number_from is_numeral digits_after
some-digits n [] h = absurd (h refl)
some-digits n (b ∷ bs) h = refl

module _ (n : ℕ) (text : List ℕ) (i : ℕ) where
  value-more : i < length text → value_from n (drop i text) ≡ value_from (10 * n + (get_or text i 0 - 48)) (drop (i + 1) text)
  unfolding value_from
  value-more h = rw (add-one i, drop-cons text i 0 h)

  pub digits_more : i < length text → is_digit (get_or text i 0) ≡ true
      → digits_after n (drop i text) ≡ digits_after (appended n (get_or text i 0)) (drop (i + 1) text)
  unfolding digits_after
  digits_more h e =
      rw (all_more is_digit text i h e, ap capped (value-more h), value-capped (10 * n + (get_or text i 0 - 48)) (drop (i + 1) text))

  pub digits-stop : i < length text → is_digit (get_or text i 0) ≡ false → digits_after n (drop i text) ≡ None
  unfolding digits_after
  digits-stop h e = rw (all-stop is_digit text i h e)

  pub digits-end : length text ≤ i → n ≤ greatest → digits_after n (drop i text) ≡ Some n
  unfolding digits_after value_from
  digits-end h high = rw (all_end is_digit text i h, drop_of_length-le text h) (ap Some (omega arith))
