-- Laws of decimal fractions: which answer each finding of the code gives.
use Rattle.std.specs.Prelude.{Some, None}
use Rattle.std.proofs.Common.{◌≡◌, ◌≢◌, ℕ, ◌+◌, ◌-◌, ◌*◌, ◌^◌, ◌<◌, ◌≤◌, true, false, ◌&&◌, leb, eqb, List, [], ◌∷◌, ◌++◌, length, get_or, take, drop, sym, refl, ap, ◌∙◌, ⊎_elim, add-one, arith, length-drop, take_all, eq-eqb, ne_eqb, le-leb}
use borrow.Author.Tests.{lt-leb}
use lib.Pointwise.{pointwise}
use mathlib.Core.Bool.{and-true}
use Rattle.search.proofs.Bools.{contradict, either, and_left, cond-true, cond-false, and-false-right}
use Rattle.search.specs.Search.{lowest_from}
use Rattle.search.proofs.Ranges.{lowest-is, lowest-none}
use Rattle.decimals.specs.Numbers.{is_numeral, value_from, capped, number_from}
use Rattle.decimals.specs.Fractions.{ratio_of, point_fraction, whole_fraction, point_of, unsigned_fraction, negated, fraction_of}
use Rattle.decimals.proofs.NumberLaws.{value-capped}

-- what a number that was read says of its text
module _ (n : ℕ) (text : List ℕ) where
  pub says : (v : ℕ) → Some v ≡ number_from n text → (is_numeral text ≡ true) × (v ≡ capped (value_from n text))
  unfolding number_from
  says v e =
      ⊎_elim (λ t. (t, let h : Some v ≡ Some (capped (value_from n text)) = e ∙ cond-true (is_numeral text) _ _ t in cc))
      (λ f. let h : Some v ≡ None = e ∙ cond-false (is_numeral text) _ _ f in let z : ◌≡◌ {A = ℕ} 0 1 = cc in absurd (omega arith))
      (either (is_numeral text))

  pub says_none : None ≡ number_from n text → is_numeral text ≡ false
  unfolding number_from
  says_none e =
      ⊎_elim (λ t. let h : None ≡ Some (capped (value_from n text)) = e ∙ cond-true (is_numeral text) _ _ t in let z : ◌≡◌ {A = ℕ} 0 1 = cc in absurd (omega arith))
      (λ f. f)
      (either (is_numeral text))

-- a text from a place on, as the code cuts it
part-rest : (text : List ℕ) (a : ℕ) → take (length text - a) (drop a text) ≡ drop a text
part-rest text a = take_all (length text - a) (drop a text) (let e = length-drop a text in omega arith)

value-append : (n : ℕ) (xs ys : List ℕ) → value_from n (xs ++ ys) ≡ value_from (value_from n xs) ys
unfolding value_from
value-append n [] ys = refl
value-append n (x ∷ xs) ys = value-append (10 * n + (x - 48)) xs ys

module _ (before after : List ℕ) where
  pub point-long : 15 < length before + length after → None ≡ point_fraction before after
  unfolding point_fraction
  point-long h = sym (cond-false _ _ _ (and-false-right (is_numeral before && is_numeral after) _ (lt-leb (length before + length after) 15 h)))

  pub point-no-before : is_numeral before ≡ false → None ≡ point_fraction before after
  unfolding point_fraction
  point-no-before e = rw e

  pub point-no-after : is_numeral after ≡ false → None ≡ point_fraction before after
  unfolding point_fraction
  point-no-after e = rw (and-false-right (is_numeral before) (is_numeral after) e)

  pub point-value : (v : ℕ) → is_numeral before ≡ true → is_numeral after ≡ true → length before + length after ≤ 15
      → v ≡ capped (value_from (capped (value_from 0 before)) after) → Some (ratio_of v (10 ^ length after)) ≡ point_fraction before after
  unfolding point_fraction
  point-value v a b h e =
      let same : v ≡ capped (value_from 0 (before ++ after)) = e ∙ sym (value-capped (value_from 0 before) after) ∙ ap capped (sym (value-append 0 before after)) in
      rw (a, b, le-leb (length before + length after) 15 h, same)

module _ (text : List ℕ) where
  pub whole_long : 15 < length text → None ≡ whole_fraction text
  unfolding whole_fraction
  whole_long h = rw (and-false-right (is_numeral text) (leb (length text) 15) (lt-leb (length text) 15 h))

  pub whole-none : is_numeral text ≡ false → None ≡ whole_fraction text
  unfolding whole_fraction
  whole-none e = rw e

  pub whole-value : (v : ℕ) → is_numeral text ≡ true → length text ≤ 15 → v ≡ capped (value_from 0 text) → Some (ratio_of v 1) ≡ whole_fraction text
  unfolding whole_fraction
  whole-value v e h same = rw (e, le-leb (length text) 15 h, same)

  pub unsigned-whole : ((k : ℕ) → k < length text → get_or text k 0 ≢ 46) → whole_fraction text ≡ unsigned_fraction text
  unfolding unsigned_fraction point_of
  unsigned-whole none =
      let e = lowest-none (λ i. eqb (get_or text i 0) 46) (length text) (λ k h. ne_eqb _ _ (none k h)) in
      rw (e, eq-eqb (length text) (length text) refl)

  pub unsigned-point : (p : ℕ) → p < length text → get_or text p 0 ≡ 46 → ((k : ℕ) → k < p → get_or text k 0 ≢ 46)
      → point_fraction (take p text) (take (length text - (p + 1)) (drop (p + 1) text)) ≡ unsigned_fraction text
  unfolding unsigned_fraction point_of
  unsigned-point p h here before =
      let e = lowest-is (λ i. eqb (get_or text i 0) 46) (length text) p h (eq-eqb _ _ here) (λ k l. ne_eqb _ _ (before k l)) in
      rw (part-rest text (p + 1), e, ne_eqb p (length text) (omega arith), add-one p)

-- a text that begins with `-`, and one that does not: an empty one is no fraction either way
pub fraction-minus : (text digits : List ℕ) → pointwise eqb (take 1 text) (45 ∷ []) ≡ true → digits ≡ drop 1 text → negated (unsigned_fraction digits) ≡ fraction_of text
unfolding fraction_of
fraction-minus [] digits h e = contradict h refl
fraction-minus (b ∷ bs) digits h e = rw (and_left (eqb b 45) true h, e)

pub fraction-plus : (text : List ℕ) → pointwise eqb (take 1 text) (45 ∷ []) ≡ false → unsigned_fraction text ≡ fraction_of text
unfolding fraction_of unsigned_fraction point_of whole_fraction is_numeral lowest_from
fraction-plus [] h = refl
fraction-plus (b ∷ bs) h = rw (sym (and-true (eqb b 45)) ∙ h)
