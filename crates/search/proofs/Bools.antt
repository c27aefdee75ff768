-- Booleans: what an equation on a connective says of its parts, the connectives regrouped, and the tests of two numbers.
-- (Units, associativity and double negation are mathlib.Core.Bool's and-true, and-false, and-assoc, or-false, or-assoc, Bool·not-not.)
use Prim.Native.Nat.{ℕ, ◌+◌, ◌≤◌, ◌<◌}
use native.Mathlib.Decide.{ℕ_discrete}
use native.Mathlib.Omega.{arith}
use mathlib.Core.Path.{◌≡◌, refl, sym, ◌∙◌}
use mathlib.Core.Logic.{◌⊎◌, inl, inr, ◌≢◌, ⊎_elim}
use mathlib.Core.Bool.{Bool, true, false, not, ◌&&◌, ◌||◌, cond, true≢false, false≢true}
use lib.Dec.{eqb, ltb}
use borrow.Author.Tests.{eq-eqb, ne_eqb, lt-ltb, le-ltb, ltb-true, ltb-false}

-- ---- one Boolean

pub contradict : {A : Type 0} {b : Bool} → b ≡ true → b ≡ false → A
contradict p q = absurd (true≢false (sym p ∙ q))

-- a Boolean is one or the other
pub either : (a : Bool) → (a ≡ true) ⊎ (a ≡ false)
either true = inl refl
either false = inr refl

-- a Boolean of which no proof that it holds exists fails, and the other way round
pub is_false : (a : Bool) → (a ≡ true → ⊥) → a ≡ false
is_false true h = absurd (h refl)
is_false false h = refl

pub is_true : (a : Bool) → (a ≡ false → ⊥) → a ≡ true
is_true true h = refl
is_true false h = absurd (h refl)

-- two Booleans that imply one another are equal
pub same : (a b : Bool) → (a ≡ true → b ≡ true) → (b ≡ true → a ≡ true) → a ≡ b
same true b f g = sym (f refl)
same false true f g = g refl
same false false f g = refl

pub not-of-true : (a : Bool) → a ≡ true → not a ≡ false
not-of-true true p = refl
not-of-true false p = absurd (false≢true p)

pub not_of_false : (a : Bool) → a ≡ false → not a ≡ true
not_of_false true p = absurd (true≢false p)
not_of_false false p = refl

pub cond-true : {A : Type 0} (b : Bool) (x y : A) → b ≡ true → cond b x y ≡ x
cond-true true x y p = refl
cond-true false x y p = absurd (false≢true p)

pub cond-false : {A : Type 0} (b : Bool) (x y : A) → b ≡ false → cond b x y ≡ y
cond-false true x y p = absurd (true≢false p)
cond-false false x y p = refl

-- ---- and

pub and_left : (a b : Bool) → a && b ≡ true → a ≡ true
and_left true b e = refl
and_left false b e = e

pub and_right : (a b : Bool) → a && b ≡ true → b ≡ true
and_right true b e = e
and_right false b e = absurd (false≢true e)

pub and_intro : (a b : Bool) → a ≡ true → b ≡ true → a && b ≡ true
and_intro true b p q = q
and_intro false b p q = p

pub and-three : (a b c : Bool) → (a && b && c) ≡ true → (a ≡ true) × (b ≡ true) × (c ≡ true)
and-three a b c h = let k = and_left (a && b) c h in (and_left a b k, and_right a b k, and_right (a && b) c h)

pub and-four : (a b c d : Bool) → (a && b && c && d) ≡ true → (a ≡ true) × (b ≡ true) × (c ≡ true) × (d ≡ true)
and-four a b c d h = let k = and-three a b c (and_left (a && b && c) d h) in (k.0, k.1, k.2, and_right (a && b && c) d h)

pub and-false-left : (a b : Bool) → a ≡ false → a && b ≡ false
and-false-left true b p = absurd (true≢false p)
and-false-left false b p = refl

pub and-false-right : (a b : Bool) → b ≡ false → a && b ≡ false
and-false-right true b p = p
and-false-right false b p = refl

-- a conjunction that fails where its first part holds
pub and-false-other : (a b : Bool) → a && b ≡ false → a ≡ true → b ≡ false
and-false-other true b e p = e
and-false-other false b e p = absurd (false≢true p)

pub and-mid : (a b c d : Bool) → ((a && b) && (c && d)) ≡ ((a && c) && (b && d))
and-mid false b c d = refl
and-mid true false true d = refl
and-mid true false false d = refl
and-mid true true true d = refl
and-mid true true false d = refl

-- ---- or

pub or_cases : (a b : Bool) → a || b ≡ true → (a ≡ true) ⊎ (b ≡ true)
or_cases true b e = inl refl
or_cases false b e = inr e

pub or_left : (a b : Bool) → a ≡ true → a || b ≡ true
or_left true b p = refl
or_left false b p = absurd (false≢true p)

pub or_right : (a b : Bool) → b ≡ true → a || b ≡ true
or_right true b p = refl
or_right false b p = p

pub or-false-left : (a b : Bool) → a || b ≡ false → a ≡ false
or-false-left true b e = absurd (true≢false e)
or-false-left false b e = refl

pub or-false-right : (a b : Bool) → a || b ≡ false → b ≡ false
or-false-right true b e = absurd (true≢false e)
or-false-right false b e = e

pub or-none : (a b : Bool) → a ≡ false → b ≡ false → a || b ≡ false
or-none true b p q = p
or-none false b p q = q

pub or-mid : (a b c d : Bool) → ((a || b) || (c || d)) ≡ ((a || c) || (b || d))
or-mid true b c d = refl
or-mid false true true d = refl
or-mid false true false d = refl
or-mid false false true d = refl
or-mid false false false d = refl

pub not-or : (a b : Bool) → not (a || b) ≡ (not a && not b)
not-or true b = refl
not-or false b = refl

-- `not a || b` is an implication
pub implied : (a b : Bool) → (not a || b) ≡ true → a ≡ true → b ≡ true
implied true b h p = h
implied false b h p = contradict p refl

pub implies : (a b : Bool) → (a ≡ true → b ≡ true) → (not a || b) ≡ true
implies true b h = h refl
implies false b h = refl

-- ---- the test of equality

pub eqb_comm : (a b : ℕ) → eqb a b ≡ eqb b a
eqb_comm a b = go (ℕ_discrete a b)
  where
    go : Dec (a ≡ b) → eqb a b ≡ eqb b a
    go (yes e) = eq-eqb a b e ∙ sym (eq-eqb b a (sym e))
    go (no n) = ne_eqb a b n ∙ sym (ne_eqb b a (λ e. n (sym e)))

-- ---- the test of order, as what it decides

-- a number is below another, or it is not
pub less-or-not : (a b : ℕ) → (a < b) ⊎ (b ≤ a)
less-or-not a b = ⊎_elim (λ t. inl (ltb-true a b t)) (λ t. inr (ltb-false a b t)) (either (ltb a b))

-- whether a number is below i, and below i + 1, differs at i alone
pub ltb_next : (y i : ℕ) → y ≢ i → ltb y i ≡ ltb y (i + 1)
ltb_next y i n =
    ⊎_elim (λ h. lt-ltb y i h ∙ sym (lt-ltb y (i + 1) (omega arith)))
    (λ h. ⊎_elim (λ l. le-ltb y i h ∙ sym (le-ltb y (i + 1) (omega arith))) (λ l. absurd (n (omega arith))) (less-or-not i y))
    (less-or-not y i)
