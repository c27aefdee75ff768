-- The order that is kept decides rule 5.
use Prim.Native.Nat.{ℕ}
use mathlib.Core.Path.{◌≡◌, refl}
use mathlib.Core.Bool.{Bool, true, false, not, ◌&&◌, and-true, and-false, not-not}
use mathlib.Core.List.{List, [], ◌∷◌}
use lib.ListN.{length}
use lib.Dec.{eqb, eqb-suc-zero}
use Rattle.pass.specs.declared.Order.{Order}
use Rattle.steps.specs.declared.Request.TheVariants.{Write, Discard}
use Rattle.steps.specs.declared.Step.{Step}
use Rattle.steps.specs.declared.Step.TheVariants.{Data, Map, Link, Fence}
use Rattle.rules.specs.Rules.{collect, unit_in, map_in, ends_in, before_link, after_link, units, maps, is_none, rule5}
use Rattle.tally.specs.Tallies.{fold}
use Rattle.pass.specs.Passes.{no_order, order_after}
use Rattle.pass.proofs.Folding.{fold-keeps}

-- nothing is good after something bad
bad-step : (st : Order) (x : Step) → st.good ≡ false → (order_after st x).good ≡ false
bad-step st (Data u j wr) h = rw h refl
bad-step st (Map k j v) h = rw h refl
bad-step st (Link i v) h = rw h refl
bad-step st Fence h = h

any_step : (st : Order) (x : Step) → st.any ≡ true → (order_after st x).any ≡ true
any_step st (Data u j wr) h = refl
any_step st (Map k j v) h = refl
any_step st (Link i v) h = refl
any_step st Fence h = refl

pub fenced-is : (xs : List Step) (st : Order) → (fold order_after st xs).fenced ≡ ends_in st.fenced xs
unfolding fold ends_in
fenced-is [] st = refl
fenced-is (Data u j wr ∷ xs) st = fenced-is xs (order_after st (Data u j wr))
fenced-is (Map k j v ∷ xs) st = fenced-is xs (order_after st (Map k j v))
fenced-is (Link i v ∷ xs) st = fenced-is xs (order_after st (Link i v))
fenced-is (Fence ∷ xs) st = fenced-is xs (order_after st Fence)

any-kept : (xs : List Step) (st : Order) → st.any ≡ true → (fold order_after st xs).any ≡ true
any-kept = fold-keeps order_after (λ st. st.any ≡ true) any_step

pub any-is : (xs : List Step) → (fold order_after no_order xs).any ≡ not (eqb (length xs) 0)
unfolding fold
any-is [] = refl
any-is (Data u j wr ∷ xs) = rw (eqb-suc-zero (length xs)) (any-kept xs (order_after no_order (Data u j wr)) refl)
any-is (Map k j v ∷ xs) = rw (eqb-suc-zero (length xs)) (any-kept xs (order_after no_order (Map k j v)) refl)
any-is (Link i v ∷ xs) = rw (eqb-suc-zero (length xs)) (any-kept xs (order_after no_order (Link i v)) refl)
any-is (Fence ∷ xs) = rw (eqb-suc-zero (length xs)) (any-kept xs (order_after no_order Fence) refl)

abbrev ordered : Order → Bool
ordered st = st.good && st.linked && st.fenced

bad-ordered : (xs : List Step) (l f a : Bool) → ordered (fold order_after (record { good = false; linked = l; fenced = f; any = a }) xs) ≡ false
bad-ordered xs l f a = rw (fold-keeps order_after (λ st. st.good ≡ false) bad-step xs (record { good = false; linked = l; fenced = f; any = a }) refl) refl

-- from the first LINK on
after-link :
    (xs : List Step) (f a : Bool)
    → ordered (fold order_after (record { good = true; linked = true; fenced = f; any = a }) xs)
    ≡ (ends_in f xs && is_none (units xs) && is_none (maps xs))
unfolding fold ends_in collect unit_in map_in
after-link [] f a = simp (and-true)
after-link (Data u j wr ∷ xs) f a = simp (and-false) (bad-ordered xs true false true)
after-link (Map k j v ∷ xs) f a = simp (and-false) (bad-ordered xs true false true)
after-link (Link i v ∷ xs) f a = after-link xs false true
after-link (Fence ∷ xs) f a = after-link xs true true

before-link :
    (xs : List Step) (f a : Bool)
    → ordered (fold order_after (record { good = true; linked = false; fenced = f; any = a }) xs)
    ≡ (ends_in f (before_link xs) && ends_in false (after_link xs) && is_none (units (after_link xs)) && is_none (maps (after_link xs)))
unfolding fold ends_in collect unit_in map_in before_link after_link
before-link [] true a = refl
before-link [] false a = refl
before-link (Data u j wr ∷ xs) f a = before-link xs false true
before-link (Map k j v ∷ xs) f a = before-link xs false true
before-link (Link i v ∷ xs) true a = after-link xs false true
before-link (Link i v ∷ xs) false a = bad-ordered xs true false true
before-link (Fence ∷ xs) f a = before-link xs true true

pub ordered-is :
    (xs : List Step)
    → ((fold order_after no_order xs).good && (fold order_after no_order xs).linked && (fold order_after no_order xs).fenced)
    ≡ (ends_in false (before_link xs) && ends_in false (after_link xs) && is_none (units (after_link xs)) && is_none (maps (after_link xs)))
ordered-is xs = before-link xs false false

-- rule 5, case by case
module _ (xs : List Step) (i : ℕ) where
  pub rule5-write : (m : Bool) (size : ℕ) (st : Order) → st ≡ fold order_after no_order xs → (st.good && st.linked && st.fenced) ≡ rule5 m (Write i size) xs
  unfolding rule5
  rule5-write m size st e = rw e (ordered-is xs)

  pub rule5-mapped : (m : Bool) (st : Order) → m ≡ true → st ≡ fold order_after no_order xs → st.fenced ≡ rule5 m (Discard i) xs
  unfolding rule5
  rule5-mapped m st em e = rw (e, em) (fenced-is xs no_order)

  pub rule5-unmapped : (m : Bool) (st : Order) → m ≡ false → st ≡ fold order_after no_order xs → not st.any ≡ rule5 m (Discard i) xs
  unfolding rule5
  rule5-unmapped m st em e = rw (e, em, any-is) (not-not _)
