-- What FENCE steps make durable: where a LINK behind a FENCE landed, every DATA and MAP step before it did; where the last step is a FENCE and all
-- have passed, all have landed.
use Prim.Native.Nat.{ℕ, suc, ◌+◌, ◌-◌, ◌≤◌, ◌<◌}
use mathlib.Core.Path.{◌≡◌, refl, sym, ap, ap₂, ◌∙◌, subst}
use mathlib.Core.Logic.{◌⊎◌, inl, inr}
use mathlib.Core.Bool.{Bool, true, false, ◌&&◌, ◌||◌, cond}
use mathlib.Core.List.{List, [], ◌∷◌, ◌++◌, append-nil}
use native.Mathlib.Omega.{arith}
use lib.ListN.{length, take, length-take}
use lib.Seq.{take-append-add}
use lib.Dec.{ltb}
use borrow.Author.Tests.{ltb-true, lt-ltb, eqb-true}
use Rattle.search.proofs.Bools.{contradict, is_false, and_left, or_left, or_right, or_cases, cond-true}
use Rattle.steps.specs.declared.Step.{Step}
use Rattle.steps.specs.declared.Step.TheVariants.{Data, Map, Link, Fence}
use Rattle.steps.specs.Steps.{steps_of, whole_steps}
use Rattle.rules.specs.Rules.{collect, link_in, unit_in, map_in, units, maps, links, ends_in, before_link, after_link, is_none, is_fence}
use Rattle.rules.proofs.Facts.{Guarded}
use Rattle.rules.proofs.Fencing.{split}
use Rattle.durable.specs.Events.{Event, fenced, complete, lands, link_lands}
use Rattle.durable.proofs.Settle.{Solid}
use Rattle.rules.proofs.Places.{length-steps}

-- fenced steps are steps
fenced-most : (xs : List Step) → fenced xs ≤ length xs
unfolding fenced
fenced-most [] = omega arith
fenced-most (x ∷ xs) = go (is_fence x || ltb 0 (fenced xs)) (fenced-most xs)
  where
    go : (b : Bool) → fenced xs ≤ length xs → cond b (suc (fenced xs)) 0 ≤ suc (length xs)
    go true h = omega arith
    go false h = omega arith

-- steps that end in a FENCE are fenced, whatever comes after them
fenced-all : (b : Bool) (xs ys : List Step) → ends_in b xs ≡ true → length xs ≤ fenced (xs ++ ys)
unfolding fenced ends_in
fenced-all b [] ys h = omega arith
fenced-all b (x ∷ []) ys h = let e = cond-true (is_fence x || ltb 0 (fenced ys)) (suc (fenced ys)) 0 (or_left (is_fence x) (ltb 0 (fenced ys)) h) in omega arith
fenced-all b (x ∷ y ∷ xs) ys h =
    let r = fenced (y ∷ xs ++ ys) in
    let l : length (y ∷ xs) ≤ r = fenced-all (is_fence x) (y ∷ xs) ys h in
    let e : fenced (x ∷ y ∷ xs ++ ys) ≡ suc r = cond-true (is_fence x || ltb 0 r) (suc r) 0 (or_right (is_fence x) (ltb 0 r) (lt-ltb 0 r (omega arith))) in
    omega arith

module _ {A : Type 0} (e : Event A) where
  -- how many steps the last FENCE passed has made durable
  abbrev durable : ℕ
  durable = fenced (take e.count (steps_of e.plan))

  -- the two ways in which step i lands
  lands-cases : (i : ℕ) → lands e i ≡ true → (i < durable) ⊎ (i < e.count)
  unfolding lands
  lands-cases i h = go (or_cases (ltb i durable) (ltb i e.count && e.landed i) h)
    where
      go : (ltb i durable ≡ true) ⊎ ((ltb i e.count && e.landed i) ≡ true) → (i < durable) ⊎ (i < e.count)
      go (inl a) = inl (ltb-true i durable a)
      go (inr a) = inr (ltb-true i e.count (and_left (ltb i e.count) (e.landed i) a))

  lands-fenced : (i : ℕ) → i < durable → lands e i ≡ true
  unfolding lands
  lands-fenced i h = or_left (ltb i durable) (ltb i e.count && e.landed i) (lt-ltb i durable h)

  -- steps that end in a FENCE and have all passed have landed
  passed-lands : (b r : List Step) → steps_of e.plan ≡ b ++ r → ends_in false b ≡ true → length b ≤ e.count → (i : ℕ) → i < length b → lands e i ≡ true
  passed-lands b r p h m i k =
      let n : ℕ = e.count - length b in
      let c : e.count ≡ length b + n = omega arith in
      let q : take e.count (steps_of e.plan) ≡ b ++ take n r = ap₂ (λ (a : ℕ) (xs : List Step). take a xs) c p ∙ take-append-add b r n in
      let all = fenced-all false b (take n r) h in
      lands-fenced i (subst (λ (xs : List Step). i < fenced xs) (sym q) (omega arith))

  -- a step landed behind steps that end in a FENCE: those landed
  lands-before : (b r : List Step) → steps_of e.plan ≡ b ++ r → ends_in false b ≡ true → (n : ℕ) → length b ≤ n → lands e n ≡ true → (i : ℕ) → i < length b
      → lands e i ≡ true
  lands-before b r p h n m l i k = go (lands-cases n l)
    where
      go : (n < durable) ⊎ (n < e.count) → lands e i ≡ true
      go (inl a) = lands-fenced i (omega arith)
      go (inr a) = passed-lands b r p h (omega arith) i k

  -- "finished, and all have landed": by the last FENCE
  pub all-landed : (xs : List Step) → steps_of e.plan ≡ xs → ends_in false xs ≡ true → complete e ≡ true → (i : ℕ) → i < length xs → lands e i ≡ true
  all-landed xs p h c i k =
      let n = eqb-true e.count (whole_steps e.plan) c in
      let l = length-steps e.plan in
      let q = ap length p in
      passed-lands xs [] (p ∙ sym (append-nil xs)) h (omega arith) i k

  -- a LINK that landed stands past the steps before the first LINK
  later : (i : ℕ) → (n : ℕ) × (suc i ≤ n) × (lands e n ≡ true) → (n : ℕ) × (i ≤ n) × (lands e n ≡ true)
  later i r = let b : suc i ≤ r.0 = r.1 in (r.0, omega arith, r.2)

  some-link : (i : ℕ) (xs : List Step) → link_lands e i xs ≡ true → (n : ℕ) × (i ≤ n) × (lands e n ≡ true)
  unfolding link_lands
  some-link i [] h = contradict h refl
  some-link i (Data u j wr ∷ xs) h = later i (some-link (suc i) xs h)
  some-link i (Map k j v ∷ xs) h = later i (some-link (suc i) xs h)
  some-link i (Link c v ∷ xs) h = go (some-link (suc i) xs) (or_cases (lands e i) (link_lands e (suc i) xs) h)
    where
      go : (link_lands e (suc i) xs ≡ true → (n : ℕ) × (suc i ≤ n) × (lands e n ≡ true)) → (lands e i ≡ true) ⊎ (link_lands e (suc i) xs ≡ true)
          → (n : ℕ) × (i ≤ n) × (lands e n ≡ true)
      go rest (inl a) = (i, omega arith, a)
      go rest (inr a) = later i (rest a)
  some-link i (Fence ∷ xs) h = later i (some-link (suc i) xs h)

  lands-link : (i : ℕ) (xs : List Step) → link_lands e i xs ≡ true → (n : ℕ) × (i + length (before_link xs) ≤ n) × (lands e n ≡ true)
  unfolding link_lands before_link
  lands-link i [] h = contradict h refl
  lands-link i (Data u j wr ∷ xs) h = let r = lands-link (suc i) xs h in let b : suc i + length (before_link xs) ≤ r.0 = r.1 in (r.0, omega arith, r.2)
  lands-link i (Map k j v ∷ xs) h = let r = lands-link (suc i) xs h in let b : suc i + length (before_link xs) ≤ r.0 = r.1 in (r.0, omega arith, r.2)
  lands-link i (Link c v ∷ xs) h = let r = some-link i (Link c v ∷ xs) h in let b : i ≤ r.0 = r.1 in (r.0, omega arith, r.2)
  lands-link i (Fence ∷ xs) h = let r = lands-link (suc i) xs h in let b : suc i + length (before_link xs) ≤ r.0 = r.1 in (r.0, omega arith, r.2)

  solid-none : (i : ℕ) (xs : List Step) → is_none (units xs) ≡ true → is_none (maps xs) ≡ true → Solid e i xs
  unfolding collect unit_in map_in
  solid-none i [] u m = tt
  solid-none i (Data w j wr ∷ xs) u m = contradict u refl
  solid-none i (Map k j v ∷ xs) u m = contradict m refl
  solid-none i (Link c v ∷ xs) u m = solid-none (suc i) xs u m
  solid-none i (Fence ∷ xs) u m = solid-none (suc i) xs u m

  solid-before :
      (i : ℕ) (xs : List Step) → is_none (units (after_link xs)) ≡ true → is_none (maps (after_link xs)) ≡ true
      → ((n : ℕ) → i ≤ n → n < i + length (before_link xs) → lands e n ≡ true)
      → Solid e i xs
  unfolding before_link after_link
  solid-before i [] u m h = tt
  solid-before i (Data w j wr ∷ xs) u m h = (h i (omega arith) (omega arith), solid-before (suc i) xs u m (λ n p q. h n (omega arith) (omega arith)))
  solid-before i (Map k j v ∷ xs) u m h = (h i (omega arith) (omega arith), solid-before (suc i) xs u m (λ n p q. h n (omega arith) (omega arith)))
  solid-before i (Link c v ∷ xs) u m h = solid-none (suc i) xs u m
  solid-before i (Fence ∷ xs) u m h = solid-before (suc i) xs u m (λ n p q. h n (omega arith) (omega arith))

  pub solid : (xs : List Step) → steps_of e.plan ≡ xs → Guarded xs → link_lands e 0 xs ≡ true → Solid e 0 xs
  solid xs p k h =
      let s = split xs k.a-link in
      let l = lands-link 0 xs h in
      let far : 0 + length (before_link xs) ≤ l.0 = l.1 in
      solid-before 0 xs k.later-units k.later-maps
      (λ n a b. lands-before (before_link xs) (Link s.0 s.1 ∷ after_link xs) (p ∙ s.2) k.fence l.0 (omega arith) l.2 n (omega arith))

  -- steps that all landed, with a LINK among them
  pub complete-link : (i : ℕ) (xs : List Step) → ((n : ℕ) → i ≤ n → n < i + length xs → lands e n ≡ true) → is_none (links xs) ≡ false → link_lands e i xs ≡ true
  unfolding collect link_in link_lands
  complete-link i [] h n = contradict refl n
  complete-link i (Data u j wr ∷ xs) h n = complete-link (suc i) xs (λ m p q. h m (omega arith) (omega arith)) n
  complete-link i (Map k j v ∷ xs) h n = complete-link (suc i) xs (λ m p q. h m (omega arith) (omega arith)) n
  complete-link i (Link c v ∷ xs) h n = or_left (lands e i) (link_lands e (suc i) xs) (h i (omega arith) (omega arith))
  complete-link i (Fence ∷ xs) h n = complete-link (suc i) xs (λ m p q. h m (omega arith) (omega arith)) n

  -- no step past the count lands
  pub lands-not : (i : ℕ) → e.count ≤ i → lands e i ≡ false
  lands-not i b = is_false (lands e i) (λ l. go (lands-cases i l))
    where
      go : (i < durable) ⊎ (i < e.count) → ⊥
      go (inl a) =
          let xs = steps_of e.plan in
          let q = length-take e.count xs in
          omega (arith, fenced-most (take e.count xs))
      go (inr a) = omega arith
