-- Rule 5 to read against what is computed, both ways, where rule 4 is kept: there is one LINK, and it parts the plan.
use Rattle.std.specs.Prelude.{Option}
use Prim.Native.Nat.{ℕ, zero, suc, ◌+◌, ◌-◌, ◌<◌}
use mathlib.Core.Path.{◌≡◌, refl, sym, ap, ◌∙◌, subst}
use mathlib.Core.Logic.{◌⊎◌, inl, inr, ⊎_elim}
use mathlib.Core.Bool.{Bool, true, false, ◌&&◌}
use mathlib.Core.List.{List, [], ◌∷◌, ◌++◌}
use native.Mathlib.Omega.{arith}
use lib.ListN.{length, length-append}
use lib.Dec.{eqb}
use borrow.Author.Tests.{eqb-true, eqb-false, eq-eqb}
use Rattle.search.specs.Search.{member}
use Rattle.search.proofs.Bools.{contradict, either, and_intro, and-four}
use Rattle.search.proofs.Members.{member-nil, member-head}
use Rattle.steps.specs.declared.Step.{Step}
use Rattle.steps.specs.declared.Step.TheVariants.{Data, Map, Link, Fence}
use Rattle.steps.specs.declared.Request.{Request}
use Rattle.steps.specs.declared.Request.TheVariants.{Write, Discard}
use Rattle.rules.specs.Rules.{collect, unit_in, map_in, link_in, units, maps, links, is_fence, ends_in, before_link, after_link, is_none, rule5}
use Rattle.rules.specs.Reading.{At, Stored, LastFence, OneLink, Fenced, Rule4, Rule5}
use Rattle.rules.proofs.Places.{empty, at_one, at-below, at_some, collect-in, collect-none}

-- ---- places in a list of two parts

at_left : (xs ys : List Step) (i : ℕ) (x : Step) → At xs i x → At (xs ++ ys) i x
at_left [] ys i x h = absurd h
at_left (z ∷ xs) ys zero x h = h
at_left (z ∷ xs) ys (suc i) x h = at_left xs ys i x h

at_right : (xs ys : List Step) (i : ℕ) (x : Step) → At ys i x → At (xs ++ ys) (length xs + i) x
at_right [] ys i x h = let e : i ≡ 0 + i = omega arith in subst (λ (n : ℕ). At ys n x) e h
at_right (z ∷ xs) ys i x h =
    let e : suc (length xs + i) ≡ suc (length xs) + i = omega arith in subst (λ (n : ℕ). At (z ∷ xs ++ ys) n x) e (at_right xs ys i x h)

at-parts : (xs ys : List Step) (i : ℕ) (x : Step) → At (xs ++ ys) i x → At xs i x ⊎ ((j : ℕ) × (i ≡ length xs + j) × At ys j x)
at-parts [] ys i x h = inr (i, omega arith, h)
at-parts (z ∷ xs) ys zero x h = inl h
at-parts (z ∷ xs) ys (suc i) x h =
    ⊎_elim (λ a. inl a) (λ r. let e : i ≡ length xs + r.0 = r.1 in inr (r.0, omega arith, r.2)) (at-parts xs ys i x h)

-- ---- the last step

no-fence : (x : Step) → is_fence x ≡ true → x ≡ Fence
no-fence (Data u j w) h = contradict h refl
no-fence (Map k j v) h = contradict h refl
no-fence (Link i v) h = contradict h refl
no-fence Fence h = refl

last-told : (b : Bool) (z : Step) (xs : List Step) → ends_in b (z ∷ xs) ≡ true → LastFence (z ∷ xs)
unfolding ends_in
last-told b z [] h = (0, refl, no-fence z h)
last-told b z (y ∷ ys) h = let r = last-told (is_fence z) y ys h in (suc r.0, ap suc r.1, r.2)

pub ends-told : (xs : List Step) → ends_in false xs ≡ true → LastFence xs
unfolding ends_in
ends-told [] h = contradict h refl
ends-told (z ∷ xs) h = last-told false z xs h

pub ends-tested : (b : Bool) (xs : List Step) (n : ℕ) → length xs ≡ suc n → At xs n Fence → ends_in b xs ≡ true
unfolding ends_in
ends-tested b [] n e h = absurd (omega arith)
ends-tested b (z ∷ []) zero e h = ap is_fence h
ends-tested b (z ∷ []) (suc n) e h = absurd h
ends-tested b (z ∷ (y ∷ ys)) zero e h = absurd (omega arith)
ends-tested b (z ∷ (y ∷ ys)) (suc n) e h = ends-tested (is_fence z) (y ∷ ys) n (omega arith) h

-- ---- the steps before the first LINK, and after it

-- a plan with a LINK, cut at its first one
pub split : (xs : List Step) → is_none (links xs) ≡ false → (c : ℕ) × (w : Option ℕ) × (xs ≡ before_link xs ++ (Link c w ∷ after_link xs))
unfolding collect link_in before_link after_link
split [] h = contradict refl h
split (Data u j w ∷ xs) h = let r = split xs h in (r.0, r.1, ap (λ (l : List Step). Data u j w ∷ l) r.2)
split (Map k j v ∷ xs) h = let r = split xs h in (r.0, r.1, ap (λ (l : List Step). Map k j v ∷ l) r.2)
split (Link c v ∷ xs) h = (c, v, refl)
split (Fence ∷ xs) h = let r = split xs h in (r.0, r.1, ap (λ (l : List Step). Fence ∷ l) r.2)

abbrev Unlinked : Step → Type 0
Unlinked x = Stored x ⊎ (x ≡ Fence)

before-unlinked : (xs : List Step) (i : ℕ) (x : Step) → At (before_link xs) i x → Unlinked x
unfolding before_link
before-unlinked [] i x h = absurd h
before-unlinked (Data u j w ∷ xs) zero x h = inl (subst Stored h tt)
before-unlinked (Data u j w ∷ xs) (suc i) x h = before-unlinked xs i x h
before-unlinked (Map k j v ∷ xs) zero x h = inl (subst Stored h tt)
before-unlinked (Map k j v ∷ xs) (suc i) x h = before-unlinked xs i x h
before-unlinked (Link c v ∷ xs) i x h = absurd h
before-unlinked (Fence ∷ xs) zero x h = inr (sym h)
before-unlinked (Fence ∷ xs) (suc i) x h = before-unlinked xs i x h

some-not-none : (n : ℕ) (l : List ℕ) → member n l ≡ true → is_none l ≡ false
some-not-none n [] m = contradict m (member-nil n)
some-not-none n (y ∷ l) m = refl

-- ---- a write

module _ (c : ℕ) (xs : List Step) (o : OneLink c xs) where
  abbrev b : List Step
  b = before_link xs

  abbrev a : List Step
  a = after_link xs

  parted : (k : ℕ) × (v : Option ℕ) × (xs ≡ b ++ (Link k v ∷ a))
  unfolding link_in
  parted =
      let y = o.there in
      split xs (some-not-none c (links xs) (collect-in link_in xs y.0 (Link c y.1) c y.2 (member-head c c [] refl)))

  -- the LINK stands right after the steps before it
  link_here : At xs (length b + 0) (Link parted.0 parted.1)
  link_here =
      subst (λ (l : List Step). At l (length b + 0) (Link parted.0 parted.1)) (sym parted.2)
      (at_right b (Link parted.0 parted.1 ∷ a) 0 (Link parted.0 parted.1) refl)

  link-place : (l k : ℕ) (v : Option ℕ) → At xs l (Link k v) → l ≡ length b + 0
  link-place l k v s = o.alone l (length b + 0) k parted.0 v parted.1 s link_here

  length-parts : length xs ≡ length b + suc (length a)
  length-parts = ap length parted.2 ∙ length-append b (Link parted.0 parted.1 ∷ a)

  in-before : (i : ℕ) (x : Step) → At b i x → At xs i x
  in-before i x s = subst (λ (l : List Step). At l i x) (sym parted.2) (at_left b (Link parted.0 parted.1 ∷ a) i x s)

  in_after : (i : ℕ) (x : Step) → At a i x → At xs (length b + suc i) x
  in_after i x s =
      subst (λ (l : List Step). At l (length b + suc i) x) (sym parted.2) (at_right b (Link parted.0 parted.1 ∷ a) (suc i) x s)

  -- a step is before LINK, LINK itself, or after it
  cases : (i : ℕ) (x : Step) → At xs i x → At b i x ⊎ ((x ≡ Link parted.0 parted.1) ⊎ ((j : ℕ) × (i ≡ length b + suc j) × At a j x))
  cases i x s =
      ⊎_elim (λ t. inl t) (λ r. inr (go r.0 r.1 r.2))
      (at-parts b (Link parted.0 parted.1 ∷ a) i x (subst (λ (l : List Step). At l i x) parted.2 s))
    where
      go : (j : ℕ) → i ≡ length b + j → At (Link parted.0 parted.1 ∷ a) j x
          → (x ≡ Link parted.0 parted.1) ⊎ ((j : ℕ) × (i ≡ length b + suc j) × At a j x)
      go zero e t = inl (sym t)
      go (suc j) e t = inr (j, e, t)

  -- ---- what is computed, read

  module _ (h0 : ends_in false b ≡ true) (h1 : ends_in false a ≡ true) (h2 : is_none (units a) ≡ true) (h3 : is_none (maps a) ≡ true) where
    none_after : (j : ℕ) (x : Step) → At a j x → Stored x → ⊥
    unfolding unit_in map_in
    none_after j (Data u i w) s q = contradict h2 (some-not-none u (units a) (collect-in unit_in a j (Data u i w) u s (member-head u u [] refl)))
    none_after j (Map k i v) s q = contradict h3 (some-not-none k (maps a) (collect-in map_in a j (Map k i v) k s (member-head k k [] refl)))
    none_after j (Link i v) s q = q
    none_after j Fence s q = q

    all-before : (i : ℕ) (x : Step) → At xs i x → Stored x → i < (ends-told b h0).0
    all-before i x s q = go (cases i x s)
      where
        n : ℕ
        n = (ends-told b h0).0

        len : length b ≡ suc n
        len = (ends-told b h0).1

        go : At b i x ⊎ ((x ≡ Link parted.0 parted.1) ⊎ ((j : ℕ) × (i ≡ length b + suc j) × At a j x)) → i < n
        go (inl t) =
            ⊎_elim
            (λ e. absurd (subst Stored (at_one b n x Fence (subst (λ (m : ℕ). At b m x) (eqb-true i n e) t) (ends-told b h0).2) q))
            (λ e. let p = at-below b i x t in let ne = eqb-false i n e in let l = len in omega arith)
            (either (eqb i n))
        go (inr (inl t)) = absurd (subst Stored t q)
        go (inr (inr r)) = absurd (none_after r.0 x r.2 q)

    fences-told : Fenced xs
    fences-told =
        let n = (ends-told b h0).0 in
        let len : length b ≡ suc n = (ends-told b h0).1 in
        let r = ends-told a h1 in
        let e : length a ≡ suc r.0 = r.1 in
        record {
          before = λ i l k v x s t q. let p = all-before i x t q in let z = link-place l k v s in omega arith;
          fence = λ l k v s. (n, (let z = link-place l k v s in omega arith), in-before n Fence (ends-told b h0).2, all-before);
          last = (length b + suc r.0, (let z = length-parts in omega arith), in_after r.0 Fence r.2);
        }

  -- ---- what is read, computed

  module _ (h : Fenced xs) where
    cut : (f : ℕ) × (f < length b + 0) × At xs f Fence × ((i : ℕ) (x : Step) → At xs i x → Stored x → i < f)
    cut = h.fence (length b + 0) parted.0 parted.1 link_here

    before-ends : ends_in false b ≡ true
    before-ends =
        let f = cut in
        let low : f.0 < length b + 0 = f.1 in
        let n : ℕ = length b - 1 in
        let r = at_some b n (omega arith) in
        ends-tested false b n (omega arith) (⊎_elim
        (λ q. let w : n < f.0 = f.3 n r.0 (in-before n r.0 r.1) q in absurd (omega arith))
        (λ e. subst (At b n) e r.1)
        (before-unlinked xs n r.0 r.1))

    after-ends : ends_in false a ≡ true
    after-ends = go (cases h.last.0 Fence h.last.2)
      where
        len : length xs ≡ suc h.last.0
        len = h.last.1

        go : At b h.last.0 Fence ⊎ ((Fence ≡ Link parted.0 parted.1) ⊎ ((j : ℕ) × (h.last.0 ≡ length b + suc j) × At a j Fence)) → ends_in false a ≡ true
        go (inl t) = let p = at-below b h.last.0 Fence t in let q = length-parts in let l = len in absurd (omega arith)
        go (inr (inl t)) = contradict (ap is_fence (sym t)) refl
        go (inr (inr r)) = let e : h.last.0 ≡ length b + suc r.0 = r.1 in let q = length-parts in let l = len in ends-tested false a r.0 (omega arith) r.2

    past : (i : ℕ) (x : Step) → At a i x → Stored x → ⊥
    past i x s q =
        let f = cut in
        let low : f.0 < length b + 0 = f.1 in
        let w : length b + suc i < f.0 = f.3 (length b + suc i) x (in_after i x s) q in
        omega arith

    no-unit : (i : ℕ) (x : Step) → At a i x → unit_in x ≡ []
    unfolding unit_in
    no-unit i (Data u j w) s = absurd (past i (Data u j w) s tt)
    no-unit i (Map k j v) s = refl
    no-unit i (Link k v) s = refl
    no-unit i Fence s = refl

    no-map : (i : ℕ) (x : Step) → At a i x → map_in x ≡ []
    unfolding map_in
    no-map i (Data u j w) s = refl
    no-map i (Map k j v) s = absurd (past i (Map k j v) s tt)
    no-map i (Link k v) s = refl
    no-map i Fence s = refl

    fences-tested : (ends_in false b && ends_in false a && is_none (units a) && is_none (maps a)) ≡ true
    fences-tested =
        and_intro (ends_in false b && ends_in false a && is_none (units a)) (is_none (maps a))
        (and_intro (ends_in false b && ends_in false a) (is_none (units a)) (and_intro (ends_in false b) (ends_in false a) before-ends after-ends)
        (ap is_none (collect-none unit_in a no-unit)))
        (ap is_none (collect-none map_in a no-map))

-- ---- rule 5

module _ (xs : List Step) where
  pub rule5-told : (r : Request) (m : Bool) → Rule4 r m xs → rule5 m r xs ≡ true → Rule5 r m xs
  unfolding rule5
  rule5-told (Write c size) m o h =
      let q = and-four (ends_in false (before_link xs)) (ends_in false (after_link xs)) (is_none (units (after_link xs))) (is_none (maps (after_link xs))) h in
      fences-told c xs o.0 q.0 q.1 q.2 q.3
  rule5-told (Discard c) true o h = ends-told xs h
  rule5-told (Discard c) false o h = empty xs (eqb-true (length xs) 0 h)

  pub rule5-tested : (r : Request) (m : Bool) → Rule4 r m xs → Rule5 r m xs → rule5 m r xs ≡ true
  unfolding rule5
  rule5-tested (Write c size) m o h = fences-tested c xs o.0 h
  rule5-tested (Discard c) true o h = ends-tested false xs h.0 h.1 h.2
  rule5-tested (Discard c) false o h = eq-eqb (length xs) 0 (ap length h)
