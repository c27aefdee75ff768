-- The theorems of this crate that a reader wants: nothing else cites them. `Bytes s` says that each element of s is below 256, as every lent
-- image's is.
use Rattle.std.specs.Prelude.{Some, Result, Ok, Err, ⊤}
use Prim.Native.Nat.{ℕ, zero, suc, ◌<◌, ◌≤◌}
use mathlib.Core.Path.{◌≡◌, refl, sym, ap, ◌∙◌, subst}
use mathlib.Core.Bool.{Bool, true, false, cond}
use mathlib.Core.List.{List}
use native.Mathlib.Omega.{arith}
use lib.ListN.{length}
use borrow.Author.Tests.{ltb-true, ltb-false, lt-ltb, le-ltb}
use Rattle.words.specs.Words.{Bytes}
use Rattle.search.specs.Search.{below, keep}
use Rattle.search.proofs.Bools.{contradict, is_false}
use Rattle.search.proofs.Ranks.{rank-place, place-rank}
use Rattle.layout.specs.declared.Shape.{Shape}
use Rattle.layout.specs.declared.Refusal.{Refusal}
use Rattle.layout.specs.declared.Refusal.TheVariants.{Short, Foreign, Geometry, BadLink, BadMap, Shared, Range, Size, NoRoom, Small, BadPlan, BadAlarm}
use Rattle.layout.specs.Layout.{map_words, shape_of}
use Rattle.layout.proofs.Limits.{map-words}
use Rattle.image.specs.Soundness.{Sound}
use Rattle.image.specs.Verdicts.{verdict}
use Rattle.image.specs.Rows.{Row}
use Rattle.image.specs.Answers.{if_sound}
use Rattle.image.specs.Free.{free_unit, free_units}
use Rattle.image.proofs.Room.{free_unit-unreserved}
use Rattle.image.proofs.Theorems.{passed-is-sound, sound-is-passed, refused-is-row, row-is-refused}
use Rattle.steps.specs.declared.Step.{Step}
use Rattle.steps.specs.declared.Step.TheVariants.{Data}
use Rattle.steps.specs.declared.Request.{Request}
use Rattle.steps.specs.declared.Request.TheVariants.{Write, Discard}
use Rattle.steps.specs.Steps.{whole_steps, decode_at, steps_of, chunk_of, need_of, good_chunk, good_size}
use Rattle.rules.specs.Rules.{Known, known_of, broken_rule, broken, judged, checked}
use Rattle.rules.specs.Reading.{At, Rule, Rule1, Rule2, KeepsAll, LowestBroken, GoodRequest, Refuses, Answers}
use Rattle.rules.proofs.Good.{good-told, chunk-tested, size-tested}
use Rattle.rules.proofs.Accepting.{accepted-of}
use Rattle.rules.proofs.Dealing.{enough-free}
use Rattle.rules.proofs.Wording.{rule2-tested}
use Rattle.rules.proofs.Places.{at-below, at-get_or, get_d_at, step-told, step-there}
use Rattle.rules.proofs.Lowest.{unbroken-kept, kept-unbroken, broken-lowest, lowest-broken}

-- ---- the steps of a plan

-- Where rule 1 is kept, the step at place i of `steps_of plan` is what the 16 bytes of the plan's step i say.
pub step-is-read : (g : Shape) (plan : List ℕ) → Rule1 g plan → (i : ℕ) (x : Step) → At (steps_of plan) i x
    → (i < whole_steps plan) × (decode_at plan i ≡ Some x)
step-is-read g plan h = step-told plan (λ i l. let s = h.steps i l in (s.0, s.1))

pub read-is-step : (g : Shape) (plan : List ℕ) → Rule1 g plan → (i : ℕ) (x : Step) → i < whole_steps plan → decode_at plan i ≡ Some x
    → At (steps_of plan) i x
read-is-step g plan h = step-there plan (λ i l. let s = h.steps i l in (s.0, s.1))

-- ---- the rules

-- No rule is broken exactly where the five are kept, and rule n is the lowest broken exactly where the rules to read say so.
pub unbroken-is-kept : (kn : Known) (r : Request) (plan : List ℕ) → 1 ≤ map_words kn.shape → broken_rule kn r plan ≡ 0 → KeepsAll kn r plan
unbroken-is-kept = unbroken-kept

pub kept-is-unbroken : (kn : Known) (r : Request) (plan : List ℕ) → 1 ≤ map_words kn.shape → KeepsAll kn r plan → broken_rule kn r plan ≡ 0
kept-is-unbroken = kept-unbroken

pub broken-is-lowest : (kn : Known) (r : Request) (plan : List ℕ) → 1 ≤ map_words kn.shape → (n : ℕ) → broken_rule kn r plan ≡ suc n
    → LowestBroken kn r plan (suc n)
broken-is-lowest = broken-lowest

pub lowest-is-broken : (kn : Known) (r : Request) (plan : List ℕ) → 1 ≤ map_words kn.shape → (n : ℕ) → LowestBroken kn r plan n
    → broken_rule kn r plan ≡ n
lowest-is-broken = lowest-broken

-- ---- the answer

-- an image's own refusal, whatever follows
own-told : (s : List ℕ) (r : Request) (plan : List ℕ) (x : Refusal) → Row s x → Refuses s r plan x
own-told s r plan Short h = h
own-told s r plan Foreign h = h
own-told s r plan Geometry h = h
own-told s r plan (BadLink i) h = h
own-told s r plan (BadMap i) h = h
own-told s r plan (Shared i j) h = h
own-told s r plan Range h = absurd h
own-told s r plan Size h = absurd h
own-told s r plan (NoRoom n) h = absurd h
own-told s r plan (Small n) h = absurd h
own-told s r plan (BadPlan n) h = absurd h
own-told s r plan BadAlarm h = absurd h

module _ (s : List ℕ) (r : Request) (plan : List ℕ) where
  abbrev g : Shape
  g = shape_of s

  abbrev kn : Known
  kn = known_of s r

  -- what is computed for an image that passed
  of-passed : verdict s ≡ Ok tt → checked s r plan ≡ judged kn r plan
  unfolding checked
  of-passed e = ap (λ (v : Result ⊤ Refusal). if_sound v Err (judged kn r plan)) e

  some_word : Sound g s → 1 ≤ map_words g
  some_word z = omega (arith, z.limits.p-low, map-words g)

  -- every refusal and the acceptance, where each is given
  module _ (z : Sound g s) where
    judged-told : Answers s r plan (judged kn r plan)
    unfolding judged
    judged-told = by-chunk (good_chunk g r) refl
      where
        by-rules : GoodRequest g r → (n : ℕ) → broken_rule kn r plan ≡ n → Answers s r plan (broken n)
        by-rules h zero e = (z, h, unbroken-kept kn r plan (some_word z) e)
        by-rules h (suc n) e = (z, h, broken-lowest kn r plan (some_word z) n e)

        by_size : chunk_of r < g.c → (b : Bool) → good_size g r ≡ b
            → Answers s r plan (cond b (broken (broken_rule kn r plan)) (Err Size))
        by_size l true e = by-rules (good-told g r l e) (broken_rule kn r plan) refl
        by_size l false e = (z, l, λ h. contradict (size-tested g r h) e)

        by-chunk : (b : Bool) → good_chunk g r ≡ b
            → Answers s r plan (cond b (cond (good_size g r) (broken (broken_rule kn r plan)) (Err Size)) (Err Range))
        by-chunk true e = by_size (ltb-true (chunk_of r) g.c e) (good_size g r) refl
        by-chunk false e = (z, ltb-false (chunk_of r) g.c e)

    judged-range : g.c ≤ chunk_of r → judged kn r plan ≡ Err Range
    unfolding judged
    judged-range h = rw (le-ltb (chunk_of r) g.c h)

    judged-size : chunk_of r < g.c → (GoodRequest g r → ⊥) → judged kn r plan ≡ Err Size
    unfolding judged
    judged-size l h = rw (lt-ltb (chunk_of r) g.c l, is_false (good_size g r) (λ e. h (good-told g r l e)))

    judged-rules : GoodRequest g r → judged kn r plan ≡ broken (broken_rule kn r plan)
    unfolding judged
    judged-rules h = rw (chunk-tested g r h, size-tested g r h)

  -- What the checker answers holds: it accepts only where the image is sound, the request good and the five rules kept, and refuses with 11 and place n
  -- only where rule n is the lowest broken.
  pub answer-holds : Bytes s → Answers s r plan (checked s r plan)
  unfolding checked
  answer-holds b = by-verdict (verdict s) refl
    where
      by-verdict : (v : Result ⊤ Refusal) → verdict s ≡ v → Answers s r plan (if_sound v Err (judged kn r plan))
      by-verdict (Ok tt) e = judged-told (passed-is-sound s b e)
      by-verdict (Err x) e = own-told s r plan x (refused-is-row s x e)

  -- no rule has the number 0
  lowest-given : (n : ℕ) → LowestBroken kn r plan n → broken (broken_rule kn r plan) ≡ broken n → broken (broken_rule kn r plan) ≡ Err (BadPlan n)
  lowest-given zero l e = absurd (l.broken tt)
  lowest-given (suc n) l e = e

  own-given : (x : Refusal) → Row s x → checked s r plan ≡ Err x
  unfolding checked
  own-given x h = ap (λ (v : Result ⊤ Refusal). if_sound v Err (judged kn r plan)) (row-is-refused s x h)

  given : (x : Refusal) → Refuses s r plan x → checked s r plan ≡ Err x
  given Short h = own-given Short h
  given Foreign h = own-given Foreign h
  given Geometry h = own-given Geometry h
  given (BadLink i) h = own-given (BadLink i) h
  given (BadMap i) h = own-given (BadMap i) h
  given (Shared i j) h = own-given (Shared i j) h
  given Range h = of-passed (sound-is-passed g s h.0).0 ∙ judged-range h.0 h.1
  given Size h = of-passed (sound-is-passed g s h.0).0 ∙ judged-size h.0 h.1 h.2
  given (NoRoom n) h = absurd h
  given (Small n) h = absurd h
  given (BadPlan n) h =
      of-passed (sound-is-passed g s h.0).0 ∙ judged-rules h.0 h.1 ∙ lowest-given n h.2
      (ap broken (lowest-broken kn r plan (some_word h.0) n h.2))
  given BadAlarm h = absurd h

  -- And where an answer holds, it is given.
  pub holding-is-answered : (c : Result ⊤ Refusal) → Answers s r plan c → checked s r plan ≡ c
  holding-is-answered (Ok tt) h =
      of-passed (sound-is-passed g s h.0).0 ∙ judged-rules h.0 h.1 ∙ ap broken (kept-unbroken kn r plan (some_word h.0) h.2)
  holding-is-answered (Err x) h = given x h

  -- The same, said of acceptance and of refusal 11 alone.
  pub accepted-is-kept : Bytes s → checked s r plan ≡ Ok tt → Sound g s × GoodRequest g r × KeepsAll kn r plan
  accepted-is-kept b e = subst (Answers s r plan) e (answer-holds b)

  pub kept-is-accepted : Sound g s → GoodRequest g r → KeepsAll kn r plan → checked s r plan ≡ Ok tt
  kept-is-accepted z h k = holding-is-answered (Ok tt) (z, h, k)

  pub bad-plan-is-lowest : Bytes s → (n : ℕ) → checked s r plan ≡ Err (BadPlan n) → Sound g s × GoodRequest g r × LowestBroken kn r plan n
  bad-plan-is-lowest b n e = subst (Answers s r plan) e (answer-holds b)

  pub lowest-is-bad-plan : (n : ℕ) → Sound g s → GoodRequest g r → LowestBroken kn r plan n → checked s r plan ≡ Err (BadPlan n)
  lowest-is-bad-plan n z h l = holding-is-answered (Err (BadPlan n)) (z, h, l)

-- ---- rule 2: the lowest free units (02, request 6)

-- "the j-th lowest free unit": what stands at place j of the numbers below n of which f holds, rising, is one of them that has j of them below it, and the
-- other way round.
module _ (f : ℕ → Bool) (n : ℕ) where
  abbrev us : List ℕ
  us = keep f (below n)

  pub place-is-rank : (j u : ℕ) → At us j u → (f u ≡ true) × (length (keep f (below u)) ≡ j)
  place-is-rank j u h =
      let r = place-rank f n j (at-below us j u h) in
      let e = at-get_or us j u 0 h in
      (ap f (sym e) ∙ r.0, ap (λ (v : ℕ). length (keep f (below v))) (sym e) ∙ r.1)

  pub rank-is-place : (u : ℕ) → f u ≡ true → u < n → At us (length (keep f (below u))) u
  rank-is-place u h l = let r = rank-place f n u h l in get_d_at us (length (keep f (below u))) u 0 r.0 r.1

  -- Rule 2 before request 6, "on different free units", follows: what keeps the rule now kept it then.
  module _ (r : Request) (xs : List Step) (h : Rule2 us r xs) where
    on-lowest : (i u j w : ℕ) → At xs i (Data u j w) → At us j u
    on-lowest = go r h
      where
        go : (r : Request) → Rule2 us r xs → (i u j w : ℕ) → At xs i (Data u j w) → At us j u
        go (Write c size) k = k.lowest
        go (Discard c) k = λ i u j w x. absurd (k i u j w x)

    pub lowest-are-free : (i u j w : ℕ) → At xs i (Data u j w) → f u ≡ true
    lowest-are-free i u j w x = (place-is-rank j u (on-lowest i u j w x)).0

    pub lowest-are-different : (i i' u j j' w w' : ℕ) → At xs i (Data u j w) → At xs i' (Data u j' w') → i ≡ i'
    lowest-are-different i i' u j j' w w' x y = go r h
      where
        same : j ≡ j'
        same = sym (place-is-rank j u (on-lowest i u j w x)).1 ∙ (place-is-rank j' u (on-lowest i' u j' w' y)).1

        go : (r : Request) → Rule2 us r xs → i ≡ i'
        go (Write c size) k = k.once i i' u u j w w' x (subst (λ (a : ℕ). At xs i' (Data u a w')) (sym same) y)
        go (Discard c) k = absurd (k i u j w x)

-- Fewer than k units free: no plan keeps rule 2. "Refusal 9 isn't given here."
pub no-room-breaks-2 : (free : List ℕ) (r : Request) (xs : List Step) → length free < need_of r → Rule2 free r xs → ⊥
no-room-breaks-2 free r xs l h = let e = enough-free free xs r (rule2-tested free xs r h) in omega arith

module _ (s : List ℕ) (r : Request) (plan : List ℕ) where
  -- what breaks rule 2 and keeps rule 1 gives 11 with 2
  breaks-2 : Sound (shape_of s) s → GoodRequest (shape_of s) r → Rule1 (shape_of s) plan → (Rule2 (free_units s) r (steps_of plan) → ⊥)
      → checked s r plan ≡ Err (BadPlan 2)
  breaks-2 z h one no-two = lowest-is-bad-plan s r plan 2 z h (record { broken = no-two; lower = lower })
    where
      lower : (i : ℕ) → i < 2 → Rule (known_of s r) r plan i
      lower zero l = tt
      lower (suc zero) l = one
      lower (suc (suc i)) l = absurd (omega arith)

  pub no-room-is-2 : Sound (shape_of s) s → GoodRequest (shape_of s) r → Rule1 (shape_of s) plan → length (free_units s) < need_of r
      → checked s r plan ≡ Err (BadPlan 2)
  no-room-is-2 z h one l = breaks-2 z h one (no-room-breaks-2 (free_units s) r (steps_of plan) l)

  -- "A plan on other free units, accepted until now, gives 11 with rule 2."
  pub other-unit-is-2 : Sound (shape_of s) s → GoodRequest (shape_of s) r → Rule1 (shape_of s) plan → (i u j w : ℕ) → At (steps_of plan) i (Data u j w)
      → (At (free_units s) j u → ⊥)
      → checked s r plan ≡ Err (BadPlan 2)
  other-unit-is-2 z h one i u j w x n = breaks-2 z h one (go r)
    where
      go : (r : Request) → Rule2 (free_units s) r (steps_of plan) → ⊥
      go (Write c size) k = n (k.lowest i u j w x)
      go (Discard c) k = k i u j w x

  module _ (b : Bytes s) (e : checked s r plan ≡ Ok tt) where
    abbrev two : Rule2 (free_units s) r (steps_of plan)
    two = (accepted-is-kept s r plan b e).2 2

    -- What request 6 asks for: piece j of an accepted write goes on the j-th lowest unit that is free.
    pub accepted-on-lowest : (i u j w : ℕ) → At (steps_of plan) i (Data u j w) → At (free_units s) j u
    unfolding free_units
    accepted-on-lowest = on-lowest (free_unit s) (shape_of s).n r (steps_of plan) two

    pub accepted-has-room : need_of r ≤ length (free_units s)
    accepted-has-room = enough-free (free_units s) (steps_of plan) r (accepted-of s r plan e).rules.two

    -- ---- the reserved units

    -- "Units below R are never free": no accepted plan has a DATA step on one, so none of them is ever written to.
    pub spares-reserved : (i u j w : ℕ) → At (steps_of plan) i (Data u j w) → (shape_of s).r ≤ u
    unfolding free_units
    spares-reserved i u j w x = free_unit-unreserved s u (lowest-are-free (free_unit s) (shape_of s).n r (steps_of plan) two i u j w x)
