-- Two images that agree on trailer, and on one chunk's entry and map: a call on that chunk with any one index says, stores and gives back the same.
use Rattle.std.specs.Prelude.{Option, Some, None, Result, Ok, Err, ⊤}
use Prim.Native.Nat.{ℕ, zero, suc, ◌+◌, ◌-◌, ◌≤◌, ◌<◌}
use native.Mathlib.Omega.{arith}
use mathlib.Core.Path.{◌≡◌, refl, sym, ap, subst, ◌∙◌}
use mathlib.Core.Logic.{inl, inr, ⊎_elim}
use mathlib.Core.Bool.{Bool, true, false, not, ◌&&◌, ◌||◌, cond}
use mathlib.Core.List.{List, [], ◌∷◌, ◌++◌}
use lib.ListN.{length, get_or, take, drop}
use lib.Seq.{get_or-drop}
use lib.Dec.{eqb, ltb}
use borrow.Author.Tests.{eqb-true, eqb-false, ltb-true, ltb-false}
use Rattle.search.proofs.Bools.{contradict, either, less-or-not, and-false-left}
use Rattle.search.proofs.Mapping.{map-below-ext}
use Rattle.bitset.specs.Bits.{in_set}
use Rattle.layout.specs.declared.Shape.{Shape}
use Rattle.layout.specs.declared.Refusal.{Refusal}
use Rattle.layout.specs.declared.Refusal.TheVariants.{BadLink, Range, Size, BadPlan}
use Rattle.layout.specs.Layout.{X, is_unit, unit_words, map_words, edition_of, trailer_at, shape_of, word_at, link_of, words_of, map_word_place}
use Rattle.layout.specs.Shaped.{Limits, On}
use Rattle.layout.proofs.Limits.{map-words, maps-few}
use Rattle.layout.proofs.Place.{Alike, alike-outcome, on-limits, place-past}
use Rattle.image.specs.Soundness.{leading, mapped}
use Rattle.image.specs.Verdicts.{good_link, after_trailer}
use Rattle.image.specs.Answers.{if_sound}
use Rattle.image.proofs.Chunks.{get_or-words_of}
use Rattle.steps.specs.declared.Step.{Step}
use Rattle.steps.specs.declared.Step.TheVariants.{Data, Map, Link, Fence}
use Rattle.steps.specs.declared.Request.{Request}
use Rattle.steps.specs.declared.Request.TheVariants.{Write, Discard}
use Rattle.steps.specs.Steps.{whole_steps, decode_at, steps_of, word_of, chunk_of, good_chunk, good_size}
use Rattle.steps.specs.Encodable.{Each}
use Rattle.rules.specs.Rules.{Known, known, in_range, broken_rule, broken, judged}
use Rattle.rules.specs.Reading.{At, Rule1, Rule3, Rule4, Rule5, OneLink, KeepsAll}
use Rattle.rules.proofs.StepLaws.{InRange, each-in-range}
use Rattle.rules.proofs.Places.{at_one, step-there}
use Rattle.rules.proofs.Accepting.{no-denial, judged-rule1}
use Rattle.rules.proofs.Lowest.{unbroken-kept}
use Rattle.planner.specs.Planner.{plan_of, plan_in, written, out_in}
use Rattle.carry.specs.Carry.{carry, carry_all, carried, says_link, link_within, carry_in, left_by}
use Rattle.carry.proofs.CarryLaws.{on-carry, carry-miss, carried-word, carried-link, each_take, all-on}
use Rattle.carry.proofs.Linked.{link-place}
use Rattle.indexed.specs.Admitting.{Index, matched, trailer_by, enough, bad_entry, entry_verdict, chunk_verdict_by, outcome_by}
use Rattle.renewal.specs.Renewal.{set_words, units_in, maps_in, held_by, put_in, taken_out, renewed_maps, renewed_sets}
use Rattle.indexed.specs.Calls.{index_of, chunk_refuses_by, known_in, plan_answer_by, plan_out_by, checked_by, carry_answer_by, carry_image_by, sets_left, next_index}
use Rattle.indexed.specs.Promises.{AlikeAt, StoredAlike, Local}
use Rattle.indexed.proofs.Admitting.{trailer-fits, admitted-chunk}
use Rattle.renewal.proofs.NextSets.{held-map, held_none}

-- ---- the words that steps in range store, on two images of one shape

module _ (g : Shape) (q : ℕ) where
  one-after-other : (s t s₁ t₁ s₂ t₂ : List ℕ) → StoredAlike s t s₁ t₁ q → StoredAlike s₁ t₁ s₂ t₂ q → StoredAlike s t s₂ t₂ q
  one-after-other s t s₁ t₁ s₂ t₂ a (inl e) = inl e
  one-after-other s t s₁ t₁ s₂ t₂ (inl e) (inr k) = inl (k.0 ∙ e ∙ sym k.1)
  one-after-other s t s₁ t₁ s₂ t₂ (inr h) (inr k) = inr (k.0 ∙ h.0, k.1 ∙ h.1)

  one-step : (s t : List ℕ) → On g s → On g t → (x : Step) → in_range g x ≡ true → StoredAlike s t (carry s x) (carry t x) q
  one-step s t o p (Data u j w) h = inr (refl, refl)
  one-step s t o p (Map k j v) h =
      ⊎_elim
      (λ e. inl (subst (λ (b : ℕ). word_at (carry t (Map k j v)) b ≡ word_at (carry s (Map k j v)) b) (eqb-true (map_word_place g k j) q e)
      (carried-word g t p k j v h ∙ sym (carried-word g s o k j v h))))
      (λ e. let apart = eqb-false (map_word_place g k j) q e in inr (carry-miss g t p (Map k j v) q apart, carry-miss g s o (Map k j v) q apart))
      (either (eqb (map_word_place g k j) q))
  one-step s t o p (Link i v) h =
      ⊎_elim
      (λ e. inl (subst (λ (b : ℕ). word_at (carry t (Link i v)) b ≡ word_at (carry s (Link i v)) b) (eqb-true i q e)
      (carried-link g t p i v h ∙ sym (carried-link g s o i v h))))
      (λ e. let apart = eqb-false i q e in inr (carry-miss g t p (Link i v) q apart, carry-miss g s o (Link i v) q apart))
      (either (eqb i q))
  one-step s t o p Fence h = inr (refl, refl)

  all-steps : (s t : List ℕ) (xs : List Step) → On g s → On g t → Each (InRange g) xs → StoredAlike s t (carry_all s xs) (carry_all t xs) q
  unfolding carry_all
  all-steps s t [] o p r = inr (refl, refl)
  all-steps s t (x ∷ xs) o p r =
      one-after-other s t (carry s x) (carry t x) (carry_all (carry s x) xs) (carry_all (carry t x) xs) (one-step s t o p x r.0)
      (all-steps (carry s x) (carry t x) xs (on-carry g s o x r.0) (on-carry g t p x r.0) r.1)

  -- a word in which they agreed
  agreed : (s t s₁ t₁ : List ℕ) → StoredAlike s t s₁ t₁ q → word_at t q ≡ word_at s q → word_at t₁ q ≡ word_at s₁ q
  agreed s t s₁ t₁ (inl e) h = e
  agreed s t s₁ t₁ (inr k) h = k.0 ∙ h ∙ sym k.1

-- a word of a map that one of the steps stores
map-stored : (g : Shape) (k j : ℕ) (v : Option ℕ) (s t : List ℕ) (xs : List Step) → On g s → On g t → Each (InRange g) xs → (i : ℕ) → At xs i (Map k j v)
    → word_at (carry_all t xs) (map_word_place g k j) ≡ word_at (carry_all s xs) (map_word_place g k j)
unfolding carry_all
map-stored g k j v s t [] o p r i h = absurd h
map-stored g k j v s t (x ∷ xs) o p r zero h =
    let q = map_word_place g k j in
    let in-range : in_range g (Map k j v) ≡ true = subst (InRange g) h r.0 in
    let now : word_at (carry t x) q ≡ word_at (carry s x) q =
    subst (λ (y : Step). word_at (carry t y) q ≡ word_at (carry s y) q) (sym h) (carried-word g t p k j v in-range ∙ sym (carried-word g s o k j v in-range)) in
    agreed g q (carry s x) (carry t x) (carry_all (carry s x) xs) (carry_all (carry t x) xs)
    (all-steps g q (carry s x) (carry t x) xs (on-carry g s o x r.0) (on-carry g t p x r.0) r.1) now
map-stored g k j v s t (x ∷ xs) o p r (suc i) h =
    map-stored g k j v (carry s x) (carry t x) xs (on-carry g s o x r.0) (on-carry g t p x r.0) r.1 i h

-- ---- the entry of chunk c, where every LINK stores w

module _ (g : Shape) (c w : ℕ) (b : c < g.c) where
  abbrev AllLinks : List Step → Type 0
  AllLinks xs = (i a : ℕ) (v : Option ℕ) → At xs i (Link a v) → word_of v ≡ w

  entry_kept : (s : List ℕ) (xs : List Step) → On g s → Each (InRange g) xs → AllLinks xs → link_of s c ≡ w → link_of (carry_all s xs) c ≡ w
  unfolding carry_all
  entry_kept s [] o r l e = e
  entry_kept s (x ∷ xs) o r l e = entry_kept (carry s x) xs (on-carry g s o x r.0) r.1 (λ i a v h. l (suc i) a v h) (step x r.0 (λ a v h. l 0 a v h))
    where
      step : (x : Step) → in_range g x ≡ true → ((a : ℕ) (v : Option ℕ) → x ≡ Link a v → word_of v ≡ w) → link_of (carry s x) c ≡ w
      step (Data u j wr) h k = e
      step (Map m j v) h k = carry-miss g s o (Map m j v) c (λ q. place-past g m j c b (sym q)) ∙ e
      step (Link i v) h k =
          ⊎_elim
          (λ q. ap (word_at (carry s (Link i v))) (sym (eqb-true i c q)) ∙ carried-link g s o i v h ∙ k i v refl)
          (λ q. carry-miss g s o (Link i v) c (eqb-false i c q) ∙ e)
          (either (eqb i c))
      step Fence h k = e

  entry_set : (v : Option ℕ) (s : List ℕ) (xs : List Step) → On g s → Each (InRange g) xs → AllLinks xs → (i : ℕ) → At xs i (Link c v)
      → link_of (carry_all s xs) c ≡ w
  unfolding carry_all
  entry_set v s [] o r l i h = absurd h
  entry_set v s (x ∷ xs) o r l zero h =
      let in-range : in_range g (Link c v) ≡ true = subst (InRange g) h r.0 in
      entry_kept (carry s x) xs (on-carry g s o x r.0) r.1 (λ i a v h. l (suc i) a v h)
      (ap (λ (y : Step). link_of (carry s y) c) h ∙ carried-link g s o c v in-range ∙ l 0 c v h)
  entry_set v s (x ∷ xs) o r l (suc i) h =
      entry_set v (carry s x) xs (on-carry g s o x r.0) r.1 (λ i a v h. l (suc i) a v h) i h

-- ---- places among the first n steps

at_take : {A : Type 0} (n : ℕ) (xs : List A) (i : ℕ) (x : A) → i < n → At xs i x → At (take n xs) i x
at_take zero xs i x l h = absurd (omega arith)
at_take (suc n) [] i x l h = h
at_take (suc n) (y ∷ xs) zero x l h = h
at_take (suc n) (y ∷ xs) (suc i) x l h = at_take n xs i x (omega arith) h

at-whole : {A : Type 0} (n : ℕ) (xs : List A) (i : ℕ) (x : A) → At (take n xs) i x → At xs i x
at-whole zero xs i x h = absurd h
at-whole (suc n) [] i x h = h
at-whole (suc n) (y ∷ xs) zero x h = h
at-whole (suc n) (y ∷ xs) (suc i) x h = at-whole n xs i x h

-- ---- a plan with a LINK among its first n steps

says-link : (d : Option Step) → says_link d ≡ true → (a : ℕ) × (v : Option ℕ) × (d ≡ Some (Link a v))
says-link (Some (Data u j w)) h = contradict h refl
says-link (Some (Map k j v)) h = contradict h refl
says-link (Some (Link a v)) h = (a, v, refl)
says-link (Some Fence) h = contradict h refl
says-link None h = contradict h refl

-- all words of map k are stored before step n
abbrev AllStored : Shape → ℕ → ℕ → List Step → Type 0
AllStored g k n xs = (j : ℕ) → j < map_words g → (i : ℕ) × (v : Option ℕ) × (i < n) × At xs i (Map k j v)

-- It stores `value` in chunk c's entry; if that is the number of a map, all words of the map are stored too.
record Relinks (g : Shape) (c n : ℕ) (xs : List Step) : Type 0 where
  value : Option ℕ
  place : ℕ
  low : place < n
  there : At xs place (Link c value)
  alone : (i a : ℕ) (v : Option ℕ) → At xs i (Link a v) → word_of v ≡ word_of value
  words : word_of value < g.m → AllStored g (word_of value) n xs

module _ (kn : Known) (limits : Limits kn.shape) (r : Request) (plan : List ℕ) (n : ℕ) (high : n ≤ whole_steps plan) (l : link_within plan n ≡ true) where
  abbrev xs : List Step
  xs = steps_of plan

  module _ (k : KeepsAll kn r plan) where
    one : Rule1 kn.shape plan
    one = k 1

    link-there : (i : ℕ) × (i < n) × (a : ℕ) × (v : Option ℕ) × At xs i (Link a v)
    link-there =
        let p = link-place plan n l in
        let low : p.0 < n = p.1 in
        let d = says-link (decode_at plan p.0) p.2 in
        (p.0, p.1, d.0, d.1, step-there plan (λ i b. let s = one.steps i b in (s.0, s.1)) p.0 (Link d.0 d.1) (omega arith) d.2)

    -- the only LINK is the one among the first n steps
    first-link : (c : ℕ) → OneLink c xs → (word_of link-there.3 < kn.shape.m → AllStored kn.shape (word_of link-there.3) n xs)
        → Relinks kn.shape c n xs
    first-link c o w =
        let p = link-there in
        let q = o.there in
        let same : q.0 ≡ p.0 = o.alone q.0 p.0 c p.2 q.1 p.3 q.2 p.4 in
        let here : At xs p.0 (Link c q.1) = subst (λ (i : ℕ). At xs i (Link c q.1)) same q.2 in
        let step : Link c q.1 ≡ Link p.2 p.3 = at_one xs p.0 (Link c q.1) (Link p.2 p.3) here p.4 in
        let chunk : p.2 ≡ c = cc in
        record {
          value = p.3;
          place = p.0;
          low = p.1;
          there = subst (λ (a : ℕ). At xs p.0 (Link a p.3)) chunk p.4;
          alone = λ i a v h.
              let e : i ≡ p.0 = o.alone i p.0 a p.2 v p.3 h p.4 in
              value_of v p.3 a p.2 (at_one xs p.0 (Link a v) (Link p.2 p.3) (subst (λ (m : ℕ). At xs m (Link a v)) e h) p.4);
          words = w;
        }
      where
        value_of : (v w : Option ℕ) (a b : ℕ) → Link a v ≡ Link b w → word_of v ≡ word_of w
        value_of v w a b e = let q : v ≡ w = cc in ap word_of q

    relinks : (r : Request) → Rule3 kn.shape kn.map_free r xs → (m : Bool) → Rule4 r m xs → Rule5 r m xs → Relinks kn.shape (chunk_of r) n xs
    relinks (Write c size) three m four five =
        let p = link-there in
        first-link c four.0 (λ low j b.
        let w = three.each j b in
        let e : word_of p.3 ≡ w.1 = four.1 p.0 w.0 p.2 w.1 j p.3 w.2 p.4 w.3 in
        let before : w.0 < p.0 = five.before w.0 p.0 p.2 p.3 (Map w.1 j w.2) p.4 w.3 tt in
        let early : p.0 < n = p.1 in
        (w.0, w.2, omega arith, subst (λ (a : ℕ). At xs w.0 (Map a j w.2)) (sym e) w.3))
    relinks (Discard c) three true four five =
        let p = link-there in
        first-link c four.0 (λ low j b.
        let e : word_of p.3 ≡ X = four.1 p.0 p.2 p.3 p.4 in
        absurd (omega (arith, maps-few kn.shape limits)))
    relinks (Discard c) three false four five = let p = link-there in absurd (four p.0 p.2 p.3 p.4)

-- ---- what an acceptance by an index says

accepted-parts : (v : Result ⊤ Refusal) (b : Bool) (x : Result ⊤ Refusal) → if_sound v Err (cond b (Err Range) x) ≡ Ok tt → (v ≡ Ok tt) × (b ≡ false) × (x ≡ Ok tt)
accepted-parts (Ok tt) false x e = (refl, refl, e)
accepted-parts (Ok tt) true x e = no-denial Range e
accepted-parts (Err y) b x e = no-denial y e

judged-parts : (kn : Known) (r : Request) (plan : List ℕ) → judged kn r plan ≡ Ok tt → (good_chunk kn.shape r ≡ true) × (broken_rule kn r plan ≡ 0)
unfolding judged
judged-parts kn r plan e = at (good_chunk kn.shape r) (good_size kn.shape r) (broken_rule kn r plan) e
  where
    at : (a b : Bool) (n : ℕ) → cond a (cond b (broken n) (Err Size)) (Err Range) ≡ Ok tt → (a ≡ true) × (n ≡ 0)
    at true true zero e = (refl, refl)
    at true true (suc n) e = no-denial (BadPlan (suc n)) e
    at true false n e = no-denial Size e
    at false b n e = no-denial Range e

record Taken (ix : Index) (s : List ℕ) (r : Request) (plan : List ℕ) (n : ℕ) : Type 0 where
  on : On ix.shape s
  chunk : chunk_of r < ix.shape.c
  steps : Each (InRange ix.shape) (take n (steps_of plan))
  high : n ≤ whole_steps plan
  rules : KeepsAll (known_in ix s r) r plan

taken : (ix : Index) (s : List ℕ) (r : Request) (plan : List ℕ) (n : ℕ) → carry_answer_by ix s r plan n ≡ Ok tt → Taken ix s r plan n
unfolding carry_in
taken ix s r plan n e =
    let h = ix.shape in
    let kn = known_in ix s r in
    let words = length ix.sets in
    let parts = accepted-parts (chunk_refuses_by ix s (chunk_of r)) (ltb (whole_steps plan) n) (judged kn r plan) e in
    let on = (admitted-chunk h h words s (chunk_of r) (sym (ap (outcome_by h) parts.0))).on in
    let lim = on-limits on in
    let good = judged-parts kn r plan parts.2 in
    record {
      on = on;
      chunk = ltb-true (chunk_of r) h.c good.0;
      steps = each_take (InRange h) n (steps_of plan) (each-in-range h plan (judged-rule1 kn r plan parts.2));
      high = ltb-false (whole_steps plan) n parts.1;
      rules = unbroken-kept kn r plan (omega (arith, lim.p-low, map-words h)) good.1;
    }

-- ---- the units of one map, in two images of one shape that agree on its words

held-alike : (g : Shape) (s t : List ℕ) (k : ℕ) → On g s → On g t
    → (k < g.m → (j : ℕ) → j < map_words g → word_at t (map_word_place g k j) ≡ word_at s (map_word_place g k j))
    → held_by t k ≡ held_by s k
unfolding words_of
held-alike g s t k o p e =
    ⊎_elim
    (λ b. held-map t k (here t p b) ∙ ap (λ (h : Shape). leading (is_unit h) (unit_words h (words_of h t k))) p.shape
    ∙ ap (λ (ws : List ℕ). leading (is_unit g) (unit_words g ws))
    (map-below-ext (λ j. word_at t (map_word_place g k j)) (λ j. word_at s (map_word_place g k j)) (map_words g) (e b))
    ∙ ap (λ (h : Shape). leading (is_unit h) (unit_words h (words_of h s k))) (sym o.shape)
    ∙ sym (held-map s k (here s o b)))
    (λ b. held_none t k (past t p b) ∙ sym (held_none s k (past s o b)))
    (less-or-not k g.m)
  where
    here : (x : List ℕ) → On g x → k < g.m → k < (shape_of x).m
    here x q b = subst (λ (h : Shape). k < h.m) (sym q.shape) b

    past : (x : List ℕ) → On g x → g.m ≤ k → (shape_of x).m ≤ k
    past x q b = subst (λ (h : Shape). h.m ≤ k) (sym q.shape) b

-- ---- a call on one chunk

module _ (ix : Index) (s t : List ℕ) (r : Request) (a : AlikeAt (chunk_of r) s t) where
  abbrev c : ℕ
  c = chunk_of r

  abbrev h : Shape
  h = ix.shape

  alike : Alike s t
  alike = record {
    size = a.size;
    tail = λ i p.
        let n = trailer_at (edition_of s) s in
        let e : n + (i - n) ≡ i = omega arith in
        ap (λ (k : ℕ). get_or t k 0) (sym e) ∙ sym (get_or-drop n t (i - n) 0) ∙ ap (λ (l : List ℕ). get_or l (i - n) 0) a.trailer ∙ get_or-drop n s (i - n) 0
        ∙ ap (λ (k : ℕ). get_or s k 0) e;
  }

  same-trailer : trailer_by h t ≡ trailer_by h s
  unfolding trailer_by
  same-trailer = ap (matched h) (alike-outcome s t alike)

  -- where the trailer passes and says the index's shape
  module _ (o : On h s) (p : On h t) where
    same-entry : c < h.c → link_of t c ≡ link_of s c
    same-entry b = a.entry (subst (λ (g : Shape). c < g.c) (sym o.shape) b)

    same_asked : (ltb c h.c && mapped t c) ≡ (ltb c h.c && mapped s c)
    same_asked =
        ⊎_elim (λ b. ap (λ (k : ℕ). ltb c h.c && not (eqb k X)) (same-entry (ltb-true c h.c b)))
        (λ b. and-false-left (ltb c h.c) (mapped t c) b ∙ sym (and-false-left (ltb c h.c) (mapped s c) b))
        (either (ltb c h.c))

    same-bad : bad_entry h t c ≡ bad_entry h s c
    unfolding bad_entry
    same-bad =
        ⊎_elim
        (λ b.
        let e : link_of t c ≡ link_of s c = same-entry (ltb-true c h.c b) in
        let g : shape_of t ≡ shape_of s = p.shape ∙ sym o.shape in
        λ i. ltb c h.c && not (not (not (eqb (e i) X)) || ltb (e i) (g i).m))
        (λ b. and-false-left (ltb c h.c) (not (good_link t c)) b ∙ sym (and-false-left (ltb c h.c) (not (good_link s c)) b))
        (either (ltb c h.c))

  -- whatever is asked once the call is admitted, knowing no more of the image than whether the chunk is mapped
  module _ {A : Type 0} (refuse : Refusal → A) (f : Bool → A) where
    abbrev answer : List ℕ → A
    answer x = if_sound (chunk_refuses_by ix x c) refuse (f (ltb c h.c && mapped x c))

    same_answer : answer t ≡ answer s
    unfolding chunk_verdict_by
    same_answer = go (trailer_by h s) refl
      where
        go : (w : Result Shape Refusal) → trailer_by h s ≡ w → answer t ≡ answer s
        go (Ok g) e =
            let k = trailer-fits h g s e in
            let l = trailer-fits h g t (same-trailer ∙ e) in
            let o : On h s = subst (λ (x : Shape). On x s) k.1 k.0 in
            let p : On h t = subst (λ (x : Shape). On x t) l.1 l.0 in
            λ i.
            if_sound (after_trailer (same-trailer i) (cond (same-bad o p i) (Err (BadLink c)) (enough (length ix.sets)))) refuse (f (same_asked o p i))
        go (Err x) e =
            let v : List ℕ → Result ⊤ Refusal = λ y. entry_verdict h (length ix.sets) y c in
            ap (λ (w : Result Shape Refusal). if_sound (after_trailer w (v t)) refuse (f (ltb c h.c && mapped t c))) (same-trailer ∙ e)
            ∙ ap (λ (w : Result Shape Refusal). if_sound (after_trailer w (v s)) refuse (f (ltb c h.c && mapped s c))) (sym e)

  -- what is known by the index, where the chunk is mapped or not
  abbrev by : Bool → Known
  by m = known h (in_set (units_in ix.sets)) (in_set (maps_in ix.sets)) m

  same-plans : (room : ℕ) → plan_answer_by ix t r room ≡ plan_answer_by ix s r room
  same-plans room = same_answer Err (λ m. plan_in (by m) r room)

  -- a refusal leaves the output, whatever would be planned
  out-by : (v : Result ⊤ Refusal) (kn : Known) (out : List ℕ)
      → written (if_sound v Err (plan_in kn r (length out))) (plan_of kn r) out ≡ if_sound v (λ x. out) (out_in kn r out)
  out-by (Ok tt) kn out = refl
  out-by (Err x) kn out = refl

  same-output : (out : List ℕ) → plan_out_by ix t r out ≡ plan_out_by ix s r out
  same-output out =
      out-by (chunk_refuses_by ix t c) (known_in ix t r) out ∙ same_answer (λ x. out) (λ m. out_in (by m) r out)
      ∙ sym (out-by (chunk_refuses_by ix s c) (known_in ix s r) out)

  module _ (plan : List ℕ) where
    same-checks : checked_by ix t r plan ≡ checked_by ix s r plan
    same-checks = same_answer Err (λ m. judged (by m) r plan)

    module _ (n : ℕ) where
      same-carries : carry_answer_by ix t r plan n ≡ carry_answer_by ix s r plan n
      same-carries = same_answer Err (λ m. carry_in (by m) r plan n)

      -- ---- carried out

      module _ (e : carry_answer_by ix s r plan n ≡ Ok tt) where
        of-s : Taken ix s r plan n
        of-s = taken ix s r plan n e

        of-t : Taken ix t r plan n
        of-t = taken ix t r plan n (same-carries ∙ e)

        abbrev ys : List Step
        ys = take n (steps_of plan)

        words-alike : (q : ℕ) → StoredAlike s t (carry_all s ys) (carry_all t ys) q
        words-alike q = all-steps h q s t ys of-s.on of-t.on of-s.steps

        entry-before : link_of t c ≡ link_of s c
        entry-before = same-entry of-s.on of-t.on of-s.chunk

        entry-after : link_of (carry_all t ys) c ≡ link_of (carry_all s ys) c
        entry-after = agreed h c s t (carry_all s ys) (carry_all t ys) (words-alike c) entry-before

        on-s : On h (carry_all s ys)
        on-s = all-on h s ys of-s.on of-s.steps

        on-t : On h (carry_all t ys)
        on-t = all-on h t ys of-t.on of-t.steps

        -- the map that the chunk had: they agreed on it
        old-alike : held_by (carry_all t ys) (link_of s c) ≡ held_by (carry_all s ys) (link_of s c)
        old-alike =
            held-alike h (carry_all s ys) (carry_all t ys) (link_of s c) on-s on-t (λ low j b.
            let k = link_of s c in
            let q = map_word_place h k j in
            let g = of-s.on.shape in
            let map : words_of h t k ≡ words_of h s k =
            subst (λ (x : Shape). words_of x t k ≡ words_of x s k) g
            (a.map (subst (λ (x : Shape). c < x.c) (sym g) of-s.chunk) (subst (λ (x : Shape). k < x.m) (sym g) low)) in
            agreed h q s t (carry_all s ys) (carry_all t ys) (words-alike q)
            (sym (get_or-words_of h t k j b) ∙ ap (λ (ws : List ℕ). get_or ws j 0) map ∙ get_or-words_of h s k j b))

        -- the map that it has now: all its words were stored
        module _ (l : link_within plan n ≡ true) where
          relinked : Relinks h c n (steps_of plan)
          relinked =
              let k = of-s.rules in
              relinks (known_in ix s r) (on-limits of-s.on) r plan n of-s.high l k r (k 3) (known_in ix s r).chunk_mapped (k 4) (k 5)

          new-entry : link_of (carry_all s ys) c ≡ word_of relinked.value
          new-entry =
              let z = relinked in
              entry_set h c (word_of z.value) of-s.chunk z.value s ys of-s.on of-s.steps
              (λ i b v k. z.alone i b v (at-whole n (steps_of plan) i (Link b v) k)) z.place
              (at_take n (steps_of plan) z.place (Link c z.value) z.low z.there)

          new-alike : held_by (carry_all t ys) (link_of (carry_all s ys) c) ≡ held_by (carry_all s ys) (link_of (carry_all s ys) c)
          new-alike =
              subst (λ (k : ℕ). held_by (carry_all t ys) k ≡ held_by (carry_all s ys) k) (sym new-entry)
              (held-alike h (carry_all s ys) (carry_all t ys) (word_of relinked.value) on-s on-t (λ low j b.
              let w = relinked.words low j b in
              let k = word_of relinked.value in
              map-stored h k j w.1 s t ys of-s.on of-t.on of-s.steps w.0 (at_take n (steps_of plan) w.0 (Map k j w.1) w.2 w.3)))

          sets-alike :
              renewed_sets ix.sets (carry_all t ys) (link_of t c) (link_of (carry_all t ys) c)
              ≡ renewed_sets ix.sets (carry_all s ys) (link_of s c) (link_of (carry_all s ys) c)
          unfolding renewed_sets
          sets-alike =
              let old : held_by (carry_all t ys) (link_of t c) ≡ held_by (carry_all s ys) (link_of s c) = ap (held_by (carry_all t ys)) entry-before ∙ old-alike in
              let new : held_by (carry_all t ys) (link_of (carry_all t ys) c) ≡ held_by (carry_all s ys) (link_of (carry_all s ys) c) =
              ap (held_by (carry_all t ys)) entry-after ∙ new-alike in
              λ i.
              taken_out (put_in (units_in ix.sets) (old i)) (new i)
              ++ (renewed_maps (maps_in ix.sets) (entry-before i) (entry-after i) ++ drop set_words ix.sets)

      -- ---- refused or accepted

      same-stored : (q : ℕ) → StoredAlike s t (carry_image_by ix s r plan n) (carry_image_by ix t r plan n) q
      unfolding carried
      same-stored q =
          subst (λ (x : Result ⊤ Refusal). StoredAlike s t (carry_image_by ix s r plan n) (left_by x t plan n) q) (sym same-carries) (at (carry_answer_by ix s r plan n) refl)
        where
          at : (x : Result ⊤ Refusal) → carry_answer_by ix s r plan n ≡ x → StoredAlike s t (left_by x s plan n) (left_by x t plan n) q
          at (Ok tt) e = words-alike e q
          at (Err x) e = inr (refl, refl)

      -- the sets that an answer leaves
      abbrev left : List ℕ → Result ⊤ Refusal → List ℕ
      left u x = sets_left x ix.sets u r plan n

      same-sets : left t (carry_answer_by ix t r plan n) ≡ left s (carry_answer_by ix s r plan n)
      unfolding carried
      same-sets = ap (left t) same-carries ∙ at (carry_answer_by ix s r plan n) refl
        where
          linked : carry_answer_by ix s r plan n ≡ Ok tt → (b : Bool) → link_within plan n ≡ b
              → cond b (renewed_sets ix.sets (carried t plan n) (link_of t c) (link_of (carried t plan n) c)) ix.sets
              ≡ cond b (renewed_sets ix.sets (carried s plan n) (link_of s c) (link_of (carried s plan n) c)) ix.sets
          linked e true l = sets-alike e l
          linked e false l = refl

          at : (x : Result ⊤ Refusal) → carry_answer_by ix s r plan n ≡ x → left t x ≡ left s x
          at (Ok tt) e = linked e (link_within plan n) refl
          at (Err x) e = refl

      same_next : next_index ix t r plan n ≡ next_index ix s r plan n
      same_next = ap (index_of ix.shape) same-sets

pub local-calls : Local
local-calls ix s t r a = record {
  plans = same-plans ix s t r a;
  output = same-output ix s t r a;
  checks = same-checks ix s t r a;
  carries = same-carries ix s t r a;
  stored = same-stored ix s t r a;
  index = same_next ix s t r a;
}
