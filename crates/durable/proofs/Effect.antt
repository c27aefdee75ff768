-- One event: what the invariant of demand 3 is, that the event keeps it, and that every chunk then holds what the ledger's entry for the event says.
use Rattle.std.specs.Prelude.{Some, Result, Ok, Err, ⊤}
use Prim.Native.Nat.{ℕ, ◌≤◌, ◌<◌}
use mathlib.Core.Path.{◌≡◌, refl, sym, ap, ◌∙◌, subst}
use mathlib.Core.Logic.{◌⊎◌, inl, inr, ◌≢◌}
use mathlib.Core.Bool.{Bool, true, false, cond}
use mathlib.Core.List.{List}
use native.Mathlib.Omega.{arith}
use lib.ListN.{length, drop}
use lib.Dec.{eqb}
use borrow.Author.Tests.{eqb-true, eqb-false, ltb-true}
use Rattle.layout.specs.declared.Shape.{Shape}
use Rattle.layout.specs.Layout.{shape_of, trailer_start, trailer_of}
use Rattle.search.proofs.Bools.{contradict, either, cond-true, cond-false}
use Rattle.image.specs.Soundness.{units_of, Sound}
use Rattle.image.specs.Free.{free_units}
use Rattle.image.proofs.Order.{Orderly, orderly, orderly-tested}
use Rattle.image.proofs.Wording.{sound-shape, sound-tested, trailed-sound}
use Rattle.steps.specs.declared.Step.{Step}
use Rattle.steps.specs.Steps.{decode_at, steps_of, whole_steps, chunk_of}
use Rattle.steps.specs.Encodable.{Each}
use Rattle.rules.specs.Rules.{rule1, checked}
use Rattle.rules.proofs.Accepting.{Passed, accepted-of}
use Rattle.rules.proofs.Dealing.{dealt-units}
use Rattle.rules.proofs.Places.{at-below, step-there}
use Rattle.rules.proofs.Wording.{rule1-told}
use Rattle.carry.specs.Carry.{carry_answer}
use Rattle.carry.proofs.AnswerLaws.{answer-accepted, accepted-answer}
use Rattle.durable.specs.Events.{Volume, Event, Outcome, refused, finished, cut, accepted, goes_ahead, lands, complete, settle, link_lands, after, holds, outcome, takes_effect, entry, entered}
use Rattle.durable.specs.LoadsBack.{new_units}
use Rattle.rules.proofs.StepLaws.{InRange, each-in-range}
use Rattle.durable.proofs.Settle.{settle-trailer}
use Rattle.durable.proofs.Requests.{Settled, settled-any}
use Rattle.layout.specs.declared.Refusal.{Refusal}

-- ---- the invariant

-- a sound image of shape g: in order chunk by chunk, and with the trailer's bytes
pub record Intact (g : Shape) (s : List ℕ) : Type 0 where
  pub order : Orderly g s
  pub trailer : drop (trailer_start g) s ≡ trailer_of g

pub sound-intact : (g : Shape) (s : List ℕ) → Sound g s → Intact g s
sound-intact g s z = record {
  order = subst (λ (h : Shape). Orderly h s) (sound-shape g s z) (orderly (sound-tested g s z));
  trailer = z.trailer;
}

pub intact-sound : (g : Shape) (s : List ℕ) → Intact g s → Sound g s
intact-sound g s d =
    let e = d.order.on.shape in
    subst (λ (h : Shape). Sound h s) e
    (trailed-sound s (orderly-tested d.order) (subst (λ (h : Shape). drop (trailer_start h) s ≡ trailer_of h) (sym e) d.trailer))

-- ---- an accepted plan

pub is-accepted : (a : Result ⊤ Refusal) → accepted a ≡ true → a ≡ Ok tt
is-accepted (Ok tt) h = refl
is-accepted (Err x) h = contradict h refl

-- a plan that keeps rule 1 has all its whole steps
all-steps : (g : Shape) (plan : List ℕ) → rule1 g plan ≡ true → (i : ℕ) → i < whole_steps plan → i < length (steps_of plan)
all-steps g plan h i b =
    let w : (j : ℕ) → j < whole_steps plan → (x : Step) × (decode_at plan j ≡ Some x) = λ j l. let s = (rule1-told g plan h).steps j l in (s.0, s.1) in
    let f = w i b in
    at-below (steps_of plan) i f.0 (step-there plan w i f.0 b f.1)

-- ---- what an outcome says

pub cut-ahead : (b : Bool) → cut b ≢ refused
cut-ahead b h = let q : ◌≡◌ {A = ℕ} 0 1 = cc in omega arith

pub finished-ahead : finished ≢ refused
finished-ahead h = let q : ◌≡◌ {A = ℕ} 0 1 = cc in omega arith

cut-open : (b : Bool) → cut b ≢ finished
cut-open b h = let q : ◌≡◌ {A = ℕ} 0 1 = cc in omega arith

of-ahead : (t c b : Bool) → cond t (cond c finished (cut b)) refused ≢ refused → t ≡ true
of-ahead true c b n = refl
of-ahead false c b n = absurd (n refl)

of-refused : (t c b : Bool) → cond t (cond c finished (cut b)) refused ≡ refused → t ≡ false
of-refused true true b h = absurd (finished-ahead h)
of-refused true false b h = absurd (cut-ahead b h)
of-refused false c b h = refl

of-finished : (c b : Bool) → cond c finished (cut b) ≡ finished → c ≡ true
of-finished true b h = refl
of-finished false b h = absurd (cut-open b h)

of-effect : (c b : Bool) → takes_effect (cond c finished (cut b)) ≡ true → (b ≡ true) ⊎ (c ≡ true)
of-effect true b h = inr refl
of-effect false b h = inl h

of-quiet : (c b : Bool) → takes_effect (cond c finished (cut b)) ≡ false → b ≡ false
of-quiet true b h = contradict refl h
of-quiet false b h = h

-- an event that takes effect was not refused
pub effect-ahead : (o : Outcome) → takes_effect o ≡ true → o ≢ refused
effect-ahead o h q = contradict h (ap takes_effect q)

module _ {A : Type 0} (v : Volume A) (e : Event A) where
  pub after-ahead : goes_ahead v.image e ≡ true → after v e ≡ settle e 0 (steps_of e.plan) v
  unfolding after
  after-ahead h = cond-true (goes_ahead v.image e) (settle e 0 (steps_of e.plan) v) v h

  pub after-refused : goes_ahead v.image e ≡ false → after v e ≡ v
  unfolding after
  after-refused h = cond-false (goes_ahead v.image e) (settle e 0 (steps_of e.plan) v) v h

  -- the outcome of an event that goes ahead
  abbrev pub ended : Outcome
  ended = cond (complete e) finished (cut (link_lands e 0 (steps_of e.plan)))

  outcome-ahead : goes_ahead v.image e ≡ true → outcome v.image e ≡ ended
  unfolding outcome
  outcome-ahead h = cond-true (goes_ahead v.image e) ended refused h

  outcome-refused : goes_ahead v.image e ≡ false → outcome v.image e ≡ refused
  unfolding outcome
  outcome-refused h = cond-false (goes_ahead v.image e) ended refused h

  -- an accepted plan with n all its steps is finished
  module _ (a : checked v.image e.request e.plan ≡ Ok tt) (c : complete e ≡ true) where
    whole-ahead : goes_ahead v.image e ≡ true
    unfolding goes_ahead
    whole-ahead =
        let n = eqb-true e.count (whole_steps e.plan) c in
        ap accepted (accepted-answer v.image e.request e.plan e.count a (omega arith))

    pub whole-finished : outcome v.image e ≡ finished
    whole-finished = outcome-ahead whole-ahead ∙ cond-true (complete e) finished (cut (link_lands e 0 (steps_of e.plan))) c

  pub was-ahead : (o : Outcome) → outcome v.image e ≡ o → o ≢ refused → goes_ahead v.image e ≡ true
  unfolding outcome
  was-ahead o h n = of-ahead (goes_ahead v.image e) (complete e) (link_lands e 0 (steps_of e.plan)) (λ q. n (sym h ∙ q))

  pub was-refused : outcome v.image e ≡ refused → goes_ahead v.image e ≡ false
  unfolding outcome
  was-refused h = of-refused (goes_ahead v.image e) (complete e) (link_lands e 0 (steps_of e.plan)) h

-- ---- one event

module _ {A : Type 0} (g : Shape) (v : Volume A) (e : Event A) (d : Intact g v.image) where
  abbrev s : List ℕ
  s = v.image

  abbrev xs : List Step
  xs = steps_of e.plan

  abbrev t : Volume A
  t = settle e 0 xs v

  pub here : Orderly (shape_of v.image) v.image
  here = subst (λ (h : Shape). Orderly h s) (sym d.order.on.shape) d.order

  -- ---- a plan that goes ahead

  module _ (h : goes_ahead s e ≡ true) where
    accepts : (checked s e.request e.plan ≡ Ok tt) × (e.count ≤ whole_steps e.plan)
    unfolding goes_ahead
    accepts = answer-accepted s e.request e.plan e.count (is-accepted (carry_answer s e.request e.plan e.count) h)

    plan : Passed s e.request e.plan
    plan = accepted-of s e.request e.plan accepts.0

    pub chunk_in : chunk_of e.request < g.c
    chunk_in = subst (λ (k : Shape). chunk_of e.request < k.c) d.order.on.shape (ltb-true (chunk_of e.request) (shape_of s).c plan.chunk)

    pub settled : Settled v e here e.request
    settled = settled-any v e here e.request plan

    ahead-intact : Intact g t.image
    ahead-intact = record {
      order = subst (λ (k : Shape). Orderly k t.image) d.order.on.shape settled.orderly;
      trailer =
          settle-trailer e g 0 xs v d.order.on
          (subst (λ (k : Shape). Each (InRange k) xs) d.order.on.shape (each-in-range (shape_of s) e.plan plan.rules.one))
          ∙ d.trailer;
    }

    -- "finished, and all have landed"
    pub landed-whole : outcome s e ≡ finished → (i : ℕ) → i < e.count → lands e i ≡ true
    landed-whole f i b =
        let c : complete e ≡ true = of-finished (complete e) (link_lands e 0 xs) (sym (outcome-ahead v e h) ∙ f) in
        settled.whole c i (all-steps (shape_of s) e.plan plan.rules.one i (omega (arith, accepts.1)))

    -- where it takes effect its chunk stands on the lowest units that were free
    ahead-units : takes_effect (ended v e) ≡ true → units_of t.image (chunk_of e.request) ≡ new_units s e.request
    ahead-units k =
        (settled.own (of-effect (complete e) (link_lands e 0 xs) k)).2 ∙ dealt-units (free_units s) xs e.request plan.rules.two

    -- and where it does not, or for another chunk, the units are as they were
    ahead-still : (i : ℕ) → i < g.c → (chunk_of e.request ≡ i → takes_effect (ended v e) ≡ false) → units_of t.image i ≡ units_of s i
    ahead-still i b n = go (either (eqb i (chunk_of e.request)))
      where
        k : i < (shape_of s).c
        k = subst (λ (q : Shape). i < q.c) (sym d.order.on.shape) b

        go : (eqb i (chunk_of e.request) ≡ true) ⊎ (eqb i (chunk_of e.request) ≡ false) → units_of t.image i ≡ units_of s i
        go (inl q) =
            (settled.still (of-quiet (complete e) (link_lands e 0 xs) (n (sym (eqb-true i (chunk_of e.request) q)))) i k).1
        go (inr q) = (settled.others i k (eqb-false i (chunk_of e.request) q)).2

    ahead-holds : (i : ℕ) → i < g.c → holds t i ≡ entered (holds v) (entry e (ended v e)) i
    ahead-holds i b = go (either (complete e)) (either (link_lands e 0 xs))
      where
        k : i < (shape_of s).c
        k = subst (λ (q : Shape). i < q.c) (sym d.order.on.shape) b

        by : {o : Outcome} → ended v e ≡ o → entered (holds v) (entry e o) i ≡ entered (holds v) (entry e (ended v e)) i
        by q = ap (λ (o : Outcome). entered (holds v) (entry e o) i) (sym q)

        go : (complete e ≡ true) ⊎ (complete e ≡ false) → (link_lands e 0 xs ≡ true) ⊎ (link_lands e 0 xs ≡ false)
            → holds t i ≡ entered (holds v) (entry e (ended v e)) i
        go (inl q) l = settled.new (inr q) i k ∙ by (cond-true (complete e) finished (cut (link_lands e 0 xs)) q)
        go (inr q) (inl l) = settled.new (inl l) i k ∙ by (cond-false (complete e) finished (cut (link_lands e 0 xs)) q ∙ ap cut l)
        go (inr q) (inr l) = settled.old l i k ∙ by (cond-false (complete e) finished (cut (link_lands e 0 xs)) q ∙ ap cut l)

  -- ---- any plan

  pub event-intact : Intact g (after v e).image
  event-intact = go (either (goes_ahead s e))
    where
      go : (goes_ahead s e ≡ true) ⊎ (goes_ahead s e ≡ false) → Intact g (after v e).image
      go (inl h) = subst (λ (w : Volume A). Intact g w.image) (sym (after-ahead v e h)) (ahead-intact h)
      go (inr h) = subst (λ (w : Volume A). Intact g w.image) (sym (after-refused v e h)) d

  pub event-units : takes_effect (outcome s e) ≡ true → units_of (after v e).image (chunk_of e.request) ≡ new_units s e.request
  event-units k =
      let h = was-ahead v e (outcome s e) refl (effect-ahead (outcome s e) k) in
      ap (λ (w : Volume A). units_of w.image (chunk_of e.request)) (after-ahead v e h)
      ∙ ahead-units h (ap takes_effect (sym (outcome-ahead v e h)) ∙ k)

  pub event-still : (i : ℕ) → i < g.c → (chunk_of e.request ≡ i → takes_effect (outcome s e) ≡ false) → units_of (after v e).image i ≡ units_of s i
  event-still i b n = go (either (goes_ahead s e))
    where
      go : (goes_ahead s e ≡ true) ⊎ (goes_ahead s e ≡ false) → units_of (after v e).image i ≡ units_of s i
      go (inl h) =
          ap (λ (w : Volume A). units_of w.image i) (after-ahead v e h)
          ∙ ahead-still h i b (λ q. ap takes_effect (sym (outcome-ahead v e h)) ∙ n q)
      go (inr h) = ap (λ (w : Volume A). units_of w.image i) (after-refused v e h)

  pub event-reserved : (u : ℕ) → u < g.r → (after v e).content u ≡ v.content u
  event-reserved u b = go (either (goes_ahead s e))
    where
      low : u < (shape_of s).r
      low = subst (λ (k : Shape). u < k.r) (sym d.order.on.shape) b

      go : (goes_ahead s e ≡ true) ⊎ (goes_ahead s e ≡ false) → (after v e).content u ≡ v.content u
      go (inl h) = ap (λ (w : Volume A). w.content u) (after-ahead v e h) ∙ (settled h).reserved u low
      go (inr h) = ap (λ (w : Volume A). w.content u) (after-refused v e h)

  pub event-holds : (i : ℕ) → i < g.c → holds (after v e) i ≡ entered (holds v) (entry e (outcome v.image e)) i
  event-holds i b = go (either (goes_ahead s e))
    where
      by : {o : Outcome} → outcome s e ≡ o → entered (holds v) (entry e o) i ≡ entered (holds v) (entry e (outcome s e)) i
      by q = ap (λ (o : Outcome). entered (holds v) (entry e o) i) (sym q)

      go : (goes_ahead s e ≡ true) ⊎ (goes_ahead s e ≡ false) → holds (after v e) i ≡ entered (holds v) (entry e (outcome s e)) i
      go (inl h) = ap (λ (w : Volume A). holds w i) (after-ahead v e h) ∙ ahead-holds h i b ∙ by (outcome-ahead v e h)
      go (inr h) = ap (λ (w : Volume A). holds w i) (after-refused v e h) ∙ by (outcome-refused v e h)
