-- A list of events on a sound volume: demand 3's statement holds, whatever the ledger began with.
use Prim.Native.Nat.{ℕ, ◌<◌}
use mathlib.Core.Path.{◌≡◌, refl, sym, ap, ◌∙◌, subst}
use mathlib.Core.Logic.{◌⊎◌, inl, inr, ◌≢◌}
use mathlib.Core.Bool.{Bool, true, false, cond, ◌&&◌}
use mathlib.Core.List.{List, [], ◌∷◌, ◌++◌}
use lib.Dec.{eqb}
use borrow.Author.Tests.{eqb-true, eqb-false, eq-eqb, ne_eqb}
use Rattle.layout.specs.declared.Shape.{Shape}
use Rattle.search.proofs.Bools.{either, and_intro, and-false-left, and-false-right, cond-true, cond-false}
use Rattle.image.specs.Soundness.{units_of, Sound}
use Rattle.steps.specs.Steps.{chunk_of}
use Rattle.durable.specs.Events.{Volume, Event, Outcome, refused, finished, cut, after, run, holds, new_pieces, outcome, takes_effect, entry, entries, entered, ledger}
use Rattle.durable.specs.Demand.{Untouched, KeptFromSound}
use Rattle.durable.specs.LoadsBack.{StandsOnLowest}
use Rattle.durable.proofs.Effect.{Intact, sound-intact, intact-sound, cut-ahead, finished-ahead, after-refused, effect-ahead, was-ahead, was-refused}
use Rattle.durable.proofs.Effect.{chunk_in, landed-whole, event-intact, event-units, event-still, event-reserved, event-holds}
use Rattle.durable.proofs.Carrying.{as-carry}

module _ {A : Type 0} where
  -- ---- the ledger's entries

  module _ (l : ℕ → List A) (e : Event A) (o : Outcome) where
    -- whether the event changes what chunk i holds
    abbrev changes : ℕ → Bool
    changes i = takes_effect o && eqb i (chunk_of e.request)

    abbrev new : List A
    new = new_pieces e.request e.payload

    pub entered-own : takes_effect o ≡ true → entered l (entry e o) (chunk_of e.request) ≡ new
    entered-own h = let c : ℕ = chunk_of e.request in cond-true (changes c) new (l c) (and_intro (takes_effect o) (eqb c c) h (eq-eqb c c refl))

    entered-other : (i : ℕ) → i ≢ chunk_of e.request → entered l (entry e o) i ≡ l i
    entered-other i n =
        cond-false (changes i) new (l i) (and-false-right (takes_effect o) (eqb i (chunk_of e.request)) (ne_eqb i (chunk_of e.request) n))

    entered-not : (i : ℕ) → takes_effect o ≡ false → entered l (entry e o) i ≡ l i
    entered-not i h = cond-false (changes i) new (l i) (and-false-left (takes_effect o) (eqb i (chunk_of e.request)) h)

    entered-ext : (k : ℕ → List A) (i : ℕ) → l i ≡ k i → entered l (entry e o) i ≡ entered k (entry e o) i
    entered-ext k i h = ap (cond (changes i) new) h

  -- the chunk of a cut plan
  entered-cut : (l : ℕ → List A) (e : Event A) (b : Bool)
      → entered l (entry e (cut b)) (chunk_of e.request) ≡ cond b (new_pieces e.request e.payload) (l (chunk_of e.request))
  entered-cut l e true = entered-own l e (cut true) refl
  entered-cut l e false = refl

  -- ---- lists of events

  run-nil : (v : Volume A) → run v [] ≡ v
  unfolding run
  run-nil v = refl

  run-cons : (v : Volume A) (e : Event A) (es : List (Event A)) → run v (e ∷ es) ≡ run (after v e) es
  unfolding run
  run-cons v e es = refl

  run-append : (v : Volume A) (a b : List (Event A)) → run v (a ++ b) ≡ run (run v a) b
  unfolding run
  run-append v [] b = refl
  run-append v (e ∷ a) b = run-append (after v e) a b

  -- no event of a list took effect on a chunk: neither the first nor one of the others
  untouched-head : (c : ℕ) (v : Volume A) (e : Event A) (es : List (Event A)) → Untouched c v (e ∷ es) → chunk_of e.request ≡ c
      → takes_effect (outcome v.image e) ≡ false
  untouched-head c v e es h q = ap (λ (w : Volume A). takes_effect (outcome w.image e)) (sym (run-nil v)) ∙ h [] es e refl q

  untouched-tail : (c : ℕ) (v : Volume A) (e : Event A) (es : List (Event A)) → Untouched c v (e ∷ es) → Untouched c (after v e) es
  untouched-tail c v e es h past later x p q =
      ap (λ (w : Volume A). takes_effect (outcome w.image x)) (sym (run-cons v e past))
      ∙ h (e ∷ past) later x (ap (λ (l : List (Event A)). e ∷ l) p) q

  module _ (g : Shape) where
    pub run-intact : (v : Volume A) (es : List (Event A)) → Intact g v.image → Intact g (run v es).image
    run-intact v [] d = subst (λ (w : Volume A). Intact g w.image) (sym (run-nil v)) d
    run-intact v (e ∷ es) d =
        subst (λ (w : Volume A). Intact g w.image) (sym (run-cons v e es)) (run-intact (after v e) es (event-intact g v e d))

    run-booked :
        (l : ℕ → List A) (v : Volume A) (es : List (Event A)) → Intact g v.image → ((i : ℕ) → i < g.c → holds v i ≡ l i)
        → (i : ℕ) → i < g.c → holds (run v es) i ≡ ledger l (entries v es) i
    unfolding ledger entries
    run-booked l v [] d h i b = ap (λ (w : Volume A). holds w i) (run-nil v) ∙ h i b
    run-booked l v (e ∷ es) d h i b =
        ap (λ (w : Volume A). holds w i) (run-cons v e es)
        ∙ run-booked (entered l (entry e (outcome v.image e))) (after v e) es (event-intact g v e d)
        (λ j c. event-holds g v e d j c ∙ entered-ext (holds v) e (outcome v.image e) l j (h j c)) i b

    run-reserved : (u : ℕ) → u < g.r → (v : Volume A) (es : List (Event A)) → Intact g v.image → (run v es).content u ≡ v.content u
    run-reserved u b v [] d = ap (λ (w : Volume A). w.content u) (run-nil v)
    run-reserved u b v (e ∷ es) d =
        ap (λ (w : Volume A). w.content u) (run-cons v e es)
        ∙ run-reserved u b (after v e) es (event-intact g v e d)
        ∙ event-reserved g v e d u b

    run-untouched :
        (c : ℕ) → c < g.c → (v : Volume A) (es : List (Event A)) → Intact g v.image → Untouched c v es → holds (run v es) c ≡ holds v c
    run-untouched c b v [] d h = ap (λ (w : Volume A). holds w c) (run-nil v)
    run-untouched c b v (e ∷ es) d h =
        ap (λ (w : Volume A). holds w c) (run-cons v e es)
        ∙ run-untouched c b (after v e) es (event-intact g v e d) (untouched-tail c v e es h)
        ∙ event-holds g v e d c b
        ∙ go (either (eqb c (chunk_of e.request)))
      where
        go : (eqb c (chunk_of e.request) ≡ true) ⊎ (eqb c (chunk_of e.request) ≡ false)
            → entered (holds v) (entry e (outcome v.image e)) c ≡ holds v c
        go (inl q) = entered-not (holds v) e (outcome v.image e) c (untouched-head c v e es h (sym (eqb-true c (chunk_of e.request) q)))
        go (inr q) = entered-other (holds v) e (outcome v.image e) c (eqb-false c (chunk_of e.request) q)

    run-still :
        (c : ℕ) → c < g.c → (v : Volume A) (es : List (Event A)) → Intact g v.image → Untouched c v es
        → units_of (run v es).image c ≡ units_of v.image c
    run-still c b v [] d h = ap (λ (w : Volume A). units_of w.image c) (run-nil v)
    run-still c b v (e ∷ es) d h =
        ap (λ (w : Volume A). units_of w.image c) (run-cons v e es)
        ∙ run-still c b (after v e) es (event-intact g v e d) (untouched-tail c v e es h)
        ∙ event-still g v e d c b (untouched-head c v e es h)

    -- what an event leaves to its own chunk, by its outcome
    pub own-holds :
        (v : Volume A) (e : Event A) → Intact g v.image → (o : Outcome) → outcome v.image e ≡ o → o ≢ refused
        → holds (after v e) (chunk_of e.request) ≡ entered (holds v) (entry e o) (chunk_of e.request)
    own-holds v e d o h n =
        event-holds g v e d (chunk_of e.request) (chunk_in g v e d (was-ahead v e o h n))
        ∙ ap (λ (x : Outcome). entered (holds v) (entry e x) (chunk_of e.request)) h

-- ---- the statement, from any sound volume

pub kept-from-sound : KeptFromSound
kept-from-sound A g start l es z h = record {
  sound = end;
  owners = λ u i j a b n m. (end.units u i j a b n m).0;
  booked = run-booked g l start es d h;
  reserved = λ u b. run-reserved g u b start es d;
  in_flight = λ past later e b p o.
      own-holds g (run start past) e (then past) (cut b) o (cut-ahead b) ∙ entered-cut (holds (run start past)) e b;
  stays = λ past later e p o u.
      let v = run start past in
      let n = effect-ahead (outcome v.image e) o in
      ap (λ (w : Volume A). holds w (chunk_of e.request)) (ap (run start) p ∙ run-append start past (e ∷ later) ∙ run-cons v e later)
      ∙ run-untouched g (chunk_of e.request) (chunk_in g v e (then past) (was-ahead v e (outcome v.image e) refl n)) (after v e) later
      (event-intact g v e (then past)) u
      ∙ own-holds g v e (then past) (outcome v.image e) refl n
      ∙ entered-own (holds v) e (outcome v.image e) o;
  unchanged = λ past later e p o. after-refused (run start past) e (was-refused (run start past) e o);
  landed_whole = λ past later e p o.
      landed-whole g (run start past) e (then past) (was-ahead (run start past) e finished o finished-ahead) o;
  as_carry = λ past later e p f. as-carry e (run start past) f;
}
  where
    d : Intact g start.image
    d = sound-intact g start.image z

    then : (past : List (Event A)) → Intact g (run start past).image
    then past = run-intact g start past d

    end : Sound g (run start es).image
    end = intact-sound g (run start es).image (then es)

-- ---- the units of a chunk, until a later plan takes effect on it

pub units-stay : StandsOnLowest
units-stay A g start past later e z o u =
    let v = run start past in
    let d : Intact g v.image = run-intact g start past (sound-intact g start.image z) in
    let n = effect-ahead (outcome v.image e) o in
    let c = chunk_in g v e d (was-ahead v e (outcome v.image e) refl n) in
    ap (λ (w : Volume A). units_of w.image (chunk_of e.request)) (run-append start past (e ∷ later) ∙ run-cons v e later)
    ∙ run-still g (chunk_of e.request) c (after v e) later (event-intact g v e d) u
    ∙ event-units g v e d o
