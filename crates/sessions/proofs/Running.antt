-- One event that is judged by a current index, and a list of events.
use Rattle.std.specs.Prelude.{Result, Ok, Err, ⊤}
use Prim.Native.Nat.{ℕ, ◌<◌}
use mathlib.Core.Path.{◌≡◌, refl, sym, ap, ap₂, subst, ◌∙◌}
use mathlib.Core.Bool.{Bool, true, false, cond}
use mathlib.Core.List.{List, [], ◌∷◌}
use Rattle.search.proofs.Bools.{contradict}
use Rattle.layout.specs.declared.Shape.{Shape}
use Rattle.image.specs.Soundness.{Sound}
use Rattle.image.specs.Loading.{loaded}
use Rattle.image.proofs.SoundLaws.{tested-passed}
use Rattle.image.proofs.Wording.{sound-tested}
use Rattle.steps.specs.Steps.{steps_of}
use Rattle.carry.specs.Carry.{carry_answer, left_by, carry_image}
use Rattle.indexed.specs.Admitting.{Index}
use Rattle.indexed.specs.Calls.{Current, next_index}
use Rattle.indexed.proofs.Currents.{same-carry, same-image}
use Rattle.durable.specs.Events.{Volume, Event, accepted, goes_ahead, lands, complete, settle, link_lands, after, run, Outcome, refused, finished, cut, outcome, Entry, entry, entries}
use Rattle.durable.proofs.Carrying.{as-carry}
use Rattle.durable.proofs.Effect.{sound-intact, intact-sound, after-refused, was-ahead, was-refused, finished-ahead, landed-whole, event-intact}
use Rattle.sessions.specs.Sessions.{loaded_index}
use Rattle.sessions.specs.HeldEvents.{held_after, goes_ahead_by, after_by, becomes_by, index_by, run_by, index_run, entries_by, SameRuns}
use Rattle.sessions.proofs.Next.{next-current}
use Rattle.sessions.proofs.Calling.{load-current}
use Rattle.layout.specs.declared.Refusal.{Refusal}

-- a refusal leaves the image
refused-stays : (x : Result ⊤ Refusal) (s plan : List ℕ) (n : ℕ) → accepted x ≡ false → left_by x s plan n ≡ s
refused-stays (Ok tt) s plan n h = contradict refl h
refused-stays (Err y) s plan n h = refl

module _ {A : Type 0} (g : Shape) (ix : Index) (v : Volume A) (e : Event A) (z : Sound g v.image) (c : Current v.image ix) where
  same_ahead : goes_ahead_by ix v.image e ≡ goes_ahead v.image e
  unfolding goes_ahead_by goes_ahead
  same_ahead = ap accepted (same-carry v.image ix c e.request e.plan e.count)

  same_after : after_by ix v e ≡ after v e
  unfolding after_by after
  same_after = ap (λ (b : Bool). cond b (settle e 0 (steps_of e.plan) v) v) same_ahead

  same_outcome : becomes_by ix v.image e ≡ outcome v.image e
  unfolding becomes_by outcome
  same_outcome = ap (λ (b : Bool). cond b (cond (complete e) finished (cut (link_lands e 0 (steps_of e.plan)))) refused) same_ahead

  sound-after : Sound g (after v e).image
  sound-after = intact-sound g (after v e).image (event-intact g v e (sound-intact g v.image z))

  -- ---- the index afterwards

  abbrev next : Index
  next = next_index ix v.image e.request e.plan e.count

  -- where the image is the one that the call leaves
  next-there : carry_image v.image e.request e.plan e.count ≡ (after v e).image → Current (after v e).image next
  next-there q =
      subst (λ (t : List ℕ). Current t next) (same-image v.image ix c e.request e.plan e.count ∙ q)
      (next-current g v.image ix z c e.request e.plan e.count).1

  pub next-landed : ((i : ℕ) → i < e.count → lands e i ≡ true) → Current (after v e).image next
  next-landed h = next-there (sym (as-carry e v h))

  refused-next : goes_ahead v.image e ≡ false → Current (after v e).image next
  unfolding goes_ahead
  refused-next h =
      next-there (refused-stays (carry_answer v.image e.request e.plan e.count) v.image e.plan e.count h
      ∙ ap (λ (w : Volume A). w.image) (sym (after-refused v e h)))

  anew : Current (after v e).image (loaded_index (loaded (after v e).image))
  anew = load-current (after v e).image (tested-passed (after v e).image (sound-tested g (after v e).image sound-after))

  held-current : (o : Outcome) → outcome v.image e ≡ o → Current (after v e).image (held_after o next (loaded_index (loaded (after v e).image)))
  held-current refused q = refused-next (was-refused v e q)
  held-current finished q =
      next-landed (landed-whole g v e (sound-intact g v.image z) (was-ahead v e finished q finished-ahead) q)
  held-current (cut b) q = anew

  current-after : Current (after v e).image (index_by ix v e)
  unfolding index_by
  current-after =
      subst (λ (o : Outcome). Current (after v e).image (held_after o next (loaded_index (loaded (after_by ix v e).image)))) (sym same_outcome)
      (subst (λ (w : Volume A). Current (after v e).image (held_after (outcome v.image e) next (loaded_index (loaded w.image)))) (sym same_after)
      (held-current (outcome v.image e) refl))

-- ---- a list of events

pub same_runs : SameRuns
unfolding run_by index_run entries_by run entries
same_runs A g ix v [] z c = record { volume = refl; outcomes = refl; index = c }
same_runs A g ix v (e ∷ es) z c =
    let w = after v e in
    let jx = index_by ix v e in
    let q = same_after g ix v e z c in
    let later = same_runs A g jx w es (sound-after g ix v e z c) (current-after g ix v e z c) in
    record {
      volume = ap (λ (x : Volume A). run_by jx x es) q ∙ later.volume;
      outcomes = ap₂ (λ (o : Outcome) (ns : List (Entry A)). entry e o ∷ ns) (same_outcome g ix v e z c)
          (ap (λ (x : Volume A). entries_by jx x es) q ∙ later.outcomes);
      index = subst (λ (x : Volume A). Current (run w es).image (index_run jx x es)) (sym q) later.index;
    }
