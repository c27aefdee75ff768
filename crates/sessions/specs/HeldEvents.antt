-- Demand 3 with a held index: the events of crate durable, where each plan is judged by the index and not by a scan of the image found.
use Rattle.std.specs.Prelude.{ℕ, ◌<◌, ◌≡◌, Bool, true, cond, List, [], ◌∷◌, Ok}
use Rattle.layout.specs.declared.Shape.{Shape}
use Rattle.layout.specs.Format.{format_answer, format_image}
use Rattle.image.specs.Soundness.{Sound}
use Rattle.image.specs.Loading.{loaded}
use Rattle.steps.specs.Steps.{steps_of}
use Rattle.indexed.specs.Admitting.{Index}
use Rattle.indexed.specs.Calls.{Current, carry_answer_by, next_index}
use Rattle.durable.specs.Events.{Volume, Event, accepted, lands, complete, settle, link_lands, holds, after, run, Outcome, refused, finished, cut, Entry, entry, entries}
use Rattle.durable.specs.Demand.{Kept}
use Rattle.sessions.specs.Sessions.{loaded_index}

-- The index after a plan: where it was refused or finished, what the call gave back, for "a refused call gives back the one it took". A plan "with fewer" steps
-- "is cut at point n", and "A crash .. means loading anew": then it is the index of the image found.
abbrev pub held_after : Outcome → Index → Index → Index
held_after refused next anew = next
held_after finished next anew = next
held_after (cut b) next anew = anew

module _ {A : Type 0} where
  -- not "Where checking, or carrying out n steps, is refused": by the index
  unfoldable pub goes_ahead_by : Index → List ℕ → Event A → Bool
  goes_ahead_by ix s e = accepted (carry_answer_by ix s e.request e.plan e.count)

  -- Where it is refused, "both stay"; otherwise the plan's steps leave what they leave.
  unfoldable pub after_by : Index → Volume A → Event A → Volume A
  after_by ix v e = cond (goes_ahead_by ix v.image e) (settle e 0 (steps_of e.plan) v) v

  -- "Otherwise a plan with n all its steps is finished ..; with fewer it is cut at point n"
  unfoldable pub becomes_by : Index → List ℕ → Event A → Outcome
  becomes_by ix s e = cond (goes_ahead_by ix s e) (cond (complete e) finished (cut (link_lands e 0 (steps_of e.plan)))) refused

  -- the index that the caller has for the next event
  unfoldable pub index_by : Index → Volume A → Event A → Index
  index_by ix v e =
      held_after (becomes_by ix v.image e) (next_index ix v.image e.request e.plan e.count) (loaded_index (loaded (after_by ix v e).image))

  -- "Each event gets image and units as the last one left them", and the newest index: the volume after a list of events, the index, and the ledger's entries
  unfoldable pub run_by : Index → Volume A → List (Event A) → Volume A
  run_by ix v [] = v
  run_by ix v (e ∷ es) = run_by (index_by ix v e) (after_by ix v e) es

  unfoldable pub index_run : Index → Volume A → List (Event A) → Index
  index_run ix v [] = ix
  index_run ix v (e ∷ es) = index_run (index_by ix v e) (after_by ix v e) es

  unfoldable pub entries_by : Index → Volume A → List (Event A) → List (Entry A)
  entries_by ix v [] = []
  entries_by ix v (e ∷ es) = entry e (becomes_by ix v.image e) ∷ entries_by (index_by ix v e) (after_by ix v e) es

  -- With the index the events leave the same volume, each plan becomes the same (refused, finished, or cut with its LINK landed or not), and the index is
  -- the one that load answers for the image left. Every beginning of a list is a list too: so this holds after each event.
  pub record SameRun (ix : Index) (start : Volume A) (es : List (Event A)) : Type 0 where
    pub volume : run_by ix start es ≡ run start es
    pub outcomes : entries_by ix start es ≡ entries start es
    pub index : Current (run start es).image (index_run ix start es)

-- from any sound volume with a current index
abbrev pub SameRuns : Type 1
SameRuns =
    (A : Type 0) (g : Shape) (ix : Index) (start : Volume A) (es : List (Event A)) → Sound g start.image → Current start.image ix → SameRun ix start es

-- Where no crash came and all of the first n steps have landed, fewer than the plan has too, the next index will do as well.
abbrev pub NextWillDo : Type 1
NextWillDo =
    (A : Type 0) (g : Shape) (ix : Index) (v : Volume A) (e : Event A) → Sound g v.image → Current v.image ix
    → ((i : ℕ) → i < e.count → lands e i ≡ true)
    → Current (after v e).image (next_index ix v.image e.request e.plan e.count)

-- Demand 3 with the index, from any sound volume, with a ledger that begins with what that volume holds
abbrev pub KeptWithIndex : Type 1
KeptWithIndex =
    (A : Type 0) (g : Shape) (ix : Index) (start : Volume A) (l : ℕ → List A) (es : List (Event A)) → Sound g start.image → Current start.image ix
    → ((i : ℕ) → i < g.c → holds start i ≡ l i)
    → SameRun ix start es × Kept g start l es

-- and "from the image that format writes", once it is loaded: "A crash, format, repair or new N means loading anew"
abbrev pub DemandWithIndex : Type 1
DemandWithIndex =
    (A : Type 0) (g : Shape) (buffer : List ℕ) (content : ℕ → A) (es : List (Event A)) → format_answer g buffer ≡ Ok tt
    → SameRun (loaded_index (loaded (format_image g buffer))) (record { image = format_image g buffer; content = content }) es
    × Kept g (record { image = format_image g buffer; content = content }) (λ i. []) es
