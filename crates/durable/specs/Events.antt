-- Events on a volume, what each of them leaves, and the ledger: document 01's paragraphs on cuts and on demand 3's list, sentence by sentence.
use Rattle.std.specs.Prelude.{ℕ, suc, Bool, true, false, ◌&&◌, ◌||◌, cond, List, [], ◌∷◌, map, take, eqb, ltb, Result, Ok, Err, ⊤}
use Rattle.search.specs.Search.{below}
use Rattle.image.specs.Soundness.{units_of}
use Rattle.steps.specs.declared.Step.{Step}
use Rattle.steps.specs.declared.Step.TheVariants.{Data, Map, Link, Fence}
use Rattle.steps.specs.declared.Request.{Request}
use Rattle.steps.specs.Steps.{steps_of, whole_steps, chunk_of, need_of}
use Rattle.rules.specs.Rules.{is_fence}
use Rattle.carry.specs.Carry.{carry, carry_answer}
use Rattle.layout.specs.declared.Refusal.{Refusal}

-- ---- volumes and events

module _ (A : Type 0) where
  -- a volume: its image, and what each backing unit holds, of any type: "A unit's content is anything at the start"
  pub record Volume : Type 0 where
    pub image : List ℕ
    pub content : ℕ → A

  -- "a request, a payload (k pieces for a write), a plan from any hand, a count n and, for a cut, which steps landed and what unlanded DATA steps left"
  pub record Event : Type 0 where
    pub request : Request
    -- piece j; those from 0 to k-1 count
    pub payload : ℕ → A
    -- any bytes
    pub plan : List ℕ
    pub count : ℕ
    -- any choice of steps: `lands` asks it only of those that the cut leaves open
    pub landed : ℕ → Bool
    -- what step i left in its unit, if it is a DATA step and did not land
    pub left : ℕ → A

-- ---- a cut

-- how many of the steps stand up to the last FENCE among them, that one too; 0 where there is no FENCE
unfoldable pub fenced : List Step → ℕ
fenced [] = 0
fenced (x ∷ xs) = let r = fenced xs in cond (is_fence x || ltb 0 r) (suc r) 0

-- "A word lands whole": the image after a step that landed, and after one that did not
abbrev pub store : Bool → Step → List ℕ → List ℕ
store true x s = carry s x
store false x s = s

module _ {A : Type 0} where
  -- Step i has landed: "every step up to the last FENCE passed has landed; of the steps between it and the point any subset has; later steps none".
  -- A plan with n all its steps is no exception: that it has landed whole is proved, from its last FENCE.
  unfoldable pub lands : Event A → ℕ → Bool
  lands e i = ltb i (fenced (take e.count (steps_of e.plan))) || ltb i e.count && e.landed i

  -- What the units hold after step i: "the payload piece that last landed on it or what a later unlanded DATA step left". A DATA step that has not
  -- landed "may leave anything in its own unit", also one past the point, and in no other.
  abbrev pub fill : Event A → ℕ → Step → (ℕ → A) → ℕ → A
  fill e i (Data u j w) f v = cond (eqb v u) (cond (lands e i) (e.payload j) (e.left i)) (f v)
  fill e i (Map k j w) f v = f v
  fill e i (Link c w) f v = f v
  fill e i Fence f v = f v

  -- "The landed MAP and LINK words are stored in the image": the volume after the steps from step i on
  unfoldable pub settle : Event A → ℕ → List Step → Volume A → Volume A
  settle e i [] v = v
  settle e i (x ∷ xs) v =
      settle e (suc i) xs (record { image = store (lands e i) x v.image; content = fill e i x v.content })

  -- "a chunk holds the contents of its map's units in order, and an unmapped one holds no pieces"
  unfoldable pub holds : Volume A → ℕ → List A
  holds v i = map v.content (units_of v.image i)

-- ---- lists of events

abbrev pub accepted : Result ⊤ Refusal → Bool
accepted (Ok tt) = true
accepted (Err x) = false

module _ {A : Type 0} where
  -- not "Where checking, or carrying out n steps, is refused": carrying out checks first
  unfoldable pub goes_ahead : List ℕ → Event A → Bool
  goes_ahead s e = accepted (carry_answer s e.request e.plan e.count)

  -- Where it is refused, "both stay"; otherwise the plan's steps leave what they leave.
  unfoldable pub after : Volume A → Event A → Volume A
  after v e = cond (goes_ahead v.image e) (settle e 0 (steps_of e.plan) v) v

  -- "Each event gets image and units as the last one left them": the volume after a list of events
  unfoldable pub run : Volume A → List (Event A) → Volume A
  run v [] = v
  run v (e ∷ es) = run (after v e) es

  -- "new ones the payload's, or none for a discard": pieces 0 to k-1, where k is 0 for a discard
  abbrev pub new_pieces : Request → (ℕ → A) → List A
  new_pieces r payload = map payload (below (need_of r))

-- ---- what becomes of a plan

-- "whether it was refused, finished or cut, and whether its LINK landed"
pub data Outcome : Type 0 where
  refused finished : Outcome
  cut : Bool → Outcome

module _ {A : Type 0} where
  -- a LINK landed, of the steps from step i on
  unfoldable pub link_lands : Event A → ℕ → List Step → Bool
  link_lands e i [] = false
  link_lands e i (Data u j w ∷ xs) = link_lands e (suc i) xs
  link_lands e i (Map k j w ∷ xs) = link_lands e (suc i) xs
  link_lands e i (Link c w ∷ xs) = lands e i || link_lands e (suc i) xs
  link_lands e i (Fence ∷ xs) = link_lands e (suc i) xs

  -- "a plan with n all its steps"
  abbrev pub complete : Event A → Bool
  complete e = eqb e.count (whole_steps e.plan)

  -- "Otherwise a plan with n all its steps is finished ..; with fewer it is cut at point n": the plan is "checked against the image found"
  unfoldable pub outcome : List ℕ → Event A → Outcome
  outcome s e = cond (goes_ahead s e) (cond (complete e) finished (cut (link_lands e 0 (steps_of e.plan)))) refused

-- ---- the ledger

-- not "Refused, or cut with no LINK landed"
abbrev pub takes_effect : Outcome → Bool
takes_effect refused = false
takes_effect finished = true
takes_effect (cut b) = b

-- "It is fed each event's request and payload, whether it was refused, finished or cut, and whether its LINK landed": and nothing else
pub record Entry (A : Type 0) : Type 0 where
  pub request : Request
  pub payload : ℕ → A
  pub outcome : Outcome

module _ {A : Type 0} where
  abbrev pub entry : Event A → Outcome → Entry A
  entry e o = record { request = e.request; payload = e.payload; outcome = o }

  -- a list of events as entries, each with its outcome on the image then found
  unfoldable pub entries : Volume A → List (Event A) → List (Entry A)
  entries v [] = []
  entries v (e ∷ es) = entry e (outcome v.image e) ∷ entries (after v e) es

  -- "no change. Otherwise a write gives its chunk the payload's pieces 0 to k-1 in order, a discard nothing."
  abbrev pub entered : (ℕ → List A) → Entry A → ℕ → List A
  entered l n i = cond (takes_effect n.outcome && eqb i (chunk_of n.request)) (new_pieces n.request n.payload) (l i)

  -- "The ledger gives each chunk a list of pieces": what it gave at the start, then changed by each entry in turn
  unfoldable pub ledger : (ℕ → List A) → List (Entry A) → ℕ → List A
  ledger l [] = l
  ledger l (n ∷ ns) = ledger (entered l n) ns
