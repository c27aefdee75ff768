-- Demand 3, one statement over every list of events: what holds of the volume that the list leaves, and of each event in it.
use Rattle.std.specs.Prelude.{ℕ, ◌<◌, ◌≡◌, Bool, true, false, cond, List, [], ◌∷◌, ◌++◌, length, Ok}
use Rattle.words.specs.Words.{Bytes}
use Rattle.layout.specs.declared.Shape.{Shape}
use Rattle.layout.specs.Layout.{shape_of}
use Rattle.layout.specs.Format.{format_answer, format_image}
use Rattle.image.specs.Soundness.{NamesUnit, Sound}
use Rattle.repair.specs.Repair.{repair_answer, repair_image}
use Rattle.steps.specs.Steps.{chunk_of}
use Rattle.carry.specs.Carry.{carry_image}
use Rattle.durable.specs.Events.{Volume, Event, lands, holds, after, run, new_pieces, refused, finished, cut, outcome, takes_effect, entries, ledger}

module _ {A : Type 0} where
  -- no event of the list es, begun on the volume v, took effect on chunk i
  abbrev pub Untouched : ℕ → Volume A → List (Event A) → Type 0
  Untouched i v es =
      (past later : List (Event A)) (e : Event A) → es ≡ past ++ e ∷ later → chunk_of e.request ≡ i
      → takes_effect (outcome (run v past).image e) ≡ false

  -- From the volume `start` of shape g, with a ledger that gave l then, the events es came. Where es is `past ++ e ∷ later`, event e found the volume
  -- `run start past` and left `after (run start past) e`.
  pub record Kept (g : Shape) (start : Volume A) (l : ℕ → List A) (es : List (Event A)) : Type 0 where
    -- Every beginning of a list is a list too: so these four hold after each event.
    -- The image is sound, with the trailer that it had.
    pub sound : Sound g (run start es).image
    -- No unit has two owners: "A unit's owners are the chunks whose maps name it."
    pub owners : (u i j a b : ℕ) → NamesUnit g (run start es).image i a u → NamesUnit g (run start es).image j b u → i ≡ j
    -- Every chunk holds what the ledger gives it.
    pub booked : (i : ℕ) → i < g.c → holds (run start es) i ≡ ledger l (entries start es) i
    -- "Keep the first units for the boot loader" (02, request 5): what each reserved unit held at the start it holds still.
    pub reserved : (u : ℕ) → u < g.r → (run start es).content u ≡ start.content u
    -- A chunk in flight holds all its new pieces or all its old ones: the new ones if the LINK landed, which b says.
    pub in_flight :
        (past later : List (Event A)) (e : Event A) (b : Bool) → es ≡ past ++ e ∷ later → outcome (run start past).image e ≡ cut b
        → holds (after (run start past) e) (chunk_of e.request)
        ≡ cond b (new_pieces e.request e.payload) (holds (run start past) (chunk_of e.request))
    -- What a plan did that was finished, or cut with its LINK landed, stays until a later plan takes effect on its chunk.
    pub stays :
        (past later : List (Event A)) (e : Event A) → es ≡ past ++ e ∷ later → takes_effect (outcome (run start past).image e) ≡ true
        → Untouched (chunk_of e.request) (after (run start past) e) later
        → holds (run start es) (chunk_of e.request) ≡ new_pieces e.request e.payload
    -- A refused plan changes nothing, neither image nor units.
    pub unchanged :
        (past later : List (Event A)) (e : Event A) → es ≡ past ++ e ∷ later → outcome (run start past).image e ≡ refused
        → after (run start past) e ≡ run start past
    -- Of a finished plan "all have landed".
    pub landed_whole :
        (past later : List (Event A)) (e : Event A) → es ≡ past ++ e ∷ later → outcome (run start past).image e ≡ finished
        → (i : ℕ) → i < e.count → lands e i ≡ true
    -- "where all n have landed, that is byte for byte what carrying out n steps leaves": what the call `carry` promises to leave, refused or not
    pub as_carry :
        (past later : List (Event A)) (e : Event A) → es ≡ past ++ e ∷ later → ((i : ℕ) → i < e.count → lands e i ≡ true)
        → (after (run start past) e).image ≡ carry_image (run start past).image e.request e.plan e.count

-- From any sound image, whatever its units hold, with a ledger that begins with what that volume holds.
abbrev pub KeptFromSound : Type 1
KeptFromSound =
    (A : Type 0) (g : Shape) (start : Volume A) (l : ℕ → List A) (es : List (Event A)) → Sound g start.image
    → ((i : ℕ) → i < g.c → holds start i ≡ l i)
    → Kept g start l es

-- Demand 3: "It starts from the image that format writes", in a lent buffer that held anything, with any contents of the units and "at the start
-- nothing" in the ledger.
abbrev pub Demand : Type 1
Demand =
    (A : Type 0) (g : Shape) (buffer : List ℕ) (content : ℕ → A) (es : List (Event A)) → format_answer g buffer ≡ Ok tt
    → Kept g (record { image = format_image g buffer; content = content }) (λ i. []) es

-- After a repair (02, request 3): "Demand 3 and its ledger then start from the repaired image once it is wholly written back and fenced, a chunk with no
-- landed plan since holding what that image gives it". Of any bytes that `repair` answers, with any contents of the units. "a cut before that isn't
-- covered": the list of events begins on the image that `repair` leaves, all of it on the disk.
abbrev pub DemandAfterRepair : Type 1
DemandAfterRepair =
    (A : Type 0) (s out : List ℕ) (n : ℕ) (content : ℕ → A) (es : List (Event A)) → Bytes s → repair_answer s (length out) ≡ Ok n
    → Kept (shape_of s) (record { image = repair_image s (length out); content = content })
    (holds (record { image = repair_image s (length out); content = content })) es
