-- Demand 2's "what is written loads back as what was meant": what an accepted plan leaves that is carried out whole, from any hand and from the
-- planner's own.
use Rattle.std.specs.Prelude.{ℕ, ◌*◌, ◌≤◌, ◌<◌, ◌≡◌, ◌≢◌, true, not, ◌&&◌, ◌||◌, List, ◌∷◌, ◌++◌, length, take, eqb, Ok}
use Rattle.search.specs.Search.{member, first_or}
use Rattle.bitset.specs.Bits.{bit_set}
use Rattle.layout.specs.declared.Shape.{Shape}
use Rattle.layout.specs.Layout.{X, link_of}
use Rattle.image.specs.Soundness.{units_of, Sound}
use Rattle.image.specs.Stored.{kept_size, stored_size}
use Rattle.image.specs.Free.{free_unit, free_map, free_units, free_maps}
use Rattle.image.specs.Loading.{unit_set_words, map_set_words, loaded}
use Rattle.steps.specs.declared.Step.{Step}
use Rattle.steps.specs.declared.Request.{Request}
use Rattle.steps.specs.declared.Request.TheVariants.{Write, Discard}
use Rattle.steps.specs.Steps.{step_bytes, steps_of, whole_steps, chunk_of, size_of, need_of, encode_all}
use Rattle.rules.specs.Rules.{plan_map, known_of, checked}
use Rattle.rules.specs.Reading.{GoodRequest}
use Rattle.planner.specs.Planner.{plan_of, plan_answer, plan_out}
use Rattle.carry.specs.Carry.{carry_image}
use Rattle.durable.specs.Events.{Volume, Event, after, run, outcome, takes_effect}
use Rattle.durable.specs.Demand.{Untouched}

-- In the sound image s, of shape g, chunk c got the entry `link`, the stored size `size` and the units us, and nothing else became of it: t is the image then.
pub record LoadsBack (g : Shape) (s : List ℕ) (c link size : ℕ) (us : List ℕ) (t : List ℕ) : Type 0 where
  -- It loads, with the same edition, P, C, M, N and R.
  pub sound : Sound g t
  pub loads : loaded t ≡ Ok (record { shape = g; units = bit_set (free_unit t) unit_set_words; maps = bit_set (free_map t) map_set_words })
  -- the chunk's map, its stored size, and its units, in map order
  pub entry : link_of t c ≡ link
  pub stored : stored_size t c ≡ size
  pub units : units_of t c ≡ us
  -- Every other chunk is as it was.
  pub others : (i : ℕ) → i < g.c → i ≢ c → (link_of t i ≡ link_of s i) × (stored_size t i ≡ stored_size s i) × (units_of t i ≡ units_of s i)
  -- "after it unit 2 and map 1 are free": free is what was free or the chunk's, less what the chunk has now.
  pub free-units : (u : ℕ) → free_unit t u ≡ ((free_unit s u || member u (units_of s c)) && not (member u us))
  pub free-maps : (k : ℕ) → k < g.m → free_map t k ≡ ((free_map s k || eqb k (link_of s c)) && not (eqb k link))

-- ---- a plan from any hand

-- the entry that a plan gives its chunk: the map that its MAP steps are on; X for a discard, so that the chunk is unmapped
abbrev pub new_link : Request → List Step → ℕ
new_link (Write i size) xs = plan_map xs
new_link (Discard i) xs = X

-- the size: the request's in edition 2, k·4,096 in edition 1; 0 for a discard
abbrev pub new_size : Shape → Request → ℕ
new_size g r = kept_size g (size_of r) (need_of r)

-- the units: "piece j goes on the j-th lowest free unit, piece 0 on the lowest" (02, request 6), so the k lowest that were free, rising; none for a discard
abbrev pub new_units : List ℕ → Request → List ℕ
new_units s r = take (need_of r) (free_units s)

-- every accepted plan, with n all its steps
abbrev pub PlansLoadBack : Type 0
PlansLoadBack =
    (g : Shape) (s : List ℕ) (r : Request) (plan : List ℕ) → Sound g s → checked s r plan ≡ Ok tt
    → LoadsBack g s (chunk_of r) (new_link r (steps_of plan)) (new_size g r) (new_units s r) (carry_image s r plan (whole_steps plan))

-- Request 6, over every list of events: a chunk that a plan from any hand wrote, finished or cut with its LINK landed, stands on the lowest units that were
-- free before that plan, until a later plan takes effect on it; a discarded one on none.
abbrev pub StandsOnLowest : Type 1
StandsOnLowest =
    (A : Type 0) (g : Shape) (start : Volume A) (past later : List (Event A)) (e : Event A) → Sound g start.image
    → takes_effect (outcome (run start past).image e) ≡ true
    → Untouched (chunk_of e.request) (after (run start past) e) later
    → units_of (run start (past ++ e ∷ later)).image (chunk_of e.request) ≡ new_units (run start past).image e.request

-- ---- the planner's own

-- "the lowest free map"; X for a discard
abbrev pub own_link : List ℕ → Request → ℕ
own_link s (Write i size) = first_or X (free_maps s)
own_link s (Discard i) = X

-- on any sound image, for every good request that the free units suffice for
abbrev pub OwnLoadsBack : Type 0
OwnLoadsBack =
    (g : Shape) (s : List ℕ) (r : Request) → Sound g s → GoodRequest g r → need_of r ≤ length (free_units s)
    → LoadsBack g s (chunk_of r) (own_link s r) (new_size g r) (new_units s r)
    (carry_image s r (encode_all (plan_of (known_of s r) r)) (whole_steps (encode_all (plan_of (known_of s r) r))))

-- The same by the calls: where the planner answers n steps, carrying out those n, as they stand in the lent output.
abbrev pub WrittenLoadsBack : Type 0
WrittenLoadsBack =
    (g : Shape) (s : List ℕ) (r : Request) (out : List ℕ) (n : ℕ) → Sound g s → plan_answer s r (length out) ≡ Ok n
    → LoadsBack g s (chunk_of r) (own_link s r) (new_size g r) (new_units s r) (carry_image s r (take (step_bytes * n) (plan_out s r out)) n)
