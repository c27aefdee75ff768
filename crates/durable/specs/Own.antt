-- Demand 3 is not empty: the planner's own plan, carried out whole, is an event that finishes and delivers its payload.
use Rattle.std.specs.Prelude.{ℕ, ◌≤◌, ◌≡◌, false, length}
use Rattle.layout.specs.declared.Shape.{Shape}
use Rattle.image.specs.Soundness.{Sound}
use Rattle.image.specs.Free.{free_units}
use Rattle.steps.specs.declared.Request.{Request}
use Rattle.steps.specs.Steps.{whole_steps, chunk_of, need_of, encode_all}
use Rattle.rules.specs.Rules.{known_of}
use Rattle.rules.specs.Reading.{GoodRequest}
use Rattle.planner.specs.Planner.{plan_of}
use Rattle.durable.specs.Events.{Volume, Event, holds, after, new_pieces, finished, outcome}

-- the planner's plan for a request, with n all its steps; what lands is left to its fences alone
abbrev pub own_event : {A : Type 0} → Volume A → Request → (ℕ → A) → Event A
own_event v r payload =
    let plan = encode_all (plan_of (known_of v.image r) r) in
    record { request = r; payload = payload; plan = plan; count = whole_steps plan; landed = λ i. false; left = payload }

-- on any sound volume, for every good request that the free units suffice for
abbrev pub OwnDelivers : Type 1
OwnDelivers =
    (A : Type 0) (g : Shape) (v : Volume A) (r : Request) (payload : ℕ → A) → Sound g v.image → GoodRequest g r
    → need_of r ≤ length (free_units v.image)
    → (outcome v.image (own_event v r payload) ≡ finished) × (holds (after v (own_event v r payload)) (chunk_of r) ≡ new_pieces r payload)
