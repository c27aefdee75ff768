-- The theorems of this crate that a reader wants: demand 3, that events which finish exist, and that what is written loads back. `kept-from-sound`, the
-- statement from any sound volume, stands in History.antt.
use Rattle.std.specs.Prelude.{Ok}
use mathlib.Core.Path.{◌≡◌, refl, sym, ap, ap₂, ◌∙◌, subst}
use borrow.Author.Tests.{eq-eqb}
use Prim.Native.Nat.{ℕ, ◌≤◌}
use lib.ListN.{length}
use native.Mathlib.Omega.{arith}
use mathlib.Core.Logic.{inr}
use mathlib.Core.List.{List, [], map}
use Rattle.search.specs.Search.{from}
use Rattle.image.specs.Soundness.{units_of, Sound}
use Rattle.image.specs.Free.{free_units}
use Rattle.layout.specs.declared.Shape.{Shape}
use Rattle.layout.specs.Layout.{shape_of}
use Rattle.layout.specs.Format.{format_image}
use Rattle.layout.proofs.Formatting.{formatted}
use Rattle.layout.proofs.Limits.{limits}
use Rattle.image.proofs.Fresh.{shape-fresh, units-fresh}
use Rattle.image.proofs.Theorems.{format-is-sound}
use Rattle.image.proofs.Wording.{sound-shape, sound-tested}
use Rattle.repair.specs.Repair.{repair_image}
use Rattle.repair.proofs.Theorems.{repair-repairs}
use Rattle.steps.specs.declared.Request.{Request}
use Rattle.steps.specs.declared.Request.TheVariants.{Write, Discard}
use Rattle.steps.specs.Steps.{whole_steps, chunk_of, need_of, encode_all}
use Rattle.steps.proofs.Codec.{whole-encoded}
use Rattle.rules.specs.Rules.{known_of, checked, plan_map}
use Rattle.rules.specs.Reading.{GoodRequest}
use Rattle.rules.proofs.Good.{chunk-tested, size-tested}
use Rattle.carry.specs.Carry.{carry_image}
use Rattle.carry.proofs.AnswerLaws.{accepted-answer}
use Rattle.planner.specs.Planner.{plan_of}
use Rattle.planner.proofs.Accepted.{planned-accepted, plan-map, plan-read}
use Rattle.planner.proofs.Theorems.{answered, written-is-plan}
use Rattle.durable.specs.Events.{Volume, finished, holds}
use Rattle.durable.specs.Demand.{Demand, DemandAfterRepair}
use Rattle.durable.specs.Own.{own_event, OwnDelivers}
use Rattle.durable.specs.LoadsBack.{LoadsBack, new_size, new_units, PlansLoadBack, StandsOnLowest, own_link, OwnLoadsBack, WrittenLoadsBack}
use Rattle.durable.proofs.Careful.{holds-is}
use Rattle.durable.proofs.Effect.{sound-intact, whole-finished, finished-ahead}
use Rattle.durable.proofs.Partly.{carried-back}
use Rattle.durable.proofs.History.{kept-from-sound, own-holds, entered-own, units-stay}

-- Demand 3: the instance of `kept-from-sound` on a fresh volume, whose chunks hold nothing.
pub demand : Demand
demand A g buffer content es w =
    kept-from-sound A g (record { image = format_image g buffer; content = content }) (λ i. []) es (format-is-sound g buffer w)
    (λ i b.
    let f = formatted g buffer w in
    let k = limits g f.0 in
    let c = ap (λ (h : Shape). h.c) (shape-fresh g k) in
    holds-is (record { image = format_image g buffer; content = content }) i
    ∙ ap (λ (s : List ℕ). map content (units_of s i)) f.1
    ∙ ap (map content) (units-fresh g k i (omega arith)))

-- And from what a repair leaves, with the ledger at what that image gives each chunk.
pub demand-after-repair : DemandAfterRepair
demand-after-repair A s out n content es b e =
    let v : Volume A = record { image = repair_image s (length out); content = content } in
    kept-from-sound A (shape_of s) v (holds v) es (repair-repairs s out n e b).sound (λ i h. refl)

-- ---- the planner's own plans

good-here : (g : Shape) (s : List ℕ) (r : Request) → Sound g s → GoodRequest g r → GoodRequest (shape_of s) r
good-here g s r z k = subst (λ (q : Shape). GoodRequest q r) (sym (sound-shape g s z)) k

own-accepted :
    (g : Shape) (s : List ℕ) (r : Request) → Sound g s → GoodRequest g r → need_of r ≤ length (free_units s)
    → checked s r (encode_all (plan_of (known_of s r) r)) ≡ Ok tt
own-accepted g s r z k h =
    planned-accepted s r (sound-tested g s z) (chunk-tested (shape_of s) r (good-here g s r z k)) (size-tested (shape_of s) r (good-here g s r z k)) h

-- They finish and deliver.
pub own-delivers : OwnDelivers
own-delivers A g v r payload z k h =
    let s = v.image in
    let e = own_event v r payload in
    let plan = encode_all (plan_of (known_of s r) r) in
    let f = whole-finished v e (own-accepted g s r z k h) (eq-eqb (whole_steps plan) (whole_steps plan) refl) in
    (f, own-holds g v e (sound-intact g s z) finished f finished-ahead ∙ entered-own (holds v) e finished refl)

-- ---- "what is written loads back as what was meant"

-- An accepted plan from any hand, carried out whole, leaves its chunk on the plan's map and the lowest free units, every other as it was, and the chunk's
-- old units and map free.
pub plans-load-back : PlansLoadBack
plans-load-back g s r plan z a =
    let n = whole_steps plan in carried-back g s r plan n z (accepted-answer s r plan n a (omega arith)) (inr refl)

-- The units, over every list of events, cuts among them.
pub stands-on-lowest : StandsOnLowest
stands-on-lowest = units-stay

-- The planner's own: the lowest free map and the lowest free units of the image, or an unmapped chunk.
pub own-loads-back : OwnLoadsBack
unfolding from
own-loads-back g s (Write i size) z k h =
    let t = sound-tested g s z in
    let good = good-here g s (Write i size) z k in
    let gc = chunk-tested (shape_of s) (Write i size) good in
    let gs = size-tested (shape_of s) (Write i size) good in
    let r = Write i size in
    let plan = encode_all (plan_of (known_of s r) r) in
    let left = carry_image s r plan (whole_steps plan) in
    subst (λ (l : ℕ). LoadsBack g s i l (new_size g r) (new_units s r) left) (ap plan_map (plan-read s i size t gc gs h) ∙ plan-map s i size t gc gs h)
    (plans-load-back g s r plan z (own-accepted g s r z k h))
own-loads-back g s (Discard i) z k h =
    let r = Discard i in plans-load-back g s r (encode_all (plan_of (known_of s r) r)) z (own-accepted g s r z k h)

-- And by the calls: the planner's answer, what it wrote, and what carrying it out leaves.
pub written-loads-back : WrittenLoadsBack
written-loads-back g s r out n z e =
    let a = answered s r (length out) n e in
    let plan = encode_all (plan_of (known_of s r) r) in
    let count : whole_steps plan ≡ n = whole-encoded (plan_of (known_of s r) r) ∙ sym a.steps in
    subst (LoadsBack g s (chunk_of r) (own_link s r) (new_size g r) (new_units s r)) (ap₂ (carry_image s r) (sym (written-is-plan s r out n e)) count)
    (own-loads-back g s r z (subst (λ (q : Shape). GoodRequest q r) (sound-shape g s z) a.good.request) a.free)
