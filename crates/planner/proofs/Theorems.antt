-- The theorems of this crate that a reader wants.
use Rattle.std.specs.Prelude.{Result, Ok, Err, ⊤}
use Prim.Native.Nat.{ℕ, ◌+◌, ◌-◌, ◌*◌, ◌≤◌, ◌<◌}
use native.Mathlib.Omega.{arith}
use mathlib.Core.Path.{◌≡◌, refl, ap, sym, subst, ◌∙◌}
use mathlib.Core.Bool.{Bool, true, false, cond}
use mathlib.Core.List.{List, [], ◌∷◌}
use lib.ListN.{length, take, drop}
use lib.Seq.{length-take-le, take_at}
use lib.Dec.{ltb}
use borrow.Author.Tests.{lt-ltb, ltb-true, ltb-false}
use Rattle.search.specs.Search.{first_or}
use Rattle.search.specs.Sets.{Lowest}
use Rattle.search.proofs.Members.{first_taken}
use Rattle.search.proofs.Rising.{taken-lowest}
use Rattle.layout.specs.declared.Refusal.{Refusal}
use Rattle.layout.specs.declared.Refusal.TheVariants.{Range, Size, NoRoom, Small}
use Rattle.layout.specs.Layout.{X, first_edition, shape_of, units_for, head, map_words}
use Rattle.layout.proofs.Limits.{fitting-limits, map-words}
use Rattle.image.specs.Claims.{Tested}
use Rattle.image.specs.Verdicts.{verdict}
use Rattle.image.specs.Free.{free_unit, free_map, free_units, free_maps}
use Rattle.image.specs.Answers.{if_sound}
use Rattle.image.proofs.SoundLaws.{passed-tested}
use Rattle.image.proofs.Refusing.{refused-row}
use Rattle.image.proofs.Room.{free_unit-below, free_map-below, some-map-free, units-free}
use Rattle.steps.specs.declared.Request.{Request}
use Rattle.steps.specs.declared.Request.TheVariants.{Write, Discard}
use Rattle.steps.specs.Steps.{step_bytes, chunk_of, need_of, good_chunk, good_size, encode_all}
use Rattle.steps.proofs.Codec.{length-encoded}
use Rattle.rules.specs.Rules.{units, plan_map, known_of, checked}
use Rattle.rules.specs.Reading.{GoodRequest}
use Rattle.rules.proofs.Good.{good-told, chunk-tested, size-tested}
use Rattle.planner.specs.Planner.{lowest_map, plan_of, if_map, if_room, plan_in, plan_answer, written, plan_out}
use Rattle.planner.proofs.Storing.{length-write_steps}
use Rattle.planner.proofs.Accepted.{lowest-free, plan-units, plan-map, planned-accepted}

-- ---- a free map is never wanting

-- Of what is known of a sound image no write is refused for want of a free map: 9 is given for units alone.
pub map-always : (s : List ℕ) (r : Request) (answer : Result ℕ Refusal) → verdict s ≡ Ok tt → if_map (known_of s r) r answer ≡ answer
unfolding free_maps
map-always s (Write i size) answer z = rw (lt-ltb _ _ (free_map-below s (first_or X (free_maps s)) (lowest-free s (passed-tested s z))))
map-always s (Discard i) answer z = refl

-- ---- what an answer says

-- the request is good, on a sound image
pub record Good (s : List ℕ) (r : Request) : Type 0 where
  pub sound : verdict s ≡ Ok tt
  pub request : GoodRequest (shape_of s) r

-- and n steps were written
pub record Answered (s : List ℕ) (r : Request) (room n : ℕ) : Type 0 where
  pub good : Good s r
  pub free : need_of r ≤ length (free_units s)
  pub steps : n ≡ length (plan_of (known_of s r) r)
  pub fits : step_bytes * n ≤ room

impossible : {A : Type 0} → ◌≡◌ {A = ℕ} 0 1 → A
impossible e = absurd (omega arith)

-- the four tests of a request on a sound image
abbrev tests : Bool → Bool → Bool → Bool → ℕ → ℕ → Result ℕ Refusal
tests a b c d free steps =
    cond a (cond b (cond c (Err (NoRoom free)) (cond d (Err (Small (step_bytes * steps))) (Ok steps))) (Err Size)) (Err Range)

steps-found : (a b c d : Bool) (free steps n : ℕ) → tests a b c d free steps ≡ Ok n → (a ≡ true) × (b ≡ true) × (c ≡ false) × (d ≡ false) × (steps ≡ n)
steps-found true true false false free steps n e = (refl, refl, refl, refl, cc)
steps-found true true false true free steps n e = impossible cc
steps-found true true true d free steps n e = impossible cc
steps-found true false c d free steps n e = impossible cc
steps-found false b c d free steps n e = impossible cc

room-found : (a b c d : Bool) (free steps n : ℕ) → tests a b c d free steps ≡ Err (NoRoom n) → (a ≡ true) × (b ≡ true) × (c ≡ true) × (free ≡ n)
room-found true true true d free steps n e = (refl, refl, refl, cc)
room-found true true false true free steps n e = impossible cc
room-found true true false false free steps n e = impossible cc
room-found true false c d free steps n e = impossible cc
room-found false b c d free steps n e = impossible cc

tested-is : (s : List ℕ) (r : Request) (room : ℕ) → verdict s ≡ Ok tt
    → tests (good_chunk (shape_of s) r) (good_size (shape_of s) r) (ltb (length (free_units s)) (need_of r)) (ltb room (step_bytes * length (plan_of (known_of s r) r)))
    (length (free_units s)) (length (plan_of (known_of s r) r))
    ≡ plan_in (known_of s r) r room
unfolding plan_in
tested-is s r room e = rw (map-always s r (if_room room (length (plan_of (known_of s r) r))) e)

module _ (s : List ℕ) (r : Request) (room n : ℕ) where
  pub answered : plan_answer s r room ≡ Ok n → Answered s r room n
  unfolding plan_in
  answered e = at (verdict s) refl e
    where
      at : (v : Result ⊤ Refusal) → verdict s ≡ v → if_sound v Err (plan_in (known_of s r) r room) ≡ Ok n → Answered s r room n
      at (Err x) p h = impossible cc
      at (Ok tt) p h =
          let steps = length (plan_of (known_of s r) r) in
          let f = steps-found (good_chunk (shape_of s) r) (good_size (shape_of s) r) (ltb (length (free_units s)) (need_of r)) (ltb room (step_bytes * steps))
          (length (free_units s)) steps n (tested-is s r room p ∙ h) in
          record {
            good = record { sound = p; request = good-told (shape_of s) r (ltb-true (chunk_of r) (shape_of s).c f.0) f.1 };
            free = ltb-false (length (free_units s)) (need_of r) f.2;
            steps = sym f.4;
            fits = let k = ltb-false room (step_bytes * steps) f.3 in let z = f.4 in omega arith;
          }

-- ---- "the planner's plans pass"

-- Whenever the planner answers n steps, the first 16·n bytes of the lent output are then those of its plan.
pub written-is-plan : (s : List ℕ) (r : Request) (out : List ℕ) (n : ℕ) → plan_answer s r (length out) ≡ Ok n
    → take (step_bytes * n) (plan_out s r out) ≡ encode_all (plan_of (known_of s r) r)
written-is-plan s r out n e =
    let a = answered s r (length out) n e in
    let xs = plan_of (known_of s r) r in
    let bytes : plan_out s r out ≡ written (Ok n) xs out = ap (λ (q : Result ℕ Refusal). written q xs out) e in
    let long : length (encode_all xs) ≡ step_bytes * n = length-encoded xs ∙ ap (λ (k : ℕ). step_bytes * k) (sym a.steps) in
    ap (take (step_bytes * n)) bytes ∙ take_at (encode_all xs) (drop (step_bytes * n) out) (step_bytes * n) long

-- The checker accepts them, for the image and the request they were made for.
pub own-plans-pass : (s : List ℕ) (r : Request) (out : List ℕ) (n : ℕ) → plan_answer s r (length out) ≡ Ok n
    → checked s r (take (step_bytes * n) (plan_out s r out)) ≡ Ok tt
own-plans-pass s r out n e =
    let a = answered s r (length out) n e in
    let good = a.good.request in
    ap (checked s r) (written-is-plan s r out n e)
    ∙ planned-accepted s r (passed-tested s a.good.sound) (chunk-tested (shape_of s) r good) (size-tested (shape_of s) r good) a.free

-- ---- 9 "fewer than k units free"

module _ (s : List ℕ) (r : Request) (room : ℕ) where
  -- It is given exactly for a good request on a sound image that needs more units than are free, with the count of those.
  pub refused-is-no-room : (n : ℕ) → plan_answer s r room ≡ Err (NoRoom n) → Good s r × (n ≡ length (free_units s)) × (n < need_of r)
  unfolding plan_in
  refused-is-no-room n e = at (verdict s) refl e
    where
      of_image : (x : Refusal) → verdict s ≡ Err x → ◌≡◌ {A = Result ℕ Refusal} (Err x) (Err (NoRoom n)) → ⊥
      of_image x p h = let q : x ≡ NoRoom n = cc in refused-row s (NoRoom n) (p ∙ ap Err q)

      at : (v : Result ⊤ Refusal) → verdict s ≡ v → if_sound v Err (plan_in (known_of s r) r room) ≡ Err (NoRoom n)
          → Good s r × (n ≡ length (free_units s)) × (n < need_of r)
      at (Err x) p h = absurd (of_image x p h)
      at (Ok tt) p h =
          let steps = length (plan_of (known_of s r) r) in
          let f = room-found (good_chunk (shape_of s) r) (good_size (shape_of s) r) (ltb (length (free_units s)) (need_of r)) (ltb room (step_bytes * steps))
          (length (free_units s)) steps n (tested-is s r room p ∙ h) in
          let low = ltb-true (length (free_units s)) (need_of r) f.2 in
          let z = f.3 in
          (record { sound = p; request = good-told (shape_of s) r (ltb-true (chunk_of r) (shape_of s).c f.0) f.1 }, sym z, omega arith)

  pub no-room-is-refused : Good s r → length (free_units s) < need_of r → plan_answer s r room ≡ Err (NoRoom (length (free_units s)))
  unfolding plan_in
  no-room-is-refused g h =
      let good = g.request in
      rw (g.sound, chunk-tested (shape_of s) r good, size-tested (shape_of s) r good, lt-ltb (length (free_units s)) (need_of r) h)

-- a good request needs at most P units
need-few : (s : List ℕ) (r : Request) → Good s r → need_of r ≤ (shape_of s).p
need-few s (Write i size) g = let h = g.request.2 in omega arith
need-few s (Discard i) g = omega arith

-- "Refusal 9 never occurs for one write when N-R is at least (C+1)·P."
pub always-room : (s : List ℕ) (r : Request) (room n : ℕ) → ((shape_of s).c + 1) * (shape_of s).p ≤ (shape_of s).n - (shape_of s).r
    → plan_answer s r room ≡ Err (NoRoom n) → ⊥
always-room s r room n h e =
    let f = refused-is-no-room s r room n e in
    let q : n ≡ length (free_units s) = f.1 in
    let low : n < need_of r = f.2 in
    omega (arith, units-free s h, need-few s r f.0)

-- 01's "With N at least (C+1)·P it never does for one write" is its instance: edition 1 reserves no unit.
pub always-room-first : (s : List ℕ) (r : Request) (room n : ℕ) → (shape_of s).edition ≡ first_edition → ((shape_of s).c + 1) * (shape_of s).p ≤ (shape_of s).n
    → plan_answer s r room ≡ Err (NoRoom n) → ⊥
always-room-first s r room n first h e =
    let f = refused-is-no-room s r room n e in
    let none = (fitting-limits s (passed-tested s f.0.sound).fitting).r-first first in
    always-room s r room n (omega arith) e

-- ---- the planner's write: "on the k lowest free units, rising; .. the lowest free map"

module _ (s : List ℕ) (i size room n : ℕ) (e : plan_answer s (Write i size) room ≡ Ok n) where
  told : Answered s (Write i size) room n
  told = answered s (Write i size) room n e

  tested : Tested s
  tested = passed-tested s told.good.sound

  chunk : good_chunk (shape_of s) (Write i size) ≡ true
  chunk = chunk-tested (shape_of s) (Write i size) told.good.request

  good-size : good_size (shape_of s) (Write i size) ≡ true
  good-size = size-tested (shape_of s) (Write i size) told.good.request

  pub on-lowest-units : Lowest (free_unit s) (units_for size) (units (plan_of (known_of s (Write i size)) (Write i size)))
  unfolding free_units
  on-lowest-units =
      subst (Lowest (free_unit s) (units_for size)) (sym (plan-units s i size tested chunk good-size told.free))
      (taken-lowest (free_unit s) (shape_of s).n (units_for size) (free_unit-below s) told.free)

  pub on-lowest-map : Lowest (free_map s) 1 (plan_map (plan_of (known_of s (Write i size)) (Write i size)) ∷ [])
  unfolding free_maps
  on-lowest-map =
      let some = some-map-free s tested.fitting in
      subst (Lowest (free_map s) 1)
      (first_taken X (free_maps s) some ∙ ap (λ (m : ℕ). m ∷ []) (sym (plan-map s i size tested chunk good-size told.free)))
      (taken-lowest (free_map s) (shape_of s).m 1 (free_map-below s) some)

  -- "That is k+P+3 steps, at most 35."; in edition 2 "k+P+4 steps"
  pub steps-counted : (n ≡ units_for size + map_words (shape_of s) + 3) × (n ≤ 35 + head (shape_of s))
  unfolding plan_of
  steps-counted =
      let k = units_for size in
      let c = told.steps in
      let a = length-write_steps (head (shape_of s)) size (take k (free_units s)) (lowest_map (known_of s (Write i size))) (map_words (shape_of s)) i in
      let b = length-take-le k (free_units s) told.free in
      let f = need-few s (Write i size) told.good in
      let l = fitting-limits s tested.fitting in
      (omega arith, omega (arith, l.p-high, map-words (shape_of s)))
