-- What an indexed call on a chunk owes once it was admitted or refused: over plain variables, as the calls in src/lent.rt find them.
use Rattle.std.specs.Prelude.{Result, Ok, Err, ⊤}
use Prim.Native.Nat.{ℕ, ◌≤◌, ◌<◌}
use native.Mathlib.Omega.{arith}
use mathlib.Core.Path.{◌≡◌, sym, ap, subst, ◌∙◌}
use mathlib.Core.Bool.{Bool, true, ◌&&◌}
use mathlib.Core.List.{List}
use lib.ListN.{length, drop, length-drop}
use lib.Seq.{length-take-le}
use lib.Dec.{ltb}
use Rattle.bitset.specs.Bits.{in_set}
use Rattle.layout.specs.declared.Shape.{Shape}
use Rattle.layout.specs.declared.Refusal.{Refusal}
use Rattle.image.specs.Soundness.{mapped}
use Rattle.image.specs.Verdicts.{good_link}
use Rattle.image.specs.Loading.{unit_set_words, map_set_words}
use Rattle.image.specs.Answers.{if_sound}
use Rattle.image.proofs.Loads.{answer-refused, answer-sound, sound-passed, refused-so}
use Rattle.layout.specs.Shaped.{Shaped}
use Rattle.access.specs.Parts.{held_on}
use Rattle.access.specs.Sizes.{size_on}
use Rattle.steps.specs.declared.Request.{Request}
use Rattle.steps.specs.Steps.{chunk_of}
use Rattle.rules.specs.Rules.{Known, known, judged}
use Rattle.planner.specs.Planner.{plan_in, out_in}
use Rattle.indexed.specs.declared.HeldShape.{HeldShape}
use Rattle.indexed.specs.Admitting.{Index, shape_from, outcome_by}
use Rattle.renewal.specs.Renewal.{set_words, units_in, maps_in}
use Rattle.indexed.specs.Calls.{index_of, index_held, refuses_by, chunk_refuses_by, known_in, plan_answer_by, plan_out_by, checked_by, carry_answer_by, carry_image_by, sets_left, next_sets, held_of_by, size_answer_by}
use Rattle.carry.specs.Carry.{carry_in, left_by}
use Rattle.indexed.proofs.Admitting.{Admitted, admitted, admitted-chunk, admitted-entry}

-- the two sets have few words
pub units-few : (sets : List ℕ) → set_words ≤ length sets → length (units_in sets) ≡ unit_set_words
units-few sets l = length-take-le unit_set_words sets (omega arith)

pub maps-few : (sets : List ℕ) → set_words ≤ length sets → length (maps_in sets) ≡ map_set_words
maps-few sets l = length-take-le map_set_words (drop unit_set_words sets) (omega (arith, length-drop unit_set_words sets))

-- what carrying out by an index answers and leaves, once it is known that the index goes with the image
abbrev Leaves : Index → List ℕ → Request → List ℕ → ℕ → Result ⊤ Refusal → List ℕ → List ℕ → Type 0
Leaves ix s r plan n a t after =
    let answer = carry_in (known_in ix s r) r plan n in
    (a ≡ answer) × ((t ≡ left_by answer s plan n) × (after ≡ sets_left answer ix.sets s r plan n))

-- a request on chunk i, by an index of shape h and words `sets`, where `admit_chunk` answers the shape g
module _ (h : HeldShape) (sets s : List ℕ) (r : Request) (i : ℕ) (k : i ≡ chunk_of r) (g : Shape)
    (e : Ok g ≡ outcome_by (shape_from h) (chunk_refuses_by (index_held h sets) s i)) where
  abbrev ix : Index
  ix = index_held h sets

  inside : g ≡ shape_from h
  inside = (admitted-chunk (shape_from h) g (length sets) s i e).shape

  passes : chunk_refuses_by ix s (chunk_of r) ≡ Ok tt
  passes = (sound-passed (chunk_refuses_by ix s (chunk_of r)) (shape_from h) g (sym (e ∙ ap (λ (j : ℕ). outcome_by (shape_from h) (chunk_refuses_by ix s j)) k))).0

  -- by the trailer's shape, which is the index's
  pub now-carried : (plan : List ℕ) (n : ℕ) (a : Result ⊤ Refusal) (t after : List ℕ) → Leaves (index_of g sets) s r plan n a t after
      → (a ≡ carry_answer_by ix s r plan n) × ((t ≡ carry_image_by ix s r plan n) × (after ≡ next_sets ix s r plan n))
  now-carried plan n a t after p =
      let y : Leaves ix s r plan n a t after = subst (λ (b : Shape). Leaves (index_of b sets) s r plan n a t after) inside p in
      rw passes y

  module _ (m : Bool) (w : m ≡ (ltb i g.c && mapped s i)) where
    known-held : known g (in_set (units_in sets)) (in_set (maps_in sets)) m ≡ known_in ix s r
    known-held =
        let z : m ≡ (ltb (chunk_of r) (shape_from h).c && mapped s (chunk_of r)) =
        w ∙ (λ j. ltb (k j) (inside j).c && mapped s (k j)) in
        λ j. known (inside j) (in_set (units_in sets)) (in_set (maps_in sets)) (z j)

    pub now-checked : (plan : List ℕ) (a : Result ⊤ Refusal) → a ≡ judged (known g (in_set (units_in sets)) (in_set (maps_in sets)) m) r plan
        → a ≡ checked_by ix s r plan
    now-checked plan a p = p ∙ ap (λ (kn : Known). judged kn r plan) known-held ∙ rw passes

    pub now-planned : (out after : List ℕ) (a : Result ℕ Refusal)
        → (a ≡ plan_in (known g (in_set (units_in sets)) (in_set (maps_in sets)) m) r (length out))
        × (after ≡ out_in (known g (in_set (units_in sets)) (in_set (maps_in sets)) m) r out)
        → (a ≡ plan_answer_by ix s r (length out)) × (after ≡ plan_out_by ix s r out)
    now-planned out after a p =
        (p.0 ∙ ap (λ (kn : Known). plan_in kn r (length out)) known-held ∙ rw passes, p.1 ∙ ap (λ (kn : Known). out_in kn r out) known-held ∙ rw passes)
