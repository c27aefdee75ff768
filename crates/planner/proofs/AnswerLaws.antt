-- Which answer each finding of the code gives, and the lent bytes that go with it.
use Rattle.std.specs.Prelude.{Some, None, Result, Ok, Err, slice_get}
use Prim.Native.Nat.{ℕ, ◌+◌, ◌*◌, ◌≤◌, ◌<◌}
use native.Mathlib.Omega.{arith}
use mathlib.Core.Path.{◌≡◌, refl, ap, sym, subst, ◌∙◌}
use mathlib.Core.Bool.{Bool, true, false, ◌&&◌}
use mathlib.Core.List.{List, [], ◌∷◌, ◌++◌}
use lib.ListN.{length, take, drop}
use lib.Seq.{sets}
use lib.Dec.{ltb}
use borrow.Author.Tests.{ltb-false, lt-ltb, le-ltb}
use Rattle.search.specs.Search.{below, first_or, keep, member}
use Rattle.search.proofs.Members.{member-head}
use Rattle.search.proofs.Ranges.{member_below}
use Rattle.search.proofs.Kept.{member-keep}
use Rattle.search.proofs.Filling.{taken-enough, taken-whole}
use Rattle.bitset.specs.Bits.{in_set}
use Rattle.layout.specs.declared.Shape.{Shape}
use Rattle.layout.specs.declared.Refusal.{Refusal}
use Rattle.layout.specs.declared.Refusal.TheVariants.{Small}
use Rattle.layout.specs.Layout.{X, map_words, shape_of, units_for, head}
use Rattle.image.specs.declared.Loaded.{Loaded}
use Rattle.image.specs.Soundness.{mapped}
use Rattle.image.specs.Verdicts.{verdict}
use Rattle.image.specs.Free.{free_unit, free_units, free_map}
use Rattle.image.proofs.Loads.{Known as Loads}
use Rattle.steps.specs.declared.Step.{Step}
use Rattle.steps.specs.declared.Step.TheVariants.{Link, Fence}
use Rattle.steps.specs.declared.Request.{Request}
use Rattle.steps.specs.declared.Request.TheVariants.{Write, Discard}
use Rattle.steps.specs.Steps.{step_bytes, encode_all, put_steps}
use Rattle.steps.proofs.Encoding.{put_steps-cons, put_steps-front}
use Rattle.rules.specs.Rules.{Known, known, known_of}
use Rattle.rules.proofs.Knowing.{known-loaded}
use Rattle.planner.specs.Planner.{write_steps, lowest_map, plan_of, if_room, plan_good, plan_in, plan_answer, written, plan_out}
use Rattle.planner.specs.Planning.{Leaves}
use Rattle.planner.proofs.Storing.{length-write_steps}

-- the bytes follow from the answer
pub left_by_lem : (a : Result ℕ Refusal) (xs : List Step) (out : List ℕ) (answer : Result ℕ Refusal) (after : List ℕ) → answer ≡ a → after ≡ written answer xs out
    → Leaves a xs out answer after
left_by_lem a xs out answer after e h = (e, h ∙ ap (λ (b : Result ℕ Refusal). written b xs out) e)

leaves-same : (a b : Result ℕ Refusal) (xs ys : List Step) (out : List ℕ) (answer : Result ℕ Refusal) (after : List ℕ) → a ≡ b → xs ≡ ys → Leaves a xs out answer after
    → Leaves b ys out answer after
leaves-same a b xs ys out answer after ea ex h = (h.0 ∙ ea, h.1 ∙ (λ t. written (ea t) (ex t) out))

-- ---- the first number of a list, and the lowest of the numbers below a bound that a test holds of

first-some : (d m : ℕ) (xs : List ℕ) → Some m ≡ slice_get xs 0 → first_or d xs ≡ m
first-some d m [] e = cc
first-some d m (x ∷ xs) e = cc

first-in : (m : ℕ) (xs : List ℕ) → Some m ≡ slice_get xs 0 → member m xs ≡ true
first-in m [] e = cc
first-in m (x ∷ xs) e = member-head m x xs cc

lowest-below : (f : ℕ → Bool) (n m : ℕ) → Some m ≡ slice_get (keep f (below n)) 0 → m < n
lowest-below f n m e = member_below m n (member-keep f m (below n) (first-in m (keep f (below n)) e)).0

-- ---- a write of a good size, on what is known: 9 and 10

-- there was room for n steps
room-fits : (room n k : ℕ) → Ok k ≡ if_room room n → (step_bytes * n ≤ room) × (k ≡ n)
room-fits room n k e = at (ltb room (step_bytes * n)) refl
  where
    at : (b : Bool) → ltb room (step_bytes * n) ≡ b → (step_bytes * n ≤ room) × (k ≡ n)
    at true q = let z : ◌≡◌ {A = Result ℕ Refusal} (Ok k) (Err (Small (step_bytes * n))) = e ∙ rw q in cc
    at false q = let z : ◌≡◌ {A = Result ℕ Refusal} (Ok k) (Ok n) = e ∙ rw q in (ltb-false room (step_bytes * n) q, cc)

-- the bytes of a plan for which there was room, stored from the first on
pub stored-plan : (out after : List ℕ) (xs : List Step) (n k : ℕ) → length xs ≡ n → Ok k ≡ if_room (length out) n → after ≡ put_steps out 0 xs
    → Leaves (if_room (length out) n) xs out (Ok k) after
stored-plan out after xs n k long e h =
    let r = room-fits (length out) n k e in
    left_by_lem _ _ _ (Ok k) _ e (h ∙ put_steps-front out xs (rw long r.0) ∙ ap (λ (k : ℕ). encode_all xs ++ drop (step_bytes * k) out) (long ∙ sym r.1))

module _ (kn : Known) (i size : ℕ) (out : List ℕ) where
  abbrev AsGood : Result ℕ Refusal → List ℕ → Type 0
  AsGood answer after = Leaves (plan_good kn (Write i size) (length out)) (plan_of kn (Write i size)) out answer after

  -- n free units were found, and stored as far as there were places
  module _ (chosen found : List ℕ) (n : ℕ) (places : length chosen ≡ units_for size) (count : n ≡ length (take (length chosen) kn.free_units))
      (stored : found ≡ sets chosen 0 (take (length chosen) kn.free_units)) where
    module _ (h : length chosen ≤ n) where
      enough : length chosen ≤ length kn.free_units
      enough = taken-enough chosen found kn.free_units n count stored h

      chosen-are : found ≡ take (units_for size) kn.free_units
      chosen-are = taken-whole chosen found kn.free_units n count stored h ∙ ap (λ (k : ℕ). take k kn.free_units) places

      module _ (m : ℕ) (e : Some m ≡ slice_get (keep kn.map_free (below kn.shape.m)) 0) where
        em : m ≡ lowest_map kn
        em = sym (first-some X m _ e)

        l : m < kn.shape.m
        l = lowest-below kn.map_free kn.shape.m m e

        same-plan : write_steps (head kn.shape) size found m (map_words kn.shape) i ≡ plan_of kn (Write i size)
        unfolding plan_of
        same-plan = λ t. write_steps (head kn.shape) size (chosen-are t) (em t) (map_words kn.shape) i

        same_answer : if_room (length out) (length found + map_words kn.shape + 3) ≡ plan_good kn (Write i size) (length out)
        same_answer =
            let g = kn.shape in
            let long = sym (length-write_steps (head g) size found m (map_words g) i) ∙ ap length same-plan in
            let units = le-ltb (length kn.free_units) (units_for size) (omega (arith, enough)) in
            rw (units, ← em, lt-ltb m g.m l, ← long)

        pub on-lowest :
            (answer : Result ℕ Refusal) (after : List ℕ)
            → Leaves (if_room (length out) (length found + map_words kn.shape + 3)) (write_steps (head kn.shape) size found m (map_words kn.shape) i) out
            answer after
            → AsGood answer after
        on-lowest answer after w = leaves-same _ _ _ _ out answer after same_answer same-plan w

-- ---- a discard, on what is known

pub discard-stored :
    (out after : List ℕ) (i k : ℕ) → Ok k ≡ if_room (length out) 2 → after ≡ put_steps (put_steps out 0 (Link i None ∷ [])) 1 (Fence ∷ [])
    → Leaves (if_room (length out) 2) (Link i None ∷ Fence ∷ []) out (Ok k) after
discard-stored out after i k e h = stored-plan out after (Link i None ∷ Fence ∷ []) 2 k refl e (h ∙ put_steps-cons out 0 (Link i None) (Fence ∷ []))

-- ---- any request, on what is known: 7 and 8

module _ (kn : Known) (r : Request) (out : List ℕ) where
  abbrev Answers : Result ℕ Refusal → List ℕ → Type 0
  Answers answer after = Leaves (plan_in kn r (length out)) (plan_of kn r) out answer after

-- ---- on any image, by what load said of it

module _ (s : List ℕ) (r : Request) (out : List ℕ) where
  plan-passed : verdict s ≡ Ok tt → (answer : Result ℕ Refusal) (after : List ℕ) → Answers (known_of s r) r out answer after
      → (answer ≡ plan_answer s r (length out)) × (after ≡ plan_out s r out)
  plan-passed e answer after h = rw e h

-- the sets that were lent to load are the image's
pub write-passed :
    (s : List ℕ) (l : Loaded) → Loads s l → (out : List ℕ) (answer : Result ℕ Refusal) (after : List ℕ) (i size : ℕ)
    → ((m : Bool) → Answers (known l.shape (in_set l.units) (in_set l.maps) m) (Write i size) out answer after)
    → (answer ≡ plan_answer s (Write i size) (length out)) × (after ≡ plan_out s (Write i size) out)
write-passed s l k out answer after i size h =
    let same = known-loaded s l k (Write i size) in
    plan-passed s (Write i size) out k.passed answer after (subst (λ (kn : Known). Answers kn (Write i size) out answer after) same (h (mapped s i)))

module _ (s : List ℕ) (g : Shape) (passed : verdict s ≡ Ok tt) (shape : g ≡ shape_of s) (out : List ℕ) (answer : Result ℕ Refusal) (after : List ℕ) where
  -- of a chunk that is not below C nobody asks whether it is mapped
  pub discard-passed :
      (i : ℕ) (b : Bool) → b ≡ (ltb i g.c && mapped s i)
      → ((units maps : ℕ → Bool) → Answers (known g units maps b) (Discard i) out answer after)
      → (answer ≡ plan_answer s (Discard i) (length out)) × (after ≡ plan_out s (Discard i) out)
  unfolding plan_in free_units
  discard-passed i b eb h = plan-passed s (Discard i) out passed answer after (at (ltb i (shape_of s).c) refl)
    where
      here : Answers (known (shape_of s) (free_unit s) (free_map s) (ltb i (shape_of s).c && mapped s i)) (Discard i) out answer after
      here =
          let told : b ≡ (ltb i (shape_of s).c && mapped s i) = eb ∙ ap (λ (q : Shape). ltb i q.c && mapped s i) shape in
          let same : known g (free_unit s) (free_map s) b ≡ known (shape_of s) (free_unit s) (free_map s) (ltb i (shape_of s).c && mapped s i) =
          λ t. known (shape t) (free_unit s) (free_map s) (told t) in
          subst (λ (kn : Known). Answers kn (Discard i) out answer after) same (h (free_unit s) (free_map s))

      at : (t : Bool) → ltb i (shape_of s).c ≡ t → Answers (known_of s (Discard i)) (Discard i) out answer after
      at true e = rw e (rw e at here)
      at false e = rw e (rw e at here)
