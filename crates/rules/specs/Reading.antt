-- The five rules to read, in document 01's words: what a reader must believe of the checker. checker/proofs/Theorems.antt has that they are what is computed, both ways.
use Rattle.std.specs.Prelude.{ℕ, zero, suc, ◌+◌, ◌*◌, ◌<◌, ◌≤◌, ◌≡◌, Bool, true, false, List, [], ◌∷◌, length, Option, Some, None, Result, Ok, Err, ⊤}
use Rattle.layout.specs.declared.Shape.{Shape}
use Rattle.layout.specs.declared.Refusal.{Refusal}
use Rattle.layout.specs.declared.Refusal.TheVariants.{Short, Foreign, Geometry, BadLink, BadMap, Shared, Range, Size, NoRoom, Small, BadPlan, BadAlarm}
use Rattle.layout.specs.Layout.{X, unit_bytes, units_for, head, map_words, shape_of}
use Rattle.image.specs.Soundness.{Sound}
use Rattle.image.specs.Rows.{Row}
use Rattle.steps.specs.declared.Step.{Step}
use Rattle.steps.specs.declared.Step.TheVariants.{Data, Map, Link, Fence}
use Rattle.steps.specs.declared.Request.{Request}
use Rattle.steps.specs.declared.Request.TheVariants.{Write, Discard}
use Rattle.steps.specs.Steps.{step_bytes, whole_steps, decode_at, steps_of, chunk_of, word_of}
use Rattle.rules.specs.Rules.{max_steps, Known, known_of}

-- x stands at place i of a list, counted from 0
module _ {A : Type 0} where
  abbrev pub At : List A → ℕ → A → Type 0
  At [] i x = ⊥
  At (y ∷ ys) zero x = y ≡ x
  At (y ∷ ys) (suc i) x = At ys i x

-- ---- 1

-- "a MAP value below N or X, a LINK value below M or X"
abbrev pub ValueBelow : ℕ → Option ℕ → Type 0
ValueBelow n (Some w) = w < n
ValueBelow n None = Unit {0}

-- "word 0 holds 1 to P·4,096 (rule 1)"
abbrev pub SizeValue : Shape → Option ℕ → Type 0
SizeValue g (Some w) = (1 ≤ w) × (w ≤ g.p * unit_bytes)
SizeValue g None = ⊥

-- "units below N, pieces and words below P, maps below M, chunks below C"; "unused fields 0"; in edition 2 "MAP words run from 0 to P"
abbrev pub Bounded : Shape → Step → Type 0
Bounded g (Data u j w) = (u < g.n) × (j < g.p) × (w ≡ 0)
Bounded g (Map k j v) = (k < g.m) × (j < map_words g) × (j < head g → SizeValue g v) × (head g ≤ j → ValueBelow g.n v)
Bounded g (Link i v) = (i < g.c) × ValueBelow g.m v
Bounded g Fence = Unit {0}

pub record Rule1 (g : Shape) (plan : List ℕ) : Type 0 where
  -- "Whole steps, at most 64"
  pub whole : length plan ≡ step_bytes * whole_steps plan
  pub few : whole_steps plan ≤ max_steps
  -- "of the four kinds", each within its bounds
  pub steps : (i : ℕ) → i < whole_steps plan → (x : Step) × (decode_at plan i ≡ Some x) × Bounded g x

-- ---- 2

-- the steps of a write of k pieces; `free` has the free units, rising, the lowest at place 0
pub record Pieces (free : List ℕ) (k : ℕ) (xs : List Step) : Type 0 where
  -- "pieces 0 to k-1 once each"
  pub each : (j : ℕ) → j < k → (i : ℕ) × (u : ℕ) × (w : ℕ) × At xs i (Data u j w)
  pub once : (i i' u u' j w w' : ℕ) → At xs i (Data u j w) → At xs i' (Data u' j w') → i ≡ i'
  -- "no other"
  pub no_other : (i u j w : ℕ) → At xs i (Data u j w) → j < k
  -- "piece j goes on the j-th lowest free unit, piece 0 on the lowest" (02, request 6)
  pub lowest : (i u j w : ℕ) → At xs i (Data u j w) → At free j u

abbrev pub Rule2 : List ℕ → Request → List Step → Type 0
Rule2 free (Write c size) xs = Pieces free (units_for size) xs
-- "Discard: no DATA."
Rule2 free (Discard c) xs = (i u j w : ℕ) → At xs i (Data u j w) → ⊥

-- ---- 3

-- a plan for a map of n words, of which `heads` stand before the units, for a write of `size` bytes in k pieces
pub record MapWords (n heads size k : ℕ) (free : ℕ → Bool) (xs : List Step) : Type 0 where
  -- "all MAP steps on one free map"
  pub one_map : (i i' m m' j j' : ℕ) (v v' : Option ℕ) → At xs i (Map m j v) → At xs i' (Map m' j' v') → m ≡ m'
  pub free-map : (i m j : ℕ) (v : Option ℕ) → At xs i (Map m j v) → free m ≡ true
  -- "each word 0 to P-1 once", in edition 2 0 to P, and no other
  pub each : (j : ℕ) → j < n → (i : ℕ) × (m : ℕ) × (v : Option ℕ) × At xs i (Map m j v)
  pub once : (i i' m m' j : ℕ) (v v' : Option ℕ) → At xs i (Map m j v) → At xs i' (Map m' j v') → i ≡ i'
  pub no_other : (i m j : ℕ) (v : Option ℕ) → At xs i (Map m j v) → j < n
  -- in edition 2 word 0 holds "the request's size (rule 3)"
  pub sizes : (i m j : ℕ) (v : Option ℕ) → j < heads → At xs i (Map m j v) → word_of v ≡ size
  -- "word j is piece j's unit for j below k, else X"; in edition 2 "word j+1"
  pub units : (i i' m j u w : ℕ) (v : Option ℕ) → j < k → At xs i (Map m (heads + j) v) → At xs i' (Data u j w) → word_of v ≡ u
  pub rest : (i m j : ℕ) (v : Option ℕ) → k ≤ j → At xs i (Map m (heads + j) v) → word_of v ≡ X

abbrev pub Rule3 : Shape → (ℕ → Bool) → Request → List Step → Type 0
Rule3 g free (Write c size) xs = MapWords (map_words g) (head g) size (units_for size) free xs
-- "Discard: no MAP."
Rule3 g free (Discard c) xs = (i m j : ℕ) (v : Option ℕ) → At xs i (Map m j v) → ⊥

-- ---- 4

-- "one LINK, this chunk"
pub record OneLink (c : ℕ) (xs : List Step) : Type 0 where
  pub there : (i : ℕ) × (v : Option ℕ) × At xs i (Link c v)
  pub alone : (i i' a a' : ℕ) (v v' : Option ℕ) → At xs i (Link a v) → At xs i' (Link a' v') → i ≡ i'

abbrev pub Rule4 : Request → Bool → List Step → Type 0
-- "one LINK, this chunk, that map": the map that the MAP steps are on
Rule4 (Write c size) chunk_mapped xs =
    OneLink c xs × ((i i' a m j : ℕ) (v v' : Option ℕ) → At xs i (Link a v) → At xs i' (Map m j v') → word_of v ≡ m)
-- "Discard of a mapped chunk: one LINK, this chunk, X."
Rule4 (Discard c) true xs = OneLink c xs × ((i a : ℕ) (v : Option ℕ) → At xs i (Link a v) → word_of v ≡ X)
-- "Of an unmapped one: no LINK."
Rule4 (Discard c) false xs = (i a : ℕ) (v : Option ℕ) → At xs i (Link a v) → ⊥

-- ---- 5

-- a DATA or a MAP step
abbrev pub Stored : Step → Type 0
Stored (Data u j w) = Unit {0}
Stored (Map k j v) = Unit {0}
Stored (Link i v) = ⊥
Stored Fence = ⊥

-- "the last step is FENCE"
abbrev pub LastFence : List Step → Type 0
LastFence xs = (n : ℕ) × (length xs ≡ suc n) × At xs n Fence

pub record Fenced (xs : List Step) : Type 0 where
  -- "every DATA and MAP precedes LINK"
  pub before : (i l c : ℕ) (v : Option ℕ) (x : Step) → At xs l (Link c v) → At xs i x → Stored x → i < l
  -- "with a FENCE after the last of them and before LINK"
  pub fence :
      (l c : ℕ) (v : Option ℕ) → At xs l (Link c v) → (f : ℕ) × (f < l) × At xs f Fence × ((i : ℕ) (x : Step) → At xs i x → Stored x → i < f)
  -- "the last step is FENCE"
  pub last : LastFence xs

abbrev pub Rule5 : Request → Bool → List Step → Type 0
Rule5 (Write c size) chunk_mapped xs = Fenced xs
-- "Discard of a mapped chunk: the last step is FENCE."
Rule5 (Discard c) true xs = LastFence xs
-- "Of an unmapped one: no steps."
Rule5 (Discard c) false xs = xs ≡ []

-- ---- all five

-- a plan keeps rule n; there are rules 1 to 5
abbrev pub Rule : Known → Request → List ℕ → ℕ → Type 0
Rule kn r plan zero = Unit {0}
Rule kn r plan (suc zero) = Rule1 kn.shape plan
Rule kn r plan (suc (suc zero)) = Rule2 kn.free_units r (steps_of plan)
Rule kn r plan (suc (suc (suc zero))) = Rule3 kn.shape kn.map_free r (steps_of plan)
Rule kn r plan (suc (suc (suc (suc zero)))) = Rule4 r kn.chunk_mapped (steps_of plan)
Rule kn r plan (suc (suc (suc (suc (suc zero))))) = Rule5 r kn.chunk_mapped (steps_of plan)
Rule kn r plan (suc (suc (suc (suc (suc (suc n)))))) = Unit {0}

-- the five rules are kept
abbrev pub KeepsAll : Known → Request → List ℕ → Type 0
KeepsAll kn r plan = (n : ℕ) → Rule kn r plan n

-- "lowest rule broken": rule n is not kept, and every one before it is
pub record LowestBroken (kn : Known) (r : Request) (plan : List ℕ) (n : ℕ) : Type 0 where
  pub broken : Rule kn r plan n → ⊥
  pub lower : (i : ℕ) → i < n → Rule kn r plan i

-- "A request is good if its chunk is below C and a write's size is 1 to P·4,096."
abbrev pub GoodRequest : Shape → Request → Type 0
GoodRequest g (Write c size) = (c < g.c) × (1 ≤ size) × (size ≤ g.p * unit_bytes)
GoodRequest g (Discard c) = c < g.c

-- ---- the answer

-- when the checker gives a refusal: "Each is given when its row holds and not otherwise", "the image's own before others"
abbrev pub Refuses : List ℕ → Request → List ℕ → Refusal → Type 0
-- 7 "chunk not below C"
Refuses s r plan Range = Sound (shape_of s) s × ((shape_of s).c ≤ chunk_of r)
-- 8 "compressed size 0 or above P·4,096"
Refuses s r plan Size = Sound (shape_of s) s × (chunk_of r < (shape_of s).c) × (GoodRequest (shape_of s) r → ⊥)
-- 11 "a plan rule broken", "lowest rule broken"
Refuses s r plan (BadPlan n) = Sound (shape_of s) s × GoodRequest (shape_of s) r × LowestBroken (known_of s r) r plan n
-- 1 to 6, where their row holds of the image; "Refusal 9 isn't given here", nor 10 or 12
Refuses s r plan Short = Row s Short
Refuses s r plan Foreign = Row s Foreign
Refuses s r plan Geometry = Row s Geometry
Refuses s r plan (BadLink i) = Row s (BadLink i)
Refuses s r plan (BadMap i) = Row s (BadMap i)
Refuses s r plan (Shared i j) = Row s (Shared i j)
Refuses s r plan (NoRoom n) = ⊥
Refuses s r plan (Small n) = ⊥
Refuses s r plan BadAlarm = ⊥

-- when it gives an answer: it accepts a plan where the image is sound, the request good and the five rules kept
abbrev pub Answers : List ℕ → Request → List ℕ → Result ⊤ Refusal → Type 0
Answers s r plan (Ok tt) = Sound (shape_of s) s × GoodRequest (shape_of s) r × KeepsAll (known_of s r) r plan
Answers s r plan (Err x) = Refuses s r plan x
