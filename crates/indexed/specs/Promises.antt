-- What holds of the indexed calls with every index, true, stale or made up, and on every image (02, request 7).
use Rattle.std.specs.Prelude.{ℕ, ◌<◌, ◌≡◌, ◌⊎◌, false, List, length, drop, Err}
use Rattle.layout.specs.declared.Refusal.{Refusal}
use Rattle.layout.specs.Layout.{edition_of, trailer_at, shape_of, word_at, link_of, words_of}
use Rattle.steps.specs.declared.Request.{Request}
use Rattle.steps.specs.Steps.{chunk_of}
use Rattle.carry.specs.Carry.{link_within}
use Rattle.indexed.specs.Admitting.{Index}
use Rattle.indexed.specs.Calls.{plan_answer_by, plan_out_by, checked_by, carry_answer_by, carry_image_by, next_index}

-- ---- "a refusal still alters nothing lent", and "a refused call gives back the one it took"

pub record Unaltered (ix : Index) (s : List ℕ) (r : Request) : Type 0 where
  pub output : (out : List ℕ) (x : Refusal) → plan_answer_by ix s r (length out) ≡ Err x → plan_out_by ix s r out ≡ out
  pub image : (plan : List ℕ) (n : ℕ) (x : Refusal) → carry_answer_by ix s r plan n ≡ Err x → carry_image_by ix s r plan n ≡ s
  pub index : (plan : List ℕ) (n : ℕ) (x : Refusal) → carry_answer_by ix s r plan n ≡ Err x → next_index ix s r plan n ≡ ix
  -- nor does a carrying out change the index that has not come to LINK
  pub before-link : (plan : List ℕ) (n : ℕ) → link_within plan n ≡ false → next_index ix s r plan n ≡ ix

abbrev pub RefusalsAlterNothing : Type 0
RefusalsAlterNothing = (ix : Index) (s : List ℕ) (r : Request) → Unaltered ix s r

-- ---- "A plan, a check or a carrying out depends on no entry or map but its own chunk's."

-- two images that may differ in everything but their length, their trailer, and chunk i's entry and map
pub record AlikeAt (i : ℕ) (s t : List ℕ) : Type 0 where
  pub size : length t ≡ length s
  -- the bytes from the trailer's first on
  pub trailer : drop (trailer_at (edition_of s) s) t ≡ drop (trailer_at (edition_of s) s) s
  -- the chunk's entry, if it has one, and the words of the map that it names, if it names one
  pub entry : i < (shape_of s).c → link_of t i ≡ link_of s i
  pub map : i < (shape_of s).c → link_of s i < (shape_of s).m → words_of (shape_of s) t (link_of s i) ≡ words_of (shape_of s) s (link_of s i)

-- word q where s became s' and t became t': it is the same in both now, or in each what it was
abbrev pub StoredAlike : List ℕ → List ℕ → List ℕ → List ℕ → ℕ → Type 0
StoredAlike s t s' t' q = (word_at t' q ≡ word_at s' q) ⊎ ((word_at t' q ≡ word_at t q) × (word_at s' q ≡ word_at s q))

-- a plan, a check and a carrying out, with one index: the same answers, the same bytes of a plan, the same words stored, and the same next index
pub record SameOn (ix : Index) (s t : List ℕ) (r : Request) : Type 0 where
  pub plans : (room : ℕ) → plan_answer_by ix t r room ≡ plan_answer_by ix s r room
  pub output : (out : List ℕ) → plan_out_by ix t r out ≡ plan_out_by ix s r out
  pub checks : (plan : List ℕ) → checked_by ix t r plan ≡ checked_by ix s r plan
  pub carries : (plan : List ℕ) (n : ℕ) → carry_answer_by ix t r plan n ≡ carry_answer_by ix s r plan n
  pub stored : (plan : List ℕ) (n q : ℕ) → StoredAlike s t (carry_image_by ix s r plan n) (carry_image_by ix t r plan n) q
  pub index : (plan : List ℕ) (n : ℕ) → next_index ix t r plan n ≡ next_index ix s r plan n

abbrev pub Local : Type 0
Local = (ix : Index) (s t : List ℕ) (r : Request) → AlikeAt (chunk_of r) s t → SameOn ix s t r
