-- Carrying out the first n steps of a plan: what it answers, and every byte of the image afterwards.
use Rattle.std.specs.Prelude.{ℕ, ◌≢◌, Bool, true, false, cond, List, [], ◌∷◌, ltb, take, Option, Some, None, Result, Ok, Err, ⊤}
use Rattle.search.specs.Search.{below, any}
use Rattle.layout.specs.declared.Shape.{Shape}
use Rattle.layout.specs.declared.Refusal.TheVariants.{Range}
use Rattle.layout.specs.Layout.{shape_of, put_word, map_word_place}
use Rattle.image.specs.Verdicts.{verdict}
use Rattle.image.specs.Answers.{if_sound}
use Rattle.steps.specs.declared.Step.{Step}
use Rattle.steps.specs.declared.Step.TheVariants.{Data, Map, Link, Fence}
use Rattle.steps.specs.declared.Request.{Request}
use Rattle.steps.specs.Steps.{word_of, decode_at, steps_of, whole_steps}
use Rattle.rules.specs.Rules.{Known, known_of, judged}
use Rattle.layout.specs.declared.Refusal.{Refusal}

-- ---- the image: "stores the MAP and LINK words of those n and no other byte. DATA is the caller's."

-- after one step
abbrev pub carry : List ℕ → Step → List ℕ
carry s (Data u j w) = s
carry s (Map k j v) = put_word s (map_word_place (shape_of s) k j) (word_of v)
carry s (Link i v) = put_word s i (word_of v)
carry s Fence = s

-- after one step and then the others
unfoldable pub carry_all : List ℕ → List Step → List ℕ
carry_all s [] = s
carry_all s (x ∷ xs) = carry_all (carry s x) xs

-- after the first n steps of a plan
unfoldable pub carried : List ℕ → List ℕ → ℕ → List ℕ
carried s plan n = carry_all s (take n (steps_of plan))

-- what the bytes of a step say is a LINK
abbrev pub says_link : Option Step → Bool
says_link (Some (Data u j w)) = false
says_link (Some (Map k j v)) = false
says_link (Some (Link i v)) = true
says_link (Some Fence) = false
says_link None = false

-- a LINK is among the first n steps of a plan
unfoldable pub link_within : List ℕ → ℕ → Bool
link_within plan n = any (λ i. says_link (decode_at plan i)) (below n)

-- "and no other byte": a step does not store word q of an image of shape g; bytes 8·q to 8·q+7 are that word's
abbrev pub Misses : Shape → ℕ → Step → Type 0
Misses g q (Data u j w) = Unit {0}
Misses g q (Map k j v) = map_word_place g k j ≢ q
Misses g q (Link i v) = i ≢ q
Misses g q Fence = Unit {0}

-- ---- the answer: "Carrying out the first n steps checks the plan"

-- Of what is known, of an image or from any sets: 7 for a "step count above the plan's whole steps", or what the checker answers. It is the whole plan that is checked,
-- even for n = 0.
unfoldable pub carry_in : Known → Request → List ℕ → ℕ → Result ⊤ Refusal
carry_in kn r plan n = cond (ltb (whole_steps plan) n) (Err Range) (judged kn r plan)

-- of any image: "Every entry point first applies 1 to 6 to its image"
abbrev pub carry_answer : List ℕ → Request → List ℕ → ℕ → Result ⊤ Refusal
carry_answer s r plan n = if_sound (verdict s) Err (carry_in (known_of s r) r plan n)

-- "A refusal changes nothing lent": the image that an answer leaves
abbrev pub left_by : Result ⊤ Refusal → List ℕ → List ℕ → ℕ → List ℕ
left_by (Ok tt) s plan n = carried s plan n
left_by (Err x) s plan n = s

-- the image afterwards
abbrev pub carry_image : List ℕ → Request → List ℕ → ℕ → List ℕ
carry_image s r plan n = left_by (carry_answer s r plan n) s plan n
