-- A tally: a word with a bit for each number that is expected, once each. Number 63, which is never expected, is put in where one comes that is not
-- expected, or is not right. The law that it decides 'each once, and right' is `tally-decides` (proofs/Meeting.antt).
use Rattle.std.specs.Prelude.{ℕ, Bool, true, false, ◌&&◌, cond, List, [], ◌∷◌, eqb, ltb}
use Rattle.search.specs.Sets.{put}
use Rattle.bitset.specs.Bits.{bits, in_set}
use Rattle.steps.specs.declared.Step.{Step}

module _ {A : Type 0} where
  -- what is kept after a list of steps
  unfoldable pub fold : (A → Step → A) → A → List Step → A
  fold f a [] = a
  fold f a (x ∷ xs) = fold f (f a x) xs

abbrev pub in_word : ℕ → ℕ → Bool
in_word w j = in_set (w ∷ []) j

-- the word of a set
abbrev pub word_of_set : (ℕ → Bool) → ℕ
word_of_set f = bits f 0 64

-- the numbers below n are expected
unfoldable pub expected : ℕ → ℕ
expected n = word_of_set (λ j. ltb j n)

-- the set after number j comes, right or not
unfoldable pub ticked : (ℕ → Bool) → ℕ → Bool → ℕ → Bool
ticked f j right = cond (ltb j 63 && (f j && right)) (put f j false) (put f 63 true)

unfoldable pub tick_off : ℕ → ℕ → Bool → ℕ
tick_off w j right = word_of_set (ticked (in_word w) j right)

-- each came, and was right
abbrev pub complete : ℕ → Bool
complete w = eqb w 0
