-- A set of numbers as words of 64 bits (01: the free set, "kept as 72 words of 64 bits"; "maps likewise in 5 words"), and its members.
use Rattle.std.specs.Prelude.{ℕ, zero, suc, ◌+◌, ◌*◌, ◌/◌, ◌%◌, ◌^◌, ◌≤◌, ◌<◌, Bool, true, false, cond, List, map, ◌≡◌, length, get_or, eqb}
use Rattle.search.specs.Search.{below, keep, rising}
use Rattle.search.specs.Sets.{put}

-- k digits of a word, the lowest first: digit b is 1 where f holds at `base` + b
unfoldable pub bits : (ℕ → Bool) → ℕ → ℕ → ℕ
bits f base zero = 0
bits f base (suc k) = cond (f base) 1 0 + 2 * bits f (suc base) k

-- the set f in n words, "one bit a unit": "bit u mod 64 of word u/64 is 1 if unit u is free, all else 0". Every bit is settled: those of
-- numbers that are no units are 0 since f fails there.
unfoldable pub bit_set : (ℕ → Bool) → ℕ → List ℕ
unfolding bits
bit_set f n = map (λ w. bits f (64 * w) 64) (below n)

-- u is in the set: "bit u mod 64 of word u/64 is 1". Past the last word no number is.
unfoldable pub in_set : List ℕ → ℕ → Bool
in_set ws u = eqb (get_or ws (u / 64) 0 / 2 ^ (u % 64) % 2) 1

-- the numbers below this have a bit
abbrev pub limit : List ℕ → ℕ
limit ws = 64 * length ws

-- the words of a set that has a bit for each number below n
abbrev pub words_for : ℕ → ℕ
words_for n = (n + 63) / 64

-- the set with u, and the set without u: as many words, every other number as before, and nothing changed where u has no bit
unfoldable pub inserted : List ℕ → ℕ → List ℕ
inserted ws u = bit_set (put (in_set ws) u true) (length ws)

unfoldable pub removed : List ℕ → ℕ → List ℕ
removed ws u = bit_set (put (in_set ws) u false) (length ws)

-- the members from i on, "rising", and all of them
abbrev pub members_from : List ℕ → ℕ → List ℕ
members_from ws i = rising (in_set ws) (limit ws) i

abbrev pub members : List ℕ → List ℕ
members ws = members_from ws 0

-- the members below n, "rising"
abbrev pub members_below : List ℕ → ℕ → List ℕ
members_below ws n = keep (in_set ws) (below n)

-- r is the lowest member from `start` on or, where there is none, the limit: "none exactly when nothing is free" (02, request 2). No promise cites it: the
-- theorems say that `first_or (limit ws) (members_from ws start)`, which `next_member` answers, is such a number, and the only one.
pub record NextMember (ws : List ℕ) (start r : ℕ) : Type 0 where
  pub within : r ≤ limit ws
  pub member : r < limit ws → (start ≤ r) × (in_set ws r ≡ true)
  pub lower : (u : ℕ) → start ≤ u → u < r → in_set ws u ≡ false
