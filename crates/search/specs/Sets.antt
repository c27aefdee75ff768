-- Sets of numbers given by their tests.
use Rattle.std.specs.Prelude.{ℕ, ◌<◌, ◌≡◌, Bool, true, false, not, ◌&&◌, cond, ◌||◌, List, length, get_or, eqb}
use Rattle.search.specs.Search.{member}

-- the set f with x put in (v true) or taken out (v false)
unfoldable pub put : (ℕ → Bool) → ℕ → Bool → ℕ → Bool
put f x v y = cond (eqb y x) v (f y)

-- the set f with the numbers of a list taken out
unfoldable pub without : (ℕ → Bool) → List ℕ → ℕ → Bool
without f xs y = f y && not (member y xs)

-- the set f with the numbers of a list put in
unfoldable pub with_all : (ℕ → Bool) → List ℕ → ℕ → Bool
with_all f xs y = f y || member y xs

-- us are the k lowest numbers of the set f, rising. No promise cites it: the planner's theorems say so of the units and the map that a plan takes.
pub record Lowest (f : ℕ → Bool) (k : ℕ) (us : List ℕ) : Type 0 where
  pub count : length us ≡ k
  pub inside : (u : ℕ) → member u us ≡ true → f u ≡ true
  pub rising : (i j : ℕ) → i < j → j < k → get_or us i 0 < get_or us j 0
  -- every other number of the set is above them all
  pub others : (u v : ℕ) → member u us ≡ true → f v ≡ true → member v us ≡ false → u < v
