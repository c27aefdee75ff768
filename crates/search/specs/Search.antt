-- Searches over the numbers below a bound, and over lists of numbers. Each computes.
use Rattle.std.specs.Prelude.{ℕ, zero, suc, ◌-◌, Bool, true, false, not, ◌&&◌, ◌||◌, cond, List, [], ◌∷◌, ◌++◌, eqb}

-- the numbers from `i`, `count` of them, rising
unfoldable pub from : ℕ → ℕ → List ℕ
from i zero = []
from i (suc count) = i ∷ from (suc i) count

-- the numbers below n, rising
abbrev pub below : ℕ → List ℕ
below n = from 0 n

-- f holds of every number of the list
unfoldable pub all : (ℕ → Bool) → List ℕ → Bool
all f [] = true
all f (x ∷ xs) = f x && all f xs

-- f holds of some number of the list
unfoldable pub any : (ℕ → Bool) → List ℕ → Bool
any f [] = false
any f (x ∷ xs) = f x || any f xs

-- the numbers of the list of which f holds, in their order
unfoldable pub keep : (ℕ → Bool) → List ℕ → List ℕ
keep f [] = []
keep f (x ∷ xs) = let r = keep f xs in cond (f x) (x ∷ r) r

-- x stands in the list
unfoldable pub member : ℕ → List ℕ → Bool
member x xs = any (eqb x) xs

-- no number stands in the list twice
unfoldable pub distinct : List ℕ → Bool
distinct [] = true
distinct (x ∷ xs) = not (member x xs) && distinct xs

-- x stands in the list more than once
unfoldable pub repeated : ℕ → List ℕ → Bool
repeated x [] = false
repeated x (y ∷ ys) = (eqb x y && member x ys) || repeated x ys

-- no number stands in both lists
unfoldable pub disjoint : List ℕ → List ℕ → Bool
disjoint xs ys = all (λ x. not (member x ys)) xs

-- the lowest of the `count` numbers from i at which f holds, or i + count where there is none
unfoldable pub lowest_from : (ℕ → Bool) → ℕ → ℕ → ℕ
lowest_from f i zero = i
lowest_from f i (suc count) = let r = lowest_from f (suc i) count in cond (f i) i r

-- the lowest number below n at which f holds, or n
abbrev pub lowest : (ℕ → Bool) → ℕ → ℕ
lowest f n = lowest_from f 0 n

-- the first number of a list, or d where the list is empty
abbrev pub first_or : ℕ → List ℕ → ℕ
first_or d [] = d
first_or d (x ∷ xs) = x

-- the numbers from i on and below n of which f holds, rising
unfoldable pub rising : (ℕ → Bool) → ℕ → ℕ → List ℕ
rising f n i = keep f (from i (n - i))

-- the lists that f gives on the numbers of a list, one after the other
unfoldable pub joined : (ℕ → List ℕ) → List ℕ → List ℕ
joined f [] = []
joined f (x ∷ xs) = f x ++ joined f xs
