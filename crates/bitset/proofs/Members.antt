-- The members of a set of words are the numbers at which its test holds.
use Prim.Native.Nat.{ℕ, ◌+◌, ◌-◌, ◌*◌, ◌≤◌, ◌<◌}
use mathlib.Core.Bool.{Bool, true}
use mathlib.Core.List.{List}
use mathlib.Core.Logic.{⊎_elim}
use mathlib.Core.Path.{◌≡◌, ap, sym, ◌∙◌, fun_ext}
use native.Mathlib.Nat.{sub-zero}
use native.Mathlib.Omega.{arith}
use lib.ListN.{length}
use Rattle.search.specs.Search.{below, keep, rising}
use Rattle.search.proofs.Bools.{is_false, less-or-not}
use Rattle.search.proofs.Kept.{keep-ext, keep-short, keep-few}
use Rattle.search.proofs.Ranges.{member_below, length_from}
use Rattle.search.proofs.Rising.{rising-all}
use Rattle.bitset.specs.Bits.{bit_set, in_set, limit, members, members_below}
use Rattle.bitset.proofs.BitSets.{length-bit_set, in-bit_set, in-past, past-bit_set}

-- in the first `end` words
below-bit_set : (f : ℕ → Bool) (n end : ℕ) → end ≤ n → members_below (bit_set f n) (64 * end) ≡ keep f (below (64 * end))
below-bit_set f n end h =
    keep-ext (in_set (bit_set f n)) f (below (64 * end)) (λ u m. in-bit_set f n u (omega (arith, member_below u (64 * end) m)))

-- in all of them
pub members-bit_set : (f : ℕ → Bool) (n : ℕ) → members (bit_set f n) ≡ keep f (below (64 * n))
unfolding rising
members-bit_set f n =
    let all : 64 * length (bit_set f n) - 0 ≡ 64 * n = omega (arith, length-bit_set f n) in
    rw all (below-bit_set f n n (omega arith))

-- numbers that are all below k are found below k
found_below : (f : ℕ → Bool) (k n : ℕ) → ((u : ℕ) → f u ≡ true → u < k) → k ≤ n → keep f (below n) ≡ keep f (below k)
found_below f k n only l =
    let all : n ≡ k + (n - k) = omega arith in
    ap (λ (c : ℕ). keep f (below c)) all ∙ keep-short f 0 k (n - k) (λ u a. is_false (f u) (λ e. let low = only u e in omega arith))

-- a set whose numbers are all below k, which have a bit
pub members-below : (f : ℕ → Bool) (k n : ℕ) → ((u : ℕ) → f u ≡ true → u < k) → k ≤ 64 * n → members (bit_set f n) ≡ keep f (below k)
members-below f k n only l = members-bit_set f n ∙ found_below f k (64 * n) only l

-- no member is past the last word
pub members-past : (ws : List ℕ) (n : ℕ) → limit ws ≤ n → members_below ws n ≡ members ws
members-past ws n h =
    let all : n ≡ limit ws + (n - limit ws) = omega arith in
    ap (members_below ws) all ∙ keep-short (in_set ws) 0 (limit ws) (n - limit ws) (λ u a. in-past ws u (omega arith))
    ∙ sym (rising-all (in_set ws) (limit ws))

-- a set all of whose numbers have a bit contains just these
pub in_whole : (f : ℕ → Bool) (n : ℕ) → ((u : ℕ) → f u ≡ true → u < 64 * n) → in_set (bit_set f n) ≡ f
in_whole f n within = fun_ext λ u.
    ⊎_elim (in-bit_set f n u)
    (λ past. past-bit_set f n u past ∙ sym (is_false (f u) (λ e. let low = within u e in omega arith)))
    (less-or-not u (64 * n))

-- no more than n members are below n
pub members-few : (ws : List ℕ) (n : ℕ) → length (members_below ws n) ≤ n
members-few ws n = omega (arith, keep-few (in_set ws) (below n), length_from 0 n)

-- and no more in all than there are bits
pub members-most : (ws : List ℕ) → length (members ws) ≤ limit ws
unfolding rising
members-most ws = rw sub-zero (members-few ws (limit ws))
