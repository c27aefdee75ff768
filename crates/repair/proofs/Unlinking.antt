-- What unlinking and listing chunks leaves: one chunk more, and the words and bytes that stay.
use Prim.Native.Nat.{ℕ, ◌+◌, ◌*◌, ◌≤◌, ◌<◌}
use native.Mathlib.Omega.{arith}
use mathlib.Core.Path.{◌≡◌, sym, ◌∙◌}
use mathlib.Core.List.{List, [], ◌∷◌, ◌++◌}
use lib.ListN.{length, drop}
use lib.Seq.{sets}
use Rattle.search.specs.Search.{first_or, joined}
use Rattle.search.proofs.Members.{no-numbers}
use Rattle.search.proofs.Joined.{length-joined, length-joined-low}
use Rattle.search.proofs.Rising.{First, rising-first}
use Rattle.words.specs.Words.{digits, store_at}
use Rattle.words.proofs.Laws.{sets-append, sets-front, length_digits}
use Rattle.bitset.specs.Bits.{in_set, limit, members_from}
use Rattle.layout.specs.Layout.{X}
use Rattle.repair.specs.Repair.{unlink, list_bytes}

-- ---- the next chunk of a set, of which k have been unlinked and more are left

pub next-found : (ws : List ℕ) (from r k n : ℕ) → r ≡ first_or (limit ws) (members_from ws from) → n ≡ k + length (members_from ws from) → k < n
    → First (in_set ws) (limit ws) from r
next-found ws from r k n e c h = rw e (rising-first (in_set ws) (limit ws) from (limit ws) (omega arith))

module _ (i : ℕ) (xs ys : List ℕ) (e : xs ≡ i ∷ ys) where
  pub unlink-next : (s t : List ℕ) → t ≡ store_at 8 s (8 * i) X → unlink t ys ≡ unlink s xs
  unfolding unlink
  unlink-next s t w = rw (w, e)

  pub list-next : (out after : List ℕ) (k : ℕ) → after ≡ store_at 4 out (4 * k) i → sets after (4 * (k + 1)) (list_bytes ys) ≡ sets out (4 * k) (list_bytes xs)
  unfolding list_bytes joined
  list-next out after k w =
      let p : 4 * (k + 1) ≡ 4 * k + length (digits 4 i) = omega (arith, length_digits 4 i) in
      rw (e, p, w) (sym (sets-append (digits 4 i) (list_bytes ys) out (4 * k)))

-- and when none is left
module _ (xs : List ℕ) (k n : ℕ) (c : n ≡ k + length xs) (h : n ≤ k) where
  none : xs ≡ []
  none = no-numbers xs (omega arith)

  pub unlink-end : (s : List ℕ) → unlink s xs ≡ s
  unfolding unlink
  unlink-end s = rw none

  pub list-end : (out : List ℕ) (at : ℕ) → sets out at (list_bytes xs) ≡ out
  unfolding list_bytes joined
  list-end out at = rw none

-- ---- the list in a lent buffer

pub length-list_bytes : (xs : List ℕ) → length (list_bytes xs) ≡ 4 * length xs
unfolding list_bytes
length-list_bytes xs =
    let high = length-joined (digits 4) 4 xs (λ x. omega (arith, length_digits 4 x)) in
    let low = length-joined-low (digits 4) 4 xs (λ x m. omega (arith, length_digits 4 x)) in
    omega arith

pub list-front : (xs out : List ℕ) → 4 * length xs ≤ length out → sets out 0 (list_bytes xs) ≡ list_bytes xs ++ drop (4 * length xs) out
list-front xs out h = let e = length-list_bytes xs in sets-front out (list_bytes xs) (omega arith) ∙ rw e
