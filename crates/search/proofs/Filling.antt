-- A loop that stores a list as far as there is room: at place j it has stored the first j, and `rest` is left of the list.
use Prim.Native.Nat.{ℕ, suc, ◌+◌, ◌-◌, ◌≤◌, ◌<◌}
use native.Mathlib.Nat.{sub-zero}
use native.Mathlib.Numerals.{add-one}
use native.Mathlib.Omega.{arith}
use mathlib.Core.Logic.{⊎_elim}
use mathlib.Core.Path.{◌≡◌, refl, ap, sym, ◌∙◌}
use mathlib.Core.List.{List, [], ◌∷◌}
use lib.ListN.{length, take, drop, set, length-set}
use lib.Seq.{sets, sets-eq, length-sets, take-nil, take_all, take_at, length-take-le}
use Rattle.search.proofs.Bools.{less-or-not}

pub record Filling (out₀ out : List ℕ) (j : ℕ) (xs rest : List ℕ) : Type 0 where
  pub within : j ≤ length out
  pub same : length out ≡ length out₀
  pub count : length (take (length out₀) xs) ≡ j + length (take (length out₀ - j) rest)
  pub bytes : sets out j (take (length out₀ - j) rest) ≡ sets out₀ 0 (take (length out₀) xs)

pub filling-start : (out xs : List ℕ) → Filling out out 0 xs xs
filling-start out xs = record { within = omega arith; same = refl; count = rw sub-zero (omega arith); bytes = rw sub-zero }

module _ (out₀ out : List ℕ) (j : ℕ) (xs rest : List ℕ) (h : Filling out₀ out j xs rest) where
  -- one more number
  pub filling-more : (a : ℕ) (ys : List ℕ) → j < length out → rest ≡ a ∷ ys → Filling out₀ (set out j a) (j + 1) xs ys
  filling-more a ys l e =
      let next : length out₀ - j ≡ suc (length out₀ - (j + 1)) = omega (arith, h.same) in
      let long = length-set out j a in
      let count = rw (next, e) at h.count in
      record {
        within = omega arith;
        same = length-set out j a ∙ h.same;
        count = omega arith;
        bytes = rw (add-one j) (rw (next, e, add-one j) at h.bytes);
      }

  -- nothing left to store
  ended : take (length out₀ - j) rest ≡ [] → (j ≡ length (take (length out₀) xs)) × (out ≡ sets out₀ 0 (take (length out₀) xs))
  ended e = let n = rw e at h.count in (omega arith, rw e at h.bytes)

  -- the list ends, or the room
  pub filling-all : rest ≡ [] → (j ≡ length (take (length out₀) xs)) × (out ≡ sets out₀ 0 (take (length out₀) xs))
  filling-all e = ended (ap (take (length out₀ - j)) e ∙ take-nil (length out₀ - j))

  pub filling-full : length out ≤ j → (j ≡ length (take (length out₀) xs)) × (out ≡ sets out₀ 0 (take (length out₀) xs))
  filling-full l =
      let none : length out₀ - j ≡ 0 = omega (arith, h.same) in
      ended (ap (λ (n : ℕ). take n rest) none)

length_taken : (k : ℕ) (xs : List ℕ) → length (take k xs) ≤ k
length_taken k xs =
    ⊎_elim (λ l. let e = ap length (take_all k xs (omega arith)) in omega arith) (λ l. omega (arith, length-take-le k xs l)) (less-or-not (length xs) k)

-- ---- what such a loop leaves: n numbers stored, as many as there are or as there is room for

module _ (out₀ out xs : List ℕ) (n : ℕ) (count : n ≡ length (take (length out₀) xs)) (bytes : out ≡ sets out₀ 0 (take (length out₀) xs)) where
  -- fewer than there is room for are all of them
  pub taken-few : n < length out₀ → n ≡ length xs
  taken-few h =
      ⊎_elim (λ l. count ∙ ap length (take_all (length out₀) xs (omega arith)))
      (λ l. absurd (omega (arith, length-take-le (length out₀) xs l)))
      (less-or-not (length xs) (length out₀))

  -- the first n places have them
  taken-front : take n out ≡ take (length out₀) xs
  taken-front =
      let us = take (length out₀) xs in
      ap (take n) (bytes ∙ sets-eq us out₀ 0 (omega (arith, length_taken (length out₀) xs))) ∙ take_at us (drop (0 + length us) out₀) n (sym count)

  -- no place is left: there are as many, and just these are stored
  module _ (full : length out₀ ≤ n) where
    pub taken-enough : length out₀ ≤ length xs
    taken-enough =
        ⊎_elim (λ l. let e = count ∙ ap length (take_all (length out₀) xs (omega arith)) in omega arith) (λ l. l) (less-or-not (length xs) (length out₀))

    pub taken-whole : out ≡ take (length out₀) xs
    taken-whole =
        let long = ap length bytes ∙ length-sets out₀ 0 (take (length out₀) xs) in
        sym (take_all n out (omega arith)) ∙ taken-front
