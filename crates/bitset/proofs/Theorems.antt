-- What `next_member` answers, in the form to read: nothing else cites it.
use Prim.Native.Nat.{ℕ, ◌≤◌, ◌<◌}
use mathlib.Core.Bool.{false}
use mathlib.Core.List.{List}
use mathlib.Core.Logic.{⊎_elim}
use mathlib.Core.Path.{◌≡◌, ap}
use native.Mathlib.Omega.{arith}
use Rattle.search.specs.Search.{first_or}
use Rattle.search.proofs.Bools.{contradict, less-or-not}
use Rattle.search.proofs.Members.{no-numbers}
use Rattle.search.proofs.Rising.{rising-first, rising-some, rising_none, rising-empty}
use Rattle.bitset.specs.Bits.{in_set, limit, members_from, NextMember}
use Rattle.bitset.proofs.BitSets.{in-past}

module _ (ws : List ℕ) (start : ℕ) where
  -- what `next_member` promises to answer
  abbrev answer : ℕ
  answer = first_or (limit ws) (members_from ws start)

  pub next-is : NextMember ws start answer
  next-is = ⊎_elim found none (less-or-not answer (limit ws))
    where
      found : answer < limit ws → NextMember ws start answer
      found h =
          let q = rising-first (in_set ws) (limit ws) start (limit ws) (rising-some (in_set ws) (limit ws) start h) in
          record { within = omega arith; member = λ l. (q.from-i, q.holds); lower = q.before }

      none : limit ws ≤ answer → NextMember ws start answer
      none h =
          let nothing = rising_none (in_set ws) (limit ws) start h in
          let end : answer ≡ limit ws = ap (first_or (limit ws)) (no-numbers (members_from ws start) nothing) in
          record {
            within = omega arith;
            member = λ l. absurd (omega arith);
            lower = λ u l m. rising-empty (in_set ws) (limit ws) start u nothing l (omega arith);
          }

  -- one such number is not above another
  next-most : (q r : ℕ) → NextMember ws start q → NextMember ws start r → r ≤ q
  next-most q r a b =
      ⊎_elim (λ h. let m = a.member (omega (arith, b.within)) in contradict m.1 (b.lower q m.0 h)) (λ h. h) (less-or-not q r)

  -- no other number is
  pub next-only : (r : ℕ) → NextMember ws start r → r ≡ answer
  next-only r h = omega (arith, next-most answer r next-is h, next-most r answer h next-is)

  -- "none exactly when nothing is free"
  pub none-is-empty : answer ≡ limit ws → (u : ℕ) → start ≤ u → in_set ws u ≡ false
  none-is-empty e u h = ⊎_elim (λ l. next-is.lower u h (omega arith)) (in-past ws u) (less-or-not u (limit ws))

  pub empty-is-none : ((u : ℕ) → start ≤ u → in_set ws u ≡ false) → answer ≡ limit ws
  empty-is-none none =
      ⊎_elim (λ h. let m = next-is.member h in contradict m.1 (none answer m.0)) (λ h. omega (arith, next-is.within)) (less-or-not answer (limit ws))
