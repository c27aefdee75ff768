-- The set of chunks that the code found against the list of the definition, and what `repair` answers and leaves.
use Rattle.std.specs.Prelude.{Result, Ok, Err}
use Prim.Native.Nat.{ℕ, ◌+◌, ◌*◌, ◌≤◌, ◌<◌}
use native.Mathlib.Omega.{arith}
use mathlib.Core.Path.{◌≡◌, refl, sym, ap, ◌∙◌}
use mathlib.Core.Bool.{Bool, true, false}
use mathlib.Core.List.{List}
use lib.ListN.{length}
use lib.Seq.{sets}
use lib.Dec.{ltb}
use borrow.Author.Tests.{lt-ltb, le-ltb, ltb-true, ltb-false}
use Rattle.search.specs.Search.{below}
use Rattle.search.proofs.Bools.{is_true, contradict}
use Rattle.search.proofs.Kept.{keep-ext, keep-few}
use Rattle.search.proofs.Ranges.{length_from, member_below}
use Rattle.bitset.specs.Bits.{bit_set, in_set, limit, members}
use Rattle.bitset.proofs.BitSets.{length-bit_set}
use Rattle.bitset.proofs.Members.{members-below, in_whole}
use Rattle.layout.specs.declared.Shape.{Shape}
use Rattle.layout.specs.declared.Refusal.{Refusal}
use Rattle.layout.specs.declared.Refusal.TheVariants.{Small}
use Rattle.layout.specs.Trailer.{trailer_outcome}
use Rattle.layout.specs.Layout.{shape_of}
use Rattle.layout.specs.Shaped.{Shaped}
use Rattle.repair.specs.Repair.{unlinks, unlinked, unlink, repaired, list_bytes, listing, if_room, repair_answer, unless_refused}
use Rattle.repair.specs.Claims.{chunk_set_words, bad_below, unlinks_below}
use Rattle.repair.proofs.Unlinking.{list-front}

-- ---- the chunks found

module _ (s : List ℕ) where
  found-low : (i : ℕ) → i < (shape_of s).c → unlinks_below s (shape_of s).c i ≡ unlinks s i
  unfolding unlinks_below bad_below unlinks
  found-low i h = rw (lt-ltb i (shape_of s).c h)

  found-high : (i : ℕ) → (shape_of s).c ≤ i → unlinks_below s (shape_of s).c i ≡ false
  unfolding unlinks_below bad_below
  found-high i h = rw (le-ltb i (shape_of s).c h)

  found_within : (i : ℕ) → unlinks_below s (shape_of s).c i ≡ true → i < (shape_of s).c
  found_within i p =
      ltb-true i (shape_of s).c (is_true (ltb i (shape_of s).c) (λ q. contradict p (found-high i (ltb-false i (shape_of s).c q))))

pub unlinked-few : (s : List ℕ) → length (unlinked s) ≤ (shape_of s).c
unfolding unlinked
unlinked-few s = omega (arith, keep-few (unlinks s) (below (shape_of s).c), length_from 0 (shape_of s).c)

module _ (s : List ℕ) (g : Shape) (h : Shaped s g) (ws : List ℕ) (e : ws ≡ bit_set (unlinks_below s g.c) chunk_set_words) where
  same-c : g.c ≡ (shape_of s).c
  same-c = ap (λ (q : Shape). q.c) h.same

  found : ws ≡ bit_set (unlinks_below s (shape_of s).c) chunk_set_words
  found = e ∙ ap (λ (c : ℕ). bit_set (unlinks_below s c) chunk_set_words) same-c

  pub found-unlinked : members ws ≡ unlinked s
  unfolding unlinked
  found-unlinked =
      ap members found
      ∙ members-below (unlinks_below s (shape_of s).c) (shape_of s).c chunk_set_words (found_within s) (omega (arith, same-c, h.limits.c-high))
      ∙ keep-ext (unlinks_below s (shape_of s).c) (unlinks s) (below (shape_of s).c) (λ i m. found-low s i (member_below i (shape_of s).c m))

  pub found-limit : limit ws ≡ 256
  found-limit = let l = ap length e ∙ length-bit_set (unlinks_below s g.c) chunk_set_words in omega arith

  -- a chunk of the set has an entry
  pub found-entry : (u : ℕ) → in_set ws u ≡ true → 8 * u + 8 ≤ length s
  found-entry u m =
      let f = unlinks_below s (shape_of s).c in
      let whole = in_whole f chunk_set_words (λ i p. omega (arith, found_within s i p, same-c, h.limits.c-high)) in
      let b = found_within s u (sym (ap (λ (t : ℕ → Bool). t u) (ap in_set found ∙ whole)) ∙ m) in
      omega (arith, same-c, h.size)

-- ---- what `repair_in` owes, where the code has the number n of the chunks found

whole : (s : List ℕ) → unlink s (unlinked s) ≡ repaired s
unfolding repaired
whole s = refl

module _ (s out : List ℕ) (n : ℕ) (e : n ≡ length (unlinked s)) where
  abbrev answer : Result ℕ Refusal
  answer = if_room (length out) (length (unlinked s))

  small : length out < 4 * n → answer ≡ Err (Small (4 * n))
  unfolding if_room
  small h = rw (← e, lt-ltb (length out) (4 * n) h)

  enough : 4 * n ≤ length out → answer ≡ Ok n
  unfolding if_room
  enough h = rw (← e, le-ltb (length out) (4 * n) h)

  pub too_short : length out < 4 * n
      → (Err (Small (4 * n)) ≡ if_room (length out) (length (unlinked s)))
      × ((s ≡ unless_refused (if_room (length out) (length (unlinked s))) (repaired s) s)
      × (out ≡ unless_refused (if_room (length out) (length (unlinked s))) (listing s out) out))
  too_short h =
      let w = small h in
      (sym w, (ap (λ (a : Result ℕ Refusal). unless_refused a (repaired s) s) (sym w), ap (λ (a : Result ℕ Refusal). unless_refused a (listing s out) out) (sym w)))

  pub long-enough : 4 * n ≤ length out → (xs t o : List ℕ) → xs ≡ unlinked s → t ≡ unlink s xs → o ≡ sets out 0 (list_bytes xs)
      → (Ok n ≡ if_room (length out) (length (unlinked s)))
      × ((t ≡ unless_refused (if_room (length out) (length (unlinked s))) (repaired s) s)
      × (o ≡ unless_refused (if_room (length out) (length (unlinked s))) (listing s out) out))
  long-enough h xs t o x u w =
      let q = enough h in (
        sym q,
        (
          u ∙ ap (unlink s) x ∙ whole s ∙ ap (λ (a : Result ℕ Refusal). unless_refused a (repaired s) s) (sym q),
          w ∙ ap (λ (ys : List ℕ). sets out 0 (list_bytes ys)) x ∙ list-front (unlinked s) out (omega arith)
              ∙ ap (λ (a : Result ℕ Refusal). unless_refused a (listing s out) out) (sym q),
        ),
      )

-- ---- what `repair` owes, by the trailer

module _ (s : List ℕ) (room : ℕ) where
  pub answer-fits : (g : Shape) → trailer_outcome s ≡ Ok g → if_room room (length (unlinked s)) ≡ repair_answer s room
  unfolding repair_answer
  answer-fits g e = rw e

  pub answer-refused : (r : Refusal) → trailer_outcome s ≡ Err r → Err r ≡ repair_answer s room
  unfolding repair_answer
  answer-refused r e = rw e
