-- Claims counted in two sets: none, one claim more, and a list of claims one after the other.
use Prim.Native.Nat.{ℕ, ◌+◌, ◌*◌, ◌≤◌, ◌<◌}
use native.Mathlib.Numerals.{add-one}
use mathlib.Core.Path.{◌≡◌, sym, ap, ◌∙◌, subst}
use mathlib.Core.Bool.{Bool, true, false, ◌&&◌, ◌||◌, or-false}
use mathlib.Core.Logic.{⊎_elim}
use mathlib.Core.List.{List, [], ◌∷◌, ◌++◌, append_assoc, append-nil}
use lib.ListN.{length, get_or, take, replicate}
use lib.Seq.{take-suc, take_all}
use lib.Dec.{eqb}
use borrow.Author.Tests.{eqb-true}
use Rattle.search.specs.Search.{member, repeated, any}
use Rattle.search.proofs.Bools.{contradict, is_false, same, and_left, and_right, and_intro, or_cases, or_left}
use Rattle.search.proofs.Taken.{put-in, member-last}
use Rattle.search.proofs.Repeated.{repeated-last}
use Rattle.bitset.specs.Bits.{in_set, inserted}
use Rattle.bitset.proofs.BitSets.{bit_set-ext, bit_set-none, in-bit_set, inserted-set}
use Rattle.repair.specs.Claims.{claim_words, Counted}

-- ---- one claim more

module _ (xs once again : List ℕ) (x : ℕ) (h : Counted xs once again) where
  -- whether a number with a bit was claimed
  claimed : (y : ℕ) → y < 64 * claim_words → eqb y x ≡ true → member y xs ≡ in_set once x
  claimed y l e =
      sym (in-bit_set (λ z. member z xs) claim_words y l) ∙ ap (λ (ws : List ℕ). in_set ws y) (sym h.first) ∙ ap (in_set once) (eqb-true y x e)

  -- the first claim of x
  pub claim-first : (after : List ℕ) → in_set once x ≡ false → after ≡ inserted once x → Counted (xs ++ (x ∷ [])) after again
  claim-first after n e = record {
    first =
        e ∙ ap (λ (ws : List ℕ). inserted ws x) h.first ∙ inserted-set (λ z. member z xs) claim_words x
        ∙ bit_set-ext _ _ claim_words (λ y l. put-in (λ z. member z xs) x y ∙ sym (member-last y x xs));
    more = h.more ∙ bit_set-ext _ _ claim_words (λ y l. sym (repeated-last y x xs ∙ ap (λ (b : Bool). repeated y xs || b) (none y l) ∙ or-false (repeated y xs)));
  }
    where
      none : (y : ℕ) → y < 64 * claim_words → (eqb y x && member y xs) ≡ false
      none y l = is_false (eqb y x && member y xs) (λ p.
          contradict (sym (claimed y l (and_left (eqb y x) (member y xs) p)) ∙ and_right (eqb y x) (member y xs) p) n)

  -- a later one
  pub claim-later : (after : List ℕ) → in_set once x ≡ true → after ≡ inserted again x → Counted (xs ++ (x ∷ [])) once after
  claim-later after p e = record {
    first = h.first ∙ bit_set-ext _ _ claim_words (λ y l. sym (member-last y x xs ∙ there y l));
    more =
        e ∙ ap (λ (ws : List ℕ). inserted ws x) h.more ∙ inserted-set (λ z. repeated z xs) claim_words x
        ∙ bit_set-ext _ _ claim_words (λ y l. put-in (λ z. repeated z xs) x y ∙ ap (λ (b : Bool). repeated y xs || b) (both y l) ∙ sym (repeated-last y x xs));
  }
    where
      there : (y : ℕ) → y < 64 * claim_words → (member y xs || eqb y x) ≡ member y xs
      there y l = same (member y xs || eqb y x) (member y xs)
          (λ q. ⊎_elim (λ k. k) (λ k. claimed y l k ∙ p) (or_cases (member y xs) (eqb y x) q))
          (λ q. or_left (member y xs) (eqb y x) q)

      both : (y : ℕ) → y < 64 * claim_words → eqb y x ≡ (eqb y x && member y xs)
      both y l = same (eqb y x) (eqb y x && member y xs) (λ k. and_intro (eqb y x) (member y xs) k (claimed y l k ∙ p)) (λ q. and_left (eqb y x) (member y xs) q)

-- before the first claim
pub counted_none : (once again : List ℕ) → once ≡ replicate claim_words 0 → again ≡ replicate claim_words 0 → Counted [] once again
unfolding member repeated any
counted_none once again e f = record { first = e ∙ bit_set-none claim_words; more = f ∙ bit_set-none claim_words }

-- ---- the claims us, of which the first j have been counted after xs

module _ (us xs : List ℕ) (j : ℕ) (once again : List ℕ) where
  pub counted-more : (x : ℕ) → j < length us → x ≡ get_or us j 0 → Counted ((xs ++ take j us) ++ (x ∷ [])) once again
      → Counted (xs ++ take (j + 1) us) once again
  counted-more x h e c = subst (λ (ys : List ℕ). Counted ys once again) joint c
    where
      joint : (xs ++ take j us) ++ (x ∷ []) ≡ xs ++ take (j + 1) us
      joint = append_assoc xs (take j us) (x ∷ []) ∙ rw (add-one j, take-suc us j 0 h, e)

  pub counted-all : length us ≤ j → Counted (xs ++ take j us) once again → Counted (xs ++ us) once again
  counted-all h c = rw (take_all j us h) at c

pub counted_start : (us xs once again : List ℕ) → Counted xs once again → Counted (xs ++ take 0 us) once again
counted_start us xs once again c = subst (λ (ys : List ℕ). Counted ys once again) (sym (append-nil xs)) c
