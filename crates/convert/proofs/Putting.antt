-- Words stored one after the other: the shape stays, each of them is set, every other word stays; and a loop that stores them.
use Prim.Native.Nat.{ℕ, zero, suc, ◌+◌, ◌-◌, ◌*◌, ◌≤◌, ◌<◌}
use native.Mathlib.Omega.{arith}
use native.Mathlib.Nat.{add-zero, sub-zero}
use mathlib.Core.Path.{◌≡◌, refl, ap, ◌∙◌}
use mathlib.Core.Logic.{◌⊎◌, inl, inr, ⊎_elim}
use mathlib.Core.List.{List, [], ◌∷◌, map}
use lib.ListN.{length, get_or, drop}
use Rattle.search.specs.Search.{from, below}
use Rattle.search.proofs.Ranges.{from_next, from_end}
use Rattle.words.proofs.Laws.{length-store}
use Rattle.layout.specs.declared.Shape.{Shape}
use Rattle.layout.specs.Layout.{X, map_words, trailer_start, word_at, put_word, map_word_place}
use Rattle.layout.specs.Shaped.{On, word_count}
use Rattle.layout.proofs.Place.{on-put, word_at-same, word_at-other, put-trailer}
use Rattle.convert.specs.Convert.{second_word, put_words, put_map}

-- every word of a list fits 64 bits
abbrev pub Small : List ℕ → Type 0
Small ws = (a : ℕ) → a < length ws → get_or ws a 0 ≤ X

pub length-puts : (ws t : List ℕ) (q : ℕ) → length (put_words t q ws) ≡ length t
unfolding put_words
length-puts [] t q = refl
length-puts (w ∷ ws) t q = length-puts ws (put_word t q w) (suc q) ∙ length-store 8 t (8 * q) w

pub puts-other : (ws t : List ℕ) (q i : ℕ) → (i < q) ⊎ (q + length ws ≤ i) → word_at (put_words t q ws) i ≡ word_at t i
unfolding put_words
puts-other [] t q i h = refl
puts-other (w ∷ ws) t q i h =
    puts-other ws (put_word t q w) (suc q) i (⊎_elim (λ l. inl (omega arith)) (λ l. inr (omega arith)) h)
    ∙ word_at-other t q i w (λ e. ⊎_elim (λ l. omega arith) (λ l. omega arith) h)

module _ (g : Shape) where
  pub on-puts : (ws t : List ℕ) (q : ℕ) → On g t → q + length ws ≤ word_count g → On g (put_words t q ws)
  unfolding put_words
  on-puts [] t q o h = o
  on-puts (w ∷ ws) t q o h = on-puts ws (put_word t q w) (suc q) (on-put g t o q w (omega arith)) (omega arith)

  pub puts-trailer : (ws t : List ℕ) (q : ℕ) → q + length ws ≤ word_count g → drop (trailer_start g) (put_words t q ws) ≡ drop (trailer_start g) t
  unfolding put_words
  puts-trailer [] t q h = refl
  puts-trailer (w ∷ ws) t q h = puts-trailer ws (put_word t q w) (suc q) (omega arith) ∙ put-trailer g t q w (omega arith)

  pub puts-at : (ws t : List ℕ) (q : ℕ) → On g t → q + length ws ≤ word_count g → Small ws → (a : ℕ) → a < length ws
      → word_at (put_words t q ws) (q + a) ≡ get_or ws a 0
  unfolding put_words
  puts-at [] t q o h b a l = absurd (omega arith)
  puts-at (w ∷ ws) t q o h b zero l =
      let e : q + 0 ≡ q = omega arith in
      ap (λ (i : ℕ). word_at (put_words (put_word t q w) (suc q) ws) i) e
      ∙ puts-other ws (put_word t q w) (suc q) q (inl (omega arith))
      ∙ word_at-same g t o q w (omega arith) (b 0 (omega arith))
  puts-at (w ∷ ws) t q o h b (suc a) l =
      let e : q + suc a ≡ suc q + a = omega arith in
      ap (λ (i : ℕ). word_at (put_words (put_word t q w) (suc q) ws) i) e
      ∙ puts-at ws (put_word t q w) (suc q) (on-put g t o q w (omega arith)) (omega arith) (λ i p. b (suc i) (omega arith)) a (omega arith)

-- ---- a loop that stores f 0 to f (n - 1) from word `at` on, at its turn j: what is left to store

module _ (f : ℕ → ℕ) (out : List ℕ) (at n : ℕ) where
  pub puts-start : put_words out (at + 0) (map f (from 0 (n - 0))) ≡ put_words out at (map f (below n))
  puts-start = rw (sub-zero n, add-zero at)

  pub puts-turn : (j : ℕ) → j < n
      → put_words (put_word out (at + j) (f j)) (at + (j + 1)) (map f (from (j + 1) (n - (j + 1)))) ≡ put_words out (at + j) (map f (from j (n - j)))
  unfolding put_words
  puts-turn j h = let e : at + (j + 1) ≡ suc (at + j) = omega arith in rw (from_next j n h, e)

  pub puts-end : (j : ℕ) → n ≤ j → put_words out (at + j) (map f (from j (n - j))) ≡ out
  unfolding put_words
  puts-end j h = rw (from_end j n h)

-- the words of map k
pub puts-map : (g : Shape) (k at n : ℕ) (us out : List ℕ) → at ≡ map_word_place g k 0 → n ≡ map_words g
    → put_words out at (map (second_word us) (below n)) ≡ put_map g out k us
unfolding put_map
puts-map g k at n us out e q = rw (e, q)

pub length-put_map : (g : Shape) (t : List ℕ) (k : ℕ) (us : List ℕ) → length (put_map g t k us) ≡ length t
unfolding put_map
length-put_map g t k us = length-puts (map (second_word us) (below (map_words g))) t (map_word_place g k 0)
