-- Storing a word of the image: its shape stays, that word is the one stored, and every other word stays.
use Rattle.std.specs.Prelude.{Ok, Err}
use Rattle.std.proofs.Common.{◌≡◌, ℕ, ◌+◌, ◌-◌, ◌*◌, ◌/◌, ◌%◌, ◌<◌, ◌≤◌, Bool, cond, not, ◌&&◌, ◌||◌, eqb, ltb, leb, ◌≢◌, List, length, get_or, drop, sym, ap, ◌∙◌, subst, arith}
use lib.Arith.{digits_lt, digits_div, digits_mod}
use Rattle.words.specs.Words.{number, digits}
use Rattle.words.proofs.Laws.{length_digits, length-store, number-ext}
use Rattle.words.proofs.Store.{Outside, get_or-sets-outside, number-store-apart, number-store-same, drop-store}
use Rattle.layout.specs.declared.Shape.{Shape}
use Rattle.layout.specs.Layout.{X, first_edition, last_edition, max_words, tagged_at, known_as, edition_of, reserved_at, agreeing, spare_zero, map_bytes, trailer_bytes, trailer_start, trailer_at, within_limits, image_bytes, map_words, shape_of, known, fitting, word_at, put_word, map_word_place}
use Rattle.layout.specs.declared.Refusal.TheVariants.{Short, Foreign, Geometry}
use Rattle.layout.specs.Trailer.{trailer_outcome}
use Rattle.layout.proofs.Limits.{edition-some, maps-high, known_as_lem, shape-edition, fitting-limits, fitting-length}
use Rattle.layout.specs.Shaped.{Limits, On, word_count}

-- ---- two images with one trailer

pub record Alike (s t : List ℕ) : Type 0 where
  pub size : length t ≡ length s
  pub tail : (i : ℕ) → trailer_at (edition_of s) s ≤ i → get_or t i 0 ≡ get_or s i 0

module _ (s t : List ℕ) (a : Alike s t) where
  -- read as an edition whose trailer is no longer
  module _ (e : ℕ) (h : e ≤ edition_of s) where
    at-start : trailer_at e t ≡ trailer_at e s
    at-start = ap (λ (n : ℕ). n - trailer_bytes e) a.size

    same-field : (w k : ℕ) → number w t (trailer_at e t + k) ≡ number w s (trailer_at e s + k)
    same-field w k =
        ap (λ (n : ℕ). number w t (n + k)) at-start
        ∙ number-ext w t s (trailer_at e s + k) (trailer_at e s + k) (λ i p. a.tail (trailer_at e s + k + i) (omega arith))

    same_byte : (k : ℕ) → get_or t (trailer_at e t + k) 0 ≡ get_or s (trailer_at e s + k) 0
    same_byte k = ap (λ (n : ℕ). get_or t (n + k) 0) at-start ∙ a.tail (trailer_at e s + k) (omega arith)

    alike_as : known_as e t ≡ known_as e s
    unfolding known_as tagged_at
    alike_as =
        let first : get_or t (trailer_at e t) 0 ≡ get_or s (trailer_at e s) 0 =
        ap (λ (n : ℕ). get_or t n 0) at-start ∙ a.tail (trailer_at e s) (omega arith) in
        λ i.
        leb (trailer_bytes e) (a.size i)
        && (eqb (first i) 0x52 && eqb (same_byte 1 i) 0x4D && eqb (same_byte 2 i) 0x41 && eqb (same_byte 3 i) 0x50 && eqb (same-field 2 4 i) e)

  alike-edition : edition_of t ≡ edition_of s
  unfolding edition_of
  alike-edition = ap (λ (b : Bool). cond b first_edition last_edition) (alike_as first_edition (edition-some s))

  field : (w k : ℕ) → number w t (trailer_at (edition_of t) t + k) ≡ number w s (trailer_at (edition_of s) s + k)
  field w k = ap (λ (e : ℕ). number w t (trailer_at e t + k)) alike-edition ∙ same-field (edition_of s) (omega arith) w k

  alike-known : known t ≡ known s
  alike-known = known_as_lem t ∙ ap (λ (e : ℕ). known_as e t) alike-edition ∙ alike_as (edition_of s) (omega arith) ∙ sym (known_as_lem s)

  alike-reserved : reserved_at t (edition_of t) (trailer_at (edition_of t) t) ≡ reserved_at s (edition_of s) (trailer_at (edition_of s) s)
  unfolding reserved_at
  alike-reserved = λ i. cond (eqb (alike-edition i) first_edition) 0 (field 4 32 i)

  alike-shape : shape_of t ≡ shape_of s
  unfolding shape_of
  alike-shape =
      λ i. record { edition = alike-edition i; p = field 2 6 i; c = field 4 8 i; m = field 4 12 i; n = field 4 16 i; r = alike-reserved i }

  alike-fitting : fitting t ≡ fitting s
  unfolding fitting agreeing spare_zero shape_of
  alike-fitting =
      λ i.
      let g : Shape = alike-shape i in
      within_limits g
      && (eqb (field 4 20 i) (trailer_start g) && eqb (field 4 24 i) (map_bytes g) && eqb (field 4 28 i) (image_bytes g)
      && eqb (a.size i) (image_bytes g))
      && (eqb g.edition first_edition || eqb (field 4 36 i) 0)

  -- rows 1 to 3 are the trailer's alone
  pub alike-outcome : trailer_outcome t ≡ trailer_outcome s
  unfolding trailer_outcome
  alike-outcome =
      λ i.
      cond (ltb (a.size i) (trailer_bytes first_edition)) (Err Short)
      (cond (not (alike-known i)) (Err Foreign) (cond (not (alike-fitting i)) (Err Geometry) (Ok (alike-shape i))))

-- ---- a word is stored

-- words do not overlap
apart_words : (i j k : ℕ) → i ≢ j → 8 * j ≤ k → k < 8 * j + 8 → Outside (8 * i) 8 k
apart_words i j k n p q a b = n (omega arith)

pub word_at-other : (s : List ℕ) (i j v : ℕ) → i ≢ j → word_at (put_word s i v) j ≡ word_at s j
word_at-other s i j v n = number-store-apart 8 8 s (8 * i) (8 * j) v (λ k p q. apart_words i j k n p q)

pub on-limits : {g : Shape} {s : List ℕ} → On g s → Limits g
on-limits {s} o = subst Limits o.shape (fitting-limits s o.fitting)

module _ (g : Shape) (s : List ℕ) (o : On g s) where
  on-length : length s ≡ image_bytes g
  on-length = fitting-length s o.fitting ∙ ap image_bytes o.shape

  on-edition : edition_of s ≡ g.edition
  on-edition = sym (shape-edition s) ∙ ap (λ (h : Shape). h.edition) o.shape

  pub word_at-same : (i v : ℕ) → i < word_count g → v ≤ X → word_at (put_word s i v) i ≡ v
  word_at-same i v h b = number-store-same 8 s (8 * i) v (omega (arith, on-length)) (omega arith)

  put-alike : (i v : ℕ) → i < word_count g → Alike s (put_word s i v)
  put-alike i v h = record {
    size = length-store 8 s (8 * i) v;
    tail = λ k p. get_or-sets-outside (digits 8 v) s (8 * i) k (λ a b. omega (arith, on-length, on-edition, length_digits 8 v));
  }

  pub on-put : (i v : ℕ) → i < word_count g → On g (put_word s i v)
  on-put i v h =
      let a : Alike s (put_word s i v) = put-alike i v h in
      record {
        long = omega (arith, o.long, length-store 8 s (8 * i) v);
        shape = alike-shape s (put_word s i v) a ∙ o.shape;
        known = alike-known s (put_word s i v) a ∙ o.known;
        fitting = alike-fitting s (put_word s i v) a ∙ o.fitting;
      }

-- a place of a map lies among the words, past the links, and tells its map and its word
pub place_in : (g : Shape) (k j : ℕ) → k < g.m → j < map_words g → map_word_place g k j < word_count g
place_in g k j p q = omega (arith, digits_lt p q)

-- the same, as the code computes it with w words in a map
pub place_of : (g : Shape) (k w j : ℕ) → Limits g → w ≡ map_words g → k < g.m → j < map_words g
    → (k * w ≡ k * map_words g) × (map_word_place g k j < word_count g) × (word_count g ≤ max_words)
place_of g k w j l e p q = (ap (λ (n : ℕ). k * n) e, place_in g k j p q, omega (arith, l.c-high, maps-high g l))

pub place-past : (g : Shape) (k j i : ℕ) → i < g.c → i ≢ map_word_place g k j
place-past g k j i h e = omega arith

pub place_map : (g : Shape) (k j k' j' : ℕ) → j < map_words g → j' < map_words g → map_word_place g k j ≡ map_word_place g k' j' → k ≡ k'
place_map g k j k' j' p q e =
    let sums : k * map_words g + j ≡ k' * map_words g + j' = omega arith in
    sym (digits_div k p) ∙ ap (λ (n : ℕ). n / map_words g) sums ∙ digits_div k' q

pub place-word : (g : Shape) (k j k' j' : ℕ) → j < map_words g → j' < map_words g → map_word_place g k j ≡ map_word_place g k' j' → j ≡ j'
place-word g k j k' j' p q e =
    let sums : k * map_words g + j ≡ k' * map_words g + j' = omega arith in
    sym (digits_mod k p) ∙ ap (λ (n : ℕ). n % map_words g) sums ∙ digits_mod k' q

-- a word stored before the trailer leaves the trailer's bytes
pub put-trailer : (g : Shape) (s : List ℕ) (i v : ℕ) → i < word_count g → drop (trailer_start g) (put_word s i v) ≡ drop (trailer_start g) s
put-trailer g s i v h = drop-store 8 s (8 * i) v (trailer_start g) (omega arith)
