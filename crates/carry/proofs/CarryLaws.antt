-- What carrying out one step does to an image of a known shape: the shape stays, one word is set, and every other stays.
use Rattle.std.specs.Prelude.{Option, Some, None}
use Prim.Native.Nat.{ℕ, zero, suc, ◌+◌, ◌*◌, ◌/◌, ◌≤◌, ◌<◌}
use mathlib.Core.Path.{◌≡◌, refl, sym, ap, ◌∙◌, subst}
use mathlib.Core.Logic.{◌≢◌}
use mathlib.Core.Bool.{true, ◌&&◌}
use mathlib.Core.List.{List, [], ◌∷◌}
use native.Mathlib.Omega.{arith}
use lib.ListN.{length, get_or, take, drop}
use lib.Dec.{ltb}
use borrow.Author.Tests.{ltb-true}
use Rattle.search.proofs.Bools.{and_left, and_right, contradict}
use Rattle.words.specs.Words.{digits}
use Rattle.words.proofs.Laws.{length_digits}
use Rattle.words.proofs.Store.{get_or-sets-outside}
use Rattle.layout.specs.declared.Shape.{Shape}
use Rattle.layout.specs.Layout.{X, max_chunk_bytes, map_words, word_at, put_word, map_word_place, trailer_start}
use Rattle.layout.specs.Shaped.{Limits, On, word_count}
use Rattle.layout.proofs.Place.{word_at-same, word_at-other, on-put, place_in, put-trailer, on-limits}
use Rattle.layout.proofs.Limits.{on-shaped}
use Rattle.steps.specs.declared.Step.{Step}
use Rattle.steps.specs.declared.Step.TheVariants.{Data, Map, Link, Fence}
use Rattle.steps.specs.Steps.{word_of}
use Rattle.steps.specs.Encodable.{Each}
use Rattle.rules.specs.Rules.{value_below, word_in_range, in_range, whole_in_range}
use Rattle.rules.proofs.StepLaws.{InRange, word_small}
use Rattle.carry.specs.Carry.{carry, carry_all, Misses}
use Rattle.carry.specs.Carrying.{carry_decoded}

value-fits : (b : ℕ) (v : Option ℕ) → b ≤ X → value_below b v ≡ true → word_of v ≤ X
value-fits b (Some w) h k = omega (arith, ltb-true w b k)
value-fits b None h k = omega arith

-- a byte of another word
byte-other : (s : List ℕ) (i b v : ℕ) → i ≢ b / 8 → get_or (put_word s i v) b 0 ≡ get_or s b 0
byte-other s i b v h = get_or-sets-outside (digits 8 v) s (8 * i) b (λ p q. h (let n = length_digits 8 v in omega arith))

module _ (g : Shape) where
  -- ---- the parts of `in_range`

  module _ (k j : ℕ) (v : Option ℕ) (h : in_range g (Map k j v) ≡ true) where
    both : (ltb k g.m && ltb j (map_words g)) ≡ true
    both = and_left (ltb k g.m && ltb j (map_words g)) (word_in_range g j v) h

    pub map_below : k < g.m
    map_below = ltb-true k g.m (and_left (ltb k g.m) (ltb j (map_words g)) both)

    pub word_below : j < map_words g
    word_below = ltb-true j (map_words g) (and_right (ltb k g.m) (ltb j (map_words g)) both)

    unit-fits : Limits g → word_of v ≤ X
    unit-fits l = value-fits (max_chunk_bytes + 1) v (omega arith) (word_small g j v l (and_right (ltb k g.m && ltb j (map_words g)) (word_in_range g j v) h))

    -- its word is one of the image's
    map-in : map_word_place g k j < word_count g
    map-in = place_in g k j map_below word_below

  module _ (i : ℕ) (v : Option ℕ) (h : in_range g (Link i v) ≡ true) where
    pub chunk-below : i < g.c
    chunk-below = ltb-true i g.c (and_left (ltb i g.c) (value_below g.m v) h)

    link_fits : Limits g → word_of v ≤ X
    link_fits l = value-fits g.m v (omega (arith, l.m-high, l.c-high)) (and_right (ltb i g.c) (value_below g.m v) h)

    link-in : i < word_count g
    link-in = omega (arith, chunk-below)

  module _ (s : List ℕ) (o : On g s) where
    -- ---- the bytes that a step in range stores are the image's

    module _ (x : Step) (h : in_range g x ≡ true) where
      pub map-place : (k j : ℕ) (v : Option ℕ) → x ≡ Map k j v → (k < g.m) × (j < map_words g)
      map-place k j v e = (map_below k j v (rw e at h), word_below k j v (rw e at h))

      pub link-bytes : (i : ℕ) (v : Option ℕ) → x ≡ Link i v → 8 * i + 8 ≤ length s
      link-bytes i v e = let z = (on-shaped g s o).size in omega (arith, link-in i v (rw e at h))

    -- ---- the image after a step

    carry-map : (k j : ℕ) (v : Option ℕ) → carry s (Map k j v) ≡ put_word s (map_word_place g k j) (word_of v)
    carry-map k j v = ap (λ (h : Shape). put_word s (map_word_place h k j) (word_of v)) o.shape

    pub on-carry : (x : Step) → in_range g x ≡ true → On g (carry s x)
    on-carry (Data u j w) h = o
    on-carry (Map k j v) h = subst (On g) (sym (carry-map k j v)) (on-put g s o (map_word_place g k j) (word_of v) (map-in k j v h))
    on-carry (Link i v) h = on-put g s o i (word_of v) (link-in i v h)
    on-carry Fence h = o

    pub on-decoded : (d : Option Step) → whole_in_range g d ≡ true → On g (carry_decoded s d)
    on-decoded (Some x) h = on-carry x h
    on-decoded None h = contradict h refl

    pub carry-miss : (x : Step) (q : ℕ) → Misses g q x → word_at (carry s x) q ≡ word_at s q
    carry-miss (Data u j w) q h = refl
    carry-miss (Map k j v) q h = ap (λ (t : List ℕ). word_at t q) (carry-map k j v) ∙ word_at-other s (map_word_place g k j) q (word_of v) h
    carry-miss (Link i v) q h = word_at-other s i q (word_of v) h
    carry-miss Fence q h = refl

    -- and byte by byte
    pub byte-miss : (x : Step) (b : ℕ) → Misses g (b / 8) x → get_or (carry s x) b 0 ≡ get_or s b 0
    byte-miss (Data u j w) b h = refl
    byte-miss (Map k j v) b h =
        ap (λ (t : List ℕ). get_or t b 0) (carry-map k j v) ∙ byte-other s (map_word_place g k j) b (word_of v) h
    byte-miss (Link i v) b h = byte-other s i b (word_of v) h
    byte-miss Fence b h = refl

    -- the trailer's bytes stay
    pub carry-trailer : (x : Step) → in_range g x ≡ true → drop (trailer_start g) (carry s x) ≡ drop (trailer_start g) s
    carry-trailer (Data u j w) h = refl
    carry-trailer (Map k j v) h =
        ap (drop (trailer_start g)) (carry-map k j v) ∙ put-trailer g s (map_word_place g k j) (word_of v) (map-in k j v h)
    carry-trailer (Link i v) h = put-trailer g s i (word_of v) (link-in i v h)
    carry-trailer Fence h = refl

    pub carried-word : (k j : ℕ) (v : Option ℕ) → in_range g (Map k j v) ≡ true → word_at (carry s (Map k j v)) (map_word_place g k j) ≡ word_of v
    carried-word k j v h =
        ap (λ (t : List ℕ). word_at t (map_word_place g k j)) (carry-map k j v)
        ∙ word_at-same g s o (map_word_place g k j) (word_of v) (map-in k j v h) (unit-fits k j v h (on-limits o))

    pub carried-link : (i : ℕ) (v : Option ℕ) → in_range g (Link i v) ≡ true → word_at (carry s (Link i v)) i ≡ word_of v
    carried-link i v h = word_at-same g s o i (word_of v) (link-in i v h) (link_fits i v h (on-limits o))

-- ---- the first n steps, one after the other

pub each_take : (P : Step → Type 0) (n : ℕ) (xs : List Step) → Each P xs → Each P (take n xs)
each_take P zero xs h = tt
each_take P (suc n) [] h = tt
each_take P (suc n) (x ∷ xs) h = (h.0, each_take P n xs h.1)

pub all-on : (g : Shape) (s : List ℕ) (xs : List Step) → On g s → Each (InRange g) xs → On g (carry_all s xs)
unfolding carry_all
all-on g s [] o r = o
all-on g s (x ∷ xs) o r = all-on g (carry s x) xs (on-carry g s o x r.0) r.1
