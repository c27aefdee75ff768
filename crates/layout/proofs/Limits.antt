-- What the limits of a shape say of its numbers, and the sizes that follow.
use Rattle.std.specs.Prelude.{Ok, Err, Some, None}
use Rattle.std.proofs.Common.{◌≡◌, ℕ, ◌+◌, ◌-◌, ◌*◌, ◌%◌, ◌^◌, ◌<◌, ◌≤◌, Bool, true, false, cond, not, ◌&&◌, ◌||◌, ◌==◌, nat_eq, slice_index, [], ◌∷◌, eqb, ltb, leb, ◌⊎◌, List, length, sym, refl, ap, ◌∙◌, subst, inl, inr, ⊎_elim, mul-le-mul_right, mul-le-mul, arith, rules, ltb-false, ltb-true, le-ltb, lt-ltb, eq-eqb, ne_eqb, eqb-true, le-leb, leb-true}
use borrow.Author.Tests.{lt-leb, eqb-false}
use lib.Pointwise.{pointwise}
use Rattle.words.specs.Words.{u16_at}
use Rattle.layout.specs.declared.Shape.{Shape}
use Rattle.layout.specs.Layout.{X, tag, first_edition, last_edition, min_chunk_units, max_chunk_units, min_chunks, max_chunks, min_spare_maps, max_spare_maps, max_maps, max_units, max_map_words, max_maps_words, max_image_bytes, max_reserved, head, map_words, is_unit, trailer_bytes, within_limits, tagged_at, known_as, edition_of, trailer_at, agreeing, spare_zero, known, fitting, shape_of, image_bytes}
use Rattle.layout.specs.declared.Refusal.TheVariants.{Short, Foreign, Geometry}
use Rattle.layout.specs.Trailer.{trailer_outcome}
use Rattle.layout.specs.Shaped.{Limits, Shaped, On}
use Rattle.search.proofs.Bools.{and_left, and_right, and_intro, is_false, either, cond-true, cond-false}

-- The needs, with the laws that give a test of numbers its value: at a return, `search tests` settles a definition that goes by tests from what
-- the tests of the code said.
pub ruleset tests = (rules, le-leb, lt-leb, le-ltb, lt-ltb, eq-eqb, ne_eqb)

-- ---- the limits as facts, and back

-- how many units may be reserved, in each edition
most-first : (g : Shape) → g.edition ≡ first_edition → max_reserved g ≡ 0
unfolding max_reserved
most-first g e = cond-true (eqb g.edition first_edition) 0 (g.n - g.p) (eq-eqb g.edition first_edition e)

most-later : (g : Shape) → (g.edition ≡ first_edition → ⊥) → max_reserved g ≡ g.n - g.p
unfolding max_reserved
most-later g n = cond-false (eqb g.edition first_edition) 0 (g.n - g.p) (ne_eqb g.edition first_edition n)

reserved-few : (g : Shape) → leb g.p g.n ≡ true → leb g.r (max_reserved g) ≡ true → g.r + g.p ≤ g.n
reserved-few g a b =
    let l = leb-true g.p g.n a in
    let h = leb-true g.r (max_reserved g) b in
    ⊎_elim (λ q. omega (arith, most-first g (eqb-true g.edition first_edition q))) (λ q. omega (arith, most-later g (eqb-false g.edition first_edition q)))
    (either (eqb g.edition first_edition))

reserved-none : (g : Shape) → leb g.r (max_reserved g) ≡ true → g.edition ≡ first_edition → g.r ≡ 0
reserved-none g b e = let h = leb-true g.r (max_reserved g) b in omega (arith, most-first g e)

reserved-within : (g : Shape) → Limits g → leb g.r (max_reserved g) ≡ true
reserved-within g l =
    le-leb g.r (max_reserved g)
    (⊎_elim (λ q. let e = eqb-true g.edition first_edition q in omega (arith, most-first g e, l.r-first e))
    (λ q. omega (arith, most-later g (eqb-false g.edition first_edition q), l.r-high))
    (either (eqb g.edition first_edition)))

pub limits : (g : Shape) → within_limits g ≡ true → Limits g
unfolding within_limits
limits g e = search (and_left, and_right, leb-true, reserved-few, reserved-none) depth 16

-- ---- editions

-- there are two
pub two-editions : (e : ℕ) → first_edition ≤ e → e ≤ last_edition → (e ≡ first_edition) ⊎ (e ≡ last_edition)
two-editions e a b =
    ⊎_elim (λ q. inl (eqb-true e first_edition q)) (λ q. let n = eqb-false e first_edition q in inr (omega (arith, n))) (either (eqb e first_edition))

-- the one word that a map may have beyond its units
pub map-words : (g : Shape) → map_words g ≡ head g + g.p
unfolding map_words
map-words g = refl

-- ---- sizes

pub product_high : (p m : ℕ) → p ≤ max_chunk_units → m ≤ max_maps → m * p ≤ max_units
product_high p m hp hm = mul-le-mul {n₁ = m} {m₁ = p} {n₂ = max_maps} {m₂ = max_chunk_units} hm hp

pub maps-few : (g : Shape) → Limits g → g.m ≤ max_maps
maps-few g l = omega (arith, l.m-high, l.c-high)

pub words-high : (g : Shape) → Limits g → map_words g ≤ max_map_words
words-high g l = omega (arith, l.p-high, l.edition-high, map-words g)

pub maps-high : (g : Shape) → Limits g → g.m * map_words g ≤ max_maps_words
maps-high g l = mul-le-mul {n₁ = g.m} {m₁ = map_words g} {n₂ = max_maps} {m₂ = max_map_words} (maps-few g l) (words-high g l)

-- the same where the code has the words of a map as w
pub maps-of : (g : Shape) (w : ℕ) → Limits g → w ≡ map_words g → (g.m * w ≡ g.m * map_words g) × (g.m * map_words g ≤ max_maps_words)
maps-of g w l e = (ap (λ (k : ℕ). g.m * k) e, maps-high g l)

-- ---- which edition a trailer is read as

pub edition-some : (s : List ℕ) → 1 ≤ edition_of s
unfolding edition_of
edition-some s = go (known_as first_edition s)
  where
    go : (b : Bool) → 1 ≤ cond b first_edition last_edition
    go true = omega arith
    go false = omega arith

pub edition-last : (s : List ℕ) → edition_of s ≤ last_edition
unfolding edition_of
edition-last s = go (known_as first_edition s)
  where
    go : (b : Bool) → cond b first_edition last_edition ≤ last_edition
    go true = omega arith
    go false = omega arith

-- one of the two has tag and version exactly when the one that it is read as has them
pub known_as_lem : (s : List ℕ) → known s ≡ known_as (edition_of s) s
unfolding known edition_of
known_as_lem s = go (known_as first_edition s) refl
  where
    go : (b : Bool) → known_as first_edition s ≡ b → (b || known_as last_edition s) ≡ known_as (cond b first_edition last_edition) s
    go true e = sym e
    go false e = refl

-- the tag and a version, where the tag's four bytes are compared as one
pub tagged-bytes : (s : List ℕ) (t version : ℕ) (b : Bool)
    → b ≡ pointwise nat_eq (slice_index s t ∷ slice_index s (t + 1) ∷ slice_index s (t + 2) ∷ slice_index s (t + 3) ∷ []) tag
    → (b && u16_at s (t + 4) == version) ≡ tagged_at s t version
unfolding tagged_at
tagged-bytes s t version b e =
    ap (λ (x : Bool). x && u16_at s (t + 4) == version) e
    ∙ regroup (slice_index s t == slice_index tag 0) (slice_index s (t + 1) == slice_index tag 1) (slice_index s (t + 2) == slice_index tag 2)
    (slice_index s (t + 3) == slice_index tag 3) (u16_at s (t + 4) == version)
  where
    regroup : (p q r v u : Bool) → ((p && (q && (r && (v && true)))) && u) ≡ (p && q && r && v && u)
    regroup false q r v u = refl
    regroup true false r v u = refl
    regroup true true false v u = refl
    regroup true true true false u = refl
    regroup true true true true u = refl

-- what the code finds: the edition of a known trailer, or none
pub edition-none : (s : List ℕ) → None ≡ cond (known s) (Some (edition_of s)) None → known s ≡ false
edition-none s h = is_false (known s) (λ k. let e = h ∙ cond-true (known s) (Some (edition_of s)) None k in let z : ◌≡◌ {A = ℕ} 0 1 = cc in omega arith)

pub edition-found : (s : List ℕ) (e : ℕ) → Some e ≡ cond (known s) (Some (edition_of s)) None → (known s ≡ true) × (e ≡ edition_of s)
edition-found s e h = go (known s) refl h
  where
    go : (b : Bool) → known s ≡ b → Some e ≡ cond b (Some (edition_of s)) None → (known s ≡ true) × (e ≡ edition_of s)
    go true k f = (k, cc)
    go false k f = let z : ◌≡◌ {A = ℕ} 0 1 = cc in absurd (omega arith)

pub shape-edition : (s : List ℕ) → (shape_of s).edition ≡ edition_of s
unfolding shape_of
shape-edition s = refl

-- a known trailer is all there
pub as_long : (edition : ℕ) (s : List ℕ) → known_as edition s ≡ true → trailer_bytes edition ≤ length s
unfolding known_as
as_long edition s e =
    let n = trailer_bytes edition in leb-true n (length s) (and_left (leb n (length s)) (tagged_at s (trailer_at edition s) edition) e)

pub known-long : (s : List ℕ) → known s ≡ true → trailer_bytes (edition_of s) ≤ length s
known-long s e = as_long (edition_of s) s (sym (known_as_lem s) ∙ e)

-- ---- what a fitting trailer says

pub fitting-limits : (s : List ℕ) → fitting s ≡ true → Limits (shape_of s)
unfolding fitting
fitting-limits s e =
    let g = shape_of s in limits g (and_left (within_limits g) (agreeing s g) (and_left (within_limits g && agreeing s g) (spare_zero s g) e))

pub agreeing-length : (s : List ℕ) (g : Shape) → agreeing s g ≡ true → length s ≡ image_bytes g
unfolding agreeing
agreeing-length s g e = search (and_right, eqb-true)

pub fitting-length : (s : List ℕ) → fitting s ≡ true → length s ≡ image_bytes (shape_of s)
unfolding fitting
fitting-length s e =
    let g = shape_of s in agreeing-length s g (and_right (within_limits g) (agreeing s g) (and_left (within_limits g && agreeing s g) (spare_zero s g) e))

-- map k's words are within the maps' words
pub map-within : (k m p : ℕ) → k < m → k * p + p ≤ m * p
map-within k m p h = omega (arith, mul-le-mul_right p h)

pub units-high : (g : Shape) → Limits g → g.n ≤ max_units
units-high g l =
    let h = mul-le-mul {n₁ = g.p} {m₁ = g.m} {n₂ = max_chunk_units} {m₂ = max_maps} l.p-high (maps-few g l) in omega (arith, l.n-high)

pub image-high : (g : Shape) → Limits g → image_bytes g ≤ max_image_bytes
image-high g l = let h = maps-high g l in omega (arith, l.c-high, l.edition-high)

pub limits-hold : (g : Shape) → Limits g → within_limits g ≡ true
unfolding within_limits
limits-hold g l =
    and_intro _ _
    (and_intro _ _
    (and_intro _ _
    (and_intro _ _
    (and_intro _ _
    (and_intro _ _
    (and_intro _ _
    (and_intro _ _
    (and_intro _ _ (and_intro _ _ (le-leb first_edition g.edition l.edition-low) (le-leb g.edition last_edition l.edition-high))
    (le-leb min_chunk_units g.p l.p-low))
    (le-leb g.p max_chunk_units l.p-high))
    (le-leb min_chunks g.c l.c-low))
    (le-leb g.c max_chunks l.c-high))
    (le-leb (g.c + min_spare_maps) g.m l.m-low))
    (le-leb g.m (g.c + max_spare_maps) l.m-high))
    (le-leb g.p g.n l.n-low))
    (le-leb g.n (g.p * g.m) l.n-high))
    (reserved-within g l)

-- a shape that the limits shut out
pub no-limits : (g : Shape) → (Limits g → ⊥) → within_limits g ≡ false
no-limits g h = is_false (within_limits g) (λ e. h (limits g e))

-- what the functions on images ask, of an image whose trailer fits
pub shaped : (s : List ℕ) (g : Shape) → g ≡ shape_of s → fitting s ≡ true → Shaped s g
shaped s g e h = record {
  same = e;
  limits = subst Limits (sym e) (fitting-limits s h);
  size = fitting-length s h ∙ ap image_bytes (sym e);
}

pub on-shaped : (g : Shape) (s : List ℕ) → On g s → Shaped s g
on-shaped g s o = shaped s g (sym o.shape) o.fitting

-- ---- which numbers are units

pub unit-below : (g : Shape) (u : ℕ) → is_unit g u ≡ true → u < g.n
unfolding is_unit
unit-below g u e = ltb-true u g.n (and_right (leb g.r u) (ltb u g.n) e)

pub unit-unreserved : (g : Shape) (u : ℕ) → is_unit g u ≡ true → g.r ≤ u
unfolding is_unit
unit-unreserved g u e = leb-true g.r u (and_left (leb g.r u) (ltb u g.n) e)

pub between-unit : (g : Shape) (u : ℕ) → g.r ≤ u → u < g.n → is_unit g u ≡ true
unfolding is_unit
between-unit g u a b = and_intro (leb g.r u) (ltb u g.n) (le-leb g.r u a) (lt-ltb u g.n b)

pub reserved-no-unit : (g : Shape) (u : ℕ) → u < g.r → is_unit g u ≡ false
reserved-no-unit g u h = is_false (is_unit g u) (λ e. let l = unit-unreserved g u e in omega arith)

pub past_units : (g : Shape) (u : ℕ) → g.n ≤ u → is_unit g u ≡ false
past_units g u h = is_false (is_unit g u) (λ e. let l = unit-below g u e in omega arith)

-- what is a unit, by one comparison: w is u less R, wrapped
pub wrapped-unit : (g : Shape) (u w : ℕ) → g.n < 2 ^ 32 → g.r < 2 ^ 32 → w < 2 ^ 64 → (w + g.r) % 2 ^ 64 ≡ u → ltb w (g.n - g.r) ≡ is_unit g u
wrapped-unit g u w n r b e =
    ⊎_elim
    (λ q. let l = ltb-true w (g.n - g.r) q in q ∙ sym (between-unit g u (omega arith) (omega arith)))
    (λ q. let l = ltb-false w (g.n - g.r) q in
    q ∙ sym (is_false (is_unit g u) (λ h. let low = unit-unreserved g u h in let high = unit-below g u h in omega arith)))
    (either (ltb w (g.n - g.r)))

pub absent-no-unit : (g : Shape) → Limits g → is_unit g X ≡ false
absent-no-unit g l = let n = units-high g l in past_units g X (omega arith)

-- ---- rows 1 to 3: an image whose trailer fits

pub fits_on : (s : List ℕ) (g : Shape) → trailer_outcome s ≡ Ok g → On g s
unfolding trailer_outcome
fits_on s g e = go (ltb (length s) (trailer_bytes first_edition)) (known s) (fitting s) refl refl refl e
  where
    go : (a b d : Bool) → ltb (length s) (trailer_bytes first_edition) ≡ a → known s ≡ b → fitting s ≡ d
        → cond a (Err Short) (cond (not b) (Err Foreign) (cond (not d) (Err Geometry) (Ok (shape_of s)))) ≡ Ok g → On g s
    go true b d ea eb ed h = let z : ◌≡◌ {A = ℕ} 0 1 = cc in absurd (omega arith)
    go false false d ea eb ed h = let z : ◌≡◌ {A = ℕ} 0 1 = cc in absurd (omega arith)
    go false true false ea eb ed h = let z : ◌≡◌ {A = ℕ} 0 1 = cc in absurd (omega arith)
    go false true true ea eb ed h = record { long = ltb-false (length s) (trailer_bytes first_edition) ea; shape = cc; known = eb; fitting = ed }

pub on_fits : (s : List ℕ) → trailer_bytes first_edition ≤ length s → known s ≡ true → fitting s ≡ true → trailer_outcome s ≡ Ok (shape_of s)
unfolding trailer_outcome
on_fits s l k f = rw (le-ltb (length s) (trailer_bytes first_edition) l, k, f)
