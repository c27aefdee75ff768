-- A chunk on a map that is written anew: it passes row 5, holds the units that were put there, and keeps the size that was put before them.
use Prim.Native.Nat.{ℕ, ◌≤◌, ◌<◌}
use native.Mathlib.Omega.{arith}
use mathlib.Core.Path.{◌≡◌, sym, ap, subst, ◌∙◌}
use mathlib.Core.Bool.{true}
use mathlib.Core.List.{List, [], map}
use lib.ListN.{get_or}
use Rattle.search.specs.Search.{below}
use Rattle.search.proofs.Bools.{cond-true}
use Rattle.search.proofs.Mapping.{map-below-ext, length-map-from, get_or-map-below, take-map-from}
use Rattle.layout.specs.declared.Shape.{Shape}
use Rattle.layout.specs.Layout.{X, units_for, is_unit, head, after_head, map_words, unit_words, words_of, word_at, map_word_place, link_of}
use Rattle.layout.specs.Shaped.{Limits, On}
use Rattle.layout.proofs.Limits.{absent-no-unit, map-words}
use Rattle.layout.proofs.Heads.{in_head, units-after}
use Rattle.layout.proofs.Place.{on-limits}
use Rattle.image.specs.Soundness.{mapped, units_of, leading, Form, MapForm}
use Rattle.image.specs.Verdicts.{good_form}
use Rattle.image.proofs.Leading.{form-leading}
use Rattle.image.proofs.Chunks.{form-good, is_mapped}
use Rattle.image.proofs.Order.{units_in_lem}

-- chunk c of the image t names map m, whose words are `size`, where the shape has a word for it, k units, then X
pub record NewMap (g : Shape) (t : List ℕ) (c m size k : ℕ) (unit : ℕ → ℕ) : Type 0 where
  pub on : On g t
  pub link : link_of t c ≡ m
  pub low : m < g.m
  pub word : (j : ℕ) → j < map_words g → word_at t (map_word_place g m j) ≡ after_head (head g) size unit j
  pub some : 1 ≤ k
  pub fits : k ≤ g.p
  pub sized : units_for size ≡ k
  pub here : (j : ℕ) → j < k → is_unit g (unit j) ≡ true
  pub past : (j : ℕ) → k ≤ j → unit j ≡ X

module _ (g : Shape) (t : List ℕ) (c m size k : ℕ) (unit : ℕ → ℕ) (h : NewMap g t c m size k unit) where
  abbrev ws : List ℕ
  ws = map (after_head (head g) size unit) (below (map_words g))

  abbrev us : List ℕ
  us = map unit (below g.p)

  lim : Limits g
  lim = on-limits h.on

  new-words : words_of g t (link_of t c) ≡ ws
  unfolding words_of
  new-words = ap (words_of g t) h.link ∙ map-below-ext (λ j. word_at t (map_word_place g m j)) (after_head (head g) size unit) (map_words g) h.word

  unit-words : unit_words g ws ≡ us
  unit-words = rw (map-words g) (units-after (head g) size unit g.p)

  -- the units, then X
  form : Form (is_unit g) k us
  form = record {
    some = h.some;
    high = omega (arith, h.fits, length-map-from unit 0 g.p);
    units = λ j p. ap (is_unit g) (get_or-map-below unit g.p j 0 (omega (arith, h.fits))) ∙ h.here j p;
    rest = λ j p q. get_or-map-below unit g.p j 0 (omega (arith, length-map-from unit 0 g.p)) ∙ h.past j p;
  }

  first_word : 1 ≤ head g → get_or ws 0 0 ≡ size
  first_word q = get_or-map-below (after_head (head g) size unit) (map_words g) 0 0 (omega (arith, map-words g)) ∙ in_head (head g) size unit 0 (omega arith)

  pub new-size : 1 ≤ head g → get_or (words_of g t (link_of t c)) 0 0 ≡ size
  new-size q = ap (λ (l : List ℕ). get_or l 0 0) new-words ∙ first_word q

  pub new-form : good_form g (words_of g t (link_of t c)) ≡ true
  new-form = ap (good_form g) new-words ∙ form-good g ws k (absent-no-unit g lim) map-now
    where
      -- and before them the size that they are of
      map-now : MapForm g k ws
      map-now = record { units = subst (Form (is_unit g) k) (sym unit-words) form; size = λ q. ap units_for (first_word q) ∙ h.sized }

  pub new-mapped : mapped t c ≡ true
  new-mapped = is_mapped t c (λ e. omega (arith, h.link, h.low, lim.m-high, lim.c-high))

  pub new-units : units_of t c ≡ map unit (below k)
  new-units =
      units_in_lem h.on c
      ∙ cond-true (mapped t c) (leading (is_unit g) (unit_words g (words_of g t (link_of t c)))) [] new-mapped
      ∙ ap (λ (l : List ℕ). leading (is_unit g) (unit_words g l)) new-words
      ∙ ap (leading (is_unit g)) unit-words
      ∙ form-leading (is_unit g) k us (absent-no-unit g lim) form
      ∙ take-map-from unit 0 k g.p h.fits
