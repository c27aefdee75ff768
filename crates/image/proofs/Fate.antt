-- What a change of the image does to a chunk, and that a sound image stays sound: each chunk is kept, emptied, or renewed on a free map and free units, and
-- no two renewed chunks share a map or unit.
use Prim.Native.Nat.{ℕ, ◌<◌}
use mathlib.Core.Path.{◌≡◌, sym, ap, ◌∙◌, subst}
use mathlib.Core.Logic.{◌⊎◌, inl, inr, ◌≢◌}
use mathlib.Core.Bool.{true, false, not}
use mathlib.Core.List.{List, []}
use lib.Dec.{eqb}
use Rattle.layout.specs.declared.Shape.{Shape}
use Rattle.search.specs.Search.{member, distinct}
use Rattle.layout.specs.Layout.{X, is_unit, unit_words, link_of, words_of, word_at, map_word_place, map_words}
use Rattle.image.specs.Soundness.{leading, mapped, units_of}
use Rattle.image.specs.Verdicts.{good_form}
use Rattle.search.proofs.Bools.{either, cond-true, cond-false}
use Rattle.search.proofs.Mapping.{map-below-ext}
use Rattle.layout.specs.Shaped.{On}
use Rattle.image.proofs.Order.{Orderly, Chunk, Apart, apart-flip, unmapped-chunk, unmapped-apart, units_in, units_in_lem}

-- chunk i names the same map as before, and that map's words are as before
pub record Same (g : Shape) (s t : List ℕ) (i : ℕ) : Type 0 where
  pub link : link_of t i ≡ link_of s i
  pub words : mapped s i ≡ true → (j : ℕ) → j < map_words g → word_at t (map_word_place g (link_of s i) j) ≡ word_at s (map_word_place g (link_of s i) j)

-- chunk i names a map that was free, with units that were free
pub record Renewed (g : Shape) (s t : List ℕ) (i : ℕ) : Type 0 where
  pub bound : link_of t i < g.m
  pub formed : good_form g (words_of g t (link_of t i)) ≡ true
  pub single : distinct (units_of t i) ≡ true
  pub free-map : (j : ℕ) → j < g.c → link_of s j ≢ link_of t i
  pub free-units : (j u : ℕ) → j < g.c → member u (units_of t i) ≡ true → member u (units_of s j) ≡ true → ⊥

pub data Fate (g : Shape) (s t : List ℕ) (i : ℕ) : Type 0 where
  kept : Same g s t i → Fate g s t i
  emptied : mapped t i ≡ false → Fate g s t i
  renewed : Renewed g s t i → Fate g s t i

module _ (g : Shape) (s t : List ℕ) (os : On g s) (ot : On g t) where
  module _ (i : ℕ) (h : Same g s t i) where
    pub same-mapped : mapped t i ≡ mapped s i
    same-mapped = ap (λ (l : ℕ). not (eqb l X)) h.link

    pub same-words : mapped s i ≡ true → words_of g t (link_of t i) ≡ words_of g s (link_of s i)
    unfolding words_of
    same-words p =
        ap (words_of g t) h.link
        ∙ map-below-ext (λ j. word_at t (map_word_place g (link_of s i) j)) (λ j. word_at s (map_word_place g (link_of s i) j)) (map_words g) (h.words p)

    pub same_units : units_of t i ≡ units_of s i
    same_units = units_in_lem ot i ∙ inner (either (mapped s i)) ∙ sym (units_in_lem os i)
      where
        inner : (mapped s i ≡ true) ⊎ (mapped s i ≡ false) → units_in g t i ≡ units_in g s i
        inner (inl p) =
            cond-true (mapped t i) (leading (is_unit g) (unit_words g (words_of g t (link_of t i)))) [] (same-mapped ∙ p)
            ∙ ap (λ (ws : List ℕ). leading (is_unit g) (unit_words g ws)) (same-words p)
            ∙ sym (cond-true (mapped s i) (leading (is_unit g) (unit_words g (words_of g s (link_of s i)))) [] p)
        inner (inr p) =
            cond-false (mapped t i) (leading (is_unit g) (unit_words g (words_of g t (link_of t i)))) [] (same-mapped ∙ p)
            ∙ sym (cond-false (mapped s i) (leading (is_unit g) (unit_words g (words_of g s (link_of s i)))) [] p)

  -- a chunk that is kept stays in order, and two that are kept stay apart
  pub same-chunk : (i : ℕ) → Same g s t i → Chunk g s i → Chunk g t i
  same-chunk i a k = record {
    bound = λ p. subst (λ (l : ℕ). l < g.m) (sym a.link) (k.bound (sym (same-mapped i a) ∙ p));
    formed = λ p.
        ap (good_form g) (same-words i a (sym (same-mapped i a) ∙ p)) ∙ k.formed (sym (same-mapped i a) ∙ p);
    single = ap distinct (same_units i a) ∙ k.single;
  }

  pub same-apart : (i j : ℕ) → Same g s t i → Same g s t j → Apart s i j → Apart t i j
  same-apart i j a b k = record {
    maps = λ p q e. k.maps (sym (same-mapped i a) ∙ p) (sym (same-mapped j b) ∙ q) (sym a.link ∙ e ∙ b.link);
    units = λ u p q. k.units u (ap (member u) (sym (same_units i a)) ∙ p) (ap (member u) (sym (same_units j b)) ∙ q);
  }

  module _ (d : Orderly g s) where
    fate-chunk : (i : ℕ) → i < g.c → Fate g s t i → Chunk g t i
    fate-chunk i h (kept a) = same-chunk i a (d.chunk i h)
    fate-chunk i h (emptied e) = unmapped-chunk g t i e
    fate-chunk i h (renewed r) = record { bound = λ p. r.bound; formed = λ p. r.formed; single = r.single }

    -- a renewed chunk is apart from one that was kept
    renewed-kept : (i j : ℕ) → j < g.c → Renewed g s t i → Same g s t j → Apart t i j
    renewed-kept i j h r a = record {
      maps = λ p q e. r.free-map j h (sym (e ∙ a.link));
      units = λ u p q. r.free-units j u h p (ap (member u) (sym (same_units j a)) ∙ q);
    }

    module _ (new : (i j : ℕ) → i < g.c → j < g.c → i ≢ j → Renewed g s t i → Renewed g s t j → Apart t i j) where
      fate-apart : (i j : ℕ) → i < g.c → j < g.c → i ≢ j → Fate g s t i → Fate g s t j → Apart t i j
      fate-apart i j hi hj n (kept a) (kept b) = same-apart i j a b (d.apart i j hi hj n)
      fate-apart i j hi hj n (kept a) (emptied e) = apart-flip (unmapped-apart e)
      fate-apart i j hi hj n (kept a) (renewed r) = apart-flip (renewed-kept j i hi r a)
      fate-apart i j hi hj n (emptied e) f = unmapped-apart e
      fate-apart i j hi hj n (renewed r) (kept b) = renewed-kept i j hj r b
      fate-apart i j hi hj n (renewed r) (emptied e) = apart-flip (unmapped-apart e)
      fate-apart i j hi hj n (renewed r) (renewed q) = new i j hi hj n r q

      -- an orderly image stays so where each chunk is kept, emptied or renewed, and no two renewed chunks share a map or unit
      pub orderly-after : ((i : ℕ) → i < g.c → Fate g s t i) → Orderly g t
      orderly-after f = record {
        on = ot;
        chunk = λ i h. fate-chunk i h (f i h);
        apart = λ i j hi hj n. fate-apart i j hi hj n (f i hi) (f j hj);
      }
