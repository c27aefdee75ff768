-- The sets of an index once a chunk's entry has changed, where they were the sets of two tests before.
use Prim.Native.Nat.{ℕ, ◌≤◌, ◌<◌}
use mathlib.Core.Path.{◌≡◌, ap, ◌∙◌}
use mathlib.Core.Bool.{Bool, true, false}
use mathlib.Core.List.{List, [], ◌++◌}
use lib.ListN.{length, take, drop}
use lib.Seq.{take_at, drop_at}
use lib.Dec.{ltb}
use borrow.Author.Tests.{lt-ltb, le-ltb}
use Rattle.search.specs.Sets.{put, without, with_all}
use Rattle.search.proofs.Bools.{cond-true, cond-false}
use Rattle.bitset.specs.Bits.{bit_set, removed}
use Rattle.bitset.proofs.BitSets.{length-bit_set, bit_set-ext, in-bit_set, inserted-set, removed-set}
use Rattle.layout.specs.Layout.{shape_of}
use Rattle.image.specs.Claims.{held_in}
use Rattle.image.specs.Loading.{unit_set_words, map_set_words}
use Rattle.renewal.specs.Renewal.{set_words, units_in, maps_in, held_by, put_in, taken_out, renewed_units, renewed_maps, renewed_sets}

-- ---- a set of words with the numbers of a list, and without them

put-in-set : (f : ℕ → Bool) (n : ℕ) (us : List ℕ) → put_in (bit_set f n) us ≡ bit_set (with_all f us) n
unfolding put_in with_all
put-in-set f n us = rw (length-bit_set f n) (bit_set-ext _ _ n (λ y h. rw (in-bit_set f n y h)))

taken-out-set : (f : ℕ → Bool) (n : ℕ) (us : List ℕ) → taken_out (bit_set f n) us ≡ bit_set (without f us) n
unfolding taken_out without
taken-out-set f n us = rw (length-bit_set f n) (bit_set-ext _ _ n (λ y h. rw (in-bit_set f n y h)))

-- ---- the units of a map, where there is one

module _ (s : List ℕ) (k : ℕ) where
  pub held-map : k < (shape_of s).m → held_by s k ≡ held_in s k
  unfolding held_by
  held-map l = cond-true (ltb k (shape_of s).m) (held_in s k) [] (lt-ltb k (shape_of s).m l)

  pub held_none : (shape_of s).m ≤ k → held_by s k ≡ []
  unfolding held_by
  held_none l = cond-false (ltb k (shape_of s).m) (held_in s k) [] (le-ltb k (shape_of s).m l)

-- ---- both sets

module _ (sets t : List ℕ) (old new : ℕ) where
  abbrev new_units : List ℕ
  new_units = renewed_units (units_in sets) t old new

  abbrev new_maps : List ℕ
  new_maps = renewed_maps (maps_in sets) old new

  module _ (f : ℕ → Bool) (e : units_in sets ≡ bit_set f unit_set_words) where
    units-now : new_units ≡ bit_set (without (with_all f (held_by t old)) (held_by t new)) unit_set_words
    units-now =
        ap (λ (ws : List ℕ). renewed_units ws t old new) e ∙ ap (λ (ws : List ℕ). taken_out ws (held_by t new)) (put-in-set f unit_set_words (held_by t old))
        ∙ taken-out-set (with_all f (held_by t old)) unit_set_words (held_by t new)

    units-long : length new_units ≡ unit_set_words
    units-long = ap length units-now ∙ length-bit_set _ unit_set_words

    pub next-units : units_in (renewed_sets sets t old new) ≡ bit_set (without (with_all f (held_by t old)) (held_by t new)) unit_set_words
    unfolding renewed_sets
    next-units = take_at new_units (new_maps ++ drop set_words sets) unit_set_words units-long ∙ units-now

    module _ (k : ℕ → Bool) (em : maps_in sets ≡ bit_set k map_set_words) where
      maps-now : new_maps ≡ bit_set (put (put k old true) new false) map_set_words
      maps-now =
          ap (λ (ws : List ℕ). renewed_maps ws old new) em ∙ ap (λ (ws : List ℕ). removed ws new) (inserted-set k map_set_words old)
          ∙ removed-set (put k old true) map_set_words new

      pub next-maps : maps_in (renewed_sets sets t old new) ≡ bit_set (put (put k old true) new false) map_set_words
      unfolding renewed_sets
      next-maps =
          ap (take map_set_words) (drop_at new_units (new_maps ++ drop set_words sets) unit_set_words units-long)
          ∙ take_at new_maps (drop set_words sets) map_set_words (ap length maps-now ∙ length-bit_set _ map_set_words)
          ∙ maps-now
