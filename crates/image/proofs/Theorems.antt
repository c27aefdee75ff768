-- The theorems of this crate that a reader wants: nothing else cites them. `Bytes s` says that each element of s is below 256, as every lent
-- image's is.
use Rattle.std.specs.Prelude.{Result, Ok, Err, ⊤}
use Prim.Native.Nat.{ℕ, ◌+◌, ◌-◌, ◌*◌, ◌≤◌, ◌<◌}
use native.Mathlib.Omega.{arith}
use mathlib.Core.Path.{◌≡◌, refl, sym, ap, subst, ◌∙◌}
use mathlib.Core.Logic.{◌⊎◌, inl, inr}
use mathlib.Core.Bool.{true, false, not}
use mathlib.Core.List.{List}
use lib.ListN.{length, get_or}
use lib.Dec.{ltb}
use Rattle.words.specs.Words.{Bytes}
use Rattle.search.specs.Search.{member, distinct}
use Rattle.search.proofs.Bools.{is_false}
use Rattle.bitset.specs.Bits.{bit_set}
use Rattle.bitset.proofs.BitSets.{bit_set-ext}
use Rattle.layout.specs.declared.Shape.{Shape}
use Rattle.layout.specs.declared.Refusal.{Refusal}
use Rattle.layout.specs.declared.Refusal.TheVariants.{Foreign, BadMap}
use Rattle.layout.specs.Layout.{X, first_edition, last_edition, units_for, is_unit, word_at, trailer_bytes, known_as, shape_of, fresh}
use Rattle.layout.specs.Shaped.{word_count}
use Rattle.layout.specs.Format.{format_answer, format_image}
use Rattle.layout.proofs.Limits.{limits, unit-unreserved}
use Rattle.layout.proofs.Formatting.{formatted}
use Rattle.image.specs.Soundness.{units_of, named_words, Named, NamesUnit, Sound}
use Rattle.image.specs.Verdicts.{verdict, first_verdict, good_map}
use Rattle.image.specs.Rows.{Row, PastRow4}
use Rattle.image.specs.Stored.{stored_size}
use Rattle.image.specs.Free.{free_unit, free_map, free_units, free_maps, held_units}
use Rattle.image.specs.Loading.{unit_set_words, map_set_words, answer, loaded}
use Rattle.image.proofs.Verdicts.{read_first, read-other}
use Rattle.image.proofs.Chunks.{reserved-bad}
use Rattle.image.proofs.SoundLaws.{passed-tested, tested-passed}
use Rattle.image.proofs.Wording.{tested-sound, sound-tested, sound-shape, sound-first, sound-second, held-named, named-held}
use Rattle.image.proofs.Refusing.{refused-row, row-refused}
use Rattle.image.proofs.Room.{free_unit-unreserved, free-or-held, held-unit, held_below, distinct-held, free-and-held, some-map-free, units-free}
use Rattle.image.proofs.Storing.{size-of-units}
use Rattle.image.proofs.Fresh.{word-fresh, sound-fresh, free_unit-fresh, free_map-fresh}

-- ---- "every sound image loaded, every other refused"

-- The verdict passes an image exactly where it is sound.
pub passed-is-sound : (s : List ℕ) → Bytes s → verdict s ≡ Ok tt → Sound (shape_of s) s
passed-is-sound s b e = tested-sound s (passed-tested s e) b

pub sound-is-passed : (g : Shape) (s : List ℕ) → Sound g s → (verdict s ≡ Ok tt) × (shape_of s ≡ g)
sound-is-passed g s z = (tested-passed s (sound-tested g s z), sound-shape g s z)

-- It refuses exactly with the row that holds: "Each is given when its row holds and not otherwise", "Lowest number wins".
pub refused-is-row : (s : List ℕ) (r : Refusal) → verdict s ≡ Err r → Row s r
refused-is-row = refused-row

pub row-is-refused : (s : List ℕ) (r : Refusal) → Row s r → verdict s ≡ Err r
row-is-refused = row-refused

-- "Edition 1 code must give 2 on it", and passes what it always passed.
pub second-is-foreign : (g : Shape) (s : List ℕ) → Sound g s → g.edition ≡ last_edition → first_verdict s ≡ Err Foreign
second-is-foreign g s z e = read-other s (sound-tested g s z).long (sound-second g s z e)

pub first-is-passed : (g : Shape) (s : List ℕ) → Sound g s → g.edition ≡ first_edition → first_verdict s ≡ Ok tt
first-is-passed g s z e = read_first s (sound-first g s z e) ∙ (sound-is-passed g s z).0

-- Whatever it reads as edition 1 gets its verdict, a refusal too; anything else of 32 bytes or more gets 2, sound or damaged.
pub first-as-before : (s : List ℕ) → known_as first_edition s ≡ true → first_verdict s ≡ verdict s
first-as-before = read_first

pub other-is-foreign : (s : List ℕ) → trailer_bytes first_edition ≤ length s → known_as first_edition s ≡ false → first_verdict s ≡ Err Foreign
other-is-foreign = read-other

-- Any bytes are a sound image, which loads with its shape and its free sets, or are refused with their row.
pub sound-loads : (g : Shape) (s : List ℕ) → Sound g s
    → loaded s ≡ Ok (record { shape = g; units = bit_set (free_unit s) unit_set_words; maps = bit_set (free_map s) map_set_words })
sound-loads g s z =
    let e = sound-is-passed g s z in
    ap (λ (v : Result ⊤ Refusal). answer v s) e.0
    ∙ ap
    (λ (h : Shape). Ok (record { shape = h; units = bit_set (free_unit s) unit_set_words; maps = bit_set (free_map s) map_set_words }))
    e.1

pub sound-or-refused : (s : List ℕ) → Bytes s → Sound (shape_of s) s ⊎ ((r : Refusal) × (verdict s ≡ Err r) × Row s r)
sound-or-refused s b = by-verdict (verdict s) refl
  where
    by-verdict : (v : Result ⊤ Refusal) → verdict s ≡ v → Sound (shape_of s) s ⊎ ((r : Refusal) × (verdict s ≡ Err r) × Row s r)
    by-verdict (Ok tt) e = inl (passed-is-sound s b e)
    by-verdict (Err r) e = inr (r, e, refused-row s r e)

-- ---- "Held units are those in named maps; all others are free."

-- Of the units that are not reserved each is free or held and not both; what is held is a unit below N, not reserved, and in a sound image held once, so
-- that both together are N-R.
pub units-part : (s : List ℕ) (u : ℕ) → is_unit (shape_of s) u ≡ true → free_unit s u ≡ not (member u (held_units s))
units-part = free-or-held

pub held-are-units : (s : List ℕ) (u : ℕ) → member u (held_units s) ≡ true → u < (shape_of s).n
held-are-units = held_below

-- "Units below R are never free and never held"
pub reserved-never-free : (s : List ℕ) (u : ℕ) → u < (shape_of s).r → free_unit s u ≡ false
reserved-never-free s u h = is_false (free_unit s u) (λ e. let k = free_unit-unreserved s u e in omega arith)

pub reserved-never-held : (s : List ℕ) (u : ℕ) → u < (shape_of s).r → member u (held_units s) ≡ false
reserved-never-held s u h = is_false (member u (held_units s)) (λ e. let k = unit-unreserved (shape_of s) u (held-unit s u e) in omega arith)

-- "a named map with one gives 5": in any of the words that may name units, at the lowest chunk with a bad map
pub reserved-is-refused : (s : List ℕ) (i a : ℕ) → PastRow4 s → i < (shape_of s).c → ((j : ℕ) → j < i → good_map s j ≡ true) → Named s i → a < (shape_of s).p
    → get_or (named_words (shape_of s) s i) a 0 < (shape_of s).r → verdict s ≡ Err (BadMap i)
reserved-is-refused s i a p b before n l low =
    row-refused s (BadMap i) (p, (b, ap not (reserved-bad s i a p.0.2 n l low), (λ j h. ap not (before j h))))

-- What is held is just what 01 says, "those in named maps".
pub held-is-named : (g : Shape) (s : List ℕ) → Sound g s → (u : ℕ) → member u (held_units s) ≡ true → (i : ℕ) × (a : ℕ) × NamesUnit g s i a u
held-is-named = held-named

pub named-is-held : (g : Shape) (s : List ℕ) → Sound g s → (u i a : ℕ) → NamesUnit g s i a u → member u (held_units s) ≡ true
named-is-held = named-held

pub held-once : (g : Shape) (s : List ℕ) → Sound g s → distinct (held_units s) ≡ true
held-once g s z = distinct-held s (sound-tested g s z)

-- "A sound map has k equal to the size rounded up in units": of every chunk that names a map, in either edition.
pub stored-size-fits : (g : Shape) (s : List ℕ) → Sound g s → (i : ℕ) → i < g.c → Named s i → units_for (stored_size s i) ≡ length (units_of s i)
stored-size-fits g s z i b n =
    size-of-units s (sound-tested g s z) i (subst (λ (h : Shape). i < h.c) (sym (sound-shape g s z)) b) n

pub units-counted : (g : Shape) (s : List ℕ) → Sound g s → length (free_units s) + length (held_units s) ≡ g.n - g.r
units-counted g s z = free-and-held s (sound-tested g s z) ∙ ap (λ (h : Shape). h.n - h.r) (sound-shape g s z)

-- ---- room

-- A sound image has a free map.
pub map-is-free : (g : Shape) (s : List ℕ) → Sound g s → 1 ≤ length (free_maps s)
map-is-free g s z = some-map-free s (sound-tested g s z).fitting

-- "Refusal 9 never occurs for one write when N-R is at least (C+1)·P": P units are free.
pub room-for-a-write : (g : Shape) (s : List ℕ) → Sound g s → (g.c + 1) * g.p ≤ g.n - g.r → g.p ≤ length (free_units s)
room-for-a-write g s z h =
    let e = sound-shape g s z in
    rw (← (ap (λ (q : Shape). q.p) e)) (units-free s (rw e h))

-- ---- "what is written loads back as what was meant": format

-- Every word of a fresh image before its trailer is X: "X in every entry and every map word".
pub fresh-is-absent : (g : Shape) (i : ℕ) → i < word_count g → word_at (fresh g) i ≡ X
fresh-is-absent = word-fresh

-- What format writes, in either edition, is sound, loads back as the numbers that it took, and has every unit but the reserved ones and every map free.
pub format-is-sound : (g : Shape) (s : List ℕ) → format_answer g s ≡ Ok tt → Sound g (format_image g s)
format-is-sound g s d = let f = formatted g s d in rw f.1 (sound-fresh g (limits g f.0))

pub format-loads : (g : Shape) (s : List ℕ) → format_answer g s ≡ Ok tt
    → loaded (format_image g s)
    ≡ Ok (record { shape = g; units = bit_set (is_unit g) unit_set_words; maps = bit_set (λ k. ltb k g.m) map_set_words })
format-loads g s d =
    let f = formatted g s d in
    let l = limits g f.0 in
    rw f.1
    (sound-loads g (fresh g) (sound-fresh g l)
    ∙ (λ t. Ok (record {
      shape = g;
      units = bit_set-ext (free_unit (fresh g)) (is_unit g) unit_set_words (λ u h. free_unit-fresh g l u) t;
      maps = bit_set-ext (free_map (fresh g)) (λ k. ltb k g.m) map_set_words (λ k h. free_map-fresh g l k) t;
    })))
