-- What a repair does, in the words of document 02: what a reader must believe. What is computed stands in Repair.antt, and the theorems that tie the two are
-- in proofs/Theorems.antt.
use Rattle.std.specs.Prelude.{ℕ, ◌*◌, ◌≤◌, ◌<◌, ◌≡◌, ◌≢◌, true, false, List, map, length, get_or, drop}
use Rattle.search.specs.Search.{below, member}
use Rattle.words.specs.Words.{u32_at}
use Rattle.layout.specs.declared.Shape.{Shape}
use Rattle.layout.specs.Layout.{X, link_of, words_of}
use Rattle.image.specs.Soundness.{Named, units_of, MapForm, NamesUnit, Sound}

-- ---- why a chunk is unlinked

-- chunk i is one of those "with good links and maps": it names no map; or its entry is below M, and the map "holds 1 to P units below N,
-- then only X", none of them reserved, in edition 2 with a size of just so many
abbrev pub Good : Shape → List ℕ → ℕ → Type 0
Good g s i = Named s i → (link_of s i < g.m) × ((k : ℕ) × MapForm g k (words_of g s (link_of s i)))

-- chunk j has a fault
pub data Fault (g : Shape) (s : List ℕ) (j : ℕ) : Type 0 where
  -- "a bad link": "entry neither X nor below M"
  wrong_link : j < g.c → Named s j → g.m ≤ link_of s j → Fault g s j
  -- "or bad map": "a named map of the wrong form"
  wrong_map : j < g.c → Named s j → link_of s j < g.m → ((k : ℕ) → MapForm g k (words_of g s (link_of s j)) → ⊥) → Fault g s j
  -- "among chunks with good links and maps, every chunk that shares a map .. with another": with chunk i
  shared_map : (i : ℕ) → i < g.c → j < g.c → i ≢ j → Good g s i → Good g s j → Named s j → link_of s i ≡ link_of s j → Fault g s j
  -- "or unit": unit word a of chunk i's map and unit word b of chunk j's are unit u
  shared_unit : (i u a b : ℕ) → i ≢ j → Good g s i → Good g s j → NamesUnit g s i a u → NamesUnit g s j b u → Fault g s j
  -- "or names a unit twice": unit words a and b of its map
  unit_twice : (u a b : ℕ) → a ≢ b → Good g s j → NamesUnit g s j a u → NamesUnit g s j b u → Fault g s j

-- ---- what a repair leaves

-- the numbers of a list of n, "a u32 each"
abbrev pub numbers_in : ℕ → List ℕ → List ℕ
numbers_in n out = map (λ k. u32_at out (4 * k)) (below n)

-- the image s, of shape g, became t, and xs is the list of the unlinked chunks
pub record Repairs (g : Shape) (s t xs : List ℕ) : Type 0 where
  -- the chunks with a fault, each of them and no other, "in rising order"
  pub faulty : (i : ℕ) → member i xs ≡ true → Fault g s i
  pub complete : (i : ℕ) → Fault g s i → member i xs ≡ true
  pub rising : (a b : ℕ) → a < b → b < length xs → get_or xs a 0 < get_or xs b 0
  -- "Only the entries of those chunks change, to X": every other chunk keeps its entry and its units
  pub absent : (i : ℕ) → member i xs ≡ true → link_of t i ≡ X
  pub kept : (i : ℕ) → i < g.c → member i xs ≡ false → (link_of t i ≡ link_of s i) × (units_of t i ≡ units_of s i)
  -- and no byte changes past the logical map: neither a chunk map, named or not, nor the trailer
  pub rest : drop (8 * g.c) t ≡ drop (8 * g.c) s
  -- "The result is sound"
  pub sound : Sound g t
