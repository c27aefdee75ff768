-- When an image is sound, in document 01's words: what a reader must believe. The verdict that load computes is in Verdicts.antt, and
-- the theorem that the two agree, both ways, in proofs/Theorems.antt.
use Rattle.std.specs.Prelude.{ℕ, ◌≤◌, ◌<◌, ◌≡◌, Bool, true, not, cond, List, [], ◌∷◌, length, get_or, drop, eqb}
use Rattle.layout.specs.declared.Shape.{Shape}
use Rattle.layout.specs.Layout.{X, units_for, is_unit, head, unit_words, link_of, words_of, trailer_start, trailer_of, image_bytes, shape_of}
use Rattle.layout.specs.Shaped.{Limits}

-- ---- what a chunk holds

-- chunk i names a map: its entry is not X
abbrev pub mapped : List ℕ → ℕ → Bool
mapped s i = not (eqb (link_of s i) X)

-- the words that may name units, of the map that chunk i names
abbrev pub named_words : Shape → List ℕ → ℕ → List ℕ
named_words g s i = unit_words g (words_of g s (link_of s i))

-- the words before the first that fails a test
unfoldable pub leading : (ℕ → Bool) → List ℕ → List ℕ
leading f [] = []
leading f (w ∷ ws) = let r = leading f ws in cond (f w) (w ∷ r) []

-- the units that chunk i holds, in map order: those of the map that it names, up to the first word that is no unit
unfoldable pub units_of : List ℕ → ℕ → List ℕ
units_of s i = let g = shape_of s in cond (mapped s i) (leading (is_unit g) (named_words g s i)) []

-- ---- soundness

-- chunk i names a map, as a statement
abbrev pub Named : List ℕ → ℕ → Type 0
Named s i = link_of s i ≡ X → ⊥

-- "holds 1 to P units below N, then only X": of the words ws the first k pass the test f, and all after them are X
pub record Form (f : ℕ → Bool) (k : ℕ) (ws : List ℕ) : Type 0 where
  pub some : 1 ≤ k
  pub high : k ≤ length ws
  pub units : (j : ℕ) → j < k → f (get_or ws j 0) ≡ true
  pub rest : (j : ℕ) → k ≤ j → j < length ws → get_or ws j 0 ≡ X

-- "each named map holds 1 to P units below N, then only X", none of them reserved; in edition 2 "A sound map has k equal to the size rounded up in units":
-- ws are the words of a map that holds k units
pub record MapForm (g : Shape) (k : ℕ) (ws : List ℕ) : Type 0 where
  pub units : Form (is_unit g) k (unit_words g ws)
  pub size : 1 ≤ head g → units_for (get_or ws 0 0) ≡ k

-- of the map that chunk i names, word a of those that may name units is unit u
pub record NamesUnit (g : Shape) (s : List ℕ) (i a u : ℕ) : Type 0 where
  pub chunk : i < g.c
  pub named : Named s i
  pub place : a < length (named_words g s i)
  pub word : get_or (named_words g s i) a 0 ≡ u
  pub unit : is_unit g u ≡ true

-- s is a sound image of a volume of shape g
pub record Sound (g : Shape) (s : List ℕ) : Type 0 where
  -- "its last 32 bytes are such a trailer within the limits above, agreeing with its length"; in edition 2 its last 40
  pub limits : Limits g
  pub size : length s ≡ image_bytes g
  pub trailer : drop (trailer_start g) s ≡ trailer_of g
  -- "each logical entry is X or below M, and no two chunks name the same map"
  pub entries : (i : ℕ) → i < g.c → Named s i → link_of s i < g.m
  pub maps : (i j : ℕ) → i < g.c → j < g.c → Named s i → link_of s i ≡ link_of s j → i ≡ j
  -- "each named map holds 1 to P units below N, then only X"; in edition 2 "k equal to the size rounded up in units", and "Units below R are .. never held"
  pub forms : (i : ℕ) → i < g.c → Named s i → (k : ℕ) × MapForm g k (words_of g s (link_of s i))
  -- "no unit is named twice in named maps"
  pub units : (u i j a b : ℕ) → NamesUnit g s i a u → NamesUnit g s j b u → (i ≡ j) × (a ≡ b)
