-- Laws of a chunk's stored size.
use Prim.Native.Nat.{ℕ, ◌*◌, ◌<◌, ◌≤◌}
use native.Mathlib.Omega.{arith}
use mathlib.Core.Path.{◌≡◌, refl, sym, ap, ap₂, ◌∙◌}
use mathlib.Core.Logic.{◌⊎◌, inl, inr}
use mathlib.Core.Bool.{Bool, true, false, cond}
use mathlib.Core.List.{List}
use lib.ListN.{length, get_or}
use lib.Dec.{eqb}
use Rattle.layout.specs.declared.Shape.{Shape}
use Rattle.layout.specs.Layout.{unit_bytes, units_for, head, words_of, shape_of, link_of}
use Rattle.layout.specs.Shaped.{On}
use Rattle.search.proofs.Bools.{either}
use Rattle.image.specs.Soundness.{mapped, units_of, Named}
use Rattle.image.specs.Claims.{Tested}
use Rattle.image.specs.Stored.{kept_size, stored_size}
use Rattle.image.proofs.Chunks.{has-head, is_mapped, units-named, named-map, map-form}
use Rattle.image.proofs.Fate.{Same, same-mapped, same-words, same_units}

pub stored-unmapped : (s : List ℕ) (i : ℕ) → mapped s i ≡ false → stored_size s i ≡ 0
unfolding stored_size
stored-unmapped s i m = rw m

-- of an image that says the shape g
pub stored-mapped : (g : Shape) (s : List ℕ) (i : ℕ) → shape_of s ≡ g → mapped s i ≡ true
    → stored_size s i ≡ kept_size g (get_or (words_of g s (link_of s i)) 0 0) (length (units_of s i))
unfolding stored_size
stored-mapped g s i e m = rw (m, e)

-- nothing is kept of nothing
pub kept-none : (g : Shape) → kept_size g 0 0 ≡ 0
kept-none g = go (eqb (head g) 0)
  where
    go : (b : Bool) → ◌≡◌ {A = ℕ} (cond b (0 * unit_bytes) 0) 0
    go true = refl
    go false = refl

pub kept_same : (g : Shape) (a b n k : ℕ) → n ≡ k → (1 ≤ head g → a ≡ b) → kept_size g a n ≡ kept_size g b k
kept_same g a b n k e h = go (eqb (head g) 0) refl
  where
    go : (x : Bool) → eqb (head g) 0 ≡ x → cond x (n * unit_bytes) a ≡ cond x (k * unit_bytes) b
    go true q = ap (λ (m : ℕ). m * unit_bytes) e
    go false q = h (has-head g q)

-- a chunk that is kept keeps its size
pub same_size : (g : Shape) (s t : List ℕ) (i : ℕ) → On g s → On g t → Same g s t i → stored_size t i ≡ stored_size s i
same_size g s t i os ot h = go (either (mapped s i))
  where
    go : (mapped s i ≡ true) ⊎ (mapped s i ≡ false) → stored_size t i ≡ stored_size s i
    go (inl m) =
        stored-mapped g t i ot.shape (same-mapped g s t os ot i h ∙ m)
        ∙ ap₂ (λ (ws us : List ℕ). kept_size g (get_or ws 0 0) (length us)) (same-words g s t os ot i h m) (same_units g s t os ot i h)
        ∙ sym (stored-mapped g s i os.shape m)
    go (inr m) = stored-unmapped t i (same-mapped g s t os ot i h ∙ m) ∙ sym (stored-unmapped s i m)

-- in a sound image it is the size of just the units that the chunk holds
pub size-of-units : (s : List ℕ) → Tested s → (i : ℕ) → i < (shape_of s).c → Named s i → units_for (stored_size s i) ≡ length (units_of s i)
size-of-units s z i b n = ap units_for (stored-mapped (shape_of s) s i refl (is_mapped s i n)) ∙ go (eqb (head (shape_of s)) 0) refl
  where
    go : (b : Bool) → eqb (head (shape_of s)) 0 ≡ b
        → units_for (cond b (length (units_of s i) * unit_bytes) (get_or (words_of (shape_of s) s (link_of s i)) 0 0)) ≡ length (units_of s i)
    go true e = omega arith
    go false e =
        (map-form (shape_of s) (words_of (shape_of s) s (link_of s i)) (sym (named-map s i n) ∙ z.maps i b)).size (has-head (shape_of s) e)
        ∙ ap length (sym (units-named s i n))
