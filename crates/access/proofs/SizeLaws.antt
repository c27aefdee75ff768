-- Laws of a chunk's stored size.
use Rattle.std.specs.Prelude.{Ok, Err}
use Prim.Native.Nat.{ℕ, ◌*◌, ◌<◌, ◌≤◌}
use mathlib.Core.Path.{◌≡◌, refl, ap, sym, ◌∙◌}
use mathlib.Core.List.{List}
use native.Mathlib.Omega.{arith}
use lib.ListN.{length, get_or}
use borrow.Author.Tests.{lt-ltb, le-ltb, eq-eqb, ne_eqb}
use Rattle.layout.specs.declared.Shape.{Shape}
use Rattle.layout.specs.declared.Refusal.TheVariants.{Range}
use Rattle.layout.specs.Layout.{X, unit_bytes, head, shape_of, link_of}
use Rattle.layout.specs.Shaped.{Shaped, map_of}
use Rattle.image.specs.Soundness.{Named}
use Rattle.image.specs.Stored.{stored_size}
use Rattle.image.specs.Verdicts.{verdict}
use Rattle.image.specs.Claims.{held_in}
use Rattle.image.specs.Answers.{if_sound}
use Rattle.image.proofs.Chunks.{not-mapped, is_mapped, units-named}
use Rattle.access.specs.Sizes.{size_on, size_answer}

-- ---- chunk i, whose entry is w

module _ (s : List ℕ) (g : Shape) (i w : ℕ) (h : Shaped s g) (ew : w ≡ link_of s i) where
  pub size-absent : w ≡ X → 0 ≡ stored_size s i
  unfolding stored_size
  size-absent x = rw (not-mapped s i (sym ew ∙ x))

  module _ (x : w ≡ X → ⊥) where
    named : Named s i
    named e = x (ew ∙ e)

    heads : head (shape_of s) ≡ head g
    heads = ap (λ (q : Shape). head q) (sym h.same)

    pub size-counted : head g ≡ 0 → (k : ℕ) → k ≡ length (held_in s w) → k * unit_bytes ≡ stored_size s i
    unfolding stored_size
    size-counted z k e = rw (is_mapped s i named, eq-eqb (head (shape_of s)) 0 (heads ∙ z), units-named s i named, e, ew)

    pub size-told : (head g ≡ 0 → ⊥) → get_or (map_of s w) 0 0 ≡ stored_size s i
    unfolding stored_size
    size-told z = rw (is_mapped s i named, ne_eqb (head (shape_of s)) 0 (λ q. z (sym heads ∙ q)), ew)

-- ---- the answers on chunk i

-- behind the verdict on the image
pub size-judged : (s : List ℕ) (i : ℕ) → size_answer s i ≡ if_sound (verdict s) Err (size_on s i)
unfolding size_on
size-judged s i = refl
