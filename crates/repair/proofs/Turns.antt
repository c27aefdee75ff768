-- What the functions that look for faults find, for an image of shape g and a chunk of it.
use Prim.Native.Nat.{ℕ, ◌*◌, ◌<◌}
use native.Mathlib.Omega.{arith}
use mathlib.Core.Path.{◌≡◌, ap, ◌∙◌, subst}
use mathlib.Core.Bool.{false, ◌||◌}
use mathlib.Core.List.{List}
use Rattle.search.specs.Search.{any, repeated}
use Rattle.bitset.specs.Bits.{bit_set, in_set}
use Rattle.layout.specs.declared.Shape.{Shape}
use Rattle.layout.specs.Layout.{shape_of}
use Rattle.layout.specs.Shaped.{Limits, Shaped}
use Rattle.repair.specs.Repair.{bad, shares, names_twice}
use Rattle.repair.specs.Claims.{claim_words, chunk_set_words, claims_of, claims_below}
use Rattle.repair.proofs.Sharing.{shared-again, again-is}

module _ (s : List ℕ) (g : Shape) (i : ℕ) (h : Shaped s g) (b : i < g.c) where
  pub chunk-here : (i < (shape_of s).c) × (i < 64 * chunk_set_words)
  chunk-here = let e = ap (λ (q : Shape). q.c) h.same in (omega arith, omega (arith, h.limits))

  pub claim-again : bad s i ≡ false → (ws : List ℕ) → ws ≡ bit_set (λ x. repeated x (claims_below s g.c)) claim_words
      → any (in_set ws) (claims_of s i) ≡ (shares s i || names_twice s i)
  claim-again good ws e =
      let l : Limits (shape_of s) = subst Limits h.same h.limits in
      again-is s l ws g.c (ap (λ (q : Shape). q.c) h.same) e (claims_of s i) ∙ shared-again s l i chunk-here.0 good
