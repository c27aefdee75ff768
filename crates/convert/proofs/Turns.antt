-- One chunk copied, and the turns of the loop over all of them, by what the code has in hand.
use Prim.Native.Nat.{ℕ, suc, ◌+◌, ◌*◌, ◌≤◌, ◌<◌}
use native.Mathlib.Omega.{arith}
use mathlib.Core.Path.{◌≡◌, sym, ap, subst, ◌∙◌}
use mathlib.Core.Logic.{⊎_elim}
use mathlib.Core.List.{List}
use lib.ListN.{length}
use Rattle.search.proofs.Bools.{either, cond-true, cond-false}
use Rattle.words.proofs.Laws.{length-store}
use Rattle.layout.specs.declared.Shape.{Shape}
use Rattle.layout.specs.Layout.{X, image_bytes, put_word, link_of, shape_of, fresh}
use Rattle.layout.specs.Shaped.{Limits, Shaped}
use Rattle.image.specs.Soundness.{mapped, units_of}
use Rattle.image.specs.Claims.{held_in}
use Rattle.image.proofs.Chunks.{not-mapped, is_mapped, units-named}
use Rattle.image.proofs.Fresh.{sound-fresh}
use Rattle.convert.specs.Convert.{second_of, put_map, copied, copied_below, converted}
use Rattle.convert.proofs.Second.{second-limits}
use Rattle.convert.proofs.Putting.{length-put_map}

-- ---- chunk i, whose entry is w

module _ (s : List ℕ) (i w : ℕ) (t : List ℕ) (e : w ≡ link_of s i) where
  pub copied-absent : w ≡ X → t ≡ copied s i t
  unfolding copied
  copied-absent x = rw (not-mapped s i (sym e ∙ x))

  pub copied-named : (g h : Shape) (t₁ t₂ : List ℕ) → Shaped s g → h ≡ second_of g → (w ≡ X → ⊥) → t₁ ≡ put_map h t w (held_in s w)
      → t₂ ≡ put_word t₁ i w → t₂ ≡ copied s i t
  unfolding copied
  copied-named g h t₁ t₂ d q n p r =
      let m : link_of s i ≡ X → ⊥ = λ x. n (e ∙ x) in
      r ∙ rw (is_mapped s i m, units-named s i m, ← e, p, q, d.same)

-- the entry's place, after the map is stored
pub entry_in : (g h : Shape) (i k : ℕ) (us t t₁ : List ℕ) → h ≡ second_of g → i < g.c → length t ≡ image_bytes h → t₁ ≡ put_map h t k us
    → 8 * i + 8 ≤ length t₁
entry_in g h i k us t t₁ q b n e =
    let c : h.c ≡ g.c = ap (λ (x : Shape). x.c) q in
    omega (arith, ap length e ∙ length-put_map h t k us)

pub length-copied : (s : List ℕ) (i : ℕ) (t : List ℕ) → length (copied s i t) ≡ length t
unfolding copied
length-copied s i t =
    let k = link_of s i in
    let h = second_of (shape_of s) in
    let stored : List ℕ = put_word (put_map h t k (units_of s i)) i k in
    ⊎_elim (λ m. ap length (cond-true (mapped s i) stored t m) ∙ length-store 8 (put_map h t k (units_of s i)) (8 * i) k ∙ length-put_map h t k (units_of s i))
    (λ m. ap length (cond-false (mapped s i) stored t m))
    (either (mapped s i))

-- ---- the chunks below i

pub copied_next : (s : List ℕ) (i : ℕ) (t : List ℕ) → t ≡ copied_below s i → copied s i t ≡ copied_below s (i + 1)
unfolding copied_below
copied_next s i t e = let n : suc i ≡ i + 1 = omega arith in ap (copied s i) e ∙ ap (copied_below s) n

-- where the code has the shapes g and h

module _ (s : List ℕ) (g h : Shape) (d : Shaped s g) (q : h ≡ second_of g) where
  pub copied-start : (t : List ℕ) → t ≡ fresh h → t ≡ copied_below s 0
  unfolding copied_below
  copied-start t e = e ∙ ap fresh (q ∙ ap second_of d.same)

  pub fresh-length : (t : List ℕ) → t ≡ fresh h → length t ≡ image_bytes h
  fresh-length t e = ap length e ∙ (sound-fresh h (subst Limits (sym q) (second-limits g d.limits))).size

  pub copied_all : (i c : ℕ) (t : List ℕ) → c ≡ g.c → i ≤ c → c ≤ i → t ≡ copied_below s i → t ≡ converted s
  unfolding converted
  copied_all i c t p a b e =
      let n : i ≡ (shape_of s).c = let m = ap (λ (x : Shape). x.c) d.same in omega arith in
      e ∙ ap (copied_below s) n
