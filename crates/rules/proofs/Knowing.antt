-- What is known where the free sets are those of an image: the rules then are those of the image.
use Prim.Native.Nat.{ℕ}
use mathlib.Core.Path.{◌≡◌, refl, ap, ◌∙◌}
use mathlib.Core.Bool.{Bool, true, false, ◌&&◌}
use mathlib.Core.List.{List}
use Rattle.layout.specs.declared.Shape.{Shape}
use Rattle.image.specs.Soundness.{mapped}
use Rattle.image.specs.Free.{free_units}
use Rattle.image.specs.declared.Loaded.{Loaded}
use Rattle.image.proofs.FreeSets.{units-test, maps-test}
use Rattle.image.proofs.Loads.{Known as Loads}
use Rattle.bitset.specs.Bits.{in_set}
use Rattle.steps.specs.declared.Request.{Request}
use Rattle.steps.specs.Steps.{chunk_of, good_chunk}
use Rattle.rules.specs.Rules.{Known, known, known_of, judged}

-- of a chunk that is not below C nobody asks whether it is mapped
judged-chunk : (g : Shape) (units maps : ℕ → Bool) (b : Bool) (r : Request) (plan : List ℕ)
    → judged (known g units maps (good_chunk g r && b)) r plan ≡ judged (known g units maps b) r plan
unfolding judged
judged-chunk g units maps b r plan = go (good_chunk g r) refl
  where
    go : (t : Bool) → good_chunk g r ≡ t → judged (known g units maps (good_chunk g r && b)) r plan ≡ judged (known g units maps b) r plan
    go true e = rw e
    go false e = rw e

-- what is known from what load found of an image that passes is what is known of the image
module _ (s : List ℕ) (l : Loaded) (k : Loads s l) where
  pub known-loaded : (r : Request) → known l.shape (in_set l.units) (in_set l.maps) (mapped s (chunk_of r)) ≡ known_of s r
  unfolding free_units
  known-loaded r =
      λ i. known (k.shape i) (units-test s k.sound l.units k.units i) (maps-test s k.sound l.maps k.maps i) (mapped s (chunk_of r))

  pub judged-loaded : (r : Request) (plan : List ℕ) (m : Bool) → m ≡ (good_chunk l.shape r && mapped s (chunk_of r))
      → judged (known l.shape (in_set l.units) (in_set l.maps) m) r plan ≡ judged (known_of s r) r plan
  judged-loaded r plan m e =
      ap (λ (b : Bool). judged (known l.shape (in_set l.units) (in_set l.maps) b) r plan) e
      ∙ judged-chunk l.shape (in_set l.units) (in_set l.maps) (mapped s (chunk_of r)) r plan
      ∙ ap (λ (kn : Known). judged kn r plan) (known-loaded r)
