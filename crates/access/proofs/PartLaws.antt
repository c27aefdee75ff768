-- Laws of a chunk's held words: where they stand, and which answer each finding of the code gives.
use Rattle.std.specs.Prelude.{Result, Ok, Err, ⊤, IfOk}
use Rattle.std.specs.Result.{result_and, result_unwrap_or}
use Prim.Native.Nat.{ℕ, ◌+◌, ◌*◌, ◌<◌, ◌≤◌}
use mathlib.Core.Path.{◌≡◌, refl, ap, ◌∙◌}
use mathlib.Core.Bool.{Bool, true, false, cond}
use mathlib.Core.List.{List}
use native.Mathlib.Omega.{arith}
use lib.ListN.{length}
use lib.Dec.{ltb}
use borrow.Author.Tests.{lt-ltb, le-ltb}
use Rattle.layout.specs.declared.Shape.{Shape}
use Rattle.layout.specs.declared.Refusal.TheVariants.{Range}
use Rattle.layout.specs.Layout.{X, max_image_bytes, is_unit, head, map_words, map_word_place, shape_of, link_of}
use Rattle.layout.specs.Shaped.{Shaped, unit_words_of}
use Rattle.layout.proofs.Limits.{map-words, map-within, image-high}
use Rattle.image.specs.Soundness.{mapped}
use Rattle.image.specs.Verdicts.{good_link, verdict}
use Rattle.image.specs.Claims.{held_in}
use Rattle.image.specs.Answers.{if_sound}
use Rattle.image.proofs.Leading.{length-leading}
use Rattle.image.proofs.Chunks.{is_mapped, map-named, units-named}
use Rattle.image.proofs.MapWords.{length-units_in}
use Rattle.image.proofs.Loads.{KnownShape}
use Rattle.access.specs.declared.Extent.{Extent}
use Rattle.access.specs.Parts.{empty_extent, held_words, if_answered, held_status, held_extent, held_on, held_of}
use Rattle.layout.specs.declared.Refusal.{Refusal}

-- ---- chunk i

pub words-absent : (s : List ℕ) (i : ℕ) → mapped s i ≡ false → empty_extent ≡ held_words s i
unfolding held_words
words-absent s i m = rw m

-- its entry is w, and names a map
module _ (s : List ℕ) (g : Shape) (i w : ℕ) (h : Shaped s g) (ew : w ≡ link_of s i) (hw : w ≡ X → ⊥) (good : good_link s i ≡ true) where
  -- its map holds k units, and `at` is the first word that names one
  module _ (k first at : ℕ) (ek : k ≡ length (held_in s w)) (ef : first ≡ head g) (ea : at ≡ map_word_place g w first) where
    pub words-within : (8 * at + 8 * k ≤ length s) × (length s ≤ max_image_bytes)
    words-within =
        let b = map-within w g.m (map_words g) (map-named s g i w h ew hw good) in
        let a = length-leading (is_unit (shape_of s)) (unit_words_of s w) in
        let n = length-units_in s g w h in
        let q = map-words g in
        (omega (arith, h.size), omega (arith, image-high g h.limits, h.size))

    pub words-named : ◌≡◌ {A = Extent} (record { start = 8 * at; end = 8 * at + 8 * k }) (held_words s i)
    unfolding held_words
    words-named = rw (is_mapped s i (λ e. hw (ew ∙ e)), units-named s i (λ e. hw (ew ∙ e)), ek, ea, ef, ew, h.same)

-- ---- the answers on chunk i

-- behind the verdict on the image
pub held-judged : (s : List ℕ) (i : ℕ) → held_of s i ≡ if_sound (verdict s) Err (held_on s i)
held-judged s i = refl

-- the one answer gives the companion's answer and the place
pub held-both : (s : List ℕ) (i : ℕ) → (result_and (held_of s i) (Ok tt) ≡ held_status s i) × (result_unwrap_or (held_of s i) empty_extent ≡ held_extent s i)
unfolding held_on
held-both s i = at (verdict s) (ltb i (shape_of s).c)
  where
    status : Result ⊤ Refusal → Bool → Result ⊤ Refusal
    status v low = if_sound v Err (cond low (Ok tt) (Err Range))

    found : Result ⊤ Refusal → Bool → Result Extent Refusal
    found v low = if_sound v Err (cond low (Ok (held_words s i)) (Err Range))

    at : (v : Result ⊤ Refusal) (low : Bool)
        → (result_and (found v low) (Ok tt) ≡ status v low) × (result_unwrap_or (found v low) empty_extent ≡ if_answered (status v low) (held_words s i))
    at (Err r) low = (refl, refl)
    at (Ok tt) true = (refl, refl)
    at (Ok tt) false = (refl, refl)

-- a place within, or an empty one
pub within-or-empty : (r : Result Extent Refusal) (n : ℕ) → IfOk r (λ e. (e.start ≤ e.end) × (e.end ≤ n))
    → let e = result_unwrap_or r empty_extent in (e.start ≤ e.end) × (e.end ≤ n)
within-or-empty (Ok e) n h = h
within-or-empty (Err r) n h = (omega arith, omega arith)

-- in a sound image every chunk has a good entry
pub known-link : (s : List ℕ) (g : Shape) → KnownShape s g → (i : ℕ) → i < g.c → good_link s i ≡ true
known-link s g k i b = k.sound.links i (omega (arith, ap (λ (h : Shape). h.c) k.shape))
