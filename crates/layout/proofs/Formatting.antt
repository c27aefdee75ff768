-- Laws of format: the stores of its trailer are the trailer's bytes, and the fresh image is what they leave.
use Rattle.std.specs.Prelude.{Ok, Err}
use Rattle.std.proofs.Common.{◌≡◌, ℕ, ◌+◌, ◌≤◌, Bool, true, false, cond, eqb, List, ◌++◌, length, drop, replicate, sym, refl, ap, ◌∙◌, append-nil, arith, length-append, length-drop, eq-eqb, ne_eqb}
use Rattle.search.proofs.Bools.{and_left}
use Rattle.words.proofs.Laws.{sets-append, length_digits}
use lib.ListN.{length-replicate}
use lib.Seq.{sets, sets-eq, take-append_seam, drop-append-add, drop-length}
use Rattle.words.specs.Words.{store_at}
use Rattle.layout.specs.declared.Shape.{Shape}
use Rattle.layout.specs.declared.Refusal.TheVariants.{Geometry}
use Rattle.layout.specs.Layout.{first_edition, last_edition, max_units, tag, within_limits, map_bytes, trailer_start, image_bytes, shape_bytes, size_bytes, added_bytes, trailer_of, fresh}
use Rattle.layout.specs.Shaped.{Limits}
use Rattle.layout.proofs.Limits.{no-limits, units-high}
use Rattle.layout.proofs.Told.{length-added, added-first, added-second}
use Rattle.layout.specs.Format.{formats, format_answer, format_image}

pub shape-run : (s : List ℕ) (t : ℕ) (g : Shape)
    → store_at 4 (store_at 4 (store_at 4 (store_at 2 (store_at 2 (sets s t tag) (t + 4) g.edition) (t + 6) g.p) (t + 8) g.c) (t + 12) g.m) (t + 16) g.n
    ≡ sets s t (shape_bytes g)
unfolding shape_bytes
shape-run s t g = simp (sets-append, length-append, length_digits)

pub size-run : (s : List ℕ) (t : ℕ) (g : Shape)
    → store_at 4 (store_at 4 (store_at 4 s t (trailer_start g)) (t + 4) (map_bytes g)) (t + 8) (image_bytes g) ≡ sets s t (size_bytes g)
unfolding size_bytes
size-run s t g = simp (sets-append, length-append, length_digits)

pub length-shape_bytes : (g : Shape) → length (shape_bytes g) ≡ 20
unfolding shape_bytes
length-shape_bytes g = simp (length-append, length_digits)

pub length-size_bytes : (g : Shape) → length (size_bytes g) ≡ 12
unfolding size_bytes
length-size_bytes g = simp (length-append, length_digits)

pub added-run : (s : List ℕ) (t : ℕ) (g : Shape) → g.edition ≡ last_edition → store_at 4 (store_at 4 s t g.r) (t + 4) 0 ≡ sets s t (added_bytes g)
added-run s t g e = rw (added-second g e) (simp (sets-append, length_digits))

pub none-added : (s : List ℕ) (t : ℕ) (g : Shape) → g.edition ≡ first_edition → s ≡ sets s t (added_bytes g)
none-added s t g e = rw (added-first g e)

-- a store over the whole of the second part
paste-end : (a b vs : List ℕ) → length vs ≡ length b → sets (a ++ b) (length a) vs ≡ a ++ vs
paste-end a b vs e =
    sets-eq vs (a ++ b) (length a) (rw length-append (omega arith))
    ∙ rw (take-append_seam a b, drop-append-add a b (length vs), e, drop-length b) (append-nil (a ++ vs))

pub fresh-run : (s : List ℕ) (g : Shape) → Limits g → length s ≡ image_bytes g
    → sets (sets (sets (replicate (trailer_start g) 255 ++ drop (trailer_start g) s) (trailer_start g) (shape_bytes g)) (trailer_start g + 20) (size_bytes g)) (trailer_start g + 32) (added_bytes g)
    ≡ fresh g
unfolding fresh trailer_of
fresh-run s g lim e =
    let t : ℕ = trailer_start g in
    let a : List ℕ = replicate t 255 in
    let b : List ℕ = drop t s in
    let front : List ℕ = shape_bytes g ++ size_bytes g in
    let early : length front ≡ 32 = simp (length-append, length-shape_bytes, length-size_bytes) in
    let added = length-added g lim in
    let size : length (front ++ added_bytes g) ≡ length b = simp (length-append, length-shape_bytes, length-size_bytes, added, length-drop) (omega arith) in
    ap (λ (l : List ℕ). sets l (t + 32) (added_bytes g))
    (ap (λ (k : ℕ). sets (sets (a ++ b) t (shape_bytes g)) (t + k) (size_bytes g)) (sym (length-shape_bytes g))
    ∙ sym (sets-append (shape_bytes g) (size_bytes g) (a ++ b) t))
    ∙ ap (λ (k : ℕ). sets (sets (a ++ b) t front) (t + k) (added_bytes g)) (sym early)
    ∙ sym (sets-append front (added_bytes g) (a ++ b) t)
    ∙ (rw (length-replicate {A = ℕ} t 255) at (paste-end a b (front ++ added_bytes g) size))

-- what is answered and left, by whether the shape and the length are good
pub refused : (g : Shape) (s : List ℕ) → formats g s ≡ false → (Err Geometry ≡ format_answer g s) × (s ≡ format_image g s)
unfolding format_answer format_image
refused g s e = (rw e, rw e)

pub done : (g : Shape) (s : List ℕ) → formats g s ≡ true → ((Ok tt) ≡ format_answer g s) × (fresh g ≡ format_image g s)
unfolding format_answer format_image
done g s e = (rw e, rw e)

pub bad-limits : (g : Shape) (s : List ℕ) → within_limits g ≡ false → formats g s ≡ false
unfolding formats
bad-limits g s e = rw e

-- the same, of a shape that the limits shut out
pub beyond : (g : Shape) (s : List ℕ) → (Limits g → g.n ≤ max_units → ⊥) → (Err Geometry ≡ format_answer g s) × (s ≡ format_image g s)
beyond g s h = refused g s (bad-limits g s (no-limits g (λ l. h l (units-high g l))))

pub bad-length : (g : Shape) (s : List ℕ) → within_limits g ≡ true → (length s ≡ image_bytes g → ⊥) → formats g s ≡ false
unfolding formats
bad-length g s e h = rw (e, ne_eqb _ _ h)

pub good : (g : Shape) (s : List ℕ) → within_limits g ≡ true → length s ≡ image_bytes g → formats g s ≡ true
unfolding formats
good g s e h = rw (e, eq-eqb _ _ h)

-- where format is done, the shape is within the limits and the image is the fresh one
pub formatted : (g : Shape) (s : List ℕ) → format_answer g s ≡ Ok tt → (within_limits g ≡ true) × (format_image g s ≡ fresh g)
unfolding format_answer formats
formatted g s d = go (formats g s) refl d
  where
    go : (b : Bool) → formats g s ≡ b → cond b (Ok (tt {0})) (Err Geometry) ≡ Ok tt → (within_limits g ≡ true) × (format_image g s ≡ fresh g)
    go true e h = (and_left (within_limits g) (eqb (length s) (image_bytes g)) e, sym (done g s e).1)
    go false e h = let z : ◌≡◌ {A = ℕ} 0 1 = cc in absurd (omega arith)
