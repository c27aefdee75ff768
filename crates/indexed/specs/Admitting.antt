-- What an index holds (02, request 7), and the refusals that an indexed call gives in place of the scanning call's 1 to 6. With an index that is current none of
-- them is given; what they are otherwise is fixed by docs/DECISIONS.md, 100.
use Rattle.std.specs.Prelude.{ℕ, ◌*◌, Bool, not, ◌&&◌, cond, List, eqb, ltb, Result, Ok, Err, ⊤}
use Rattle.layout.specs.declared.Shape.{Shape}
use Rattle.layout.specs.declared.Refusal.TheVariants.{Geometry, BadLink, Small}
use Rattle.layout.specs.Trailer.{trailer_outcome}
use Rattle.image.specs.Verdicts.{good_link, after_trailer}
use Rattle.image.specs.Answers.{if_sound}
use Rattle.renewal.specs.Renewal.{set_words}
use Rattle.indexed.specs.declared.HeldShape.{HeldShape}
use Rattle.layout.specs.declared.Refusal.{Refusal}

-- an index: the shape of an image, and a run of words
pub record Index : Type 0 where
  pub shape : Shape
  pub sets : List ℕ

-- ---- the shape

-- the shape with the numbers that a caller keeps
abbrev pub shape_from : HeldShape → Shape
shape_from h = record { edition = h.edition; p = h.p; c = h.c; m = h.m; n = h.n; r = h.r }

-- and the numbers that a caller keeps of a shape
abbrev pub numbers_of : Shape → HeldShape
numbers_of g = record { edition = g.edition; p = g.p; c = g.c; m = g.m; n = g.n; r = g.r }

unfoldable pub same_shape : Shape → Shape → Bool
same_shape g h =
    eqb g.edition h.edition && eqb g.p h.p && eqb g.c h.c && eqb g.m h.m && eqb g.n h.n && eqb g.r h.r

-- ---- the refusals

-- rows 1 to 3 of the image's trailer; 3 too where it passes and says another shape than the index
abbrev pub matched : Shape → Result Shape Refusal → Result Shape Refusal
matched h (Ok g) = cond (same_shape g h) (Ok g) (Err Geometry)
matched h (Err r) = Err r

unfoldable pub trailer_by : Shape → List ℕ → Result Shape Refusal
trailer_by h s = matched h (trailer_outcome s)

-- 10 "lent output too short": fewer words than the sets have
unfoldable pub enough : ℕ → Result ⊤ Refusal
enough words = cond (ltb words set_words) (Err (Small (8 * set_words))) (Ok tt)

-- 4 "entry neither X nor below M", asked of one chunk; a chunk that is not below C has no entry
unfoldable pub bad_entry : Shape → List ℕ → ℕ → Bool
bad_entry h s i = ltb i h.c && not (good_link s i)

abbrev pub entry_verdict : Shape → ℕ → List ℕ → ℕ → Result ⊤ Refusal
entry_verdict h words s i = cond (bad_entry h s i) (Err (BadLink i)) (enough words)

-- for a call on no chunk, and for a call on chunk i, with an index of shape h and so many words
unfoldable pub verdict_by : Shape → ℕ → List ℕ → Result ⊤ Refusal
verdict_by h words s = after_trailer (trailer_by h s) (enough words)

unfoldable pub chunk_verdict_by : Shape → ℕ → List ℕ → ℕ → Result ⊤ Refusal
chunk_verdict_by h words s i = after_trailer (trailer_by h s) (entry_verdict h words s i)

-- the refusal, or the shape: `Sound` of an image that is admitted, whose chunks nobody judges
abbrev pub outcome_by : Shape → Result ⊤ Refusal → Result Shape Refusal
outcome_by h v = if_sound v Err (Ok h)
