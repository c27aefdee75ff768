-- What the first index by value is, by what opening answered: the words are its own, as many as the sets have, and 0 before.
use Rattle.std.proofs.Common.{◌≡◌, ℕ, List, ◌++◌, append-nil, length, drop, replicate, Result, Ok, Err, refl, sym, ap, ◌∙◌, arith}
use Rattle.std.specs.Prelude.{⊤}
use Rattle.layout.specs.declared.Shape.{Shape}
use Rattle.layout.specs.declared.Refusal.{Refusal}
use Rattle.layout.specs.Layout.{shape_of}
use Rattle.image.specs.Verdicts.{verdict}
use Rattle.image.specs.Answers.{if_sound}
use Rattle.image.proofs.Loads.{sound-passed, refused-so}
use Rattle.renewal.specs.Renewal.{set_words}
use Rattle.indexed.specs.Admitting.{enough}
use Rattle.indexed.specs.Opening.{open_verdict, open_outcome, free_sets, opened_sets, open_sets}
use Rattle.indexed.proofs.Admitting.{many}
use Rattle.index.specs.declared.Index.{Index}
use Rattle.index.specs.Values.{opened_index, first_index}

abbrev zeros : List ℕ
zeros = replicate set_words 0

-- no word is wanting
all_words : (v : Result ⊤ Refusal) → if_sound v Err (enough (length zeros)) ≡ v
all_words (Ok tt) = many (length zeros) (omega arith)
all_words (Err r) = refl

module _ (s : List ℕ) where
  pub first-refused : (r : Refusal) → Err r ≡ open_outcome s (length zeros) → Err r ≡ first_index s
  first-refused r e = ap (λ v. opened_index v s) (sym (refused-so (open_verdict s (length zeros)) (shape_of s) r (sym e)) ∙ all_words (verdict s))

  pub first-sound : (g : Shape) (after : List ℕ) → Ok g ≡ open_outcome s (length zeros) → after ≡ open_sets s zeros
      → ◌≡◌ {A = Result Index Refusal} (Ok (record { shape = g; sets = after })) (first_index s)
  first-sound g after e q =
      let p = sound-passed (open_verdict s (length zeros)) (shape_of s) g (sym e) in
      let w : open_sets s zeros ≡ free_sets s ++ drop set_words zeros = ap (λ (v : Result ⊤ Refusal). opened_sets v s zeros) p.0 in
      let z : after ≡ free_sets s = q ∙ w ∙ append-nil (free_sets s) in
      let t : ◌≡◌ {A = Result Index Refusal} (Ok (record { shape = g; sets = after })) (opened_index (Ok tt) s) =
      λ i. Ok (record { shape = p.1 i; sets = z i }) in
      t ∙ ap (λ (v : Result ⊤ Refusal). opened_index v s) (sym p.0 ∙ all_words (verdict s))
