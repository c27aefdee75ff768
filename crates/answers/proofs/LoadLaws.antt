-- Laws of the words that load leaves in its output: the answers by what the code finds.
use Rattle.std.specs.Prelude.{Result, Ok, Err}
use Prim.Native.Nat.{ℕ, ◌≤◌, ◌<◌}
use mathlib.Core.Path.{◌≡◌, refl, ap, ◌∙◌}
use mathlib.Core.List.{List, ◌++◌}
use native.Mathlib.Omega.{arith}
use borrow.Author.Tests.{lt-ltb, le-ltb}
use lib.ListN.{length, drop, length-append}
use lib.Seq.{sets}
use Rattle.words.proofs.Laws.{sets-front}
use Rattle.bitset.proofs.BitSets.{length-bit_set}
use Rattle.layout.specs.declared.Shape.{Shape}
use Rattle.layout.specs.declared.Refusal.{Refusal}
use Rattle.layout.specs.declared.Refusal.TheVariants.{Small}
use Rattle.image.specs.Free.{free_unit, free_map}
use Rattle.image.specs.Loading.{unit_set_words, map_set_words}
use Rattle.image.specs.Outcomes.{LoadedInto}
use Rattle.image.proofs.Loads.{outcome-refused, outcome-passed, into-loaded}
use Rattle.answers.specs.declared.Answer.{Answer}
use Rattle.answers.specs.Numbers.{given, refused}
use Rattle.answers.specs.Loading.{load_words, shape_words, load_answer, load_out}

-- ---- what load answers for C, by what load found

module _ (s : List ℕ) (o : Result Shape Refusal) (us ms : List ℕ) (e : LoadedInto s o us ms) (out : List ℕ) (a : Answer) where
  abbrev Leaves : List ℕ → Type 0
  Leaves after = (a ≡ load_answer s (length out)) × (after ≡ load_out s out)

  pub load-refused : (r : Refusal) → o ≡ Err r → a ≡ refused r → Leaves out
  load-refused r h ea = rw (outcome-refused s o e.right r h) (ea, refl)

  module _ (g : Shape) (h : o ≡ Ok g) where
    pub load-small : length out < load_words → a ≡ refused (Small 648) → Leaves out
    load-small b ea = rw ((outcome-passed s o e.right g h).0, lt-ltb (length out) load_words b) (ea, refl)

    abbrev words : List ℕ
    words = shape_words g ++ (us ++ ms)

    length-words : length words ≡ load_words
    length-words =
        let u = ap length (e.units-left g h) ∙ length-bit_set (free_unit s) unit_set_words in
        let m = ap length (e.maps-left g h) ∙ length-bit_set (free_map s) map_set_words in
        omega (arith, length-append us ms)

    pub load-done : load_words ≤ length out → a ≡ given g.r 0 → (after : List ℕ) → after ≡ sets out 0 words → Leaves after
    load-done b ea after w =
        let n = length-words in
        let front = sets-front out words (omega arith) ∙ ap (λ (k : ℕ). words ++ drop k out) n in
        rw (← into-loaded s o us ms e g h, le-ltb (length out) load_words b) (ea, w ∙ front)
