-- Laws of the words that opening an image leaves: two runs that are stored one after the other, and the answers by what load found.
use Rattle.std.proofs.Common.{◌≡◌, ℕ, ◌*◌, ◌≤◌, ◌<◌, List, ◌++◌, length, drop, Ok, Err, refl, ap, ◌∙◌, append_assoc}
use lib.Seq.{take_at, drop_at, drop-drop}
use borrow.Rule.Slice.PartMut.{put_mid}
use Rattle.bitset.proofs.BitSets.{length-bit_set}
use Rattle.layout.specs.declared.Shape.{Shape}
use Rattle.layout.specs.declared.Refusal.TheVariants.{Small}
use Rattle.image.specs.Free.{free_unit}
use Rattle.image.specs.Loading.{unit_set_words, map_set_words}
use Rattle.image.specs.Outcomes.{LoadedInto}
use Rattle.image.proofs.Loads.{outcome-passed}
use Rattle.renewal.specs.Renewal.{set_words}
use Rattle.indexed.specs.Opening.{open_outcome, open_sets}
use Rattle.indexed.proofs.Admitting.{few, many}

-- ---- the runs

pub stored : (us ms sets : List ℕ) → length us ≡ unit_set_words
    → put_mid unit_set_words map_set_words (us ++ drop unit_set_words sets) ms ≡ us ++ (ms ++ drop set_words sets)
stored us ms sets n =
    rw (take_at us (drop unit_set_words sets) unit_set_words n, drop_at us (drop unit_set_words sets) unit_set_words n, drop-drop map_set_words unit_set_words sets)

-- ---- what opening an image answers, where load answered the shape g

module _ (s : List ℕ) (g : Shape) (us ms : List ℕ) (e : LoadedInto s (Ok g) us ms) (sets : List ℕ) where
  pub open-small : length sets < set_words → (Err (Small (8 * set_words)) ≡ open_outcome s (length sets)) × (sets ≡ open_sets s sets)
  open-small b = rw ((outcome-passed s (Ok g) e.right g refl).0, few (length sets) b) (refl, refl)

  pub length-units : length us ≡ unit_set_words
  length-units = ap length (e.units-left g refl) ∙ length-bit_set (free_unit s) unit_set_words

  pub open_done : set_words ≤ length sets → (Ok g ≡ open_outcome s (length sets)) × (us ++ (ms ++ drop set_words sets) ≡ open_sets s sets)
  open_done b =
      let p = outcome-passed s (Ok g) e.right g refl in
      rw (p.0, many (length sets) b) (ap Ok p.1, rw append_assoc (λ i. e.units-left g refl i ++ (e.maps-left g refl i ++ drop set_words sets)))
