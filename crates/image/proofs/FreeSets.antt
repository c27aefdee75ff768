-- The sets of what is free that load answers: a number is in one where the image says that it is free.
use Prim.Native.Nat.{ℕ}
use native.Mathlib.Omega.{arith}
use mathlib.Core.Path.{◌≡◌, ap, ◌∙◌}
use mathlib.Core.List.{List}
use Rattle.bitset.specs.Bits.{bit_set, in_set}
use Rattle.bitset.proofs.Members.{in_whole}
use Rattle.layout.specs.Layout.{shape_of}
use Rattle.layout.proofs.Limits.{maps-few, units-high, fitting-limits}
use Rattle.image.specs.Claims.{Tested}
use Rattle.image.specs.Free.{free_unit, free_map}
use Rattle.image.specs.Loading.{unit_set_words, map_set_words}
use Rattle.image.proofs.Room.{free_unit-below, free_map-below}

module _ (s : List ℕ) (t : Tested s) (ws : List ℕ) where
  pub units-test : ws ≡ bit_set (free_unit s) unit_set_words → in_set ws ≡ free_unit s
  units-test e =
      let high = units-high (shape_of s) (fitting-limits s t.fitting) in
      ap in_set e ∙ in_whole (free_unit s) unit_set_words (λ u h. omega (arith, free_unit-below s u h))

  pub maps-test : ws ≡ bit_set (free_map s) map_set_words → in_set ws ≡ free_map s
  maps-test e =
      let high = maps-few (shape_of s) (fitting-limits s t.fitting) in
      ap in_set e ∙ in_whole (free_map s) map_set_words (λ u h. omega (arith, free_map-below s u h))
