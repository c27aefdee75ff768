-- How many units mapped chunks hold, and the report and the alarm of a sound image by its sets of what is free.
use Prim.Native.Nat.{ℕ, ◌-◌, ◌*◌, ◌≤◌}
use native.Mathlib.Omega.{arith}
use mathlib.Core.Path.{◌≡◌, refl, ap, ◌∙◌}
use mathlib.Core.List.{List}
use lib.ListN.{length}
use lib.Ieee.{Float}
use Rattle.search.specs.Search.{below, keep, joined}
use Rattle.search.proofs.Ranges.{member_below, length_from}
use Rattle.search.proofs.Kept.{member-keep, keep-few}
use Rattle.search.proofs.Joined.{length-joined, length-joined-low, joined-kept}
use Rattle.bitset.specs.Bits.{in_set}
use Rattle.layout.specs.declared.Shape.{Shape}
use Rattle.layout.specs.Layout.{shape_of}
use Rattle.image.specs.declared.Loaded.{Loaded}
use Rattle.image.specs.Claims.{Tested}
use Rattle.image.specs.Soundness.{mapped, units_of}
use Rattle.image.specs.Free.{free_unit, free_map, free_units, free_maps, held_units}
use Rattle.image.proofs.Chunks.{units-unmapped, length-units, units-some}
use Rattle.image.proofs.Room.{free-and-held, free-and-named}
use Rattle.image.proofs.FreeSets.{units-test, maps-test}
use Rattle.image.proofs.Loads.{Known}
use Rattle.report.specs.declared.Report.{Report}
use Rattle.report.specs.declared.Level.{Level}
use Rattle.report.specs.Counts.{mapped_count, held_count, free_count}
use Rattle.report.specs.Reports.{ratio, ratio_if_mapped, report_of, report_from, report_on}
use Rattle.report.specs.Alarms.{alarm_at, alarm_on}

-- ---- what mapped chunks hold

module _ (s : List ℕ) where
  -- held units are those of mapped chunks
  held-by-mapped : joined (units_of s) (keep (mapped s) (below (shape_of s).c)) ≡ held_units s
  unfolding held_units
  held-by-mapped = joined-kept (units_of s) (mapped s) (below (shape_of s).c) (units-unmapped s)

  -- at most P each
  pub held-most : held_count s ≤ mapped_count s * (shape_of s).p
  unfolding mapped_count
  held-most =
      let high = length-joined (units_of s) (shape_of s).p (keep (mapped s) (below (shape_of s).c)) (length-units s) in
      omega (arith, ap length held-by-mapped)

  -- in a sound image at least one each
  pub held-least : Tested s → mapped_count s ≤ held_count s
  unfolding mapped_count
  held-least t =
      let c = (shape_of s).c in
      let low = length-joined-low (units_of s) 1 (keep (mapped s) (below c)) (λ i m.
      let k = member-keep (mapped s) i (below c) m in units-some s t i (member_below i c k.0) k.1) in
      omega (arith, ap length held-by-mapped)

  pub mapped-most : mapped_count s ≤ (shape_of s).c
  unfolding mapped_count
  mapped-most = let a = keep-few (mapped s) (below (shape_of s).c) in let b = length_from 0 (shape_of s).c in omega arith

-- ---- of a sound image: what its sets of what is free count

module _ (s : List ℕ) (z : Tested s) where
  -- each mapped chunk names a map of its own
  mapped-is : (shape_of s).m - length (free_maps s) ≡ mapped_count s
  unfolding mapped_count
  mapped-is = omega (arith, free-and-named s z)

  held-is : (shape_of s).n - (shape_of s).r - free_count s ≡ held_count s
  held-is = omega (arith, free-and-held s z)

  pub report-sound : report_on (shape_of s) (free_unit s) (free_map s) ≡ report_of s
  unfolding report_on report_from report_of free_units free_maps
  report-sound = rw (mapped-is, held-is)

pub alarm-sound : (s : List ℕ) (level : Level) → alarm_on (shape_of s) (free_unit s) level ≡ alarm_at (free_count s) (shape_of s).n level
unfolding alarm_on free_units
alarm-sound s level = refl

-- ---- the sets that load leaves of a sound image, as tests

module _ (s : List ℕ) (l : Loaded) (k : Known s l) where
  pub report-known : report_on l.shape (in_set l.units) (in_set l.maps) ≡ report_of s
  report-known = (λ i. report_on (k.shape i) (units-test s k.sound l.units k.units i) (maps-test s k.sound l.maps k.maps i)) ∙ report-sound s k.sound

  pub alarm-known : (level : Level) → alarm_on l.shape (in_set l.units) level ≡ alarm_at (free_count s) (shape_of s).n level
  alarm-known level = (λ i. alarm_on (k.shape i) (units-test s k.sound l.units k.units i) level) ∙ alarm-sound s level
