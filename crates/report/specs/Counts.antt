-- The report's counts, of a sound image: "mapped chunks, held units, free units, saved units". What counts as saved is not document 01's "C·P
-- less held" but its correction, document 02's request 1: "Saved units must be counted over mapped chunks only". It stands in raw_count and
-- saved_count here and in ratio_if_mapped and saved_ratio (Reports.antt), and nowhere else.
use Rattle.std.specs.Prelude.{ℕ, ◌-◌, ◌*◌, List, length}
use Rattle.search.specs.Search.{below, keep}
use Rattle.layout.specs.Layout.{shape_of}
use Rattle.image.specs.Soundness.{mapped}
use Rattle.image.specs.Free.{free_units, held_units}

-- "mapped chunks": those whose entry is not X
unfoldable pub mapped_count : List ℕ → ℕ
mapped_count s = length (keep (mapped s) (below (shape_of s).c))

-- "Held units are those in named maps": what stands in a map that no chunk names does not count, and in a sound image no unit is named twice
abbrev pub held_count : List ℕ → ℕ
held_count s = length (held_units s)

-- "all others are free", but the reserved units
abbrev pub free_count : List ℕ → ℕ
free_count s = length (free_units s)

-- "mapped chunks times P": the units that they would take, stored raw
abbrev pub raw_count : List ℕ → ℕ
raw_count s = mapped_count s * (shape_of s).p

-- "mapped chunks times P, less held units"
abbrev pub saved_count : List ℕ → ℕ
saved_count s = raw_count s - held_count s
