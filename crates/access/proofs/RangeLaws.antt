-- The bounds that a good range gives.
use Prim.Native.Nat.{ℕ, ◌+◌, ◌-◌, ◌*◌, ◌%◌, ◌<◌, ◌≤◌}
use mathlib.Core.Path.{◌≡◌, ap}
use mathlib.Core.Bool.{true, false}
use native.Mathlib.Omega.{arith}
use native.Mathlib.Nat.{mul-le-mul, mul-le-mul_right, div-lt_iff_lt-mul}
use lib.Dec.{leb}
use borrow.Author.Tests.{leb-true, lt-leb, le-leb, eq-eqb, ne_eqb}
use Rattle.search.proofs.Bools.{and_left, and_right, same}
use Rattle.layout.specs.declared.Shape.{Shape}
use Rattle.layout.specs.Layout.{max_chunks, max_chunk_bytes, max_volume_bytes}
use Rattle.layout.specs.Shaped.{Limits}
use Rattle.access.specs.Ranges.{chunk_bytes, volume_bytes, good_range, first_chunk, last_chunk}

-- a volume is small
volume-small : (g : Shape) → Limits g → volume_bytes g ≤ max_volume_bytes
volume-small g l = mul-le-mul {n₁ = g.c} {m₁ = chunk_bytes g} {n₂ = max_chunks} {m₂ = max_chunk_bytes} l.c-high (omega arith)

-- ---- what a good range of a volume within the limits is known by, where a chunk has b bytes

pub record Good (g : Shape) (b offset span : ℕ) : Type 0 where
  pub some : 1 ≤ span
  pub high : offset + span ≤ max_volume_bytes
  pub within : offset + span ≤ max_chunks * b
  pub last : last_chunk b (offset + span) < g.c

pub good : (g : Shape) (b offset span : ℕ) → Limits g → b ≡ chunk_bytes g → good_range g offset span ≡ true → Good g b offset span
unfolding good_range
good g b offset span l eb e =
    let low : 0 < b = omega arith in
    let some : 1 ≤ span = search (and_left, leb-true) in
    let ends : offset + span ≤ g.c * b = rw eb (search (and_right, leb-true)) in
    record {
      some = some;
      high = omega (arith, ap (λ (k : ℕ). g.c * k) eb, volume-small g l);
      within = omega (arith, mul-le-mul_right b l.c-high);
      last = (div-lt_iff_lt-mul {k = b} low).1 (omega arith);
    }
