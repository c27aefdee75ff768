-- A good request to read, and the tests of one: each from the other.
use Prim.Native.Nat.{◌*◌, ◌≤◌, ◌<◌}
use native.Mathlib.Omega.{arith}
use mathlib.Core.Path.{◌≡◌, refl}
use mathlib.Core.Bool.{true}
use lib.Dec.{leb}
use borrow.Author.Tests.{lt-ltb, leb-true, le-leb}
use Rattle.search.proofs.Bools.{and_left, and_right, and_intro}
use Rattle.layout.specs.declared.Shape.{Shape}
use Rattle.layout.specs.Layout.{max_chunk_units, max_chunk_bytes, unit_bytes}
use Rattle.steps.specs.declared.Request.{Request}
use Rattle.steps.specs.declared.Request.TheVariants.{Write, Discard}
use Rattle.steps.specs.Steps.{chunk_of, size_of, good_chunk, good_size}
use Rattle.rules.specs.Reading.{GoodRequest}

pub good-told : (g : Shape) (r : Request) → chunk_of r < g.c → good_size g r ≡ true → GoodRequest g r
good-told g (Write c size) b h =
    let p = g.p * unit_bytes in
    (b, leb-true 1 size (and_left (leb 1 size) (leb size p) h), leb-true size p (and_right (leb 1 size) (leb size p) h))
good-told g (Discard c) b h = b

pub chunk-good : (g : Shape) (r : Request) → GoodRequest g r → chunk_of r < g.c
chunk-good g (Write c size) h = h.0
chunk-good g (Discard c) h = h

pub chunk-tested : (g : Shape) (r : Request) → GoodRequest g r → good_chunk g r ≡ true
chunk-tested g r h = lt-ltb (chunk_of r) g.c (chunk-good g r h)

pub size-tested : (g : Shape) (r : Request) → GoodRequest g r → good_size g r ≡ true
size-tested g (Write c size) h =
    let p = g.p * unit_bytes in and_intro (leb 1 size) (leb size p) (le-leb 1 size h.1) (le-leb size p h.2)
size-tested g (Discard c) h = refl

-- a good size is at most that of 16 units
pub size_low : (g : Shape) (r : Request) → g.p ≤ max_chunk_units → good_size g r ≡ true → size_of r ≤ max_chunk_bytes
size_low g (Write i size) p h = let a = leb-true size (g.p * unit_bytes) (and_right (leb 1 size) (leb size (g.p * unit_bytes)) h) in omega arith
size_low g (Discard i) p h = omega arith
