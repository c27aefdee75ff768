-- `bitset::place` meets its contract. One word is stored, which leaves the set with u.
use native.Mathlib.Omega.{arith}
use Rattle.bitset.proofs.BitSets.{insert-word}
use Rattle.bitset.proofs.place.Goals as goal

pub returns : goal.returns
returns c =
    let a = c.args in
    rw (c.bit-b.ensures, c.requires.0)
    (insert-word a.set.now a.u (λ i. omega (arith, c.slice_known-1.given i)) (omega (arith, c.requires.1)))
