-- `bitset::insert` meets its contract. Past the last word the set is the set with u as it stands.
use mathlib.Core.Path.{sym}
use native.Mathlib.Omega.{arith}
use borrow.Author.Tests.{lt-ltb, le-ltb}
use Rattle.bitset.specs.Bits.{limit}
use Rattle.bitset.proofs.BitSets.{insert-past}
use Rattle.bitset.proofs.insert.Goals as goal

pub returns-then-set-i : goal.returns-then-set-i
returns-then-set-i c =
    let a = c.args in record {
      value = sym (le-ltb a.u (limit a.set.now) (omega arith));
      set_after = insert-past a.set.now a.u (λ i. omega (arith, c.type_inv.set i)) (omega arith);
    }

pub returns : goal.returns
returns c =
    let a = c.args in record {
      value = sym (lt-ltb a.u (limit a.set.now) (omega arith));
      set_after = c.place.ensures;
    }
