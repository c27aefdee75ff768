-- `loader::survey::put_units` meets its contract: the words of the first i pairs had a bit, and are in the set.
use Rattle.image.proofs.Surveying.{PutWords}
use Rattle.bitset.specs.Bits.{words_for}
use Prim.Native.Nat.{◌*◌}
use Rattle.loader.proofs.survey.put_units.Given as goal

abbrev pub invariant-loop-i : goal.invariant-loop-i
invariant-loop-i l = PutWords l.image.bytes.now l.k (words_for l.image.shape.n) l.initial.units (2 * l.i) l.units
