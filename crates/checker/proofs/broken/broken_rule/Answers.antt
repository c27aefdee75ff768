-- `checker::broken::broken_rule` meets its contract: the units dealt are the lowest free ones, as many as the request needs, by `dealt-part`.
use mathlib.Core.List.{List}
use mathlib.Core.Path.{ap, ◌∙◌}
use Prim.Native.Nat.{ℕ}
use lib.ListN.{take, replicate}
use lib.Seq.{length-take-le}
use native.Mathlib.Omega.{arith}
use Rattle.checker.proofs.Judging.{dealt-part}
use Rattle.bitset.specs.Bits.{members_below}
use Rattle.checker.proofs.broken.broken_rule.Goals as goal

pub returns : goal.returns
returns c =
    let k = c.need_of-k in
    let us = members_below c.args.free.now.units.now c.args.g.n in
    let zeros : List ℕ = replicate 16 0 in
    let l = c.lowest-count in
    let d = dealt-part zeros us _ k.result l.result (length-take-le k.result zeros (omega (arith, k.ensures.1))) l.ensures.value l.ensures.out_after in
    c.broken_on.ensures us (d ∙ ap (λ (n : ℕ). take n us) k.ensures.0)
