-- `renewal::renew::renew_maps` meets its contract: the old number is put in, then the new one taken out.
use Rattle.bitset.specs.Bits.{removed}
use mathlib.Core.List.{List}
use Prim.Native.Nat.{ℕ}
use mathlib.Core.Path.{ap, ◌∙◌}
use Rattle.renewal.proofs.renew.renew_maps.Goals as goal

pub returns : goal.returns
returns c =
    c.remove.ensures ∙ ap (λ (ws : List ℕ). removed ws c.args.new) c.insert.ensures.set_after
