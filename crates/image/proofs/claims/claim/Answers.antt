-- `image::claims::claim` meets its contract. A chunk without a map claims nothing; one with a map claims that and its units.
use Prim.Native.Nat.{ℕ, ◌*◌, ◌<◌}
use mathlib.Core.List.{List}
use mathlib.Core.Path.{◌∙◌, ap, sym}
use native.Mathlib.Omega.{arith}
use Rattle.bitset.specs.Bits.{in_set, removed}
use Rattle.bitset.proofs.BitSets.{in-bit_set, removed-set}
use Rattle.layout.specs.declared.Shape.{Shape}
use Rattle.image.specs.Claims.{unheld, unnamed}
use Rattle.image.proofs.Chunks.{named-below}
use Rattle.image.proofs.Claiming.{claimed-absent, claimed-twice, claimed-named}
use Rattle.image.proofs.claims.claim.Goals as goal

pub returns-then-w : goal.returns-then-w
returns-then-w c =
    claimed-absent c.args.image.now.bytes.now c.args.j c.link-w.result c.link-w.ensures c.if-w.true c.args.units.now c.args.maps.now
    c.requires.units_value c.requires.maps_value

pub returns-then-contains : goal.returns-then-contains
returns-then-contains c =
    let s = c.args.image.now.bytes.now in
    let j = c.args.j in
    let w = c.link-w.ensures in
    let m = ap (λ (g : Shape). g.m) c.args.image.now.shaped.same in
    let h = named-below s j (λ e. c.if-w.false (omega arith)) c.requires.j_lt_c.1 in
    let k = c.link-w.result in
    let low : k < 64 * 5 = omega arith in
    let e = c.requires.maps_value in
    let here = c.contains.ensures ∙ ap (λ (ws : List ℕ). in_set ws k) e ∙ in-bit_set (unnamed s j) 5 k low in
    claimed-named s j k w c.if-w.false (omega arith) c.claim_units.result _ _ (sym here ∙ c.if-contains.true)
    (c.claim_units.ensures (unheld s j) c.requires.units_value)
    (c.remove.ensures ∙ ap (λ (ws : List ℕ). removed ws k) e ∙ removed-set (unnamed s j) 5 k)

pub returns : goal.returns
returns c =
    let s = c.args.image.now.bytes.now in
    let j = c.args.j in
    let w = c.link-w.ensures in
    let m = ap (λ (g : Shape). g.m) c.args.image.now.shaped.same in
    let h = named-below s j (λ e. c.if-w.false (omega arith)) c.requires.j_lt_c.1 in
    let k = c.link-w.result in
    let low : k < 64 * 5 = omega arith in
    let here = c.contains.ensures ∙ ap (λ (ws : List ℕ). in_set ws k) c.requires.maps_value ∙ in-bit_set (unnamed s j) 5 k low in
    claimed-twice s j k w c.if-w.false (omega arith) _ _ (sym here ∙ c.if-contains.false)
