use Prim.Native.Nat.{ℕ, ◌<◌}
use mathlib.Core.Path.{◌≡◌, ◌∙◌}
use native.Mathlib.Omega.{arith}
use lib.ListN.{get_or}
use Rattle.image.specs.Claims.{held_in}
use Rattle.layout.specs.Layout.{max_units}
use Rattle.layout.specs.Shaped.{unit_words_of}
use Rattle.search.proofs.Taken.{rest-start, without-none}
use Rattle.image.proofs.Claiming.{take_more, take-stop, take-end}
use Rattle.bitset.proofs.BitSets.{bit_set-ext}
use Rattle.image.proofs.MapWords.{held_word}
use Rattle.image.specs.Loading.{unit_set_words}
use Rattle.image.proofs.claims.claim_units.Goals as goal
use Rattle.image.proofs.claims.claim_units.Goals.{Start}

-- word j of the units that map k holds: it is a word of the map, the unit, and below the size of the set
unit-word : (c : Start) (j : ℕ) → j < c.args.count
    → (j < c.args.image.now.shape.p)
    × (get_or (unit_words_of c.args.image.now.bytes.now c.args.k) j 0 ≡ get_or (held_in c.args.image.now.bytes.now c.args.k) j 0)
    × (get_or (unit_words_of c.args.image.now.bytes.now c.args.k) j 0 < max_units)
unit-word c j h =
    let i = c.args.image.now in
    held_word i.bytes.now i.shape c.args.k j i.shaped c.requires.k_lt_m.0 (omega arith)

pub loop-j-init : goal.loop-j-init
loop-j-init c f e = (e ∙ bit_set-ext _ _ unit_set_words (λ y h. without-none f y), rest-start f _)

pub unit_word-u-requires : goal.unit_word-u-requires
unit_word-u-requires c =
    record { k_lt_m = (c.requires.k_lt_m.0, (unit-word (goal.at.unit_word-u-requires c).Start c.loop-j.j (omega arith)).0) }

pub loop-j-preserved : goal.loop-j-preserved
loop-j-preserved c f e =
    let l = c.loop-j in
    let us = held_in c.args.image.now.bytes.now c.args.k in
    let u = unit-word (goal.at.loop-j-preserved c).Start l.j (omega arith) in
    take_more f us l.j _ (c.unit_word-u.ensures ∙ u.1) (omega arith) l.units (l.invariant f e).0 (l.invariant f e).1 _
    (omega (arith, u.1, u.2)) c.contains.ensures _ c.remove.ensures c.if-not-contains.false

pub returns-then-not-contains : goal.returns-then-not-contains
returns-then-not-contains c f e =
    let l = c.loop-j in
    let us = held_in c.args.image.now.bytes.now c.args.k in
    let u = unit-word (goal.at.returns-then-not-contains c).Start l.j (omega arith) in
    take-stop f us l.j _ (c.unit_word-u.ensures ∙ u.1) (omega arith) l.units (l.invariant f e).0 (l.invariant f e).1 _
    (omega (arith, u.1, u.2)) c.contains.ensures c.if-not-contains.true

pub returns : goal.returns
returns c f e =
    let l = c.loop-j in
    take-end f (held_in c.args.image.now.bytes.now c.args.k) l.j l.units (omega arith) (l.invariant f e).0 (l.invariant f e).1
