-- `carry::carry_step` meets its contract: the word of a MAP or LINK step in range lies in the image.
use native.Mathlib.Omega.{arith}
use Rattle.layout.proofs.Limits.{on-shaped}
use Rattle.carry.proofs.CarryLaws.{map-place, link-bytes}
use Rattle.carry.proofs.carry_step.Goals as goal

pub map_word_place-requires : goal.map_word_place-requires
map_word_place-requires c = let s = on-shaped c.args.g c.args.image.now c.requires.on in record {
  limits = s.limits;
  k_lt_m = map-place c.args.g c.args.image.now c.requires.on c.args.step c.requires.step_value _ _ _ c.in-Map.is;
}

pub store-requires : goal.store-requires
store-requires c = let s = on-shaped c.args.g c.args.image.now c.requires.on in
    omega (arith, s.size, c.map_word_place.ensures)

pub store-requires-in-Link : goal.store-requires-in-Link
store-requires-in-Link c = link-bytes c.args.g c.args.image.now c.requires.on c.args.step c.requires.step_value _ _ c.in-Link.is

pub returns-in-Map : goal.returns-in-Map
returns-in-Map c =
    let told = c.in-Map.is in
    let shape = c.requires.on.shape in
    rw (told, shape, ← c.map_word_place.ensures.0) c.store.ensures

pub returns-in-Link : goal.returns-in-Link
returns-in-Link c = rw c.in-Link.is c.store-in-Link.ensures
