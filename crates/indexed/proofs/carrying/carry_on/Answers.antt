-- `indexed::carrying::carry_on` meets its contract: an accepted plan leaves an image of that shape, and is followed.
use Rattle.std.proofs.Common.{sym, arith}
use Rattle.layout.proofs.Limits.{on-shaped}
use Rattle.indexed.specs.Calls.{index_of, known_in}
use Rattle.indexed.proofs.Following.{accepted-count, accepted-chunk, accepted-on, followed}
use Rattle.indexed.proofs.carrying.carry_on.Goals as goal

pub invariant_of-entry : goal.invariant_of-entry
invariant_of-entry c = record { shaped = on-shaped _ _ c.requires.on }

pub invariant_of-follow : goal.invariant_of-follow
invariant_of-follow c =
    let a = c.args in
    let kn = known_in (index_of a.g a.sets.now) a.image.now a.request in
    let e = c.in_ok-carry_by.ensures in
    record { shaped = on-shaped _ _ (accepted-on kn a.request a.plan.now a.n (sym e.value) a.image.now _ c.requires.on e.image_after) }

pub follow-requires : goal.follow-requires
follow-requires c =
    let a = c.args in
    let kn = known_in (index_of a.g a.sets.now) a.image.now a.request in
    let d = sym c.in_ok-carry_by.ensures.value in record {
      chunk_lt_c = (
        omega (arith, c.chunk_of-chunk.ensures, accepted-chunk kn a.request a.plan.now a.n d),
        c.requires.set_words_in_bounds,
        accepted-count kn a.request a.plan.now a.n d,
      );
    }

pub returns-clause-sets_after : goal.returns-clause-sets_after
returns-clause-sets_after c =
    let a = c.args in
    let kn = known_in (index_of a.g a.sets.now) a.image.now a.request in
    let e = c.in_ok-carry_by.ensures in
    followed kn a.sets.now a.image.now _ a.request a.plan.now a.n (sym e.value) e.image_after _ _ c.chunk_of-chunk.ensures
    c.entry-old.ensures _ c.follow.ensures
