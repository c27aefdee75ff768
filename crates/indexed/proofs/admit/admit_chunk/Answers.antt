-- `indexed::admit::admit_chunk` meets its contract: the refusal of the trailer, then the entry's, then too few words.
use Rattle.std.proofs.Common.{sym, arith}
use Rattle.layout.proofs.Limits.{on-shaped}
use Rattle.indexed.specs.Admitting.{shape_from}
use Rattle.indexed.proofs.Admitting.{trailer-fits, chunk-below, chunk-denied, chunk-few, chunk-passed}
use Rattle.indexed.proofs.admit.admit_chunk.Goals as goal

pub invariant_of-bad_entry : goal.invariant_of-bad_entry
invariant_of-bad_entry c = record { shaped = on-shaped _ _ (trailer-fits (shape_from c.args.h) _ _ (sym c.in_ok-g.ensures)).0 }

pub overflow_cast-result : goal.overflow_cast-result
overflow_cast-result c =
    let a = c.args in
    let e = sym c.in_ok-g.ensures in
    let k = on-shaped _ _ (trailer-fits (shape_from a.h) _ _ e).0 in
    omega (arith, chunk-below (shape_from a.h) _ a.words _ _ e _ c.bad_entry.ensures c.if-bad_entry.true, k.limits.c-high)

pub returns-then-bad_entry : goal.returns-then-bad_entry
returns-then-bad_entry c = chunk-denied (shape_from c.args.h) _ _ _ _ (sym c.in_ok-g.ensures) _ c.bad_entry.ensures c.if-bad_entry.true

pub returns-then-words-lt-SET_WORDS : goal.returns-then-words-lt-SET_WORDS
returns-then-words-lt-SET_WORDS c =
    chunk-few (shape_from c.args.h) _ _ _ _ (sym c.in_ok-g.ensures) _ c.bad_entry.ensures c.if-bad_entry.false
    c.if-words-lt-SET_WORDS.true

pub returns : goal.returns
returns c =
    chunk-passed (shape_from c.args.h) _ _ _ _ (sym c.in_ok-g.ensures) _ c.bad_entry.ensures c.if-bad_entry.false
    c.if-words-lt-SET_WORDS.false
