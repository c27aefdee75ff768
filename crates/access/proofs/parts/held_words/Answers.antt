-- `access::parts::held_words` meets its contract: none for an entry of X, and otherwise the words of the units counted, which end within the image.
use mathlib.Core.Path.{sym, ◌∙◌}
use native.Mathlib.Omega.{arith}
use Rattle.image.proofs.Chunks.{map-named, not-mapped}
use Rattle.access.proofs.PartLaws.{words-absent, words-within, words-named}
use Rattle.layout.proofs.Limits.{map-words}
use Rattle.access.proofs.parts.held_words.Goals as goal

pub returns-then-w : goal.returns-then-w
returns-then-w c = let s = c.args.image.now.bytes.now in
    (words-absent s c.args.i (not-mapped s c.args.i (sym c.link-w.ensures ∙ c.if-w.true)), omega arith, omega arith)

pub map_word_place-start-requires-clause-k_lt_m : goal.map_word_place-start-requires-clause-k_lt_m
map_word_place-start-requires-clause-k_lt_m c =
    let s = c.args.image.now in
    let n = map-words s.shape in
    (map-named s.bytes.now s.shape c.args.i _ s.shaped c.link-w.ensures c.if-w.false c.requires.i_lt_c.1, omega arith)

pub overflow_mul-end : goal.overflow_mul-end
overflow_mul-end c =
    let s = c.args.image.now in
    let w = words-within s.bytes.now s.shape c.args.i _ s.shaped c.link-w.ensures c.if-w.false c.requires.i_lt_c.1 _ _ _ c.held_count-units.ensures c.head.ensures.0 c.map_word_place-start.ensures.0 in
    omega arith

pub overflow_add-end : goal.overflow_add-end
overflow_add-end c =
    let s = c.args.image.now in
    let w = words-within s.bytes.now s.shape c.args.i _ s.shaped c.link-w.ensures c.if-w.false c.requires.i_lt_c.1 _ _ _ c.held_count-units.ensures c.head.ensures.0 c.map_word_place-start.ensures.0 in
    omega arith

pub returns : goal.returns
returns c =
    let s = c.args.image.now in
    let w = words-within s.bytes.now s.shape c.args.i _ s.shaped c.link-w.ensures c.if-w.false c.requires.i_lt_c.1 _ _ _ c.held_count-units.ensures c.head.ensures.0 c.map_word_place-start.ensures.0 in
    (words-named s.bytes.now s.shape c.args.i _ s.shaped c.link-w.ensures c.if-w.false c.requires.i_lt_c.1 _ _ _ c.held_count-units.ensures c.head.ensures.0 c.map_word_place-start.ensures.0, omega arith, omega arith)
