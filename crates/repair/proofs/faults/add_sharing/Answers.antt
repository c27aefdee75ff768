-- `repair::faults::add_sharing` meets its contract: a bad chunk is faulty already, and any other becomes so if something that it claims is claimed again.
use Rattle.repair.proofs.Turns.{claim-again, chunk-here}
use Rattle.repair.proofs.Chunks.{good-link, known-bad, kept-bad, added-sharing, kept-apart}
use mathlib.Core.Path.{sym, ◌∙◌}
use Rattle.repair.proofs.faults.add_sharing.Goals as goal

pub returns-then-contains : goal.returns-then-contains
returns-then-contains c = let p = chunk-here c.args.image.now.bytes.now c.args.image.now.shape c.args.i c.args.image.now.shaped c.requires.i_lt_c in
    kept-bad c.args.image.now.bytes.now c.args.i p.0 p.1 _ c.requires.faulty_value
    (sym (known-bad c.args.image.now.bytes.now c.args.i p.0 p.1 _ c.requires.faulty_value) ∙ sym c.contains.ensures ∙ c.if-contains.true)

pub has_claim_in-requires : goal.has_claim_in-requires
has_claim_in-requires c = let p = chunk-here c.args.image.now.bytes.now c.args.image.now.shape c.args.i c.args.image.now.shaped c.requires.i_lt_c in record {
  i_lt_c = (
    c.requires.i_lt_c,
    good-link c.args.image.now.bytes.now c.args.i
        (sym (known-bad c.args.image.now.bytes.now c.args.i p.0 p.1 _ c.requires.faulty_value) ∙ sym c.contains.ensures ∙ c.if-contains.false),
  );
}

pub returns-then-has_claim_in : goal.returns-then-has_claim_in
returns-then-has_claim_in c = let p = chunk-here c.args.image.now.bytes.now c.args.image.now.shape c.args.i c.args.image.now.shaped c.requires.i_lt_c in
    let b = sym (known-bad c.args.image.now.bytes.now c.args.i p.0 p.1 _ c.requires.faulty_value) ∙ sym c.contains.ensures ∙ c.if-contains.false in
    added-sharing c.args.image.now.bytes.now c.args.i p.0 p.1 _ c.requires.faulty_value _
    (sym (c.has_claim_in.ensures ∙ claim-again c.args.image.now.bytes.now c.args.image.now.shape c.args.i c.args.image.now.shaped c.requires.i_lt_c b _ c.requires.again_value) ∙ c.if-has_claim_in.true) c.insert.ensures.set_after

pub returns-else-has_claim_in : goal.returns-else-has_claim_in
returns-else-has_claim_in c = let p = chunk-here c.args.image.now.bytes.now c.args.image.now.shape c.args.i c.args.image.now.shaped c.requires.i_lt_c in
    let b = sym (known-bad c.args.image.now.bytes.now c.args.i p.0 p.1 _ c.requires.faulty_value) ∙ sym c.contains.ensures ∙ c.if-contains.false in
    kept-apart c.args.image.now.bytes.now c.args.i p.0 p.1 _ c.requires.faulty_value
    (sym (c.has_claim_in.ensures ∙ claim-again c.args.image.now.bytes.now c.args.image.now.shape c.args.i c.args.image.now.shaped c.requires.i_lt_c b _ c.requires.again_value) ∙ c.if-has_claim_in.false)
