-- `image::judge::judge` meets its contract: each finding of the scans gives its row, by the laws of Verdicts.
use Rattle.image.proofs.Verdicts.{link-refused, good-links, map-refused, shared-refused, found-sound, all-claimed, judged-refused, judged-passed, first-le}
use native.Mathlib.Omega.{arith}
use Rattle.image.proofs.judge.judge.Goals as goal

pub returns-then-i-c : goal.returns-then-i-c
returns-then-i-c c =
    let s = c.args.image.now.bytes.now in
    judged-refused s _ _ _ (link-refused s c.args.image.now.shape c.args.image.now.shaped.same _ c.first_bad_link-i.ensures c.if-i-c.true)

pub first_bad_map-k-requires : goal.first_bad_map-k-requires
first_bad_map-k-requires c = record {
  by_index = good-links c.args.image.now.bytes.now c.args.image.now.shape c.args.image.now.shaped.same _ c.first_bad_link-i.ensures c.if-i-c.false;
}

pub returns-then-k-c : goal.returns-then-k-c
returns-then-k-c c =
    let s = c.args.image.now.bytes.now in
    judged-refused s _ _ _ (map-refused s c.args.image.now.shape c.args.image.now.shaped.same _ c.first_bad_link-i.ensures c.if-i-c.false _ c.first_bad_map-k.ensures c.if-k-c.true)

pub first_double_claim-j-requires : goal.first_double_claim-j-requires
first_double_claim-j-requires c = record {
  by_index = good-links c.args.image.now.bytes.now c.args.image.now.shape c.args.image.now.shaped.same _ c.first_bad_link-i.ensures c.if-i-c.false;
  units_len = c.requires.units_len;
}

pub first_claim-first-requires : goal.first_claim-first-requires
first_claim-first-requires c = record {
  by_index = good-links c.args.image.now.bytes.now c.args.image.now.shape c.args.image.now.shaped.same _ c.first_bad_link-i.ensures c.if-i-c.false;
  j_lt_c = c.if-j-c.true;
}

pub overflow_cast-result-then-j-c : goal.overflow_cast-result-then-j-c
overflow_cast-result-then-j-c c =
    omega (arith, c.first_claim-first.ensures, first-le c.args.image.now.bytes.now c.first_double_claim-j.result)

pub returns-then-j-c : goal.returns-then-j-c
returns-then-j-c c =
    let s = c.args.image.now.bytes.now in
    judged-refused s _ _ _ (shared-refused s c.args.image.now.shape c.args.image.now.shaped.same _ c.first_bad_link-i.ensures c.if-i-c.false _ c.first_bad_map-k.ensures c.if-k-c.false _ c.first_double_claim-j.ensures.right _ c.first_claim-first.ensures c.if-j-c.true)

pub returns : goal.returns
returns c =
    let s = c.args.image.now.bytes.now in
    let v = found-sound s c.args.image.now.shape c.args.image.now.shaped.same _ c.first_bad_link-i.ensures c.if-i-c.false _ c.first_bad_map-k.ensures c.if-k-c.false _ c.first_double_claim-j.ensures.right c.if-j-c.false in
    let h = all-claimed s c.args.image.now.shape c.args.image.now.shaped.same _ c.first_bad_link-i.ensures c.if-i-c.false _ c.first_bad_map-k.ensures c.if-k-c.false _ c.first_double_claim-j.ensures.right c.if-j-c.false in
    judged-passed s _ _ _ v h c.first_double_claim-j.ensures
