-- `repair::mend::repair` meets its contract: refusals 1 to 3 are the trailer's, a sound image comes back unchanged, and the rest is `repair_in`'s.
use Rattle.std.specs.Prelude.{Result}
use Rattle.repair.proofs.Theorems.{tested-unchanged}
use Rattle.repair.proofs.Answering.{answer-fits, answer-refused}
use Rattle.repair.specs.Repair.{repaired, listing, unless_refused}
use Rattle.image.proofs.Verdicts.{verdict-fits}
use Rattle.image.proofs.Surveyed.{passed-yes}
use Rattle.image.proofs.SoundLaws.{passed-tested}
use Rattle.image.specs.Verdicts.{chunk_verdict}
use Rattle.layout.proofs.Limits.{fits_on, on-shaped}
use lib.ListN.{length}
use Rattle.std.proofs.lemmas.Result.{err_from_is_err_and}
use Prim.Native.Nat.{ℕ}
use mathlib.Core.Path.{sym, ap, ◌∙◌}
use Rattle.repair.proofs.mend.repair.Goals as goal
use Rattle.layout.specs.declared.Refusal.{Refusal}

pub invariant_of-passes : goal.invariant_of-passes
invariant_of-passes c = record { shaped = on-shaped _ _ (fits_on _ _ (sym c.in_ok-g.ensures)) }

pub returns-then-passes : goal.returns-then-passes
returns-then-passes c =
    let a = c.args in
    let s = a.image.now in
    let fits = verdict-fits s _ (sym c.in_ok-g.ensures) in
    let sound = passed-yes (chunk_verdict s) (sym c.passes.ensures ∙ c.if-passes.true) in
    let u = tested-unchanged s a.out.now (passed-tested s (fits ∙ sound)) in record {
      value = sym u.answer;
      image_after = sym u.image;
      out_after = sym u.list;
    }

pub repair_in-requires : goal.repair_in-requires
repair_in-requires c = on-shaped _ _ (fits_on _ _ (sym c.in_ok-g.ensures))

pub returns : goal.returns
returns c =
    let a = c.args in
    let s = a.image.now in
    let out = a.out.now in
    let r = c.repair_in.ensures in
    let e = answer-fits s (length out) _ (sym c.in_ok-g.ensures) in
    let image = r.image_after ∙ ap (λ (q : Result ℕ Refusal). unless_refused q (repaired s) s) e in
    let list = r.out_after ∙ ap (λ (q : Result ℕ Refusal). unless_refused q (listing s out) out) e in record {
      value = r.value ∙ e;
      image_after = image;
      out_after = list;
    }

pub returns-in_err-g : goal.returns-in_err-g
returns-in_err-g c =
    let a = c.args in
    let s = a.image.now in
    let out = a.out.now in
    let e = answer-refused s (length out) _ (sym c.in_err-g.ensures) in
    let p = err_from_is_err_and c.from_residual.result c.from_residual.ensures.1 in
    rw (p.1, p.2) (record {
      value = e;
      image_after = ap (λ (q : Result ℕ Refusal). unless_refused q (repaired s) s) e;
      out_after = ap (λ (q : Result ℕ Refusal). unless_refused q (listing s out) out) e;
    })
