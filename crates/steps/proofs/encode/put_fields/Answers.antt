-- `steps::encode::put_fields` meets its contract: four stores side by side are one.
use Rattle.steps.proofs.Encoding.{fields-stored}
use Rattle.steps.proofs.encode.put_fields.Goals as goal

pub returns : goal.returns
returns c =
    let a = c.args in
    cc (fields-stored a.out.now a.at a.kind a.a a.b a.d)
