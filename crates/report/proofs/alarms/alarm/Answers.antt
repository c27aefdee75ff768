-- `report::alarms::alarm` meets its contract: the set that was lent is that of the free units of a sound image.
use mathlib.Core.Path.{◌∙◌, refl}
use Rattle.std.proofs.lemmas.Result.{err_from_is_err_and}
use Rattle.image.proofs.Loads.{into-known, outcome-answer-refused, outcome-answer-sound}
use Rattle.report.proofs.CountLaws.{alarm-known}
use Rattle.report.proofs.alarms.alarm.Goals as goal

pub returns : goal.returns
returns c =
    let a = c.args in
    let s = a.image.now in
    let o = c.in_ok-g.ensures in
    c.alarm_on.ensures ∙ alarm-known s _ (into-known s _ _ _ o _ refl) a.level ∙ outcome-answer-sound s _ o.right _ _ _ refl
