-- `steps::encode::put_step` meets its contract: each kind of step stores its own fields.
use mathlib.Core.Path.{◌≡◌}
use Rattle.steps.specs.Steps.{encode}
use Rattle.steps.specs.declared.Step.TheVariants.{Fence}
use Rattle.steps.proofs.Encoding.{put_steps-one}
use Rattle.steps.proofs.encode.put_step.Goals as goal

pub returns-in-Data : goal.returns-in-Data
unfolding encode
returns-in-Data c = rw (put_steps-one, c.in-Data.is) c.put_fields.ensures

pub returns-in-Map : goal.returns-in-Map
unfolding encode
returns-in-Map c = rw (put_steps-one, c.in-Map.is, ← c.field_of.ensures) c.put_fields-in-Map.ensures

pub returns-in-Link : goal.returns-in-Link
unfolding encode
returns-in-Link c = rw (put_steps-one, c.in-Link.is, ← c.field_of-in-Link.ensures) c.put_fields-in-Link.ensures

pub returns-in-Fence : goal.returns-in-Fence
unfolding encode
returns-in-Fence c = let e : c.args.step ≡ Fence = c.in-Fence.is in rw (put_steps-one, e) c.put_fields-in-Fence.ensures
