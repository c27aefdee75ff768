-- `sumbilak::calls::sumbilak_shape` meets its contract: the answer of `loader::load::check_image` as numbers.
use Rattle.sumbilak.proofs.calls.sumbilak_shape.Goals as goal

pub returns : goal.returns
returns c = c.shape.ensures _ c.check_image-x.ensures
