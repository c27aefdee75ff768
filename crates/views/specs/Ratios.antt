-- The digits of a printed ratio.
use Rattle.std.specs.Prelude.{ℕ, ◌+◌, ◌*◌, ◌/◌, cond, eqb}

-- count / all in ten-thousandths, to the nearest one, a half upwards; 0 where there is nothing
unfoldable pub ten_thousandths : ℕ → ℕ → ℕ
ten_thousandths count all = cond (eqb all 0) 0 ((20000 * count + all) / (2 * all))
