-- The theorems of this crate that a reader wants, on any sound image s of shape g and on the fresh one: nothing else cites them.
use Rattle.std.specs.Prelude.{Ok}
use Prim.Native.Nat.{ℕ, ◌+◌, ◌-◌, ◌*◌, ◌≤◌, ◌<◌}
use native.Mathlib.Nat.{zero-mul, mul-pos, eq-zero-or-pos}
use native.Mathlib.Omega.{arith}
use mathlib.Core.Path.{◌≡◌, refl, ap, ◌∙◌}
use mathlib.Core.Logic.{⊎_elim}
use mathlib.Core.Bool.{Bool, true, false}
use mathlib.Core.List.{List}
use borrow.Author.Tests.{eq-eqb, ne_eqb}
use lib.Dec.{T}
use lib.ListN.{length}
use lib.IntN.{pos}
use lib.Ieee.{Float, fin, binary64, round, of_int, lt, le, is_nan}
use lib.Ieee.Positive.{num, den, positive}
use Rattle.search.specs.Search.{below}
use Rattle.search.proofs.Ranges.{member_below}
use Rattle.search.proofs.Kept.{keep-none}
use Rattle.layout.specs.declared.Shape.{Shape}
use Rattle.layout.specs.Layout.{max_units, shape_of, fresh}
use Rattle.layout.specs.Format.{format_answer, format_image}
use Rattle.layout.specs.Shaped.{Limits}
use Rattle.layout.proofs.Limits.{limits, product_high, units-high}
use Rattle.layout.proofs.Formatting.{formatted}
use Rattle.image.specs.Soundness.{mapped, Sound}
use Rattle.image.specs.Verdicts.{verdict}
use Rattle.image.proofs.Chunks.{not-mapped}
use Rattle.image.proofs.Fresh.{absent-fresh, sound-fresh, shape-fresh}
use Rattle.image.proofs.SoundLaws.{tested-passed}
use Rattle.image.proofs.Wording.{sound-tested, sound-shape}
use Rattle.image.proofs.Room.{free-and-held}
use Rattle.report.specs.declared.Report.{Report}
use Rattle.report.specs.declared.Alarm.TheVariants.{Silent}
use Rattle.report.specs.declared.Level.TheVariants.{Fraction}
use Rattle.report.specs.Counts.{mapped_count, held_count, free_count}
use Rattle.report.specs.Reports.{zero64, ratio_if_mapped, report_of, report_answer}
use Rattle.report.specs.Alarms.{bad_fraction, sounds_if, alarm_at, alarm_answer}
use Rattle.report.proofs.CountLaws.{held-most, held-least, mapped-most}
use Rattle.report.proofs.Rounded.{Share, count-exact, ratio-rounds, ratio-share, ratio-none, product-rounds, zero-product}

-- What the figures of a report say of one another.
pub record Figures (g : Shape) (r : Report) : Type 0 where
  -- held and free units are N-R in all
  pub units : r.held + r.free ≡ g.n - g.r
  -- "mapped chunks times P, less held units" is never negative: held units are at most that
  pub chunks : r.saved + r.held ≡ r.mapped * g.p
  -- and, where something is mapped, never all of it: a mapped chunk holds a unit at least
  pub some : r.mapped ≤ r.held
  -- "from exact counts and one rounded division": the f64 nearest to the quotient
  pub held-rounded : r.held_ratio ≡ round binary64 false r.held g.n
  pub saved-rounded : 0 < r.mapped → r.saved_ratio ≡ round binary64 false r.saved (r.mapped * g.p)
  -- "the ratio is 0.0 when nothing is mapped"
  pub saved-nothing : r.mapped ≡ 0 → r.saved_ratio ≡ zero64
  -- both are numbers from 0.0 to 1.0
  pub held_share : Share r.held_ratio
  pub saved-share : Share r.saved_ratio

-- The report of n units that are not reserved and no mapped chunk.
abbrev pub empty_report : ℕ → Report
empty_report n = record { mapped = 0; held = 0; free = n; saved = 0; held_ratio = zero64; saved_ratio = zero64 }

-- the saved ratio of m chunks of p units each, of which h are held
module _ (m p h : ℕ) (low : 2 ≤ p) (most : h ≤ m * p) (fits : m * p ≤ max_units) where
  saved-some : 0 < m → ratio_if_mapped m (m * p - h) (m * p) ≡ round binary64 false (m * p - h) (m * p)
  saved-some M = rw (ne_eqb m 0 (λ e. omega arith)) (ratio-rounds (m * p - h) (m * p) (omega arith) (mul-pos M (omega arith)) (omega arith))

  saved-shares : Share (ratio_if_mapped m (m * p - h) (m * p))
  saved-shares = ⊎_elim
      (λ e. rw (eq-eqb m 0 e) (unfold le in (tt, tt)))
      (λ M. rw (ne_eqb m 0 (λ e. omega arith)) (ratio-share (m * p - h) (m * p) (omega arith) (mul-pos M (omega arith)) (omega arith)))
      (eq-zero-or-pos m)

good-zero : (b : Bool) → bad_fraction (fin b 0 (pos 0)) ≡ false
unfolding lt is_nan
good-zero true = refl
good-zero false = refl

module _ (g : Shape) (s : List ℕ) (z : Sound g s) where
  passed : verdict s ≡ Ok tt
  passed = tested-passed s (sound-tested g s z)

  most : held_count s ≤ mapped_count s * g.p
  most = rw (sound-shape g s z) at (held-most s)

  fits : mapped_count s * g.p ≤ max_units
  fits =
      let l = z.limits in
      let few = rw (sound-shape g s z) at (mapped-most s) in
      product_high g.p (mapped_count s) l.p-high (omega (arith, l.c-high))

  counted : free_count s + held_count s ≡ g.n - g.r
  counted = free-and-held s (sound-tested g s z) ∙ ap (λ (h : Shape). h.n - h.r) (sound-shape g s z)

  -- The report of a sound image has such figures.
  pub report-figures : (report_answer s ≡ Ok (report_of s)) × Figures g (report_of s)
  unfolding report_of
  report-figures =
      let m = mapped_count s in
      let h = held_count s in
      let l = z.limits in
      let u = counted in
      let n = units-high g l in (
        rw passed,
        rw (sound-shape g s z) (record {
          units = omega arith;
          chunks = omega (arith, most);
          some = held-least s (sound-tested g s z);
          held-rounded = ratio-rounds h g.n (omega arith) (omega arith) (omega arith);
          saved-rounded = saved-some m g.p h l.p-low most fits;
          saved-nothing = λ e. rw (eq-eqb m 0 e);
          held_share = ratio-share h g.n (omega arith) (omega arith) (omega arith);
          saved-share = saved-shares m g.p h l.p-low most fits;
        }),
      )

  -- Where nothing is mapped, nothing is held and nothing saved.
  pub unmapped-report : mapped_count s ≡ 0 → report_answer s ≡ Ok (empty_report (g.n - g.r))
  unfolding report_of
  unmapped-report e =
      let u = counted in
      let n = units-high g z.limits in
      let none : mapped_count s * g.p ≡ 0 = rw (e) (zero-mul g.p) in
      let h : held_count s ≡ 0 = omega (arith, most) in
      let f : free_count s ≡ g.n - g.r = omega arith in
      rw (passed, sound-shape g s z, e, zero-mul, h, f, ratio-none g.n (omega arith) (omega arith))

  -- The alarm at a good fraction x above 0, which is num x / den x: it sounds when free units are below the f64 nearest to x · N. (The count of
  -- free units is exact as an f64: count-exact.)
  pub alarm-compares : (x : Float) → T (positive x) → bad_fraction x ≡ false
      → alarm_answer s (Fraction x) ≡ sounds_if (lt (of_int binary64 (pos (free_count s))) (round binary64 false (num x * g.n) (den x)))
  unfolding alarm_at
  alarm-compares x p good =
      let l = z.limits in
      let n = units-high g l in
      rw (passed, good, sound-shape g s z, product-rounds x g.n p (omega arith) (omega arith))

  -- Neither 0.0 nor -0.0 is refused, and neither sounds, even where nothing is free.
  pub zero-silent : (b : Bool) → alarm_answer s (Fraction (fin b 0 (pos 0))) ≡ Ok Silent
  unfolding alarm_at
  zero-silent b =
      let n = units-high g z.limits in
      let u = counted in
      let free = count-exact (free_count s) (omega arith) in
      let all = count-exact g.n (omega arith) in
      rw (passed, good-zero b, sound-shape g s z, zero-product (of_int binary64 (pos (free_count s))) (of_int binary64 (pos g.n)) b (free_count s) g.n free all)

none-mapped : (g : Shape) → Limits g → mapped_count (fresh g) ≡ 0
unfolding mapped_count
none-mapped g l =
    let c : (shape_of (fresh g)).c ≡ g.c = ap (λ (q : Shape). q.c) (shape-fresh g l) in
    ap length (keep-none (mapped (fresh g)) (below (shape_of (fresh g)).c) (λ i m.
    not-mapped (fresh g) i (absent-fresh g l i (let b = member_below i (shape_of (fresh g)).c m in omega arith))))

-- A fresh volume saves nothing.
pub fresh-report : (g : Shape) (s : List ℕ) → format_answer g s ≡ Ok tt → report_answer (format_image g s) ≡ Ok (empty_report (g.n - g.r))
fresh-report g s d =
    let f = formatted g s d in
    let l = limits g f.0 in
    rw f.1 (unmapped-report g (fresh g) (sound-fresh g l) (none-mapped g l))
