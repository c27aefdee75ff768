-- The checker's answer on what is known of an image: the units dealt, the pass, and the tests of the request.
use Rattle.std.specs.Prelude.{Err, Option, Some, is_some}
use Prim.Native.Nat.{ℕ, ◌≤◌, ◌<◌}
use mathlib.Core.Path.{◌≡◌, refl, sym, ap, ◌∙◌}
use mathlib.Core.Bool.{Bool, true, false}
use mathlib.Core.List.{List, ◌++◌, append_assoc}
use native.Mathlib.Nat.{min-le_left}
use native.Mathlib.Omega.{arith}
use lib.ListN.{length, take, drop, length-take}
use lib.Seq.{sets, take_at}
use borrow.Author.Tests.{lt-ltb, le-ltb}
use Rattle.words.proofs.Laws.{sets-front}
use Rattle.bitset.specs.Bits.{in_set}
use Rattle.layout.specs.declared.Shape.{Shape}
use Rattle.layout.specs.declared.Refusal.TheVariants.{Range, Size}
use Rattle.layout.specs.Layout.{head, map_words, after_head}
use Rattle.layout.specs.Shaped.{Limits}
use Rattle.layout.proofs.Limits.{words-high, units-high}
use Rattle.steps.specs.declared.Request.{Request}
use Rattle.steps.specs.Steps.{steps_of, chunk_of, size_of, need_of, good_size}
use Rattle.rules.specs.Rules.{Known, stored_words, broken, broken_rule, judged}
use Rattle.pass.specs.declared.Seen.{Seen}
use Rattle.pass.specs.Passes.{known_by, unit_at, links_for, unseen, Passes, broken_by}
use Rattle.pass.proofs.Decided.{seen, decided}

-- ---- the units dealt: of the zeros of an array the first k have been set to the lowest members, as far as there are any

pub dealt-part : (zeros us out : List ℕ) (k count : ℕ) → length (take k zeros) ≡ k → count ≡ length (take (length (take k zeros)) us)
    → out ≡ sets (take k zeros) 0 (take (length (take k zeros)) us)
    → take count (out ++ drop k zeros) ≡ take k us
dealt-part zeros us out k count n c e =
    let dealt = take k us in
    let few : length dealt ≤ k = let m = length-take k us in let b = min-le_left k (length us) in omega arith in
    let same : count ≡ length dealt = rw n at c in
    let front : out ≡ dealt ++ drop (length dealt) (take k zeros) = (rw n at e) ∙ sets-front (take k zeros) dealt (omega arith) in
    let whole : out ++ drop k zeros ≡ dealt ++ (drop (length dealt) (take k zeros) ++ drop k zeros) =
    ap (λ (l : List ℕ). l ++ drop k zeros) front ∙ append_assoc dealt (drop (length dealt) (take k zeros)) (drop k zeros) in
    ap (take count) whole ∙ take_at dealt (drop (length dealt) (take k zeros) ++ drop k zeros) count (sym same)

-- ---- the pass: its verdict, for what the code has

module _ (g : Shape) (limits : Limits g) (ms : List ℕ) (m : Bool) (r : Request) (plan dealt : List ℕ) (heads size k words i : ℕ) (few : k ≤ 63)
    (eh : heads ≡ head g) (es : size ≡ size_of r) (ek : k ≡ need_of r) (ew : words ≡ map_words g) (ei : i ≡ chunk_of r) (start : Seen)
    (est : start ≡ unseen k (stored_words words r) (links_for m r)) (p : Option Seen)
    (h : Passes g i (unit_at dealt) (after_head heads size (unit_at dealt)) start plan p) (st : Seen) (one : p ≡ Some st) where
  seen-is : st ≡ seen (map_words g) m (unit_at dealt) (after_head (head g) (size_of r) (unit_at dealt)) (steps_of plan) r
  seen-is = rw (est, eh, es, ek, ew, ei) at (h.holds st one)

  pub pass-decides : (free : List ℕ) → dealt ≡ take (need_of r) free → broken_by (in_set ms) m r st ≡ broken_rule (known_by g free (in_set ms) m) r plan
  pass-decides free ed =
      let w = words-high g limits in
      let n = units-high g limits in
      decided (known_by g free (in_set ms) m) r plan (omega arith) (omega arith) (omega (arith, limits)) (omega (arith, limits))
      (sym h.decides ∙ ap is_some one) dealt ed st seen-is

-- ---- the answer, test by test

module _ (kn : Known) (r : Request) (plan : List ℕ) where
  pub range-refused : kn.shape.c ≤ chunk_of r → Err Range ≡ judged kn r plan
  unfolding judged
  range-refused h = rw (le-ltb (chunk_of r) kn.shape.c h)

  module _ (low : chunk_of r < kn.shape.c) where
    pub size-refused : good_size kn.shape r ≡ false → Err Size ≡ judged kn r plan
    unfolding judged
    size-refused z = rw (lt-ltb (chunk_of r) kn.shape.c low, z)

    pub rules-judge : good_size kn.shape r ≡ true → broken (broken_rule kn r plan) ≡ judged kn r plan
    unfolding judged
    rules-judge z = rw (lt-ltb (chunk_of r) kn.shape.c low, z)
