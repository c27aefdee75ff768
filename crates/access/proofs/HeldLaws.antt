-- What `held` hands back, by what the companion call answers.
use Rattle.std.specs.Prelude.{Result, Ok, Err, ⊤}
use Prim.Native.Nat.{ℕ, ◌+◌, ◌*◌, ◌<◌, ◌≤◌}
use mathlib.Core.Path.{◌≡◌, refl, ap, sym, ◌∙◌}
use mathlib.Core.Bool.{Bool, true, false, cond}
use mathlib.Core.List.{List}
use native.Mathlib.Omega.{arith}
use native.Mathlib.Nat.{add-sub_cancel_left}
use lib.ListN.{length, get_or, take, drop, length-take, length-drop}
use lib.Seq.{get_or-take, get_or-drop}
use lib.Dec.{ltb}
use borrow.Author.Tests.{ltb-true}
use Rattle.words.specs.Words.{number}
use Rattle.words.proofs.Laws.{number-ext}
use Rattle.layout.specs.declared.Refusal.TheVariants.{Range}
use Rattle.layout.specs.Layout.{is_unit, head, map_words, shape_of, link_of, map_word_place}
use Rattle.layout.specs.Shaped.{unit_words_of}
use Rattle.layout.proofs.Limits.{fitting-length, map-within, map-words}
use Rattle.image.specs.Soundness.{mapped, units_of, leading}
use Rattle.image.specs.Verdicts.{verdict}
use Rattle.image.specs.Claims.{Tested}
use Rattle.image.specs.Answers.{if_sound}
use Rattle.image.proofs.SoundLaws.{passed-tested}
use Rattle.image.proofs.Leading.{leading_at}
use Rattle.image.proofs.Chunks.{get_or-unit_words, mapped-named, named-below, units-mapped, length-units}
use Rattle.access.specs.Parts.{held_status, held_words, held_part}
use Rattle.access.specs.Holding.{Holds}
use Rattle.layout.specs.declared.Refusal.{Refusal}

-- a number read in a part of a list
number-part : (w : ℕ) (s : List ℕ) (at n k : ℕ) → k + w ≤ n → number w (take n (drop at s)) k ≡ number w s (at + k)
number-part w s at n k h = number-ext w (take n (drop at s)) s k (at + k) (λ j l.
    get_or-take n (drop at s) (k + j) 0 (omega arith) ∙ get_or-drop at s (k + j) 0 ∙ ap (λ (m : ℕ). get_or s m 0) (omega arith))

-- ---- what the companion's answer says

in-range : (low : Bool) → cond {A = Result ⊤ Refusal} low (Ok tt) (Err Range) ≡ Ok tt → low ≡ true
in-range true e = refl
in-range false e = let z : ◌≡◌ {A = ℕ} 0 1 = cc in absurd (omega arith)

pub answered : (s : List ℕ) (i : ℕ) → held_status s i ≡ Ok tt → Tested s × (i < (shape_of s).c)
answered s i e = at (verdict s) refl e
  where
    at : (v : Result ⊤ Refusal) → verdict s ≡ v → if_sound v Err (cond {A = Result ⊤ Refusal} (ltb i (shape_of s).c) (Ok tt) (Err Range)) ≡ Ok tt → Tested s × (i < (shape_of s).c)
    at (Err r) p h = let z : ◌≡◌ {A = ℕ} 0 1 = cc in absurd (omega arith)
    at (Ok tt) p h = (passed-tested s p, ltb-true i (shape_of s).c (in-range (ltb i (shape_of s).c) h))

-- ---- a mapped chunk, where the companion answers

module _ (s : List ℕ) (i : ℕ) (e : held_status s i ≡ Ok tt) (m : mapped s i ≡ true) where
  abbrev start : ℕ
  start = 8 * map_word_place (shape_of s) (link_of s i) (head (shape_of s))

  abbrev size : ℕ
  size = 8 * length (units_of s i)

  mapped-part : held_part s i ≡ take size (drop start s)
  unfolding held_words
  mapped-part = rw (e, m, add-sub_cancel_left start size)

  mapped-within : start + size ≤ length s
  mapped-within =
      let z = answered s i e in
      let k = named-below s i (mapped-named s i m) (z.0.links i z.1) in
      omega (arith, fitting-length s z.0.fitting, length-units s i, map-within (link_of s i) (shape_of s).m (map_words (shape_of s)) k, map-words (shape_of s))

  mapped-word : (j : ℕ) → j < length (units_of s i) → number 8 (take size (drop start s)) (8 * j) ≡ get_or (units_of s i) j 0
  mapped-word j h =
      let g = shape_of s in
      let ws = unit_words_of s (link_of s i) in
      let u = units-mapped s i m in
      let l : j < length (leading (is_unit g) ws) = let q = ap length u in omega arith in
      let place : start + 8 * j ≡ 8 * map_word_place g (link_of s i) (head g + j) = omega arith in
      number-part 8 s start size (8 * j) (omega arith) ∙ ap (number 8 s) place
      ∙ sym (get_or-unit_words g s (link_of s i) j (omega (arith, length-units s i)))
      ∙ sym (leading_at (is_unit g) ws j l).0
      ∙ ap (λ (us : List ℕ). get_or us j 0) (sym u)

  pub mapped-holds : Holds (units_of s i) (held_part s i)
  mapped-holds = rw mapped-part (record { size = simp (length-take, length-drop) (omega (arith, mapped-within)); word = mapped-word })
