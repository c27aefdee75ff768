-- Numbers that are to come once each: a tally of them decides `once_each`, and a test of each step beside it. Rules 2, 3 and 4 are each such a tally.
use Prim.Native.Nat.{ℕ, ◌<◌, ◌≤◌}
use mathlib.Core.Path.{◌≡◌, refl, sym, ap, ◌∙◌, fun_ext}
use mathlib.Core.Logic.{◌⊎◌, inl, inr, ⊎_elim}
use mathlib.Core.Bool.{Bool, true, false, not, ◌&&◌, cond, and-true, and-false}
use mathlib.Core.List.{List, [], ◌∷◌, ◌++◌}
use native.Mathlib.Omega.{arith}
use lib.Dec.{eqb, ltb}
use borrow.Author.Tests.{eqb-true, eq-eqb, ltb-true, lt-ltb}
use Rattle.search.specs.Search.{from, all, member, distinct}
use Rattle.search.specs.Sets.{put, without}
use Rattle.search.proofs.Bools.{contradict, either, same, is_false, is_true, not-of-true, not_of_false}
use Rattle.search.proofs.Bools.{and_left, and_right, and_intro, and-false-left, and-false-right}
use Rattle.search.proofs.Members.{all-at}
use Rattle.search.proofs.Taken.{put_same, put_other, all-put, without-none, without-cons}
use Rattle.bitset.specs.Bits.{bits, bit_set, in_set}
use Rattle.bitset.proofs.Digits.{bits_none}
use Rattle.bitset.proofs.BitSets.{in-bit_set}
use Rattle.bitset.proofs.Members.{in_whole}
use Rattle.steps.specs.declared.Step.{Step}
use Rattle.rules.specs.Rules.{collect, every, once_each}
use Rattle.tally.specs.Tallies.{fold, in_word, word_of_set, expected, ticked, tick_off, complete}
use Rattle.rules.proofs.Once.{once, once-tested, once-there}

-- ---- each once: none twice, and each in a set

unfoldable pub fresh : (ℕ → Bool) → List ℕ → Bool
fresh f xs = distinct xs && all f xs

-- (n && d) && (f && a), where a && n is what the rest has
regroup : (n d f a : Bool) → ((n && d) && (f && a)) ≡ (f && (d && (a && n)))
regroup true true true a = sym (and-true a)
regroup true true false a = refl
regroup true false true a = refl
regroup true false false a = refl
regroup false true true a = sym (and-false a)
regroup false true false a = refl
regroup false false true a = refl
regroup false false false a = refl

fresh-cons : (x : ℕ) (f : ℕ → Bool) (xs : List ℕ) → fresh f (x ∷ xs) ≡ (f x && fresh (put f x false) xs)
unfolding distinct all fresh
fresh-cons x f xs = regroup (not (member x xs)) (distinct xs) (f x) (all f xs) ∙ ap (λ (b : Bool). f x && (distinct xs && b)) (sym (all-put f x xs))

-- ---- a set of numbers below 64, as a word

abbrev pub Small : (ℕ → Bool) → Type 0
Small f = (u : ℕ) → f u ≡ true → u < 64

in-word : (f : ℕ → Bool) → Small f → in_word (word_of_set f) ≡ f
unfolding bit_set from
in-word f small = in_whole f 1 small

zero-none : (f : ℕ → Bool) → word_of_set f ≡ 0 → (y : ℕ) → y < 64 → f y ≡ false
unfolding bit_set from bits
zero-none f e y h = sym (in-bit_set f 1 y h) ∙ ap (λ (w : ℕ). in_set (w ∷ []) y) e ∙ in-bit_set (λ u. false) 1 y h

-- ---- what a number that comes leaves

put_small : (f : ℕ → Bool) (j : ℕ) (v : Bool) → j < 64 → Small f → Small (put f j v)
unfolding put
put_small f j v l small u = go (eqb u j) refl
  where
    go : (b : Bool) → eqb u j ≡ b → cond b v (f u) ≡ true → u < 64
    go true e h = let q = eqb-true u j e in omega arith
    go false e h = small u h

tick_is : (f : ℕ → Bool) → Small f → (j : ℕ) (ok : Bool) → tick_off (word_of_set f) j ok ≡ word_of_set (ticked f j ok)
unfolding tick_off
tick_is f small j ok = ap (λ (t : ℕ → Bool). word_of_set (ticked t j ok)) (in-word f small)

-- an awaited number that is right, and any other
ticked-right : (f : ℕ → Bool) (j : ℕ) → j < 63 → f j ≡ true → ticked f j true ≡ put f j false
unfolding ticked
ticked-right f j l t = rw (lt-ltb j 63 l, t)

ticked-wrong : (f : ℕ → Bool) (j : ℕ) (ok : Bool) → (f j && ok) ≡ false → ticked f j ok ≡ put f 63 true
unfolding ticked
ticked-wrong f j ok e = rw (e, and-false (ltb j 63))

-- a spoilt tally stays so
abbrev Spoilt : (ℕ → Bool) → Type 0
Spoilt f = Small f × (f 63 ≡ true)

ticked-spoilt : (f : ℕ → Bool) (j : ℕ) (ok : Bool) → Spoilt f → Spoilt (ticked f j ok)
unfolding ticked
ticked-spoilt f j ok h = go (ltb j 63 && (f j && ok)) refl
  where
    go : (b : Bool) → (ltb j 63 && (f j && ok)) ≡ b → Spoilt (cond b (put f j false) (put f 63 true))
    go true e =
        let l = ltb-true j 63 (and_left (ltb j 63) (f j && ok) e) in
        (put_small f j false (omega arith) h.0, put_other f j false 63 (λ q. omega arith) ∙ h.1)
    go false e = (put_small f 63 true (omega arith) h.0, put_same f 63 true)

spoilt-not-zero : (f : ℕ → Bool) → f 63 ≡ true → complete (word_of_set f) ≡ false
spoilt-not-zero f h = is_false (complete (word_of_set f)) (λ e. contradict h (zero-none f (eqb-true (word_of_set f) 0 e) 63 (omega arith)))

-- ---- the numbers below n: each came once and none is left, and `once_each`

module _ (n : ℕ) (few : n ≤ 63) (ns : List ℕ) where
  abbrev f : ℕ → Bool
  f = λ j. ltb j n

  there : word_of_set (without f ns) ≡ 0 → (y : ℕ) → y < n → member y ns ≡ true
  unfolding without
  there e y l =
      is_true (member y ns) (λ q.
      contradict (and_intro (ltb y n) (not (member y ns)) (lt-ltb y n l) (not_of_false (member y ns) q)) (zero-none (without f ns) e y (omega arith)))

  none_left : ((y : ℕ) → y < n → member y ns ≡ true) → word_of_set (without f ns) ≡ 0
  unfolding without
  none_left h =
      bits_none (without f ns) 0 64 (λ y a b. ⊎_elim
      (λ q. and-false-right (ltb y n) (not (member y ns)) (not-of-true (member y ns) (h y (ltb-true y n q))))
      (λ q. and-false-left (ltb y n) (not (member y ns)) q) (either (ltb y n)))

  once_is : (b : Bool) → ((fresh f ns && b) && eqb (word_of_set (without f ns)) 0) ≡ (once_each n ns && b)
  unfolding fresh
  once_is b = same _ _ told tested
    where
      told : ((fresh f ns && b) && eqb (word_of_set (without f ns)) 0) ≡ true → (once_each n ns && b) ≡ true
      told h =
          let first = and_left (fresh f ns && b) (eqb (word_of_set (without f ns)) 0) h in
          let z = eqb-true (word_of_set (without f ns)) 0 (and_right (fresh f ns && b) (eqb (word_of_set (without f ns)) 0) h) in
          let fr = and_left (fresh f ns) b first in
          and_intro (once_each n ns) b
          (once-tested n ns (and_left (distinct ns) (all f ns) fr) (λ y m. ltb-true y n (all-at f ns (and_right (distinct ns) (all f ns) fr) y m)) (there z))
          (and_right (fresh f ns) b first)

      tested : (once_each n ns && b) ≡ true → ((fresh f ns && b) && eqb (word_of_set (without f ns)) 0) ≡ true
      tested h =
          let o = and_left (once_each n ns) b h in
          let k = once n ns o in
          and_intro (fresh f ns && b) (eqb (word_of_set (without f ns)) 0)
          (and_intro (fresh f ns) b (and_intro (distinct ns) (all f ns) k.1 k.2) (and_right (once_each n ns) b h))
          (eq-eqb (word_of_set (without f ns)) 0 (none_left (once-there n ns o)))

-- a test that fails makes all fail
cell : (a b c d z : Bool) → (a && b) ≡ false → (((a && c) && (b && d)) && z) ≡ false
cell true true c d z e = contradict refl e
cell true false c d z e = ap (λ (t : Bool). t && z) (and-false c)
cell false b c d z e = refl

-- ---- the numbers that a function of one step draws, at most one from each, with a test of each step that draws one

abbrev pub come : ℕ → List ℕ → Bool → ℕ
come w [] ok = w
come w (j ∷ js) ok = tick_off w j ok

abbrev pub met : (Step → List ℕ) → (Step → Bool) → ℕ → Step → ℕ
met sel fits w x = come w (sel x) (fits x)

-- a step draws one number, or none and its test says nothing
abbrev pub Draws : (Step → List ℕ) → (Step → Bool) → Step → Type 0
Draws sel fits x = ((sel x ≡ []) × (fits x ≡ true)) ⊎ ((j : ℕ) × (sel x ≡ j ∷ []))

module _ (sel : Step → List ℕ) (fits : Step → Bool) (draws : (x : Step) → Draws sel fits x) where
  spoilt-stays : (xs : List Step) (f : ℕ → Bool) → Spoilt f → complete (fold (met sel fits) (word_of_set f) xs) ≡ false
  unfolding fold
  spoilt-stays [] f h = spoilt-not-zero f h.1
  spoilt-stays (x ∷ xs) f h = go (spoilt-stays xs) (sel x)
    where
      go : ((f : ℕ → Bool) → Spoilt f → complete (fold (met sel fits) (word_of_set f) xs) ≡ false) → (l : List ℕ)
          → complete (fold (met sel fits) (come (word_of_set f) l (fits x)) xs) ≡ false
      go rest [] = rest f h
      go rest (j ∷ js) =
          ap (λ (w : ℕ). complete (fold (met sel fits) w xs)) (tick_is f h.0 j (fits x)) ∙ rest (ticked f j (fits x)) (ticked-spoilt f j (fits x) h)

  abbrev Low : (ℕ → Bool) → Type 0
  Low f = (u : ℕ) → f u ≡ true → u < 63

  -- what a tally that awaits f says of the steps
  abbrev says : (ℕ → Bool) → List ℕ → Bool → Bool
  says f ns e = (fresh f ns && e) && complete (word_of_set (without f ns))

  low_small : (f : ℕ → Bool) → Low f → Small f
  low_small f low u h = let b = low u h in omega arith

  put_low : (f : ℕ → Bool) (j : ℕ) → Low f → Low (put f j false)
  unfolding put
  put_low f j low u = go (eqb u j)
    where
      go : (b : Bool) → cond b false (f u) ≡ true → u < 63
      go true h = contradict h refl
      go false h = low u h

  met_all : (xs : List Step) (f : ℕ → Bool) → Low f → complete (fold (met sel fits) (word_of_set f) xs) ≡ says f (collect sel xs) (every fits xs)
  unfolding fold collect every fresh distinct all
  met_all [] f low = ap (λ (t : ℕ → Bool). complete (word_of_set t)) (fun_ext (without-none f))
  met_all (x ∷ xs) f low = go (met_all xs) (draws x)
    where
      ns : List ℕ
      ns = collect sel xs

      e : Bool
      e = every fits xs

      wrong : (j : ℕ) → (f j && fits x) ≡ false → says f (j ∷ ns) (fits x && e) ≡ false
      wrong j q =
          ap (λ (b : Bool). (b && (fits x && e)) && complete (word_of_set (without f (j ∷ ns)))) (fresh-cons j f ns)
          ∙ cell (f j) (fits x) (fresh (put f j false) ns) e (complete (word_of_set (without f (j ∷ ns)))) q

      right : (j : ℕ) → f j ≡ true → fits x ≡ true → says (put f j false) ns e ≡ says f (j ∷ ns) (fits x && e)
      right j p q =
          ap (λ (t : ℕ → Bool). (fresh (put f j false) ns && e) && complete (word_of_set t)) (fun_ext (without-cons f j ns))
          ∙ sym (ap (λ (b : Bool). (b && (fits x && e)) && complete (word_of_set (without f (j ∷ ns)))) (fresh-cons j f ns) ∙ rw (p, q))

      comes : ((f : ℕ → Bool) → Low f → complete (fold (met sel fits) (word_of_set f) xs) ≡ says f ns e) → (j : ℕ) (b : Bool) → (f j && fits x) ≡ b
          → complete (fold (met sel fits) (word_of_set (ticked f j (fits x))) xs) ≡ says f (j ∷ ns) (fits x && e)
      comes rest j true q =
          let p = and_left (f j) (fits x) q in
          let t = and_right (f j) (fits x) q in
          ap (λ (s : ℕ → Bool). complete (fold (met sel fits) (word_of_set s) xs)) (ap (ticked f j) t ∙ ticked-right f j (low j p) p)
          ∙ rest (put f j false) (put_low f j low) ∙ right j p t
      comes rest j false q =
          ap (λ (s : ℕ → Bool). complete (fold (met sel fits) (word_of_set s) xs)) (ticked-wrong f j (fits x) q)
          ∙ spoilt-stays xs (put f 63 true) (put_small f 63 true (omega arith) (low_small f low), put_same f 63 true) ∙ sym (wrong j q)

      go : ((f : ℕ → Bool) → Low f → complete (fold (met sel fits) (word_of_set f) xs) ≡ says f ns e) → Draws sel fits x
          → complete (fold (met sel fits) (come (word_of_set f) (sel x) (fits x)) xs) ≡ says f (sel x ++ ns) (fits x && e)
      go rest (inl d) = rw (d.0, d.1) (rest f low)
      go rest (inr d) =
          let j = d.0 in
          ap (λ (l : List ℕ). complete (fold (met sel fits) (come (word_of_set f) l (fits x)) xs)) d.1
          ∙ ap (λ (w : ℕ). complete (fold (met sel fits) w xs)) (tick_is f (low_small f low) j (fits x))
          ∙ comes rest j (f j && fits x) refl
          ∙ ap (λ (l : List ℕ). says f (l ++ ns) (fits x && e)) (sym d.1)

  -- the tally is complete exactly where each number below n comes once, no other does, and every step is right
  pub tally-decides : (n : ℕ) → n ≤ 63 → (xs : List Step) → complete (fold (met sel fits) (expected n) xs) ≡ (once_each n (collect sel xs) && every fits xs)
  unfolding expected
  tally-decides n few xs = met_all xs (λ j. ltb j n) (λ u h. let b = ltb-true u n h in omega arith) ∙ once_is n few (collect sel xs) (every fits xs)
