-- Laws of a set of n words: its words, what it contains, one number put in or taken out, and that all words of 64 bits are a set.
use Prim.Native.Nat.{ℕ, suc, ◌+◌, ◌-◌, ◌*◌, ◌^◌, ◌/◌, ◌%◌, ◌<◌, ◌≤◌}
use mathlib.Core.Bool.{Bool, true, false}
use mathlib.Core.List.{List, ◌++◌}
use mathlib.Core.Path.{◌≡◌, refl, ap, ap₂, sym, ◌∙◌}
use native.Mathlib.Decide.{ℕ_discrete}
use native.Mathlib.Nat.{zero-div, div-one, add-sub_cancel}
use native.Mathlib.Omega.{arith}
use mathlib.Core.Logic.{◌≢◌, ⊎_elim}
use lib.Bits.{bit_or}
use lib.ListN.{length, get_or, set, drop, replicate, length-append, length-replicate, get_or-replicate, length-map, length-set, get_or-eq_default, get_or-append}
use lib.Dec.{eqb}
use lib.Pow.{shr_lt, shr-shr}
use lib.Seq.{ext_get_or, get_or-set_same, get_or-set_other, get_or-append-add}
use Rattle.search.specs.Search.{below}
use Rattle.search.specs.Sets.{put}
use Rattle.search.proofs.Mapping.{get_or-map-below, drop-replicate}
use Rattle.search.proofs.Ranges.{length_from}
use Rattle.bitset.specs.Bits.{bits, bit_set, in_set, limit, inserted, removed}
use Rattle.bitset.proofs.Digits.{digit-test, bits-ext, bits-test, bits-or, bits_out, bits_none, bits-own}
use borrow.Author.Tests.{eqb-true, eqb-false}
use Rattle.search.proofs.Bools.{either, less-or-not}
use Rattle.search.proofs.Taken.{put_same, put_other}

-- ---- the words of a set

pub length-bit_set : (f : ℕ → Bool) (n : ℕ) → length (bit_set f n) ≡ n
unfolding bit_set
length-bit_set f n = length-map (below n) (λ w. bits f (64 * w) 64) ∙ length_from 0 n

bit_set-word : (f : ℕ → Bool) (n i : ℕ) → i < n → get_or (bit_set f n) i 0 ≡ bits f (64 * i) 64
unfolding bit_set
bit_set-word f n i h = get_or-map-below (λ w. bits f (64 * w) 64) n i 0 h

-- a list that has the set's words is the set
pub bit_set-intro : (ws : List ℕ) (f : ℕ → Bool) (n : ℕ) → length ws ≡ n → ((i : ℕ) → i < n → get_or ws i 0 ≡ bits f (64 * i) 64) → ws ≡ bit_set f n
bit_set-intro ws f n e h =
    ext_get_or 0 ws (bit_set f n) (e ∙ sym (length-bit_set f n)) λ i l.
    let k : i < n = rw e at l in h i k ∙ sym (bit_set-word f n i k)

-- tests that agree on the numbers that have a bit
pub bit_set-ext : (f g : ℕ → Bool) (n : ℕ) → ((y : ℕ) → y < 64 * n → f y ≡ g y) → bit_set f n ≡ bit_set g n
bit_set-ext f g n h =
    bit_set-intro (bit_set f n) g n (length-bit_set f n) λ i k.
    bit_set-word f n i k ∙ bits-ext f g (64 * i) 64 (λ y a b. h y (omega arith))

-- words of 0 are the empty set
pub bit_set-none : (n : ℕ) → replicate n 0 ≡ bit_set (λ u. false) n
bit_set-none n =
    bit_set-intro (replicate n 0) (λ u. false) n (length-replicate {A = ℕ} n 0) λ i k.
    get_or-replicate n i 0 0 k ∙ sym (bits_none (λ u. false) (64 * i) 64 (λ y a b. refl))

-- words of 0 behind a set that has no number there
bit_set-wider : (f : ℕ → Bool) (n k : ℕ) → ((u : ℕ) → 64 * n ≤ u → f u ≡ false) → bit_set f n ++ replicate k 0 ≡ bit_set f (n + k)
bit_set-wider f n k none =
    let e = rw (length-bit_set f n, length-replicate {A = ℕ} k 0) at (length-append (bit_set f n) (replicate k 0)) in
    bit_set-intro (bit_set f n ++ replicate k 0) f (n + k) e λ i h.
    ⊎_elim
    (λ (l : i < n). get_or-append (bit_set f n) (replicate k 0) 0 i (rw (length-bit_set f n) l) ∙ bit_set-word f n i l)
    (λ (l : n ≤ i).
    let place : length (bit_set f n) + (i - n) ≡ i = rw (length-bit_set f n) (omega arith) in
    rw place at (get_or-append-add (bit_set f n) (replicate k 0) (i - n) 0) ∙ get_or-replicate k (i - n) 0 0 (omega arith)
    ∙ sym (bits_none f (64 * i) 64 (λ y a b. none y (omega arith))))
    (less-or-not i n)

-- where the set of f was made in the first n words of an empty one
pub set-over : (f : ℕ → Bool) (n total : ℕ) (part before : List ℕ) → n ≤ total → before ≡ replicate total 0 → part ≡ bit_set f n
    → ((u : ℕ) → 64 * n ≤ u → f u ≡ false) → part ++ drop n before ≡ bit_set f total
set-over f n total part before h e p none =
    let all : total ≡ n + (total - n) = omega arith in
    ap₂ (λ (a b : List ℕ). a ++ drop n b) p (e ∙ ap (λ (k : ℕ). replicate k 0) all)
    ∙ ap (λ (l : List ℕ). bit_set f n ++ l) (drop-replicate n (total - n) 0) ∙ bit_set-wider f n (total - n) none ∙ ap (bit_set f) (sym all)

-- ---- the digits of a word of 64 bits

-- from number u on: those below it are shifted out
pub word-from : (ws : List ℕ) (u : ℕ) → get_or ws (u / 64) 0 < 2 ^ 64 → bits (in_set ws) u (64 - u % 64) ≡ get_or ws (u / 64) 0 / 2 ^ (u % 64)
unfolding in_set
word-from ws u small =
    let k = 64 - u % 64 in
    let width : k + u % 64 ≡ 64 = omega arith in
    bits-own (in_set ws) u k (get_or ws (u / 64) 0 / 2 ^ (u % 64)) (shr_lt k (u % 64) (rw width small)) λ j l.
    let word : (u + j) / 64 ≡ u / 64 = omega arith in
    let bit : (u + j) % 64 ≡ u % 64 + j = omega arith in
    rw (word, bit, ← shr-shr (get_or ws (u / 64) 0) (u % 64) j)

-- all of them
pub word-whole : (ws : List ℕ) (i : ℕ) → get_or ws i 0 < 2 ^ 64 → bits (in_set ws) (64 * i) 64 ≡ get_or ws i 0
word-whole ws i small =
    let word : 64 * i / 64 ≡ i = omega arith in
    let bit : 64 * i % 64 ≡ 0 = omega arith in
    rw (word, bit) at (word-from ws (64 * i) (rw word small)) ∙ div-one (get_or ws i 0)

-- all words of 64 bits are a set: that of the numbers in it
pub as-set : (ws : List ℕ) → ((i : ℕ) → get_or ws i 0 < 2 ^ 64) → ws ≡ bit_set (in_set ws) (length ws)
as-set ws small = bit_set-intro ws (in_set ws) (length ws) refl (λ i k. sym (word-whole ws i (small i)))

-- ---- what is in a set

pub in-past : (ws : List ℕ) (u : ℕ) → limit ws ≤ u → in_set ws u ≡ false
unfolding in_set
in-past ws u h =
    let past : length ws ≤ u / 64 = omega arith in
    rw (get_or-eq_default ws 0 past, zero-div) refl

-- digit u % 64 of word u / 64
module _ (f : ℕ → Bool) (n u : ℕ) (h : u < 64 * n) where
  place : 64 * (u / 64) + u % 64 ≡ u
  place = omega arith

  width : u % 64 + suc (63 - u % 64) ≡ 64
  width = omega arith

  pub in-bit_set : in_set (bit_set f n) u ≡ f u
  unfolding in_set
  in-bit_set =
      let e = rw (width, place) at (bits-test f (64 * (u / 64)) (u % 64) (63 - u % 64)) in
      rw (bit_set-word f n (u / 64) (omega arith), e) (digit-test (f u))

  -- the word that a change of one number alone leaves
  bit_set-put : (v : Bool) → set (bit_set f n) (u / 64) (bits (put f u v) (64 * (u / 64)) 64) ≡ bit_set (put f u v) n
  bit_set-put v =
      bit_set-intro _ g n (length-set (bit_set f n) _ _ ∙ length-bit_set f n) λ i k. go i k (ℕ_discrete i (u / 64))
    where
      g : ℕ → Bool
      g = put f u v

      w : ℕ
      w = bits g (64 * (u / 64)) 64

      go : (i : ℕ) → i < n → Dec (i ≡ u / 64) → get_or (set (bit_set f n) (u / 64) w) i 0 ≡ bits g (64 * i) 64
      go i k (yes e) = rw e (get_or-set_same (bit_set f n) (u / 64) w 0 (rw (length-bit_set f n) (omega arith)))
      go i k (no ne) =
          get_or-set_other (bit_set f n) (u / 64) i w 0 ne ∙ bit_set-word f n i k
          ∙ bits-ext f g (64 * i) 64 (λ y a b. sym (put_other f u v y (λ e. ne (omega arith))))

  word-insert : set (bit_set f n) (u / 64) (bit_or (get_or (bit_set f n) (u / 64) 0) (2 ^ (u % 64))) ≡ bit_set (put f u true) n
  word-insert =
      let e = rw (width, place) at (bits-or f (64 * (u / 64)) (u % 64) (63 - u % 64)) in
      rw (bit_set-word f n (u / 64) (omega arith), e) (bit_set-put true)

  word-remove : set (bit_set f n) (u / 64) (bit_or (get_or (bit_set f n) (u / 64) 0) (2 ^ (u % 64)) - 2 ^ (u % 64)) ≡ bit_set (put f u false) n
  word-remove =
      let e = rw (width, place) at (bits-or f (64 * (u / 64)) (u % 64) (63 - u % 64)) in
      let d = rw (width, place) at (bits_out f (64 * (u / 64)) (u % 64) (63 - u % 64)) in
      rw (bit_set-word f n (u / 64) (omega arith), e, d, add-sub_cancel (bits (put f u false) (64 * (u / 64)) 64) (2 ^ (u % 64))) (bit_set-put false)

pub past-bit_set : (f : ℕ → Bool) (n u : ℕ) → 64 * n ≤ u → in_set (bit_set f n) u ≡ false
past-bit_set f n u h = in-past (bit_set f n) u (rw (length-bit_set f n) h)

-- ---- a set with a number, and without: what callers read off the promises of `insert` and `remove`

put-set : (f : ℕ → Bool) (n u : ℕ) (v : Bool) → bit_set (put (in_set (bit_set f n)) u v) (length (bit_set f n)) ≡ bit_set (put f u v) n
unfolding put
put-set f n u v = rw (length-bit_set f n) (bit_set-ext _ _ n (λ y h. rw (in-bit_set f n y h)))

pub length_inserted : (ws : List ℕ) (u : ℕ) → length (inserted ws u) ≡ length ws
unfolding inserted
length_inserted ws u = length-bit_set _ (length ws)

pub inserted-set : (f : ℕ → Bool) (n u : ℕ) → inserted (bit_set f n) u ≡ bit_set (put f u true) n
unfolding inserted
inserted-set f n u = put-set f n u true

pub removed-set : (f : ℕ → Bool) (n u : ℕ) → removed (bit_set f n) u ≡ bit_set (put f u false) n
unfolding removed
removed-set f n u = put-set f n u false

-- two sets that differ at u alone: not even there, or there because u was put in
module _ (f g : ℕ → Bool) (n u : ℕ) (h : (y : ℕ) → y ≢ u → f y ≡ g y) where
  pub set-kept : f u ≡ g u → bit_set f n ≡ bit_set g n
  set-kept e = bit_set-ext f g n (λ y l. ⊎_elim (λ q. let w = eqb-true y u q in ap f w ∙ e ∙ ap g (sym w)) (λ q. h y (eqb-false y u q)) (either (eqb y u)))

  pub set-with : g u ≡ true → inserted (bit_set f n) u ≡ bit_set g n
  set-with e =
      inserted-set f n u
      ∙ bit_set-ext (put f u true) g n (λ y l. ⊎_elim
      (λ q. let w = eqb-true y u q in ap (put f u true) w ∙ put_same f u true ∙ sym e ∙ ap g (sym w))
      (λ q. let w = eqb-false y u q in put_other f u true y w ∙ h y w) (either (eqb y u)))

-- ---- as `insert` and `remove` leave the words

module _ (ws : List ℕ) (u : ℕ) (small : (i : ℕ) → get_or ws i 0 < 2 ^ 64) where
  unchanged : (v : Bool) → limit ws ≤ u → ws ≡ bit_set (put (in_set ws) u v) (length ws)
  unchanged v h = as-set ws small ∙ bit_set-ext _ _ (length ws) (λ y l. sym (put_other (in_set ws) u v y (omega arith)))

  pub insert-past : limit ws ≤ u → ws ≡ inserted ws u
  unfolding inserted
  insert-past = unchanged true

  pub remove-past : limit ws ≤ u → ws ≡ removed ws u
  unfolding removed
  remove-past = unchanged false

  pub insert-word : u < limit ws → set ws (u / 64) (bit_or (get_or ws (u / 64) 0) (2 ^ (u % 64))) ≡ inserted ws u
  unfolding inserted
  insert-word h =
      ap (λ (l : List ℕ). set l (u / 64) (bit_or (get_or l (u / 64) 0) (2 ^ (u % 64)))) (as-set ws small) ∙ word-insert (in_set ws) (length ws) u h

  pub remove-word : u < limit ws → set ws (u / 64) (bit_or (get_or ws (u / 64) 0) (2 ^ (u % 64)) - 2 ^ (u % 64)) ≡ removed ws u
  unfolding removed
  remove-word h =
      ap (λ (l : List ℕ). set l (u / 64) (bit_or (get_or l (u / 64) 0) (2 ^ (u % 64)) - 2 ^ (u % 64))) (as-set ws small)
      ∙ word-remove (in_set ws) (length ws) u h
