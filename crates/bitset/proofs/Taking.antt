-- The members below a bound: how many there are, and the loops of `lowest`, over the words and over the ones of a word.
use Prim.Native.Nat.{ℕ, ◌+◌, ◌-◌, ◌*◌, ◌/◌, ◌^◌, ◌≤◌, ◌<◌}
use mathlib.Core.Bool.{Bool, true, ◌&&◌, and-true}
use mathlib.Core.List.{List, ◌∷◌, ◌++◌}
use mathlib.Core.Path.{◌≡◌, ap, sym, ◌∙◌}
use native.Mathlib.Omega.{arith}
use lib.Bits.{bit_and, and_le_l}
use lib.Count.{ones, count_trailing_zeros}
use lib.ListN.{length, get_or, set}
use lib.Dec.{ltb}
use borrow.Author.Tests.{lt-ltb, le-ltb, ltb-true}
use Rattle.search.specs.Search.{from, below, all, keep, rising}
use Rattle.search.proofs.Bools.{and_left, and_right, and-false-right}
use Rattle.search.proofs.Members.{all-and}
use Rattle.search.proofs.Ranges.{member_below}
use Rattle.search.proofs.Kept.{all-kept, keep-ext, keep-short}
use Rattle.search.proofs.Rising.{rising-all, rising-cut}
use Rattle.search.proofs.Filling.{Filling, filling-start, filling-more}
use Rattle.bitset.specs.Bits.{bits, in_set, limit, members_below}
use Rattle.bitset.proofs.BitSets.{word-whole, in-past}
use Rattle.bitset.proofs.Counts.{ones_below}
use Rattle.bitset.proofs.Ones.{ones_from, ones-kept, ones_none, ones-next, bits-and}

-- what is wanted: the members below the bound
abbrev pub wanted : List ℕ → ℕ → ℕ → Bool
wanted ws end u = in_set ws u && ltb u end

-- among the numbers below i: all members where the bound is no lower, and those below the bound where it is no higher
wanted-low : (ws : List ℕ) (end i : ℕ) → i ≤ end → keep (wanted ws end) (below i) ≡ members_below ws i
wanted-low ws end i h =
    keep-ext (wanted ws end) (in_set ws) (below i) (λ u m. rw (lt-ltb u end (omega (arith, member_below u i m))) (and-true (in_set ws u)))

wanted-high : (ws : List ℕ) (end i : ℕ) → end ≤ i → keep (wanted ws end) (below i) ≡ members_below ws end
wanted-high ws end i h =
    let f = wanted ws end in
    let all : i ≡ end + (i - end) = omega arith in
    ap (λ (k : ℕ). keep f (below k)) all
    ∙ keep-short f 0 end (i - end) (λ u a. and-false-right (in_set ws u) (ltb u end) (le-ltb u end (omega arith)))
    ∙ wanted-low ws end end (omega arith)

-- all of them have a bit
wanted-all : (ws : List ℕ) (end : ℕ) → rising (wanted ws end) (limit ws) 0 ≡ members_below ws end
wanted-all ws end =
    let f = wanted ws end in
    rising-all f (limit ws)
    ∙ sym (keep-short f 0 (limit ws) end (λ u a. rw (in-past ws u (omega arith))))
    ∙ wanted-high ws end (limit ws + end) (omega arith)

-- those in word i, which is masked with that of the numbers below the bound
module _ (ws : List ℕ) (end i mask : ℕ) (small : get_or ws i 0 < 2 ^ 64) (e : mask ≡ bits (λ u. ltb u end) (64 * i) 64) where
  wanted-word : bits (wanted ws end) (64 * i) 64 ≡ bit_and (get_or ws i 0) mask
  wanted-word = sym ((λ t. bit_and (sym (word-whole ws i small) t) (e t)) ∙ bits-and (in_set ws) (λ u. ltb u end) (64 * i) 64)

  -- where i is the bound's own word, they are those that the words before it do not have
  pub ones-last : i ≡ end / 64 → length (members_below ws end) ≡ length (members_below ws (64 * i)) + ones (bit_and (get_or ws i 0) mask)
  ones-last here =
      let next = 64 * (i + 1) in
      rw (wanted-high ws end next (omega arith), wanted-low ws end (64 * i) (omega arith))
      at (ones_below (wanted ws end) (64 * i) 64 next (bit_and (get_or ws i 0) mask) (omega arith) wanted-word)

kept_low : (ws : List ℕ) (end : ℕ) (us : List ℕ) → all (λ u. ltb u end) (keep (wanted ws end) us) ≡ true
kept_low ws end us =
    let xs = keep (wanted ws end) us in
    and_right (all (in_set ws) xs) (all (λ u. ltb u end) xs) (sym (all-and (in_set ws) (λ u. ltb u end) xs) ∙ all-kept (wanted ws end) us)

module _ (ws : List ℕ) (end : ℕ) (out₀ : List ℕ) where
  -- at word i
  abbrev pub AtWord : List ℕ → ℕ → ℕ → Type 0
  AtWord out j i = Filling out₀ out j (members_below ws end) (rising (wanted ws end) (limit ws) (64 * i))

  pub at-start : AtWord out₀ 0 0
  at-start = rw (wanted-all ws end) (filling-start out₀ (members_below ws end))

  -- in word i, of which `rest` has the ones that are left
  pub record InWord (out : List ℕ) (j i rest : ℕ) : Type 0 where
    pub small : rest < 2 ^ 64
    pub low : all (λ u. ltb u end) (ones_from (64 * i) 64 rest) ≡ true
    pub filling : Filling out₀ out j (members_below ws end) (ones_from (64 * i) 64 rest ++ rising (wanted ws end) (limit ws) (64 * (i + 1)))

  module _ (out : List ℕ) (j i : ℕ) where
    pub word-start : (mask : ℕ) → i < length ws → get_or ws i 0 < 2 ^ 64 → mask ≡ bits (λ u. ltb u end) (64 * i) 64 → AtWord out j i
        → InWord out j i (bit_and (get_or ws i 0) mask)
    word-start mask here small e h =
        let f = wanted ws end in
        let base = 64 * i in
        let ones : ones_from base 64 (bit_and (get_or ws i 0) mask) ≡ keep f (from base 64) =
        ap (ones_from base 64) (sym (wanted-word ws end i mask small e)) ∙ ones-kept f base 64 in
        let next : base + 64 ≡ 64 * (i + 1) = omega arith in
        let cut : rising f (limit ws) base ≡ keep f (from base 64) ++ rising f (limit ws) (64 * (i + 1)) =
        rw next at (rising-cut f (limit ws) base 64 (omega arith)) in
        record {
          small = omega (arith, and_le_l (get_or ws i 0) mask);
          low = rw ones (kept_low ws end (from base 64));
          filling = rw ones (rw cut at h);
        }

    module _ (rest : ℕ) (h : InWord out j i rest) where
      pub word_end : rest ≡ 0 → AtWord out j (i + 1)
      word_end e = rw (e, ones_none (64 * i) 64) at h.filling

      module _ (some : rest ≡ 0 → ⊥) where
        next : ones_from (64 * i) 64 rest ≡ (64 * i + count_trailing_zeros 64 rest) ∷ ones_from (64 * i) 64 (bit_and rest (rest - 1))
        next = ones-next (64 * i) 64 rest h.small some

        rest-low : (ltb (64 * i + count_trailing_zeros 64 rest) end && all (λ u. ltb u end) (ones_from (64 * i) 64 (bit_and rest (rest - 1)))) ≡ true
        unfolding all
        rest-low = sym (ap (all (λ u. ltb u end)) next) ∙ h.low

        pub one-low : 64 * i + count_trailing_zeros 64 rest < end
        one-low =
            ltb-true (64 * i + count_trailing_zeros 64 rest) end
            (and_left (ltb (64 * i + count_trailing_zeros 64 rest) end) (all (λ u. ltb u end) (ones_from (64 * i) 64 (bit_and rest (rest - 1)))) rest-low)

        pub word_more : j < length out → InWord (set out j (64 * i + count_trailing_zeros 64 rest)) (j + 1) i (bit_and rest (rest - 1))
        word_more l = record {
          small = omega (arith, and_le_l rest (rest - 1), h.small);
          low = and_right (ltb (64 * i + count_trailing_zeros 64 rest) end) (all (λ u. ltb u end) (ones_from (64 * i) 64 (bit_and rest (rest - 1)))) rest-low;
          filling =
              filling-more out₀ out j (members_below ws end) _ h.filling (64 * i + count_trailing_zeros 64 rest) _ l
              (ap (λ (us : List ℕ). us ++ rising (wanted ws end) (limit ws) (64 * (i + 1))) next);
        }
