-- `bitset::count_below` meets its contract: the words before that of n, and what the mask leaves of it, or all words where n has none.
use Prim.Native.Nat.{◌+◌, ◌/◌, ◌^◌, ◌≤◌, ◌<◌}
use mathlib.Core.Path.{◌≡◌, ap, sym, ◌∙◌}
use native.Mathlib.Omega.{arith}
use lib.Bits.{bit_and, and_le_l}
use lib.Count.{ones, ones-le}
use lib.ListN.{length, get_or}
use Rattle.bitset.specs.Bits.{members_below}
use Rattle.bitset.proofs.Members.{members-past, members-few}
use Rattle.bitset.proofs.Taking.{ones-last}
use Rattle.bitset.proofs.count_below.Goals as goal
use Rattle.bitset.proofs.count_below.Goals.{After-count, After-count_words}

-- n has no word
all : (c : After-count) → c.count.result ≡ length (members_below c.args.set.now c.args.n)
all c =
    let a = c.args in
    c.count.ensures ∙ ap length (sym (members-past a.set.now a.n (omega arith)))

pub overflow_cast-result : goal.overflow_cast-result
overflow_cast-result c = let a = c.args in omega (arith, all (goal.at.overflow_cast-result c).After-count, members-few a.set.now a.n)

pub returns-then-set-last : goal.returns-then-set-last
returns-then-set-last c = all (goal.at.returns-then-set-last c).After-count

-- n has a word: it has 64 bits, what the mask leaves of it has as many at the most, and the count is whole
small : (c : After-count_words) → get_or c.args.set.now (c.args.n / 64) 0 < 2 ^ 64
small c = omega (arith, c.shared_slice_known-2-1.given (c.args.n / 64))

few : (c : After-count_words) → ones (bit_and (get_or c.args.set.now (c.args.n / 64) 0) c.word_below.result) ≤ 64
few c =
    let a = c.args in
    ones-le 64 _ (omega (arith, small c, and_le_l (get_or a.set.now (a.n / 64) 0) c.word_below.result))

whole : (c : After-count_words)
    → c.count_words.result + ones (bit_and (get_or c.args.set.now (c.args.n / 64) 0) c.word_below.result)
    ≡ length (members_below c.args.set.now c.args.n)
whole c =
    let a = c.args in
    let last = ones-last a.set.now a.n (a.n / 64) c.word_below.result (small c) c.word_below.ensures (omega arith) in
    omega (arith, c.count_words.ensures, last)

pub overflow_cast-result-2 : goal.overflow_cast-result-2
overflow_cast-result-2 c = omega (arith, few (goal.at.overflow_cast-result-2 c).After-count_words)

pub overflow_add-result : goal.overflow_add-result
overflow_add-result c =
    let w = whole (goal.at.overflow_add-result c).After-count_words in
    omega (arith, w, members-few c.args.set.now c.args.n)

pub overflow_cast-result-3 : goal.overflow_cast-result-3
overflow_cast-result-3 c =
    let w = whole (goal.at.overflow_cast-result-3 c).After-count_words in
    omega (arith, w, members-few c.args.set.now c.args.n)

pub returns : goal.returns
returns c = whole (goal.at.returns c).After-count_words
