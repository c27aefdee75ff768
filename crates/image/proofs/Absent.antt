-- Runs of words that are X: the bits that two words have in common, one word more, and runs that cover the rest of a map.
use Prim.Native.Nat.{ℕ, ◌+◌, ◌-◌, ◌≤◌, ◌<◌}
use mathlib.Core.Path.{◌≡◌, ap, sym, ◌∙◌}
use mathlib.Core.Bool.{true}
use mathlib.Core.List.{List}
use mathlib.Core.Logic.{⊎_elim}
use native.Mathlib.Omega.{arith}
use lib.Bits.{bit_and, and_le_l, and_le_r, and_self}
use lib.ListN.{length, get_or, take, drop, length-take, length-drop}
use lib.Seq.{get_or-take, get_or-drop}
use lib.Dec.{eqb}
use borrow.Author.Tests.{eq-eqb, eqb-true, eqb-false}
use Rattle.search.specs.Search.{all}
use Rattle.search.proofs.Bools.{either, less-or-not, same}
use Rattle.search.proofs.Members.{all-at, all-intro, member-get_or, member-place}
use Rattle.layout.specs.Layout.{X}

-- ---- two words have all bits in common exactly where both are X

module _ (a b : ℕ) (la : a ≤ X) (lb : b ≤ X) where
  common-left : bit_and a b ≡ X → a ≡ X
  common-left e = omega (arith, and_le_l a b)

  common-right : bit_and a b ≡ X → b ≡ X
  common-right e = omega (arith, and_le_r a b)

common-all : (a b : ℕ) → a ≡ X → b ≡ X → bit_and a b ≡ X
common-all a b ea eb = rw (ea, eb) (and_self X)

-- and four words
module _ (a b c d : ℕ) (la : a ≤ X) (lb : b ≤ X) (lc : c ≤ X) (ld : d ≤ X) where
  common-four : bit_and (bit_and a b) (bit_and c d) ≡ X → (a ≡ X) × (b ≡ X) × (c ≡ X) × (d ≡ X)
  common-four e =
      let l : bit_and a b ≤ X = omega (arith, and_le_l a b) in
      let h : bit_and c d ≤ X = omega (arith, and_le_l c d) in
      let p = common-left (bit_and a b) (bit_and c d) l h e in
      let q = common-right (bit_and a b) (bit_and c d) l h e in
      (common-left a b la lb p, common-right a b la lb p, common-left c d lc ld q, common-right c d lc ld q)

  four-common : a ≡ X → b ≡ X → c ≡ X → d ≡ X → bit_and (bit_and a b) (bit_and c d) ≡ X
  four-common ea eb ec ed = common-all (bit_and a b) (bit_and c d) (common-all a b ea eb) (common-all c d ec ed)

-- ---- runs

-- n words from word j on are X
abbrev AbsentRun : List ℕ → ℕ → ℕ → Type 0
AbsentRun ws j n = (i : ℕ) → j ≤ i → i < j + n → get_or ws i 0 ≡ X

module _ (ws : List ℕ) where
  run-four : (j : ℕ) → get_or ws j 0 ≡ X → get_or ws (j + 1) 0 ≡ X → get_or ws (j + 2) 0 ≡ X → get_or ws (j + 3) 0 ≡ X → AbsentRun ws j 4
  run-four j e₀ e₁ e₂ e₃ i l h =
      ⊎_elim (λ q. at j (eqb-true i j q) e₀)
      (λ n₀. ⊎_elim (λ q. at (j + 1) (eqb-true i (j + 1) q) e₁)
      (λ n₁. ⊎_elim (λ q. at (j + 2) (eqb-true i (j + 2) q) e₂)
      (λ n₂. at (j + 3) (omega (arith, eqb-false i j n₀, eqb-false i (j + 1) n₁, eqb-false i (j + 2) n₂)) e₃)
      (either (eqb i (j + 2)))) (either (eqb i (j + 1)))) (either (eqb i j))
    where
      at : (y : ℕ) → i ≡ y → get_or ws y 0 ≡ X → get_or ws i 0 ≡ X
      at y q e = ap (λ (z : ℕ). get_or ws z 0) q ∙ e

  -- two runs that meet or overlap
  run_join : (j n k m : ℕ) → k ≤ j + n → AbsentRun ws j n → AbsentRun ws k m → AbsentRun ws j (k + m - j)
  run_join j n k m c a b i l h =
      ⊎_elim (λ q. a i l q) (λ q. b i (omega arith) (omega arith)) (less-or-not i (j + n))

  -- word i, among the words from j on
  rest-word : (j i : ℕ) → j ≤ i → get_or (drop j ws) (i - j) 0 ≡ get_or ws i 0
  rest-word j i l = let e : j + (i - j) ≡ i = omega arith in get_or-drop j ws (i - j) 0 ∙ ap (λ (y : ℕ). get_or ws y 0) e

  -- the words of a run, as a part of the list
  run-all : (j n : ℕ) → AbsentRun ws j n → all (eqb X) (take n (drop j ws)) ≡ true
  run-all j n r = all-intro (eqb X) (take n (drop j ws)) (λ u m.
      let p = member-place u (take n (drop j ws)) m in
      let l = length-take n (drop j ws) in
      let i = p.0 in
      let h = p.1 in
      let low : i < n = omega arith in
      eq-eqb X u (sym (r (j + i) (omega arith) (omega arith)) ∙ sym (get_or-take n (drop j ws) i 0 low ∙ get_or-drop j ws i 0) ∙ p.2))

  all-run : (j n : ℕ) → j + n ≤ length ws → all (eqb X) (take n (drop j ws)) ≡ true → AbsentRun ws j n
  all-run j n l e i a b =
      let d = length-drop j ws in
      let t = length-take n (drop j ws) in
      let low : i - j < n = omega arith in
      let w = get_or (take n (drop j ws)) (i - j) 0 in
      let m = member-get_or (take n (drop j ws)) (i - j) (omega arith) in
      sym (get_or-take n (drop j ws) (i - j) 0 low ∙ rest-word j i a) ∙ sym (eqb-true X w (all-at (eqb X) (take n (drop j ws)) e w m))

  -- the rest of the words
  run-rest : (j n : ℕ) → length ws ≤ j + n → AbsentRun ws j n → all (eqb X) (drop j ws) ≡ true
  run-rest j n e r = all-intro (eqb X) (drop j ws) (λ u m.
      let p = member-place u (drop j ws) m in
      let l = length-drop j ws in
      let i = p.0 in
      let h = p.1 in
      eq-eqb X u (sym (r (j + i) (omega arith) (omega arith)) ∙ sym (get_or-drop j ws i 0) ∙ p.2))

  rest-run : (j : ℕ) → all (eqb X) (drop j ws) ≡ true → (k n : ℕ) → j ≤ k → k + n ≤ length ws → AbsentRun ws k n
  rest-run j e k n l t i a b =
      let d = length-drop j ws in
      let w = get_or (drop j ws) (i - j) 0 in
      let m = member-get_or (drop j ws) (i - j) (omega arith) in
      sym (rest-word j i (omega arith)) ∙ sym (eqb-true X w (all-at (eqb X) (drop j ws) e w m))

-- ---- what `common_bits` answers: X exactly of a run of four

-- r is X exactly where the four words from j on are
abbrev Common : List ℕ → ℕ → ℕ → Type 0
Common ws j r = eqb r X ≡ all (eqb X) (take 4 (drop j ws))

module _ (ws : List ℕ) (j r : ℕ) (l : j + 4 ≤ length ws) where
  common : (r ≡ X → AbsentRun ws j 4) → (AbsentRun ws j 4 → r ≡ X) → Common ws j r
  common f g = same (eqb r X) (all (eqb X) (take 4 (drop j ws))) (λ e. run-all ws j 4 (f (eqb-true r X e))) (λ e. eq-eqb r X (g (all-run ws j 4 l e)))

  common-run : Common ws j r → r ≡ X → AbsentRun ws j 4
  common-run c e = all-run ws j 4 l (sym c ∙ eq-eqb r X e)

  run-common : Common ws j r → AbsentRun ws j 4 → r ≡ X
  run-common c a = eqb-true r X (c ∙ run-all ws j 4 a)

pub four-words : (ws : List ℕ) (j : ℕ) → j + 4 ≤ length ws → (a b c d : ℕ) → a ≤ X → b ≤ X → c ≤ X → d ≤ X
    → a ≡ get_or ws j 0 → b ≡ get_or ws (j + 1) 0 → c ≡ get_or ws (j + 2) 0 → d ≡ get_or ws (j + 3) 0 → Common ws j (bit_and (bit_and a b) (bit_and c d))
four-words ws j l a b c d la lb lc ld ea eb ec ed = common ws j _ l
    (λ e. let x = common-four a b c d la lb lc ld e in run-four ws j (sym ea ∙ x.0) (sym eb ∙ x.1) (sym ec ∙ x.2) (sym ed ∙ x.3))
    (λ r. four-common a b c d la lb lc ld (ea ∙ r j (omega arith) (omega arith)) (eb ∙ r (j + 1) (omega arith) (omega arith))
    (ec ∙ r (j + 2) (omega arith) (omega arith)) (ed ∙ r (j + 3) (omega arith) (omega arith)))

-- ---- what `rest_absent` makes of it: runs at both ends that leave no word out

module _ (ws : List ℕ) (start p : ℕ) (e : length ws ≡ p) where
  pub rest-of-four : (a b : ℕ) → a ≤ X → b ≤ X → start + 4 ≤ p → p ≤ start + 8 → Common ws start a → Common ws (p - 4) b
      → eqb (bit_and a b) X ≡ all (eqb X) (drop start ws)
  rest-of-four a b la lb low high ca cb = same (eqb (bit_and a b) X) (all (eqb X) (drop start ws))
      (λ t. let x = eqb-true (bit_and a b) X t in
      run-rest ws start (p - 4 + 4 - start) (omega arith)
      (run_join ws start 4 (p - 4) 4 (omega arith) (common-run ws start a (omega arith) ca (common-left a b la lb x))
      (common-run ws (p - 4) b (omega arith) cb (common-right a b la lb x))))
      (λ t. eq-eqb (bit_and a b) X (common-all a b
      (run-common ws start a (omega arith) ca (rest-run ws start t start 4 (omega arith) (omega arith)))
      (run-common ws (p - 4) b (omega arith) cb (rest-run ws start t (p - 4) 4 (omega arith) (omega arith)))))

  pub rest-of-eight : (a b c d : ℕ) → a ≤ X → b ≤ X → c ≤ X → d ≤ X → start + 8 ≤ p → p ≤ start + 16
      → Common ws start a → Common ws (start + 4) b → Common ws (p - 8) c → Common ws (p - 4) d
      → eqb (bit_and (bit_and a b) (bit_and c d)) X ≡ all (eqb X) (drop start ws)
  rest-of-eight a b c d la lb lc ld low high ca cb cc cd = same (eqb (bit_and (bit_and a b) (bit_and c d)) X) (all (eqb X) (drop start ws))
      (λ t.
      let x = common-four a b c d la lb lc ld (eqb-true (bit_and (bit_and a b) (bit_and c d)) X t) in
      let first = run_join ws start 4 (start + 4) 4 (omega arith)
      (common-run ws start a (omega arith) ca x.0) (common-run ws (start + 4) b (omega arith) cb x.1) in
      let last = run_join ws (p - 8) 4 (p - 4) 4 (omega arith)
      (common-run ws (p - 8) c (omega arith) cc x.2) (common-run ws (p - 4) d (omega arith) cd x.3) in
      run-rest ws start (p - 8 + (p - 4 + 4 - (p - 8)) - start) (omega arith)
      (run_join ws start (start + 4 + 4 - start) (p - 8) (p - 4 + 4 - (p - 8)) (omega arith) first last))
      (λ t. eq-eqb (bit_and (bit_and a b) (bit_and c d)) X (four-common a b c d la lb lc ld
      (run-common ws start a (omega arith) ca (rest-run ws start t start 4 (omega arith) (omega arith)))
      (run-common ws (start + 4) b (omega arith) cb (rest-run ws start t (start + 4) 4 (omega arith) (omega arith)))
      (run-common ws (p - 8) c (omega arith) cc (rest-run ws start t (p - 8) 4 (omega arith) (omega arith)))
      (run-common ws (p - 4) d (omega arith) cd (rest-run ws start t (p - 4) 4 (omega arith) (omega arith)))))
