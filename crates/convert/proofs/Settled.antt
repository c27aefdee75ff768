-- What `Converts` says of an image settles every byte of it: each word, then the trailer; so two such images are one.
use Prim.Native.Nat.{ℕ, zero, suc, ◌+◌, ◌-◌, ◌*◌, ◌/◌, ◌%◌, ◌≤◌, ◌<◌}
use native.Mathlib.Omega.{arith}
use native.Mathlib.Nat.{mod-lt, div-add-mod', div-lt_iff_lt-mul}
use mathlib.Core.Path.{◌≡◌, sym, ap, ap₂, subst, ◌∙◌}
use mathlib.Core.Logic.{⊎_elim}
use mathlib.Core.Bool.{Bool, true}
use mathlib.Core.List.{List, [], ◌∷◌, ◌++◌, map}
use lib.ListN.{length, get_or, set, take, drop, replicate, get_or-replicate, length-set, length-replicate, get_or-append, get_or-eq_default}
use lib.Seq.{get_or-set_same, get_or-set_other, get_or-take, get_or-drop, length-take-le}
use lib.Dec.{eqb, ltb}
use borrow.Author.Tests.{ltb-true, ltb-false, eqb-true, eqb-false}
use Rattle.search.specs.Search.{below}
use Rattle.search.proofs.Bools.{either, cond-true, cond-false}
use Rattle.words.specs.Words.{Bytes, digits, store_at}
use Rattle.words.proofs.Numbers.{drop-number}
use Rattle.layout.specs.declared.Shape.{Shape}
use Rattle.layout.specs.Layout.{X, unit_bytes, is_unit, head, map_words, unit_words, words_of, word_at, put_word, map_word_place, trailer_start, trailer_of, link_of, shape_of, fresh}
use Rattle.layout.specs.Shaped.{word_count, map_of}
use Rattle.layout.proofs.Limits.{absent-no-unit, map-words}
use Rattle.layout.proofs.Heads.{in_head, past_head}
use Rattle.image.specs.Soundness.{mapped, units_of, leading, Named, Sound}
use Rattle.image.specs.Free.{free_map}
use Rattle.image.proofs.Leading.{form-leading}
use Rattle.image.proofs.Chunks.{length-unit_words, get_or-unit_words, units-named}
use Rattle.image.proofs.Room.{free_map-intro}
use Rattle.image.proofs.Fresh.{sound-fresh}
use Rattle.image.proofs.Wording.{sound-shape}
use Rattle.convert.specs.Convert.{second_of, second_word, put_words, put_map, copied, copied_below, converted}
use Rattle.convert.specs.Reading.{Converts}
use Rattle.convert.proofs.Second.{map-length, map-word, unit-here}

-- ---- two lists of bytes with the same words up to word e, and the same bytes from there on

module _ (s t : List ℕ) (bs : Bytes s) (bt : Bytes t) (e : ℕ) (hs : 8 * e ≤ length s) (ht : 8 * e ≤ length t)
    (same : (i : ℕ) → i < e → word_at s i ≡ word_at t i) (tail : drop (8 * e) s ≡ drop (8 * e) t) where
  from-word : (n q : ℕ) → q + n ≡ e → drop (8 * q) s ≡ drop (8 * q) t
  from-word zero q h = let z : e ≡ q = omega arith in subst (λ (k : ℕ). drop (8 * k) s ≡ drop (8 * k) t) z tail
  from-word (suc n) q h =
      let next : 8 * suc q ≡ 8 * q + 8 = omega arith in
      let rest : drop (8 * q + 8) s ≡ drop (8 * q + 8) t =
      subst (λ (k : ℕ). drop k s ≡ drop k t) next (from-word n (suc q) (omega arith)) in
      drop-number 8 s (8 * q) bs (omega arith)
      ∙ ap₂ (λ (v : ℕ) (r : List ℕ). digits 8 v ++ r) (same q (omega arith)) rest
      ∙ sym (drop-number 8 t (8 * q) bt (omega arith))

  all_words : s ≡ t
  all_words = from-word e 0 (omega arith)

-- ---- the words of a named map

-- those that may name units, in a sound image: the chunk's units, then X
unit-word : (g : Shape) (t : List ℕ) → Sound g t → (i a : ℕ) → i < g.c → Named t i → a < g.p
    → word_at t (map_word_place g (link_of t i) (head g + a)) ≡ get_or (units_of t i) a X
unit-word g t z i a b n l =
    let ws = unit_words g (words_of g t (link_of t i)) in
    let f = z.forms i b n in
    let held : units_of t i ≡ take f.0 ws =
    units-named t i n
    ∙ ap (λ (h : Shape). leading (is_unit h) (unit_words h (words_of h t (link_of t i)))) (sound-shape g t z)
    ∙ form-leading (is_unit g) f.0 ws (absent-no-unit g z.limits) f.1.units in
    let many : length (units_of t i) ≡ f.0 = ap length held ∙ length-take-le f.0 ws f.1.units.high in
    sym (get_or-unit_words g t (link_of t i) a l)
    ∙ ⊎_elim
    (λ q. let k = ltb-true a f.0 q in
    sym (unit-here (units_of t i) a (omega arith) ∙ ap (λ (us : List ℕ). get_or us a 0) held ∙ get_or-take f.0 ws a 0 k))
    (λ q. let k = ltb-false a f.0 q in
    f.1.units.rest a k (omega (arith, length-unit_words g t (link_of t i))) ∙ sym (get_or-eq_default (units_of t i) X (omega arith)))
    (either (ltb a f.0))

module _ (s : List ℕ) where
  abbrev g : Shape
  g = second_of (shape_of s)

  -- ---- what `Converts` says of a word

  module _ (t : List ℕ) (h : Converts s t) where
    shape-now : shape_of t ≡ g
    shape-now = sound-shape g t h.sound

    -- of a map that no chunk names
    dead-word : (k a : ℕ) → free_map s k ≡ true → a < map_words g → word_at t (map_word_place g k a) ≡ X
    dead-word k a f l =
        sym (map-word g t shape-now k a l)
        ∙ h.dead k a (ap (λ (d : ℕ → Bool). d k) h.free-maps ∙ f) (omega (arith, map-length g t shape-now k))

    -- and of the map that chunk i names
    named-word : (i a : ℕ) → i < g.c → Named s i → a < map_words g → word_at t (map_word_place g (link_of s i) a) ≡ second_word (units_of s i) a
    named-word i a b n l =
        let e = h.entries i b in
        let m : Named t i = λ x. n (sym e ∙ x) in
        let us = units_of s i in
        ap (λ (k : ℕ). word_at t (map_word_place g k a)) (sym e)
        ∙ ⊎_elim
        (λ q. let y = ltb-true a 1 q in
        let z : a ≡ 0 = omega arith in
        sym (map-word g t shape-now (link_of t i) a l)
        ∙ ap (λ (j : ℕ). get_or (map_of t (link_of t i)) j 0) z
        ∙ h.sizes i b m
        ∙ ap (λ (vs : List ℕ). length vs * unit_bytes) (h.units i b)
        ∙ sym (in_head 1 (length us * unit_bytes) (λ j. get_or us j X) a y))
        (λ q. let y = ltb-false a 1 q in
        let z : a ≡ head g + (a - 1) = omega arith in
        ap (λ (j : ℕ). word_at t (map_word_place g (link_of t i) j)) z
        ∙ unit-word g t h.sound i (a - 1) b m (omega (arith, map-words g))
        ∙ ap (λ (vs : List ℕ). get_or vs (a - 1) X) (h.units i b)
        ∙ sym (past_head 1 (length us * unit_bytes) (λ j. get_or us j X) a y))
        (either (ltb a 1))

  -- ---- two images that it says of s

  module _ (t t' : List ℕ) (h : Converts s t) (h' : Converts s t') where
    same_map : (k a : ℕ) → k < g.m → a < map_words g → word_at t (map_word_place g k a) ≡ word_at t' (map_word_place g k a)
    same_map k a l q =
        let w = word_at t (map_word_place g k a) in
        let w' = word_at t' (map_word_place g k a) in
        ⊎_elim (λ y. eqb-true w w' y)
        (λ y. let n = eqb-false w w' y in
        let free = free_map-intro s k l (λ i b e. n (named i b e)) in
        absurd (n (dead-word t h k a free q ∙ sym (dead-word t' h' k a free q))))
        (either (eqb w w'))
      where
        named : (i : ℕ) → i < g.c → link_of s i ≡ k → word_at t (map_word_place g k a) ≡ word_at t' (map_word_place g k a)
        named i b e =
            let n : Named s i = λ x. omega (arith, l, h.sound.limits.m-high, h.sound.limits.c-high) in
            subst (λ (j : ℕ). word_at t (map_word_place g j a) ≡ word_at t' (map_word_place g j a)) e
            (named-word t h i a b n q ∙ sym (named-word t' h' i a b n q))

    same_word : (i : ℕ) → i < word_count g → word_at t i ≡ word_at t' i
    same_word i l =
        ⊎_elim (λ q. let b = ltb-true i g.c q in h.entries i b ∙ sym (h'.entries i b))
        (λ q. let b = ltb-false i g.c q in
        let j : ℕ = i - g.c in
        let some : 0 < map_words g = omega (arith, map-words g) in
        let k : ℕ = j / map_words g in
        let a : ℕ = j % map_words g in
        let z : map_word_place g k a ≡ i = let d = div-add-mod' j (map_words g) in omega arith in
        subst (λ (p : ℕ). word_at t p ≡ word_at t' p) z (same_map k a ((div-lt_iff_lt-mul some).1 (omega arith)) (mod-lt j some)))
        (either (ltb i g.c))

    pub settled : Bytes t → Bytes t' → t ≡ t'
    settled b b' =
        let n = h.sound.size in
        let n' = h'.sound.size in
        let e : 8 * word_count g ≡ trailer_start g = omega arith in
        all_words t t' b b' (word_count g) (omega arith) (omega arith) same_word
        (subst (λ (k : ℕ). drop k t ≡ drop k t') (sym e) (h.sound.trailer ∙ sym h'.sound.trailer))

-- ---- the converted image is bytes

bytes-set : (l : List ℕ) (i v : ℕ) → Bytes l → v < 256 → Bytes (set l i v)
bytes-set l i v b h k p =
    let n = length-set l i v in
    let q : k < length l = omega arith in
    ⊎_elim
    (λ y. let e = eqb-true k i y in
    let d : get_or (set l i v) k 0 ≡ v = subst (λ (j : ℕ). get_or (set l i v) j 0 ≡ v) (sym e) (get_or-set_same l i v 0 (omega arith)) in
    omega arith)
    (λ y. let d = get_or-set_other l i k v 0 (eqb-false k i y) in omega (arith, b k q))
    (either (eqb k i))

bytes-store : (w : ℕ) (l : List ℕ) (i v : ℕ) → Bytes l → Bytes (store_at w l i v)
unfolding digits
bytes-store zero l i v b = b
bytes-store (suc w) l i v b = bytes-store w (set l i (v % 256)) (suc i) (v / 256) (bytes-set l i (v % 256) b (omega arith))

bytes-puts : (ws t : List ℕ) (q : ℕ) → Bytes t → Bytes (put_words t q ws)
unfolding put_words
bytes-puts [] t q b = b
bytes-puts (w ∷ ws) t q b = bytes-puts ws (put_word t q w) (suc q) (bytes-store 8 t (8 * q) w b)

-- a fresh image is, where the trailer is
bytes-fresh : (g : Shape) (t : List ℕ) → Sound g t → Bytes t → Bytes (fresh g)
unfolding fresh
bytes-fresh g t z b k p =
    let n = trailer_start g in
    let f = sound-fresh g z.limits in
    ⊎_elim
    (λ q. let l = ltb-true k n q in
    let e = get_or-append (replicate n 255) (trailer_of g) 0 k (omega (arith, length-replicate {A = ℕ} n 255)) ∙ get_or-replicate n k 255 0 l in
    omega arith)
    (λ q. let l = ltb-false k n q in
    let j : n + (k - n) ≡ k = omega arith in
    let e : get_or (fresh g) k 0 ≡ get_or t k 0 =
    ap (λ (a : ℕ). get_or (fresh g) a 0) (sym j)
    ∙ sym (get_or-drop n (fresh g) (k - n) 0)
    ∙ ap (λ (r : List ℕ). get_or r (k - n) 0) (f.trailer ∙ sym z.trailer)
    ∙ get_or-drop n t (k - n) 0
    ∙ ap (λ (a : ℕ). get_or t a 0) j in
    omega (arith, b k (omega (arith, f.size, z.size))))
    (either (ltb k n))

bytes-copied : (s : List ℕ) → Bytes (fresh (second_of (shape_of s))) → (j : ℕ) → Bytes (copied_below s j)
unfolding copied_below copied put_map
bytes-copied s b zero = b
bytes-copied s b (suc j) =
    let r = bytes-copied s b j in
    let k = link_of s j in
    let g = second_of (shape_of s) in
    let ws : List ℕ = map (second_word (units_of s j)) (below (map_words g)) in
    let t : List ℕ = put_words (copied_below s j) (map_word_place g k 0) ws in
    ⊎_elim (λ m. subst Bytes (sym (cond-true (mapped s j) _ _ m)) (bytes-store 8 t (8 * j) k (bytes-puts ws (copied_below s j) (map_word_place g k 0) r)))
    (λ m. subst Bytes (sym (cond-false (mapped s j) _ _ m)) r)
    (either (mapped s j))

pub bytes-converted : (s t : List ℕ) → Converts s t → Bytes t → Bytes (converted s)
unfolding converted
bytes-converted s t h b = bytes-copied s (bytes-fresh (second_of (shape_of s)) t h.sound b) (shape_of s).c
