-- How the units of a map go into a set, or out of it, one after the other.
use Prim.Native.Nat.{ℕ, suc, ◌+◌, ◌≤◌, ◌<◌}
use native.Mathlib.Omega.{arith}
use native.Mathlib.Numerals.{add-one}
use mathlib.Core.Path.{◌≡◌, refl, sym, ap, ap₂, subst, ◌∙◌}
use mathlib.Core.Bool.{Bool, true, false, not, ◌||◌, ◌&&◌, or_assoc}
use mathlib.Core.List.{List, [], ◌∷◌, ◌++◌}
use lib.ListN.{length, get_or, take, drop, drop_of_length-le}
use lib.Seq.{drop-cons, drop-drop, take_at, drop_at, length-take-le}
use borrow.Rule.Slice.PartMut.{put_mid}
use lib.Dec.{eqb}
use Rattle.std.specs.List.{FoldsTo}
use Rattle.search.specs.Search.{member, any}
use Rattle.search.specs.Sets.{put, with_all, without}
use Rattle.search.proofs.Taken.{put-in, without-none, without-cons, with_all-none}
use Rattle.bitset.specs.Bits.{bit_set, in_set, inserted, removed}
use Rattle.bitset.proofs.BitSets.{length-bit_set, bit_set-ext, in-bit_set}
use Rattle.layout.specs.declared.Shape.{Shape}
use Rattle.layout.specs.Layout.{is_unit, shape_of}
use Rattle.layout.specs.Shaped.{Shaped, unit_words_of}
use Rattle.image.specs.Soundness.{leading}
use Rattle.image.proofs.Leading.{leading-true, leading-false}
use Rattle.image.proofs.MapWords.{unit-test, length-units_in}
use Rattle.image.specs.Loading.{unit_set_words, map_set_words}
use Rattle.renewal.specs.Renewal.{set_words, units_in, maps_in, held_by, put_in, taken_out, renewed_units, renewed_maps, renewed_sets}
use Rattle.renewal.proofs.NextSets.{held-map, held_none}

-- ---- words that are a set

-- words of 64 bits, and nothing else, are such
abbrev pub IsSet : List ℕ → Type 0
IsSet ws = ws ≡ bit_set (in_set ws) (length ws)

made-set : (f : ℕ → Bool) (n : ℕ) → IsSet (bit_set f n)
made-set f n = bit_set-ext f (in_set (bit_set f n)) n (λ y l. sym (in-bit_set f n y l)) ∙ ap (bit_set (in_set (bit_set f n))) (sym (length-bit_set f n))

-- ---- one number, and the rest of a list

with_all-cons : (f : ℕ → Bool) (x : ℕ) (xs : List ℕ) (y : ℕ) → with_all (put f x true) xs y ≡ with_all f (x ∷ xs) y
unfolding with_all member any
with_all-cons f x xs y = ap (λ (b : Bool). b || member y xs) (put-in f x y) ∙ or_assoc (f y) (eqb y x) (member y xs)

put-cons : (ws : List ℕ) (u : ℕ) (us : List ℕ) → put_in ws (u ∷ us) ≡ put_in (inserted ws u) us
unfolding put_in inserted with_all
put-cons ws u us =
    let n = length ws in
    let f = put (in_set ws) u true in
    sym (ap (bit_set (with_all (in_set (bit_set f n)) us)) (length-bit_set f n)
    ∙ bit_set-ext (with_all (in_set (bit_set f n)) us) (with_all (in_set ws) (u ∷ us)) n
    (λ y l. ap (λ (b : Bool). b || member y us) (in-bit_set f n y l) ∙ with_all-cons (in_set ws) u us y))

taken-cons : (ws : List ℕ) (u : ℕ) (us : List ℕ) → taken_out ws (u ∷ us) ≡ taken_out (removed ws u) us
unfolding taken_out removed without
taken-cons ws u us =
    let n = length ws in
    let f = put (in_set ws) u false in
    sym (ap (bit_set (without (in_set (bit_set f n)) us)) (length-bit_set f n)
    ∙ bit_set-ext (without (in_set (bit_set f n)) us) (without (in_set ws) (u ∷ us)) n
    (λ y l. ap (λ (b : Bool). b && not (member y us)) (in-bit_set f n y l) ∙ without-cons (in_set ws) u us y))

put-none : (ws : List ℕ) → IsSet ws → put_in ws [] ≡ ws
unfolding put_in
put-none ws e = bit_set-ext (with_all (in_set ws) []) (in_set ws) (length ws) (λ y l. sym (with_all-none (in_set ws) y)) ∙ sym e

taken_none : (ws : List ℕ) → IsSet ws → taken_out ws [] ≡ ws
unfolding taken_out
taken_none ws e = bit_set-ext (without (in_set ws) []) (in_set ws) (length ws) (λ y l. sym (without-none (in_set ws) y)) ∙ sym e

-- how a list of numbers changes a set: `all` of them is `one` after the other
record Change (all : List ℕ → List ℕ → List ℕ) (one : List ℕ → ℕ → List ℕ) : Type 0 where
  none : (ws : List ℕ) → IsSet ws → all ws [] ≡ ws
  cons : (ws : List ℕ) (u : ℕ) (us : List ℕ) → all ws (u ∷ us) ≡ all (one ws u) us
  made : (ws : List ℕ) (u : ℕ) → IsSet (one ws u)

putting : Change put_in inserted
unfolding inserted
putting = record { none = put-none; cons = put-cons; made = λ ws u. made-set (put (in_set ws) u true) (length ws) }

taking : Change taken_out removed
unfolding removed
taking = record { none = taken_none; cons = taken-cons; made = λ ws u. made-set (put (in_set ws) u false) (length ws) }

module _ (R : List ℕ → ℕ → List ℕ → Type 0) where
  module _ (all : List ℕ → List ℕ → List ℕ) (one : List ℕ → ℕ → List ℕ) (h : Change all one) (q : (ws : List ℕ) (u : ℕ) (vs : List ℕ) → R ws u vs → vs ≡ one ws u) where
    changed : (us ws vs : List ℕ) → IsSet ws → FoldsTo R ws us vs → vs ≡ all ws us
    changed [] ws vs e f = sym f ∙ sym (h.none ws e)
    changed (u ∷ us) ws vs e f =
        let one_more = q ws u f.0 f.1 in
        changed us f.0 vs (subst IsSet (sym one_more) (h.made ws u)) f.2 ∙ ap (λ (x : List ℕ). all x us) one_more ∙ sym (h.cons ws u us)

  -- a call puts its number in, or takes it out: so do the calls at each of a list
  pub all_put : ((ws : List ℕ) (u : ℕ) (vs : List ℕ) → R ws u vs → vs ≡ inserted ws u) → (us ws vs : List ℕ) → IsSet ws → FoldsTo R ws us vs → vs ≡ put_in ws us
  all_put = changed put_in inserted putting

  pub all_taken : ((ws : List ℕ) (u : ℕ) (vs : List ℕ) → R ws u vs → vs ≡ removed ws u) → (us ws vs : List ℕ) → IsSet ws → FoldsTo R ws us vs → vs ≡ taken_out ws us
  all_taken = changed taken_out removed taking

-- ---- the units of map k, word after word

-- The first j words of map k were units, and the calls at them made ws of ws₀: what the calls at the rest make of ws, those at all units make of ws₀.
pub record Walked (R : List ℕ → ℕ → List ℕ → Type 0) (s : List ℕ) (k : ℕ) (ws₀ : List ℕ) (j : ℕ) (ws : List ℕ) : Type 0 where
  pub rest : (last : List ℕ) → FoldsTo R ws (leading (is_unit (shape_of s)) (drop j (unit_words_of s k))) last → FoldsTo R ws₀ (held_by s k) last

module _ (R : List ℕ → ℕ → List ℕ → Type 0) (s : List ℕ) (g : Shape) (z : Shaped s g) (k : ℕ) (ws₀ : List ℕ) where
  abbrev f : ℕ → Bool
  f = is_unit (shape_of s)

  abbrev words : List ℕ
  words = unit_words_of s k

  abbrev Folds : List ℕ → List ℕ → List ℕ → Type 0
  Folds ws us last = FoldsTo R ws us last

  -- no map's number
  pub walked_none : g.m ≤ k → FoldsTo R ws₀ (held_by s k) ws₀
  walked_none l = subst (λ us. Folds ws₀ us ws₀) (sym (held_none s k (subst (λ (q : Shape). q.m ≤ k) z.same l))) refl

  pub walked_start : k < g.m → Walked R s k ws₀ 0 ws₀
  walked_start l = record { rest = λ last. subst (λ us. Folds ws₀ us last) (sym (held-map s k (subst (λ (q : Shape). k < q.m) z.same l))) }

  module _ (j : ℕ) (ws : List ℕ) (w : Walked R s k ws₀ j ws) where
    -- nothing is left
    done : leading f (drop j words) ≡ [] → FoldsTo R ws₀ (held_by s k) ws
    done e = w.rest ws (subst (λ us. Folds ws us ws) (sym e) refl)

    pub walked_end : g.p ≤ j → FoldsTo R ws₀ (held_by s k) ws
    unfolding leading
    walked_end b = done (ap (leading f) (drop_of_length-le words (subst (λ (q : ℕ). q ≤ j) (sym (length-units_in s g k z)) b)))

    module _ (b : j < g.p) (u : ℕ) (q : u ≡ get_or (unit_words_of s k) j 0) (t : Bool) (r : t ≡ is_unit g u) where
      inside : j < length words
      inside = subst (λ (q : ℕ). j < q) (sym (length-units_in s g k z)) b

      pub walked_stop : t ≡ false → FoldsTo R ws₀ (held_by s k) ws
      walked_stop e =
          done
          (ap (leading f) (drop-cons words j 0 inside) ∙ leading-false f (get_or words j 0) (drop (suc j) words) (unit-test s g k j u t z q r ∙ e))

      pub walked_more : t ≡ true → (vs : List ℕ) → R ws u vs → Walked R s k ws₀ (j + 1) vs
      walked_more e vs c = record {
        rest = λ last p.
            w.rest last
            (subst (λ us. Folds ws us last)
            (sym
            (ap (leading f) (drop-cons words j 0 inside) ∙ leading-true f (get_or words j 0) (drop (suc j) words) (unit-test s g k j u t z q r ∙ e)
            ∙ ap₂ (λ (x i : ℕ). x ∷ leading f (drop i words)) (sym q) (sym (add-one j))))
            (vs, c, p));
      }

-- ---- both sets, in one run of words

length-units : (ws t : List ℕ) (old new : ℕ) → length (renewed_units ws t old new) ≡ length ws
unfolding taken_out put_in
length-units ws t old new =
    length-bit_set (without (in_set (put_in ws (held_by t old))) (held_by t new)) (length (put_in ws (held_by t old)))
    ∙ length-bit_set (with_all (in_set ws) (held_by t old)) (length ws)

-- the units were renewed in the first words, and then the maps in those after them
pub renewed : (sets t us ms : List ℕ) (old new : ℕ) → set_words ≤ length sets → us ≡ renewed_units (units_in sets) t old new
    → ms ≡ renewed_maps (maps_in (us ++ drop unit_set_words sets)) old new
    → put_mid unit_set_words map_set_words (us ++ drop unit_set_words sets) ms ≡ renewed_sets sets t old new
unfolding renewed_sets
renewed sets t us ms old new l e q =
    let n : length us ≡ unit_set_words = ap length e ∙ length-units (units_in sets) t old new ∙ length-take-le unit_set_words sets (omega arith) in
    let rest : drop unit_set_words (us ++ drop unit_set_words sets) ≡ drop unit_set_words sets = drop_at us (drop unit_set_words sets) unit_set_words n in
    let first : take unit_set_words (us ++ drop unit_set_words sets) ≡ renewed_units (units_in sets) t old new =
    take_at us (drop unit_set_words sets) unit_set_words n ∙ e in
    let second : ms ≡ renewed_maps (maps_in sets) old new =
    q ∙ ap (λ (ws : List ℕ). renewed_maps (take map_set_words ws) old new) rest in
    let third : drop map_set_words (drop unit_set_words (us ++ drop unit_set_words sets)) ≡ drop set_words sets =
    ap (drop map_set_words) rest ∙ drop-drop map_set_words unit_set_words sets in
    ap₂ ◌++◌ first (ap₂ ◌++◌ second third)
