-- Laws of the scan for double claims.
use Prim.Native.Nat.{ℕ, ◌+◌, ◌*◌, ◌<◌, ◌≤◌}
use mathlib.Core.Path.{◌≡◌, refl, ap, sym, ◌∙◌}
use mathlib.Core.Bool.{Bool, true, false, not, ◌&&◌, ◌||◌, false≢true, and-true, and-false}
use mathlib.Core.List.{List}
use native.Mathlib.Omega.{arith}
use lib.ListN.{length, get_or, take}
use lib.Seq.{take_all}
use lib.Dec.{eqb, ltb}
use mathlib.Core.Logic.{by_cases}
use native.Mathlib.Decide.{ℕ_discrete}
use borrow.Author.Tests.{eq-eqb, ne_eqb, lt-ltb}
use Rattle.search.specs.Search.{from, below, all, any, member, distinct, disjoint}
use Rattle.search.specs.Sets.{put, without}
use Rattle.bitset.specs.Bits.{bit_set, in_set, removed}
use Rattle.image.specs.Free.{free_unit, free_map}
use Rattle.layout.specs.Layout.{X, is_unit, shape_of, link_of}
use Rattle.image.specs.Soundness.{units_of}
use Rattle.image.specs.Verdicts.{clash, contested, double_claim}
use Rattle.layout.specs.Shaped.{unit_words_of}
use Rattle.image.specs.Claims.{held_in, TakenOut, Claimed, Scanned, unheld, unnamed}
use Rattle.layout.specs.declared.Shape.{Shape}
use Rattle.search.proofs.Taken.{rest, rest_more, rest-stop, rest_end, without_more, without-none, put_other, without-last-cell}
use Rattle.search.proofs.Ranges.{any-below-more}
use Rattle.search.proofs.Members.{any-ext, any-or, any_swap, all-and, all-not, any_none}
use Rattle.search.proofs.Distinct.{meets}
use Rattle.search.proofs.Bools.{eqb_comm}
use Rattle.image.proofs.Chunks.{units-absent, units-named}
use Rattle.image.proofs.Leading.{leading-all}
use Rattle.image.specs.Loading.{unit_set_words, map_set_words}
use Rattle.bitset.proofs.BitSets.{bit_set-ext, in-bit_set, removed-set}

-- ---- the numbers us, of which the first j have been taken out of the set f

module _ (f : ℕ → Bool) (us : List ℕ) (j x : ℕ) (w : x ≡ get_or us j 0) (h : j < length us) (units : List ℕ)
    (e : units ≡ bit_set (without f (take j us)) unit_set_words) (r : (all f us && distinct us) ≡ rest f us j) (found : Bool)
    (b : get_or us j 0 < 64 * unit_set_words) (t : found ≡ in_set units x) where
  g : ℕ → Bool
  g = without f (take j us)

  here : found ≡ g (get_or us j 0)
  unfolding g
  here = t ∙ rw e (in-bit_set (without f (take j us)) unit_set_words x (omega (arith, w, b))) ∙ ap (without f (take j us)) w

  pub take_more : (after : List ℕ) → after ≡ removed units x → found ≡ true
      → (after ≡ bit_set (without f (take (j + 1) us)) unit_set_words) × ((all f us && distinct us) ≡ rest f us (j + 1))
  unfolding g
  take_more after s y = (
    s ∙ ap (λ (ws : List ℕ). removed ws x) e ∙ removed-set (without f (take j us)) unit_set_words x ∙ rw w (bit_set-ext _ _ unit_set_words (λ y l. without_more f us j h y)),
    r ∙ rest_more f us j h (sym here ∙ y),
  )

  pub take-stop : found ≡ false → TakenOut f us false units
  unfolding g
  take-stop y = record { right = sym (r ∙ rest-stop f us j h (sym here ∙ y)); left = λ z. absurd (false≢true z) }

pub take-end : (f : ℕ → Bool) (us : List ℕ) (j : ℕ) (units : List ℕ) → length us ≤ j → units ≡ bit_set (without f (take j us)) unit_set_words
    → (all f us && distinct us) ≡ rest f us j → TakenOut f us true units
take-end f us j units h e r =
    record { right = sym (r ∙ rest_end f us j h); left = λ z. e ∙ rw (take_all j us h) }

-- ---- chunk j beside the chunks below it

unheld-cell : (a b q : Bool) → (a && not (b || q)) ≡ ((a && not b) && not q)
unheld-cell true true q = refl
unheld-cell true false q = refl
unheld-cell false b q = refl

-- one more chunk takes its units out of the set, and its map
pub unheld-more : (s : List ℕ) (j u : ℕ) → unheld s (j + 1) u ≡ without (unheld s j) (units_of s j) u
unfolding unheld without
unheld-more s j u =
    rw (any-below-more (λ i. member u (units_of s i)) j)
    (unheld-cell (is_unit (shape_of s) u) (any (λ i. member u (units_of s i)) (below j)) (member u (units_of s j)))

pub unnamed-more : (s : List ℕ) (j k : ℕ) → unnamed s (j + 1) k ≡ put (unnamed s j) (link_of s j) false k
unfolding unnamed put
unnamed-more s j k =
    rw (any-below-more (λ i. eqb (link_of s i) k) j, eqb_comm k (link_of s j))
    (sym (without-last-cell (ltb k (shape_of s).m) (any (λ i. eqb (link_of s i) k) (below j)) (eqb (link_of s j) k)))

-- ---- a chunk that names no map

module _ (s : List ℕ) (j : ℕ) (e : link_of s j ≡ X) where
  no-clash : (i : ℕ) → clash s i j ≡ false
  unfolding clash
  no-clash i = rw (eq-eqb (link_of s j) X e, and-false (not (eqb (link_of s i) X)))

  pub absent-apart : contested s j ≡ false
  unfolding contested distinct
  absent-apart = rw (any_none (λ i. clash s i j) (below j) (λ i m. no-clash i), units-absent s j e)

  pub absent-units : (u : ℕ) → unheld s j u ≡ unheld s (j + 1) u
  absent-units u = without-none (unheld s j) u ∙ sym (unheld-more s j u ∙ ap (λ (us : List ℕ). without (unheld s j) us u) (units-absent s j e))

-- ---- a chunk that names a map

module _ (s : List ℕ) (j : ℕ) (e : link_of s j ≡ X → ⊥) (l : link_of s j < (shape_of s).m) where
  clash-absent : (i : ℕ) → link_of s i ≡ X → clash s i j ≡ (eqb (link_of s i) (link_of s j) || not (disjoint (units_of s i) (units_of s j)))
  unfolding clash disjoint all
  clash-absent i x =
      rw (eq-eqb (link_of s i) X x, ne_eqb (link_of s i) (link_of s j) (λ w. e (sym w ∙ x)), units-absent s i x)

  clash-named : (i : ℕ) → (link_of s i ≡ X → ⊥) → clash s i j ≡ (eqb (link_of s i) (link_of s j) || not (disjoint (units_of s i) (units_of s j)))
  unfolding clash
  clash-named i x = rw (ne_eqb (link_of s i) X x, ne_eqb (link_of s j) X e)

  clash-is : (i : ℕ) → clash s i j ≡ (eqb (link_of s i) (link_of s j) || not (disjoint (units_of s i) (units_of s j)))
  clash-is i = by_cases (ℕ_discrete (link_of s i) X) (clash-absent i) (clash-named i)

  -- none of chunk j's units is held by a lower chunk
  fresh : all (unheld s j) (units_of s j) ≡ not (any (λ i. not (disjoint (units_of s i) (units_of s j))) (below j))
  unfolding unheld
  fresh =
      let unit = is_unit (shape_of s) in
      let xs = units_of s j in
      let low : all unit xs ≡ true = rw (units-named s j e) (leading-all unit (unit_words_of s (link_of s j))) in
      all-and unit (λ x. not (any (λ i. member x (units_of s i)) (below j))) xs
      ∙ ap (λ (b : Bool). b && all (λ x. not (any (λ i. member x (units_of s i)) (below j))) xs) low
      ∙ all-not (λ x. any (λ i. member x (units_of s i)) (below j)) xs
      ∙ ap not (any_swap (λ x i. member x (units_of s i)) xs (below j)
      ∙ any-ext _ _ (λ i. sym (meets (units_of s i) xs)) (below j))

  apart-cell : (a b d : Bool) → not ((a || b) || not d) ≡ (not a && (not b && d))
  apart-cell true b d = refl
  apart-cell false true d = refl
  apart-cell false false true = refl
  apart-cell false false false = refl

  pub named-apart : not (contested s j) ≡ (unnamed s j (link_of s j) && (all (unheld s j) (units_of s j) && distinct (units_of s j)))
  unfolding contested unnamed
  named-apart =
      rw (
        any-ext (λ i. clash s i j) _ clash-is (below j),
        any-or (λ i. eqb (link_of s i) (link_of s j)) (λ i. not (disjoint (units_of s i) (units_of s j))) (below j),
        fresh,
        lt-ltb (link_of s j) (shape_of s).m l,
      )
      (apart-cell (any (λ i. eqb (link_of s i) (link_of s j)) (below j)) (any (λ i. not (disjoint (units_of s i) (units_of s j))) (below j)) (distinct (units_of s j)))

-- ---- what `claim` owes at each of its returns, where the code has the chunk's entry k

pub claimed-absent : (s : List ℕ) (j k : ℕ) → k ≡ link_of s j → k ≡ X → (units maps : List ℕ) → units ≡ bit_set (unheld s j) unit_set_words → maps ≡ bit_set (unnamed s j) map_set_words
    → Claimed s j true units maps
claimed-absent s j k l x units maps u m =
    let e : link_of s j ≡ X = sym l ∙ x in
    record {
      right = sym (ap not (absent-apart s j e));
      units-left = λ z. u ∙ bit_set-ext _ _ unit_set_words (λ y h. absent-units s j e y);
      maps-left = λ z. m ∙ bit_set-ext _ _ map_set_words (λ y h. sym (unnamed-more s j y ∙ put_other (unnamed s j) (link_of s j) false y (λ w. absent-map y h e w)));
    }
  where
    absent-map : (y : ℕ) → y < 64 * map_set_words → link_of s j ≡ X → y ≡ link_of s j → ⊥
    absent-map y h e w = omega arith

module _ (s : List ℕ) (j k : ℕ) (l : k ≡ link_of s j) (x : k ≡ X → ⊥) (b : k < (shape_of s).m) where
  named : link_of s j ≡ X → ⊥
  named w = x (l ∙ w)

  claims : not (contested s j) ≡ (unnamed s j k && (all (unheld s j) (held_in s k) && distinct (held_in s k)))
  claims =
      let h : link_of s j < (shape_of s).m = omega arith in
      named-apart s j named h ∙ rw (units-named s j named, l)

  pub claimed-twice : (units maps : List ℕ) → unnamed s j k ≡ false → Claimed s j false units maps
  claimed-twice units maps n =
      record { right = sym (claims ∙ rw n); units-left = λ z. absurd (false≢true z); maps-left = λ z. absurd (false≢true z) }

  pub claimed-named : (ok : Bool) (units maps : List ℕ) → unnamed s j k ≡ true → TakenOut (unheld s j) (held_in s k) ok units
      → maps ≡ bit_set (put (unnamed s j) k false) map_set_words → Claimed s j ok units maps
  claimed-named ok units maps n t m =
      record {
        right = t.right ∙ sym (claims ∙ rw n);
        units-left = λ z. t.left z ∙ bit_set-ext _ _ unit_set_words (λ y h. sym (unheld-more s j y ∙ rw (units-named s j named, l)));
        maps-left = λ z. m ∙ bit_set-ext _ _ map_set_words (λ y h. sym (unnamed-more s j y ∙ rw (← l)));
      }

-- ---- before the first chunk, and after the last

module _ (s : List ℕ) (g : Shape) (e : g ≡ shape_of s) where
  pub unheld-start : (u : ℕ) → is_unit g u ≡ unheld s 0 u
  unfolding unheld any from
  unheld-start u = ap (λ (h : Shape). is_unit h u) e ∙ sym (and-true (is_unit (shape_of s) u))

  pub unnamed-start : (k : ℕ) → ltb k g.m ≡ unnamed s 0 k
  unfolding unnamed any from
  unnamed-start k = ap (λ (h : Shape). ltb k h.m) e ∙ sym (and-true (ltb k (shape_of s).m))

  pub scanned-all : (j : ℕ) (units maps : List ℕ) → j ≡ g.c → j ≡ double_claim s → units ≡ bit_set (unheld s j) unit_set_words → maps ≡ bit_set (unnamed s j) map_set_words
      → Scanned s g.c units maps
  unfolding unheld unnamed free_unit free_map
  scanned-all j units maps l r u m =
      record {
        right = sym l ∙ r;
        units-left = λ z. u ∙ ap (λ (i : ℕ). bit_set (unheld s i) unit_set_words) (l ∙ z);
        maps-left = λ z. m ∙ ap (λ (i : ℕ). bit_set (unnamed s i) map_set_words) (l ∙ z);
      }

  pub scanned-part : (j : ℕ) (units maps : List ℕ) → j < g.c → j ≡ double_claim s → Scanned s j units maps
  scanned-part j units maps l r =
      let c = ap (λ (h : Shape). h.c) e in
      record { right = r; units-left = λ z. absurd (omega arith); maps-left = λ z. absurd (omega arith) }

-- ---- two chunks, where the code has their entries v and w

pub clash-left : (s : List ℕ) (i j v : ℕ) → v ≡ link_of s i → v ≡ X → clash s i j ≡ false
unfolding clash
clash-left s i j v l x = rw (eq-eqb (link_of s i) X (sym l ∙ x))

pub clash-right : (s : List ℕ) (i j w : ℕ) → w ≡ link_of s j → w ≡ X → clash s i j ≡ false
clash-right s i j w l x = no-clash s j (sym l ∙ x) i

module _ (s : List ℕ) (i j v w : ℕ) (lv : v ≡ link_of s i) (lw : w ≡ link_of s j) (xv : v ≡ X → ⊥) (xw : w ≡ X → ⊥) where
  clash-both : clash s i j ≡ (eqb v w || not (disjoint (held_in s v) (held_in s w)))
  unfolding clash
  clash-both =
      rw (units-named s i (λ e. xv (lv ∙ e)), units-named s j (λ e. xw (lw ∙ e)), ← lv, ← lw, ne_eqb v X xv, ne_eqb w X xw)

  pub clash-same : v ≡ w → clash s i j ≡ true
  clash-same e = clash-both ∙ rw (eq-eqb v w e)

  pub clash-other : (v ≡ w → ⊥) → clash s i j ≡ not (disjoint (held_in s v) (held_in s w))
  clash-other e = clash-both ∙ rw (ne_eqb v w e)
