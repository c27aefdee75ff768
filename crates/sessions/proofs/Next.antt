-- The index that a carrying out gives back is current for the image that it leaves.
use Rattle.std.specs.Prelude.{Result, Ok, Err, ⊤}
use Prim.Native.Nat.{ℕ, ◌*◌, ◌≤◌, ◌<◌}
use native.Mathlib.Omega.{arith}
use mathlib.Core.Path.{◌≡◌, refl, sym, ap, ap₂, subst, ◌∙◌}
use mathlib.Core.Logic.{◌⊎◌, inl, inr, ⊎_elim}
use mathlib.Core.Bool.{Bool, true, false, not, ◌&&◌, ◌||◌, cond}
use mathlib.Core.List.{List}
use lib.Dec.{eqb}
use borrow.Author.Tests.{ltb-true, ne_eqb}
use Rattle.search.specs.Search.{member}
use Rattle.search.specs.Sets.{put, without, with_all}
use Rattle.search.proofs.Bools.{either, is_false, less-or-not}
use Rattle.bitset.proofs.BitSets.{bit_set-ext}
use Rattle.layout.specs.declared.Shape.{Shape}
use Rattle.layout.specs.Layout.{X, shape_of, link_of}
use Rattle.image.specs.Soundness.{mapped, units_of, Sound}
use Rattle.image.specs.Verdicts.{verdict}
use Rattle.image.specs.Free.{free_unit, free_map}
use Rattle.image.specs.Loading.{unit_set_words, map_set_words}
use Rattle.image.proofs.Chunks.{mapped-named, unmapped-absent, named-below, units-mapped, units-unmapped}
use Rattle.image.proofs.Room.{free_map-below}
use Rattle.image.proofs.Wording.{sound-shape, sound-tested}
use Rattle.image.proofs.SoundLaws.{tested-passed}
use Rattle.steps.specs.declared.Request.{Request}
use Rattle.steps.specs.Steps.{steps_of, chunk_of}
use Rattle.rules.proofs.Accepting.{accepted-of}
use Rattle.carry.specs.Carry.{link_within, carry_answer, left_by, carry_image}
use Rattle.carry.proofs.AnswerLaws.{answer-accepted}
use Rattle.indexed.specs.Admitting.{Index}
use Rattle.indexed.specs.Calls.{Current, index_of, carry_image_by, sets_left, next_index}
use Rattle.renewal.specs.Renewal.{held_by, renewed_sets}
use Rattle.indexed.proofs.Currents.{same-carry}
use Rattle.renewal.proofs.NextSets.{held-map, held_none, next-units, next-maps}
use Rattle.durable.specs.LoadsBack.{new_link, new_size, new_units, LoadsBack}
use Rattle.durable.proofs.Partly.{carried-sound, old-held, carried-linked, still-free-unit, still-free-map}
use Rattle.layout.specs.declared.Refusal.{Refusal}

-- ---- the units of the map that an entry of a sound image names

module _ (g : Shape) (s : List ℕ) (z : Sound g s) (i : ℕ) (b : i < g.c) where
  in-s : i < (shape_of s).c
  in-s = subst (λ (h : Shape). i < h.c) (sym (sound-shape g s z)) b

  entry-below : mapped s i ≡ true → link_of s i < g.m
  entry-below m =
      subst (λ (h : Shape). link_of s i < h.m) (sound-shape g s z) (named-below s i (mapped-named s i m) ((sound-tested g s z).links i in-s))

  -- an entry is a map's number, or none that a set has a bit for
  entry_known : (link_of s i < g.m) ⊎ (link_of s i ≡ X)
  entry_known = ⊎_elim (λ m. inl (entry-below m)) (λ m. inr (unmapped-absent s i m)) (either (mapped s i))

-- X is the number of no map
absent-past : (g : Shape) (s : List ℕ) → Sound g s → (k : ℕ) → k ≡ X → (shape_of s).m ≤ k
absent-past g s z k e = let m = ap (λ (h : Shape). h.m) (sound-shape g s z) in omega (arith, z.limits.m-high, z.limits.c-high)

own_held : (g : Shape) (s : List ℕ) → Sound g s → (i : ℕ) → i < g.c → held_by s (link_of s i) ≡ units_of s i
own_held g s z i b =
    ⊎_elim
    (λ m. held-map s (link_of s i) (subst (λ (h : Shape). link_of s i < h.m) (sym (sound-shape g s z)) (entry-below g s z i b m))
    ∙ sym (units-mapped s i m))
    (λ m. held_none s (link_of s i) (absent-past g s z (link_of s i) (unmapped-absent s i m)) ∙ sym (units-unmapped s i m))
    (either (mapped s i))

-- a number past the last map is no free map's
map-past : (g : Shape) (s : List ℕ) → Sound g s → (k : ℕ) → g.m ≤ k → free_map s k ≡ false
map-past g s z k b = is_false (free_map s k) (λ f. let m = ap (λ (h : Shape). h.m) (sound-shape g s z) in let q = free_map-below s k f in omega arith)

-- one map put in and one taken out

put-cell : (a p q : Bool) → cond q false (cond p true a) ≡ ((a || p) && not q)
put-cell true true true = refl
put-cell true true false = refl
put-cell true false true = refl
put-cell true false false = refl
put-cell false true true = refl
put-cell false true false = refl
put-cell false false true = refl
put-cell false false false = refl

-- ---- carrying out, accepted

module _ (g : Shape) (s : List ℕ) (ix : Index) (z : Sound g s) (c : Current s ix) (r : Request) (plan : List ℕ) (n : ℕ)
    (a : carry_answer s r plan n ≡ Ok tt) where
  abbrev t : List ℕ
  t = carry_image s r plan n

  abbrev old : ℕ
  old = link_of s (chunk_of r)

  abbrev new : ℕ
  new = link_of t (chunk_of r)

  w : Sound g t
  w = carried-sound g s r plan n z a

  chunk-here : chunk_of r < g.c
  chunk-here =
      subst (λ (h : Shape). chunk_of r < h.c) (sound-shape g s z)
      (ltb-true (chunk_of r) (shape_of s).c (accepted-of s r plan (answer-accepted s r plan n a).0).chunk)

  shape-now : ix.shape ≡ shape_of t
  shape-now = c.shape ∙ sound-shape g s z ∙ sym (sound-shape g t w)

  passed-now : verdict t ≡ Ok tt
  passed-now = tested-passed t (sound-tested g t w)

  -- no LINK is among the steps: what was free is free
  still-current : link_within plan n ≡ false → Current t ix
  still-current l = record {
    passed = passed-now;
    shape = shape-now;
    units = c.units ∙ bit_set-ext (free_unit s) (free_unit t) unit_set_words (λ u h. sym (still-free-unit g s r plan n z a l u));
    maps = c.maps ∙ bit_set-ext (free_map s) (free_map t) map_set_words (λ k h. sym (still-free-map g s r plan n z a l k));
  }

  -- the map that the chunk had still holds its units
  held-before : held_by t old ≡ units_of s (chunk_of r)
  held-before =
      ⊎_elim
      (λ m. held-map t old (subst (λ (h : Shape). old < h.m) (sym (sound-shape g t w)) (entry-below g s z (chunk_of r) chunk-here m))
      ∙ old-held g s r plan n z a m)
      (λ m. held_none t old (absent-past g t w old (unmapped-absent s (chunk_of r) m)) ∙ sym (units-unmapped s (chunk_of r) m))
      (either (mapped s (chunk_of r)))

  -- a LINK is among them: what is free is what was free or the chunk's, less what the chunk has now
  module _ (l : link_within plan n ≡ true) where
    back : LoadsBack g s (chunk_of r) (new_link r (steps_of plan)) (new_size g r) (new_units s r) t
    back = carried-linked g s r plan n z a l

    unit-now : (u : ℕ) → without (with_all (free_unit s) (held_by t old)) (held_by t new) u ≡ free_unit t u
    unfolding without with_all
    unit-now u =
        ap₂ (λ (us vs : List ℕ). (free_unit s u || member u us) && not (member u vs)) held-before (own_held g t w (chunk_of r) chunk-here ∙ back.units)
        ∙ sym (back.free-units u)

    map-now : (k : ℕ) → k < 64 * map_set_words → put (put (free_map s) old true) new false k ≡ free_map t k
    unfolding put
    map-now k h =
        put-cell (free_map s k) (eqb k old) (eqb k new)
        ∙ ⊎_elim
        (λ b. ap (λ (i : ℕ). (free_map s k || eqb k old) && not (eqb k i)) back.entry ∙ sym (back.free-maps k b))
        (λ b. ap₂ (λ (f q : Bool). (f || q) && not (eqb k new)) (map-past g s z k b)
        (ne_eqb k old (λ e. not-old b e (entry_known g s z (chunk_of r) chunk-here)))
        ∙ sym (map-past g t w k b))
        (less-or-not k g.m)
      where
        not-old : g.m ≤ k → k ≡ old → (old < g.m) ⊎ (old ≡ X) → ⊥
        not-old b e (inl q) = omega arith
        not-old b e (inr q) = omega arith

    linked-current : Current t (index_of ix.shape (renewed_sets ix.sets t old new))
    linked-current = record {
      passed = passed-now;
      shape = shape-now;
      units = next-units ix.sets t old new (free_unit s) c.units ∙ bit_set-ext _ (free_unit t) unit_set_words (λ u h. unit-now u);
      maps = next-maps ix.sets t old new (free_unit s) c.units (free_map s) c.maps ∙ bit_set-ext _ (free_map t) map_set_words map-now;
    }

  abbrev Next : Bool → Type 0
  Next b = Current t (index_of ix.shape (cond b (renewed_sets ix.sets t old new) ix.sets))

  accepted-current : Next (link_within plan n)
  accepted-current = at (link_within plan n) refl
    where
      at : (b : Bool) → link_within plan n ≡ b → Next b
      at true l = linked-current l
      at false l = still-current l

-- ---- accepted or refused

module _ (g : Shape) (s : List ℕ) (ix : Index) (z : Sound g s) (c : Current s ix) (r : Request) (plan : List ℕ) (n : ℕ) where
  -- what an answer leaves, of the image and of the index
  abbrev Left : Result ⊤ Refusal → Type 0
  Left x =
      let t = left_by x s plan n in Sound g t × Current t (index_of ix.shape (sets_left x ix.sets s r plan n))

  left-current : Left (carry_answer s r plan n)
  left-current = at (carry_answer s r plan n) refl
    where
      at : (x : Result ⊤ Refusal) → carry_answer s r plan n ≡ x → Left x
      at (Ok tt) e =
          subst
          (λ (t : List ℕ). Sound g t × Current t (index_of ix.shape
          (cond (link_within plan n) (renewed_sets ix.sets t (link_of s (chunk_of r)) (link_of t (chunk_of r))) ix.sets)))
          (ap (λ (x : Result ⊤ Refusal). left_by x s plan n) e) (carried-sound g s r plan n z e, accepted-current g s ix z c r plan n e)
      at (Err y) e = (z, c)

  pub next-current : Sound g (carry_image_by ix s r plan n) × Current (carry_image_by ix s r plan n) (next_index ix s r plan n)
  next-current = subst Left (sym (same-carry s ix c r plan n)) left-current
