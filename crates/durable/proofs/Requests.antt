-- What the steps of an accepted write or discard leave: an orderly image, and the old pieces or the new ones.
use Prim.Native.Nat.{ℕ, ◌<◌, ◌≤◌}
use native.Mathlib.Omega.{arith}
use mathlib.Core.Path.{◌≡◌, refl, sym, ap, ◌∙◌, subst}
use mathlib.Core.Logic.{◌⊎◌, inl, inr, ◌≢◌}
use mathlib.Core.Bool.{true, false, cond}
use mathlib.Core.List.{List, [], map}
use lib.ListN.{length}
use lib.Dec.{eqb}
use borrow.Author.Tests.{eqb-true, eqb-false, ltb-true}
use Rattle.layout.specs.declared.Shape.{Shape}
use Rattle.search.specs.Search.{from, below}
use Rattle.layout.specs.Layout.{X, map_words, shape_of, link_of, word_at, map_word_place, units_for}
use Rattle.image.specs.Soundness.{mapped, units_of}
use Rattle.image.specs.Stored.{stored_size}
use Rattle.search.proofs.Bools.{contradict, either, cond-true, cond-false}
use Rattle.image.proofs.Chunks.{units-unmapped, unmapped-absent}
use Rattle.image.proofs.Order.{Orderly}
use Rattle.image.proofs.Storing.{stored-unmapped, kept-none}
use Rattle.steps.specs.declared.Step.{Step}
use Rattle.steps.specs.declared.Request.{Request}
use Rattle.steps.specs.declared.Request.TheVariants.{Write, Discard}
use Rattle.steps.specs.Steps.{steps_of, chunk_of, need_of}
use Rattle.rules.specs.Rules.{links, is_none, ends_in, plan_map, unit_of}
use Rattle.rules.proofs.Accepting.{Passed}
use Rattle.steps.specs.Encodable.{Each}
use Rattle.steps.proofs.Codec.{each_map}
use Rattle.rules.proofs.StepLaws.{InRange, Links, OnLink, on-links, each-in-range}
use Rattle.rules.proofs.Facts.{Writes, writes, Discards, discards, discards-nothing}
use Rattle.durable.specs.Events.{Volume, Event, lands, complete, settle, link_lands, holds, new_pieces}
use Rattle.durable.specs.LoadsBack.{new_link, new_size}
use Rattle.durable.proofs.Settle.{Solid, settle-nil, set-content, keep-content}
use Rattle.durable.proofs.Linking.{link_lands_on, lands-own, lands-other, set_link}
use Rattle.durable.proofs.Fences.{solid, complete-link, all-landed}
use Rattle.durable.proofs.Careful.{Careful, careful-write, careful-discard, holds-is, named-word}
use Rattle.durable.proofs.Core.{still, still-units, still-size, still-holds}
use Rattle.durable.proofs.Jobs.{Job, puts, clears, given, dealt, kept, job-units, job-size, job-holds, jobs-orderly}
use Rattle.layout.proofs.Limits.{fitting-limits, map-words}

-- the units of pieces 0 to k-1, in that order; none for a discard
abbrev pub plan_units : Request → List Step → List ℕ
plan_units r xs = map (λ j. unit_of j xs) (below (need_of r))

module _ {A : Type 0} (v : Volume A) (e : Event A) (d : Orderly (shape_of v.image) v.image) where
  abbrev s : List ℕ
  s = v.image

  abbrev g : Shape
  g = shape_of s

  abbrev xs : List Step
  xs = steps_of e.plan

  abbrev t : Volume A
  t = settle e 0 xs v

  -- what the steps of an accepted request leave
  pub record Settled (r : Request) : Type 0 where
    pub orderly : Orderly (shape_of v.image) (settle e 0 (steps_of e.plan) v).image
    pub old : link_lands e 0 (steps_of e.plan) ≡ false → (i : ℕ) → i < (shape_of v.image).c → holds (settle e 0 (steps_of e.plan) v) i ≡ holds v i
    pub new : (link_lands e 0 (steps_of e.plan) ≡ true) ⊎ (complete e ≡ true) → (i : ℕ) → i < (shape_of v.image).c
        → holds (settle e 0 (steps_of e.plan) v) i ≡ cond (eqb i (chunk_of r)) (new_pieces r e.payload) (holds v i)
    pub whole : complete e ≡ true → (i : ℕ) → i < length (steps_of e.plan) → lands e i ≡ true
    -- what the reserved units hold
    pub reserved : (u : ℕ) → u < (shape_of v.image).r → (settle e 0 (steps_of e.plan) v).content u ≡ v.content u
    -- the entry, the stored size and the units of the request's chunk, and of every other
    pub own : (link_lands e 0 (steps_of e.plan) ≡ true) ⊎ (complete e ≡ true)
        → (link_of (settle e 0 (steps_of e.plan) v).image (chunk_of r) ≡ new_link r (steps_of e.plan))
        × (stored_size (settle e 0 (steps_of e.plan) v).image (chunk_of r) ≡ new_size (shape_of v.image) r)
        × (units_of (settle e 0 (steps_of e.plan) v).image (chunk_of r) ≡ plan_units r (steps_of e.plan))
    pub still : link_lands e 0 (steps_of e.plan) ≡ false → (i : ℕ) → i < (shape_of v.image).c
        → (link_of (settle e 0 (steps_of e.plan) v).image i ≡ link_of v.image i)
        × (units_of (settle e 0 (steps_of e.plan) v).image i ≡ units_of v.image i)
    pub others : (i : ℕ) → i < (shape_of v.image).c → i ≢ chunk_of r
        → (link_of (settle e 0 (steps_of e.plan) v).image i ≡ link_of v.image i)
        × (stored_size (settle e 0 (steps_of e.plan) v).image i ≡ stored_size v.image i)
        × (units_of (settle e 0 (steps_of e.plan) v).image i ≡ units_of v.image i)
    -- the words of every map that was named
    pub named : (i j : ℕ) → i < (shape_of v.image).c → mapped v.image i ≡ true → j < map_words (shape_of v.image)
        → word_at (settle e 0 (steps_of e.plan) v).image (map_word_place (shape_of v.image) (link_of v.image i) j)
        ≡ word_at v.image (map_word_place (shape_of v.image) (link_of v.image i) j)

  -- ---- a careful plan with LINKs, all of chunk c

  module _ (r : Request) (b : chunk_of r < g.c) (k : Careful g s xs) (l : Each (OnLink (chunk_of r) (new_link r xs)) xs) (a : is_none (links xs) ≡ false)
      (ends : ends_in false xs ≡ true) (job : link_lands e 0 xs ≡ true → Job v e xs (chunk_of r))
      (right : (p : link_lands e 0 xs ≡ true)
      → (given (job p) ≡ new_pieces r e.payload) × (kept (job p) ≡ new_size g r) × (dealt (job p) ≡ plan_units r xs)) where
    abbrev c : ℕ
    c = chunk_of r

    abbrev w : ℕ
    w = new_link r xs

    lands_here : link_lands_on e c 0 xs ≡ link_lands e 0 xs
    lands_here = lands-own e c w 0 xs l

    lands-elsewhere : (i : ℕ) → i ≢ c → link_lands_on e i 0 xs ≡ false
    lands-elsewhere i n = lands-other e c w i 0 xs l n

    only : (i : ℕ) → link_lands_on e i 0 xs ≡ true → i ≡ c
    only i h = go (either (eqb i c))
      where
        go : (eqb i c ≡ true) ⊎ (eqb i c ≡ false) → i ≡ c
        go (inl q) = eqb-true i c q
        go (inr q) = contradict h (lands-elsewhere i (eqb-false i c q))

    jobs : (i : ℕ) → link_lands_on e i 0 xs ≡ true → Job v e xs i
    jobs i p = subst (Job v e xs) (sym (only i p)) (job (sym lands_here ∙ ap (λ (j : ℕ). link_lands_on e j 0 xs) (sym (only i p)) ∙ p))

    still-quiet : (i : ℕ) → link_lands e 0 xs ≡ false → (eqb i c ≡ true) ⊎ (eqb i c ≡ false) → link_lands_on e i 0 xs ≡ false
    still-quiet i p (inl z) = ap (λ (j : ℕ). link_lands_on e j 0 xs) (eqb-true i c z) ∙ lands_here ∙ p
    still-quiet i p (inr z) = lands-elsewhere i (eqb-false i c z)

    moved : link_lands e 0 xs ≡ true → (i : ℕ) → i < g.c → (eqb i c ≡ true) ⊎ (eqb i c ≡ false)
        → holds t i ≡ cond (eqb i c) (new_pieces r e.payload) (holds v i)
    moved p i q (inl z) =
        ap (holds t) (eqb-true i c z) ∙ job-holds v e d k c b (lands_here ∙ p) (job p) ∙ (right p).0
        ∙ sym (cond-true (eqb i c) (new_pieces r e.payload) (holds v i) z)
    moved p i q (inr z) =
        still-holds v e d k i q (lands-elsewhere i (eqb-false i c z)) ∙ sym (cond-false (eqb i c) (new_pieces r e.payload) (holds v i) z)

    -- "finished, and all have landed": by the last FENCE
    all : complete e ≡ true → (i : ℕ) → i < length xs → lands e i ≡ true
    all = all-landed e xs refl ends

    some : (link_lands e 0 xs ≡ true) ⊎ (complete e ≡ true) → link_lands e 0 xs ≡ true
    some (inl p) = p
    some (inr p) = complete-link e 0 xs (λ i low high. all p i (omega arith)) a

    settled : Settled r
    settled = record {
      orderly = jobs-orderly v e d k jobs (λ i j z p q. absurd (z (only i p ∙ sym (only j q))));
      old = λ p i q. still-holds v e d k i q (still-quiet i p (either (eqb i c)));
      new = λ p i q. moved (some p) i q (either (eqb i c));
      whole = all;
      reserved = λ u q. keep-content e u 0 xs v (k.reserved u q);
      own = λ p. let q : link_lands e 0 xs ≡ true = some p in (
        set_link e g c b w 0 xs v d.on k.range (each_map (OnLink c w) (Links c w) xs (on-links c w) l) (lands_here ∙ q),
        job-size v e d k c b (lands_here ∙ q) (job q) ∙ (right q).1,
        job-units v e d k c b (lands_here ∙ q) (job q) ∙ (right q).2,
      );
      still = λ p i q. let l = still-quiet i p (either (eqb i c)) in (still v e d k i q l, still-units v e d k i q l);
      others = λ i q n. (
        still v e d k i q (lands-elsewhere i n),
        still-size v e d k i q (lands-elsewhere i n),
        still-units v e d k i q (lands-elsewhere i n),
      );
      named = named-word v e g xs d.on k;
    }

  -- ---- the three requests

  settled-write : (c size : ℕ) → Each (InRange g) xs → c < g.c → Writes s c size xs → Settled (Write c size)
  settled-write c size r b h =
      settled (Write c size) b (careful-write s c size xs r h) h.on-link
      h.guarded.a-link h.guarded.last
      (λ p. let z : Solid e 0 xs = solid e xs refl h.guarded p in
      puts size (units_for size) (plan_map xs) (λ j. unit_of j xs) e.payload h.deal z (λ j q. set-content e j 0 xs v h.units-differ (h.has-piece j q) z))
      (λ p. (refl, refl, refl))

  settled-discard : (c : ℕ) → Each (InRange g) xs → c < g.c → Discards c xs → Settled (Discard c)
  unfolding from
  settled-discard c r b h =
      settled (Discard c) b (careful-discard s c xs r h) h.on-link
      h.a-link h.last (λ p. clears (each_map (OnLink c X) (Links c X) xs (on-links c X) h.on-link)) (λ p. (refl, sym (kept-none g), refl))

  settled-nothing : (c : ℕ) → mapped s c ≡ false → xs ≡ [] → Settled (Discard c)
  unfolding from
  settled-nothing c m n = record {
    orderly = subst (λ (w : Volume A). Orderly g w.image) (sym same) d;
    old = λ p i b. ap (λ (w : Volume A). holds w i) same;
    new = λ p i b. ap (λ (w : Volume A). holds w i) same ∙ go i (either (eqb i c));
    whole = λ q i b. absurd (let z = ap length n in omega arith);
    reserved = λ u b. ap (λ (w : Volume A). w.content u) same;
    own = λ q. (
      ap (λ (w : Volume A). link_of w.image c) same ∙ unmapped-absent s c m,
      ap (λ (w : Volume A). stored_size w.image c) same ∙ stored-unmapped s c m ∙ sym (kept-none g),
      ap (λ (w : Volume A). units_of w.image c) same ∙ units-unmapped s c m,
    );
    still = λ p i b. (ap (λ (w : Volume A). link_of w.image i) same, ap (λ (w : Volume A). units_of w.image i) same);
    others = λ i b q. (
      ap (λ (w : Volume A). link_of w.image i) same,
      ap (λ (w : Volume A). stored_size w.image i) same,
      ap (λ (w : Volume A). units_of w.image i) same,
    );
    named = λ i j b p q. ap (λ (w : Volume A). word_at w.image (map_word_place g (link_of s i) j)) same;
  }
    where
      same : t ≡ v
      same = ap (λ (ys : List Step). settle e 0 ys v) n ∙ settle-nil e 0 v

      go : (i : ℕ) → (eqb i c ≡ true) ⊎ (eqb i c ≡ false) → holds v i ≡ cond (eqb i c) [] (holds v i)
      go i (inl q) =
          ap (holds v) (eqb-true i c q) ∙ holds-is v c ∙ ap (map v.content) (units-unmapped s c m)
          ∙ sym (cond-true (eqb i c) [] (holds v i) q)
      go i (inr q) = sym (cond-false (eqb i c) [] (holds v i) q)

  words-some : {r : Request} → Passed v.image r e.plan → 1 ≤ map_words (shape_of v.image)
  words-some p = let l = fitting-limits s p.sound.fitting in omega (arith, l.p-low, map-words (shape_of s))

  pub settled-any : (r : Request) → Passed v.image r e.plan → Settled r
  settled-any (Write c size) p =
      settled-write c size (each-in-range g e.plan p.rules.one) (ltb-true c g.c p.chunk)
      (writes s c xs size (each-in-range g e.plan p.rules.one) p.size (words-some p) p.rules.two p.rules.three p.rules.four p.rules.five)
  settled-any (Discard c) p = go (either (mapped s c))
    where
      go : (mapped s c ≡ true) ⊎ (mapped s c ≡ false) → Settled (Discard c)
      go (inl m) =
          settled-discard c (each-in-range g e.plan p.rules.one) (ltb-true c g.c p.chunk)
          (discards s c xs m p.rules.two p.rules.three p.rules.four p.rules.five)
      go (inr m) = settled-nothing c m (discards-nothing s c xs m p.rules.five)
