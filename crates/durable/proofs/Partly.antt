-- Carrying out the first n steps of an accepted plan is an event in which those steps land and no other: what it leaves of the named maps and of each
-- chunk's entry and units, and what is free then.
use Rattle.std.specs.Prelude.{Ok}
use Prim.Native.Nat.{ℕ, ◌≤◌, ◌<◌}
use native.Mathlib.Omega.{arith}
use mathlib.Core.Path.{◌≡◌, refl, sym, ap, ◌∙◌, subst}
use mathlib.Core.Logic.{◌⊎◌, inl, inr, ◌≢◌, ⊎_elim}
use mathlib.Core.Bool.{Bool, true, false, not, ◌&&◌, ◌||◌}
use mathlib.Core.List.{List}
use lib.ListN.{take}
use lib.Dec.{eqb, ltb}
use borrow.Author.Tests.{eq-eqb, ne_eqb, lt-ltb}
use Rattle.search.specs.Search.{member}
use Rattle.search.proofs.Bools.{is_false, less-or-not, not_of_false, or_right}
use Rattle.search.proofs.Mapping.{map-below-ext}
use Rattle.layout.specs.declared.Shape.{Shape}
use Rattle.layout.specs.Layout.{is_unit, unit_words, map_words, shape_of, link_of, words_of, word_at, map_word_place}
use Rattle.image.specs.Claims.{held_in}
use Rattle.image.specs.Soundness.{leading, mapped, units_of, Sound}
use Rattle.image.specs.Stored.{stored_size}
use Rattle.image.specs.Free.{free_unit, free_map, free_units}
use Rattle.image.proofs.Chunks.{units-mapped}
use Rattle.image.proofs.Room.{free_unit-unheld, free_map-below, free_map-unnamed}
use Rattle.image.proofs.Wording.{sound-shape}
use Rattle.image.proofs.Freed.{freed-unit, freed-map}
use Rattle.image.proofs.Theorems.{sound-loads}
use Rattle.steps.specs.declared.Request.{Request}
use Rattle.steps.specs.Steps.{steps_of, whole_steps, chunk_of}
use Rattle.rules.proofs.Accepting.{Passed, accepted-of}
use Rattle.rules.proofs.Dealing.{dealt-units}
use Rattle.carry.specs.Carry.{link_within, carry_answer, carry_image}
use Rattle.carry.proofs.AnswerLaws.{answer-accepted}
use Rattle.durable.specs.Events.{Volume, Event, fenced, accepted, goes_ahead, lands, complete, settle, link_lands, after}
use Rattle.durable.specs.LoadsBack.{new_link, new_size, new_units, LoadsBack}
use Rattle.durable.proofs.Requests.{Settled}
use Rattle.durable.proofs.Carrying.{as-carry, as-linked}
use Rattle.durable.proofs.Effect.{Intact, sound-intact, intact-sound, after-ahead, here, settled, chunk_in, event-intact}

-- what was free, freed and taken again
put_back : (f m : Bool) → (f ≡ true → m ≡ false) → ((f || m) && not m) ≡ f
put_back true m h = not_of_false m (h refl)
put_back false true h = refl
put_back false false h = refl

module _ (g : Shape) (s : List ℕ) (r : Request) (plan : List ℕ) (n : ℕ) (z : Sound g s) (a : carry_answer s r plan n ≡ Ok tt) where
  -- the volume and the event: what the units hold is of no account here
  abbrev v : Volume ℕ
  v = record { image = s; content = λ u. u }

  abbrev e : Event ℕ
  e = record { request = r; payload = λ j. j; plan = plan; count = n; landed = λ i. true; left = λ i. i }

  d : Intact g s
  d = sound-intact g s z

  passed : Passed s r plan
  passed = accepted-of s r plan (answer-accepted s r plan n a).0

  takes : goes_ahead s e ≡ true
  unfolding goes_ahead
  takes = ap accepted a

  leaves : Settled v e (here g v e d) r
  leaves = settled g v e d takes

  first-landed : (i : ℕ) → i < n → lands e i ≡ true
  unfolding lands
  first-landed i b = or_right (ltb i (fenced (take n (steps_of plan)))) (ltb i n && true) (ap (λ (q : Bool). q && true) (lt-ltb i n b))

  linked : link_lands e 0 (steps_of plan) ≡ link_within plan n
  linked = as-linked e (shape_of s) passed.rules.one (answer-accepted s r plan n a).1 first-landed

  -- the image that carrying out leaves
  abbrev t : List ℕ
  t = carry_image s r plan n

  same_after : (after v e).image ≡ t
  same_after = as-carry e v first-landed

  same : (settle e 0 (steps_of plan) v).image ≡ t
  same = ap (λ (w : Volume ℕ). w.image) (sym (after-ahead v e takes)) ∙ same_after

  chunk-here : chunk_of r < g.c
  chunk-here = chunk_in g v e d takes

  in-s : (i : ℕ) → i < g.c → i < (shape_of s).c
  in-s i b = subst (λ (h : Shape). i < h.c) (sym (sound-shape g s z)) b

  -- ---- whatever the steps are

  pub carried-sound : Sound g (carry_image s r plan n)
  carried-sound = subst (Sound g) same_after (intact-sound g (after v e).image (event-intact g v e d))

  -- no map that was named is stored to
  abbrev WordsStay : List ℕ → ℕ → Shape → Type 0
  WordsStay x i h = (j : ℕ) → j < map_words h → word_at x (map_word_place h (link_of s i) j) ≡ word_at s (map_word_place h (link_of s i) j)

  pub named-words : (i : ℕ) → i < g.c → mapped s i ≡ true → words_of g (carry_image s r plan n) (link_of s i) ≡ words_of g s (link_of s i)
  unfolding words_of
  named-words i b m =
      map-below-ext (λ j. word_at t (map_word_place g (link_of s i) j)) (λ j. word_at s (map_word_place g (link_of s i) j)) (map_words g)
      (subst (WordsStay t i) (sound-shape g s z) (subst (λ (x : List ℕ). WordsStay x i (shape_of s)) same (λ j h. leaves.named i j (in-s i b) m h)))

  -- so the map that the request's chunk had still holds its units
  pub old-held : mapped s (chunk_of r) ≡ true → held_in (carry_image s r plan n) (link_of s (chunk_of r)) ≡ units_of s (chunk_of r)
  old-held m =
      let k = link_of s (chunk_of r) in
      ap (λ (h : Shape). leading (is_unit h) (unit_words h (words_of h t k))) (sound-shape g t carried-sound)
      ∙ ap (λ (ws : List ℕ). leading (is_unit g) (unit_words g ws)) (named-words (chunk_of r) chunk-here m)
      ∙ ap (λ (h : Shape). leading (is_unit h) (unit_words h (words_of h s k))) (sym (sound-shape g s z))
      ∙ sym (units-mapped s (chunk_of r) m)

  -- ---- a LINK is among them, or they are all

  -- what the request's chunk has in an image, and what another has
  abbrev Own : List ℕ → Type 0
  Own x =
      (link_of x (chunk_of r) ≡ new_link r (steps_of plan)) × (stored_size x (chunk_of r) ≡ new_size (shape_of s) r)
      × (units_of x (chunk_of r) ≡ new_units s r)

  abbrev Other : ℕ → List ℕ → Type 0
  Other i x = (link_of x i ≡ link_of s i) × (stored_size x i ≡ stored_size s i) × (units_of x i ≡ units_of s i)

  effect : (link_within plan n ≡ true) ⊎ (n ≡ whole_steps plan) → (link_lands e 0 (steps_of plan) ≡ true) ⊎ (complete e ≡ true)
  effect (inl l) = inl (linked ∙ l)
  effect (inr q) = inr (eq-eqb n (whole_steps plan) q)

  own : (link_within plan n ≡ true) ⊎ (n ≡ whole_steps plan) → Own t
  own l =
      let k = leaves.own (effect l) in
      subst Own same (k.0, k.1, k.2 ∙ dealt-units (free_units s) (steps_of plan) r passed.rules.two)

  others : (i : ℕ) → i < g.c → i ≢ chunk_of r → Other i t
  others i b q = subst (Other i) same (leaves.others i (in-s i b) q)

  pub carried-back : (link_within plan n ≡ true) ⊎ (n ≡ whole_steps plan)
      → LoadsBack g s (chunk_of r) (new_link r (steps_of plan)) (new_size g r) (new_units s r) (carry_image s r plan n)
  carried-back l =
      let k = own l in
      record {
        sound = carried-sound;
        loads = sound-loads g t carried-sound;
        entry = k.0;
        stored = k.1 ∙ ap (λ (h : Shape). new_size h r) (sound-shape g s z);
        units = k.2;
        others = others;
        free-units = freed-unit g s t z carried-sound (chunk_of r) chunk-here (new_units s r) k.2 (λ i b q. (others i b q).2);
        free-maps = freed-map g s t z carried-sound (chunk_of r) chunk-here (new_link r (steps_of plan)) k.0 (λ i b q. (others i b q).0);
      }

  pub carried-linked : link_within plan n ≡ true
      → LoadsBack g s (chunk_of r) (new_link r (steps_of plan)) (new_size g r) (new_units s r) (carry_image s r plan n)
  carried-linked l = carried-back (inl l)

  -- ---- no LINK is among them

  module _ (l : link_within plan n ≡ false) where
    still : (i : ℕ) → i < g.c → (link_of t i ≡ link_of s i) × (units_of t i ≡ units_of s i)
    still i b =
        subst (λ (x : List ℕ). (link_of x i ≡ link_of s i) × (units_of x i ≡ units_of s i)) same (leaves.still (linked ∙ l) i (in-s i b))

    pub carried-still : Sound g (carry_image s r plan n)
        × ((i : ℕ) → i < g.c → (link_of (carry_image s r plan n) i ≡ link_of s i) × (units_of (carry_image s r plan n) i ≡ units_of s i))
    carried-still = (carried-sound, still)

    -- what was free is free, and nothing else
    pub still-free-unit : (u : ℕ) → free_unit (carry_image s r plan n) u ≡ free_unit s u
    still-free-unit u =
        let c = chunk_of r in
        freed-unit g s t z carried-sound c chunk-here (units_of s c) (still c chunk-here).1 (λ i b q. (still i b).1) u
        ∙ put_back (free_unit s u) (member u (units_of s c)) (λ f. free_unit-unheld s u f c (in-s c chunk-here))

    pub still-free-map : (k : ℕ) → free_map (carry_image s r plan n) k ≡ free_map s k
    still-free-map k = ⊎_elim
        (λ b. let c = chunk_of r in
        freed-map g s t z carried-sound c chunk-here (link_of s c) (still c chunk-here).0 (λ i h q. (still i h).0) k b
        ∙ put_back (free_map s k) (eqb k (link_of s c)) (λ f. ne_eqb k (link_of s c) (λ q. free_map-unnamed s k f c (in-s c chunk-here) (sym q))))
        (λ b. past t carried-sound b ∙ sym (past s z b))
        (less-or-not k g.m)
      where
        past : (x : List ℕ) → Sound g x → g.m ≤ k → free_map x k ≡ false
        past x w b = is_false (free_map x k) (λ f.
            let m = ap (λ (h : Shape). h.m) (sound-shape g x w) in let q = free_map-below x k f in omega arith)
