-- An image is refused with the row that holds of it: `verdict` against the rows to read.
use Rattle.std.specs.Prelude.{Result, Ok, Err, ⊤}
use Prim.Native.Nat.{ℕ, ◌≤◌, ◌<◌}
use mathlib.Core.Path.{◌≡◌, refl, sym, ap, subst, ◌∙◌}
use mathlib.Core.Logic.{◌⊎◌, inl, inr, ⊎_elim}
use mathlib.Core.Bool.{Bool, true, false, not, cond}
use mathlib.Core.List.{List}
use native.Mathlib.Omega.{arith}
use lib.ListN.{length}
use lib.Dec.{ltb}
use borrow.Author.Tests.{ltb-true, ltb-false, lt-ltb, le-ltb, not-false}
use Rattle.search.specs.Search.{lowest}
use Rattle.search.proofs.Bools.{either}
use Rattle.search.proofs.Ranges.{lowest-before, lowest-holds, lowest-is, lowest-none, lowest-le}
use Rattle.layout.specs.declared.Refusal.{Refusal}
use Rattle.layout.specs.declared.Refusal.TheVariants.{Short, Foreign, Geometry, BadLink, BadMap, Shared, Range, Size, NoRoom, Small, BadPlan, BadAlarm}
use Rattle.layout.specs.Layout.{first_edition, trailer_bytes, shape_of, known, fitting}
use Rattle.layout.specs.Trailer.{trailer_outcome}
use Rattle.image.specs.Verdicts.{good_link, good_map, clash, contested, bad_link, bad_map, double_claim, first_claim, chunk_verdict, verdict}
use Rattle.image.specs.Rows.{LowestOf, PastRow3, PastRow4, PastRow5, Row}

-- ---- the lowest, found and said

found-lowest : (f : ℕ → Bool) (n : ℕ) → ltb (lowest f n) n ≡ true → LowestOf f n (lowest f n)
found-lowest f n h = let l = ltb-true (lowest f n) n h in (l, lowest-holds f n l, lowest-before f n)

lowest-found : (f : ℕ → Bool) (n i : ℕ) → LowestOf f n i → lowest f n ≡ i
lowest-found f n i h = lowest-is f n i h.0 h.1 h.2

none_found : (f : ℕ → Bool) (n : ℕ) → ltb (lowest f n) n ≡ false → (i : ℕ) → i < n → f i ≡ false
none_found f n h i l = lowest-before f n i (omega (arith, ltb-false (lowest f n) n h))

-- ---- what a verdict says

-- of a refused image the row; of a passed one nothing
abbrev Says : List ℕ → Result ⊤ Refusal → Type 0
Says s (Ok tt) = Unit {0}
Says s (Err r) = Row s r

says-cond : (s : List ℕ) (b : Bool) (r : Refusal) (v : Result ⊤ Refusal) → (b ≡ true → Row s r) → (b ≡ false → Says s v) → Says s (cond b (Err r) v)
says-cond s true r v holds fails = holds refl
says-cond s false r v holds fails = fails refl

module _ (s : List ℕ) where
  abbrev c : ℕ
  c = (shape_of s).c

  first_chunk : (j : ℕ) → LowestOf (λ k. clash s k j) j (first_claim s j) ⊎ ((first_claim s j ≡ j) × ((k : ℕ) → k < j → clash s k j ≡ false))
  unfolding first_claim
  first_chunk j =
      let f : ℕ → Bool = λ k. clash s k j in
      ⊎_elim (λ e. inl (found-lowest f j e))
      (λ e. inr (omega (arith, lowest-le f j, ltb-false (lowest f j) j e), none_found f j e))
      (either (ltb (lowest f j) j))

  says-sharing : PastRow5 s → Says s (cond (ltb (double_claim s) c) (Err (Shared (first_claim s (double_claim s)) (double_claim s))) (Ok tt))
  unfolding double_claim
  says-sharing f =
      says-cond s (ltb (double_claim s) c) (Shared (first_claim s (double_claim s)) (double_claim s)) (Ok tt)
      (λ e. (f, found-lowest (contested s) c e, first_chunk (double_claim s))) (λ e. tt)

  says-chunks : PastRow3 s → Says s (chunk_verdict s)
  unfolding chunk_verdict bad_link bad_map
  says-chunks t =
      says-cond s (ltb (bad_link s) c) (BadLink (bad_link s)) _ (λ e. (t, found-lowest (λ j. not (good_link s j)) c e)) (λ e.
      let l : PastRow4 s = (t, λ i h. not-false _ (none_found (λ j. not (good_link s j)) c e i h)) in
      says-cond s (ltb (bad_map s) c) (BadMap (bad_map s)) _ (λ d. (l, found-lowest (λ j. not (good_map s j)) c d)) (λ d.
      says-sharing (l, λ i h. not-false _ (none_found (λ j. not (good_map s j)) c d i h))))

  short-verdict : length s < trailer_bytes first_edition → verdict s ≡ Err Short
  unfolding verdict trailer_outcome
  short-verdict l = rw (lt-ltb (length s) (trailer_bytes first_edition) l)

  foreign-verdict : trailer_bytes first_edition ≤ length s → known s ≡ false → verdict s ≡ Err Foreign
  unfolding verdict trailer_outcome
  foreign-verdict l k = rw (le-ltb (length s) (trailer_bytes first_edition) l, k)

  geometry-verdict : trailer_bytes first_edition ≤ length s → known s ≡ true → fitting s ≡ false → verdict s ≡ Err Geometry
  unfolding verdict trailer_outcome
  geometry-verdict l k f = rw (le-ltb (length s) (trailer_bytes first_edition) l, k, f)

  trailed-verdict : PastRow3 s → verdict s ≡ chunk_verdict s
  unfolding verdict trailer_outcome
  trailed-verdict t = rw (le-ltb (length s) (trailer_bytes first_edition) t.0, t.1, t.2)

  says-verdict : Says s (verdict s)
  says-verdict =
      ⊎_elim (λ a. let l = ltb-true (length s) (trailer_bytes first_edition) a in subst (Says s) (sym (short-verdict l)) l) (λ a.
      let l = ltb-false (length s) (trailer_bytes first_edition) a in
      ⊎_elim (λ k. ⊎_elim
      (λ f. subst (Says s) (sym (trailed-verdict (l, k, f))) (says-chunks (l, k, f)))
      (λ f. subst (Says s) (sym (geometry-verdict l k f)) (l, k, f))
      (either (fitting s)))
      (λ k. subst (Says s) (sym (foreign-verdict l k)) (l, k))
      (either (known s)))
      (either (ltb (length s) (trailer_bytes first_edition)))

  pub refused-row : (r : Refusal) → verdict s ≡ Err r → Row s r
  refused-row r e = subst (Says s) e says-verdict

  -- ---- and what the rows say of the verdict

  linked-none : PastRow4 s → bad_link s ≡ c
  unfolding bad_link
  linked-none l = lowest-none (λ j. not (good_link s j)) c (λ i h. ap not (l.1 i h))

  formed-none : PastRow5 s → bad_map s ≡ c
  unfolding bad_map
  formed-none f = lowest-none (λ j. not (good_map s j)) c (λ i h. ap not (f.1 i h))

  link-verdict : (i : ℕ) → LowestOf (λ j. not (good_link s j)) c i → chunk_verdict s ≡ Err (BadLink i)
  unfolding chunk_verdict bad_link
  link-verdict i h = rw (lowest-found (λ j. not (good_link s j)) c i h, lt-ltb i c h.0)

  map-verdict : (i : ℕ) → PastRow4 s → LowestOf (λ j. not (good_map s j)) c i → chunk_verdict s ≡ Err (BadMap i)
  unfolding chunk_verdict bad_map
  map-verdict i l h = rw (linked-none l, le-ltb c c (omega arith), lowest-found (λ j. not (good_map s j)) c i h, lt-ltb i c h.0)

  shared-verdict : (i j : ℕ) → PastRow5 s → LowestOf (contested s) c j → first_claim s j ≡ i → chunk_verdict s ≡ Err (Shared i j)
  unfolding chunk_verdict double_claim
  shared-verdict i j f h e =
      rw (linked-none f.0, formed-none f, le-ltb c c (omega arith), lowest-found (contested s) c j h, lt-ltb j c h.0, e)

  first-is : (i j : ℕ) → LowestOf (λ k. clash s k j) j i ⊎ ((i ≡ j) × ((k : ℕ) → k < j → clash s k j ≡ false)) → first_claim s j ≡ i
  unfolding first_claim
  first-is i j (inl h) = lowest-found (λ k. clash s k j) j i h
  first-is i j (inr h) = lowest-none (λ k. clash s k j) j h.1 ∙ sym h.0

  pub row-refused : (r : Refusal) → Row s r → verdict s ≡ Err r
  row-refused Short h = short-verdict h
  row-refused Foreign h = foreign-verdict h.0 h.1
  row-refused Geometry h = geometry-verdict h.0 h.1 h.2
  row-refused (BadLink i) h = trailed-verdict h.0 ∙ link-verdict i h.1
  row-refused (BadMap i) h = trailed-verdict h.0.0 ∙ map-verdict i h.0 h.1
  row-refused (Shared i j) h = trailed-verdict h.0.0.0 ∙ shared-verdict i j h.0 h.1 (first-is i j h.2)
  row-refused Range h = absurd h
  row-refused Size h = absurd h
  row-refused (NoRoom n) h = absurd h
  row-refused (Small n) h = absurd h
  row-refused (BadPlan n) h = absurd h
  row-refused BadAlarm h = absurd h
