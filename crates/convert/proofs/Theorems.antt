-- The theorems of this crate that a reader wants. `Bytes s` says that each element of s is below 256, as every lent image's is.
use Rattle.std.specs.Prelude.{Result, Ok, Err, ⊤}
use Prim.Native.Nat.{ℕ, ◌*◌, ◌≤◌, ◌<◌}
use native.Mathlib.Omega.{arith}
use mathlib.Core.Path.{◌≡◌, refl, sym, ap, subst, fun_ext, ◌∙◌}
use mathlib.Core.Logic.{◌≢◌, ⊎_elim}
use mathlib.Core.Bool.{Bool, true, false, cond}
use mathlib.Core.List.{List}
use lib.ListN.{length, get_or}
use lib.Dec.{eqb, ltb}
use borrow.Author.Tests.{ltb-true, lt-ltb, eqb-true, eqb-false}
use Rattle.words.specs.Words.{Bytes}
use Rattle.search.specs.Search.{member}
use Rattle.search.proofs.Bools.{either, is_false, same, cond-true, or_cases, or_left}
use Rattle.layout.specs.declared.Shape.{Shape}
use Rattle.layout.specs.declared.Refusal.{Refusal}
use Rattle.layout.specs.declared.Refusal.TheVariants.{Short, Foreign, Small}
use Rattle.layout.specs.Layout.{unit_bytes, first_edition, last_edition, map_words, word_at, map_word_place, trailer_bytes, image_bytes, known_as, edition_of, shape_of, link_of}
use Rattle.layout.specs.Shaped.{map_of}
use Rattle.layout.proofs.Limits.{shape-edition, fitting-limits, map-words, unit-unreserved, between-unit}
use Rattle.image.specs.Soundness.{Named, units_of, Sound}
use Rattle.image.specs.Verdicts.{as_first, first_verdict}
use Rattle.image.specs.Rows.{Row}
use Rattle.image.specs.Free.{free_unit, free_map}
use Rattle.image.specs.Claims.{Tested}
use Rattle.image.specs.Answers.{if_sound}
use Rattle.image.proofs.Verdicts.{first-verdict, first-foreign, read_first, read-other}
use Rattle.image.proofs.SoundLaws.{passed-tested, tested-passed}
use Rattle.image.proofs.Wording.{tested-sound, sound-tested, sound-shape, sound-first, sound-second}
use Rattle.image.proofs.Refusing.{row-refused}
use Rattle.image.proofs.Chunks.{is_mapped, units-are-units}
use Rattle.image.proofs.Room.{free_unit-unreserved, free_unit-below, free_unit-unheld, free_unit-intro, free_map-below, free_map-unnamed, free_map-intro}
use Rattle.convert.specs.Convert.{second_of, new_bytes, converted, if_exact, convert_answer, convert_out}
use Rattle.convert.specs.Reading.{Converts}
use Rattle.convert.proofs.Answering.{exact-other, exact_same, left_out, answer-refused, answer-sound}
use Rattle.convert.proofs.Second.{map-length, map-word}
use Rattle.convert.proofs.Settled.{settled, bytes-converted}
use Rattle.convert.proofs.Copying.{converted-sound, converted-links, converted-units, converted-sizes, converted-dead}

-- ---- what is answered: "Each is given when its row holds and not otherwise", "Lowest number wins, the image's own before others"

-- what an answer says: the image passes as one of edition 1, and the second buffer has exactly the new length n
pub record Answered (s : List ℕ) (room n : ℕ) : Type 0 where
  pub passed : first_verdict s ≡ Ok tt
  pub needed : n ≡ new_bytes s
  pub exact : room ≡ n

-- and a refusal: it is the image's own; or the image passes, and the buffer has another length, shorter or longer
pub data Denied (s : List ℕ) (room : ℕ) (r : Refusal) : Type 0 where
  by_image : first_verdict s ≡ Err r → Denied s room r
  for_room : first_verdict s ≡ Ok tt → r ≡ Small (new_bytes s) → room ≢ new_bytes s → Denied s room r

-- what each answer says of the input
abbrev Says : List ℕ → ℕ → Result ℕ Refusal → Type 0
Says s room (Ok n) = Answered s room n
Says s room (Err r) = Denied s room r

says : (s : List ℕ) (room : ℕ) → Says s room (convert_answer s room)
unfolding convert_answer if_exact
says s room = by-verdict (first_verdict s) refl
  where
    by-room : (b : Bool) → eqb room (new_bytes s) ≡ b → first_verdict s ≡ Ok tt → Says s room (cond b (Ok (new_bytes s)) (Err (Small (new_bytes s))))
    by-room true l v = record { passed = v; needed = refl; exact = eqb-true room (new_bytes s) l }
    by-room false l v = for_room v refl (eqb-false room (new_bytes s) l)

    by-verdict : (v : Result ⊤ Refusal) → first_verdict s ≡ v
        → Says s room (if_sound v Err (cond (eqb room (new_bytes s)) (Ok (new_bytes s)) (Err (Small (new_bytes s)))))
    by-verdict (Ok tt) q = by-room (eqb room (new_bytes s)) refl q
    by-verdict (Err r) q = by_image q

-- A conversion is answered, and refused, only so.
pub answered : (s : List ℕ) (room n : ℕ) → convert_answer s room ≡ Ok n → Answered s room n
answered s room n e = subst (Says s room) e (says s room)

pub denied : (s : List ℕ) (room : ℕ) (r : Refusal) → convert_answer s room ≡ Err r → Denied s room r
denied s room r e = subst (Says s room) e (says s room)

-- And always so: 1 for fewer than 32 bytes.
pub short-refused : (s : List ℕ) (room : ℕ) → length s < trailer_bytes first_edition → convert_answer s room ≡ Err Short
short-refused s room h =
    let a = ltb (length s) (trailer_bytes first_edition) in
    answer-refused s room Short (first-verdict s (or_left a (known_as first_edition s) (lt-ltb (length s) (trailer_bytes first_edition) h)) ∙ row-refused s Short h)

-- Then 2 for whatever is not read as edition 1, sound or damaged.
pub other-refused : (s : List ℕ) (room : ℕ) → trailer_bytes first_edition ≤ length s → known_as first_edition s ≡ false → convert_answer s room ≡ Err Foreign
other-refused s room h k = answer-refused s room Foreign (read-other s h k)

-- "an edition 2 input gives 2"
pub second-refused : (g : Shape) (s : List ℕ) (room : ℕ) → Sound g s → g.edition ≡ last_edition → convert_answer s room ≡ Err Foreign
second-refused g s room z e = other-refused s room (sound-tested g s z).long (sound-second g s z e)

-- Then 3 to 6: what load says of an image that is read as edition 1.
pub row-refuses : (s : List ℕ) (room : ℕ) (r : Refusal) → known_as first_edition s ≡ true → Row s r → convert_answer s room ≡ Err r
row-refuses s room r k h = answer-refused s room r (read_first s k ∙ row-refused s r h)

module _ (g : Shape) (s : List ℕ) (z : Sound g s) (e : g.edition ≡ first_edition) (room : ℕ) where
  sound-exact : convert_answer s room ≡ if_exact room (image_bytes (second_of g))
  sound-exact =
      answer-sound s room (read_first s (sound-first g s z e) ∙ tested-passed s (sound-tested g s z))
      ∙ ap (λ (h : Shape). if_exact room (image_bytes (second_of h))) (sound-shape g s z)

  -- "a buffer not of exactly the new length gives 10", with that length
  pub length-refused : room ≢ image_bytes (second_of g) → convert_answer s room ≡ Err (Small (image_bytes (second_of g)))
  length-refused h = sound-exact ∙ exact-other room (image_bytes (second_of g)) (image_bytes (second_of g)) refl h

  -- and a sound image of edition 1 is converted into a buffer of exactly that length
  pub sound-converted : room ≡ image_bytes (second_of g) → convert_answer s room ≡ Ok (image_bytes (second_of g))
  sound-converted h = sound-exact ∙ exact_same room (image_bytes (second_of g)) (image_bytes (second_of g)) refl h

-- "A refusal changes nothing lent": the image is only read, and the second buffer stays.
pub refusal-changes-nothing : (s out : List ℕ) (r : Refusal) → convert_answer s (length out) ≡ Err r → convert_out s out ≡ out
refusal-changes-nothing s out r e = left_out s out (convert_answer s (length out)) (Err r) e

-- ---- what a conversion leaves

-- an image that passes as one of edition 1
module _ (s : List ℕ) (v : first_verdict s ≡ Ok tt) where
  first-known : (as_first s ≡ true) × Tested s
  first-known =
      ⊎_elim (λ h. (h, passed-tested s (sym (first-verdict s h) ∙ v)))
      (λ h. let e = sym (first-foreign s h) ∙ v in let z : ◌≡◌ {A = ℕ} 0 1 = cc in absurd (omega arith))
      (either (as_first s))

  first-edition : (shape_of s).edition ≡ first_edition
  unfolding edition_of
  first-edition =
      shape-edition s
      ∙ cond-true (known_as first_edition s) first_edition last_edition
      (⊎_elim (λ h. let l = ltb-true (length s) (trailer_bytes first_edition) h in absurd (omega (arith, first-known.1.long))) (λ h. h)
      (or_cases (ltb (length s) (trailer_bytes first_edition)) (known_as first_edition s) first-known.0))

-- edition 1 reserves no unit
none-reserved : (s : List ℕ) → first_verdict s ≡ Ok tt → (shape_of s).r ≡ 0
none-reserved s v = (fitting-limits s (first-known s v).1.fitting).r-first (first-edition s v)

module _ (s : List ℕ) (z : Tested s) (none : (shape_of s).r ≡ 0) where
  abbrev g : Shape
  g = second_of (shape_of s)

  abbrev t : List ℕ
  t = converted s

  shape-now : shape_of t ≡ g
  shape-now = sound-shape g t (converted-sound s z)

  c-now : (shape_of t).c ≡ g.c
  c-now = ap (λ (h : Shape). h.c) shape-now

  m-now : (shape_of t).m ≡ g.m
  m-now = ap (λ (h : Shape). h.m) shape-now

  n-now : (shape_of t).n ≡ g.n
  n-now = ap (λ (h : Shape). h.n) shape-now

  size-now : (i : ℕ) → i < g.c → Named t i → get_or (map_of t (link_of t i)) 0 0 ≡ length (units_of t i) * unit_bytes
  size-now i b n =
      let e = converted-links s z i b in
      map-word g t shape-now (link_of t i) 0 (omega (arith, map-words g))
      ∙ ap (λ (k : ℕ). word_at t (map_word_place g k 0)) e
      ∙ converted-sizes s z i b (is_mapped s i (λ x. n (e ∙ x)))
      ∙ ap (λ (us : List ℕ). length us * unit_bytes) (sym (converted-units s z i b))

  r-now : (shape_of t).r ≡ 0
  r-now = ap (λ (h : Shape). h.r) shape-now

  free-unit : (u : ℕ) → free_unit t u ≡ free_unit s u
  free-unit u =
      same (free_unit t u) (free_unit s u)
      (λ e. free_unit-intro s u (between-unit (shape_of s) u (omega arith) (omega (arith, free_unit-below t u e, n-now)))
      (λ i b. ap (member u) (sym (converted-units s z i b)) ∙ free_unit-unheld t u e i (omega (arith, c-now))))
      (λ e. free_unit-intro t u (between-unit (shape_of t) u (omega (arith, r-now)) (omega (arith, free_unit-below s u e, n-now)))
      (λ i b. ap (member u) (converted-units s z i (omega (arith, c-now))) ∙ free_unit-unheld s u e i (omega (arith, c-now))))

  free-map : (k : ℕ) → free_map t k ≡ free_map s k
  free-map k =
      same (free_map t k) (free_map s k)
      (λ e. free_map-intro s k (omega (arith, free_map-below t k e, m-now))
      (λ i b q. free_map-unnamed t k e i (omega (arith, c-now)) (converted-links s z i b ∙ q)))
      (λ e. free_map-intro t k (omega (arith, free_map-below s k e, m-now))
      (λ i b q. free_map-unnamed s k e i (omega (arith, c-now)) (sym (converted-links s z i (omega (arith, c-now))) ∙ q)))

  tested-converts : Converts s t
  tested-converts = record {
    sound = converted-sound s z;
    entries = converted-links s z;
    units = converted-units s z;
    sizes = size-now;
    dead = λ k a f l.
        let b : a < map_words g = omega (arith, map-length g t shape-now k) in
        let e = sym (free-map k) ∙ f in
        map-word g t shape-now k a b ∙ converted-dead s z k a (free_map-below s k e) b (free_map-unnamed s k e);
    free-units = fun_ext free-unit;
    free-maps = fun_ext free-map;
  }

-- Where the sentences hold, no unit was reserved: unit 0 would be free now and was not.
all-units : (s t : List ℕ) → Tested s → Converts s t → (shape_of s).r ≡ 0
all-units s t z h = ⊎_elim (λ q. eqb-true (shape_of s).r 0 q) (λ q. absurd (some (eqb-false (shape_of s).r 0 q))) (either (eqb (shape_of s).r 0))
  where
    shape-now : shape_of t ≡ second_of (shape_of s)
    shape-now = sound-shape (second_of (shape_of s)) t h.sound

    some : (shape_of s).r ≢ 0 → ⊥
    some r =
        let low : 0 < (shape_of s).r = omega (arith, r) in
        let none : (shape_of t).r ≡ 0 = ap (λ (k : Shape). k.r) shape-now in
        let n : (shape_of t).n ≡ (shape_of s).n = ap (λ (k : Shape). k.n) shape-now in
        let c : (shape_of t).c ≡ (shape_of s).c = ap (λ (k : Shape). k.c) shape-now in
        let unit = between-unit (shape_of t) 0 (omega arith) (omega (arith, (fitting-limits s z.fitting).r-high)) in
        let unheld : (i : ℕ) → member 0 (units_of s i) ≡ false = λ i.
        is_false (member 0 (units_of s i)) (λ m. let past = unit-unreserved (shape_of s) 0 (units-are-units s 0 i m) in omega arith) in
        let new = free_unit-intro t 0 unit (λ i b. ap (member 0) (h.units i (omega arith)) ∙ unheld i) in
        let was = free_unit-unreserved s 0 (ap (λ (f : ℕ → Bool). f 0) (sym h.free-units) ∙ new) in
        omega arith

-- The sentences settle every byte: they are said of the converted image alone.
pub converts-only : (g : Shape) (s t : List ℕ) → Sound g s → Bytes t → Converts s t → t ≡ converted s
converts-only g s t z b h =
    let k = sound-tested g s z in settled s t (converted s) h (tested-converts s k (all-units s t k h)) b (bytes-converted s t h b)

module _ (s out : List ℕ) (n : ℕ) (e : convert_answer s (length out) ≡ Ok n) where
  was-first : first_verdict s ≡ Ok tt
  was-first = (answered s (length out) n e).passed

  -- Whatever is converted was a sound image of edition 1.
  pub converts-first : Bytes s → Sound (shape_of s) s × ((shape_of s).edition ≡ first_edition)
  converts-first b = (tested-sound s (first-known s was-first).1 b, first-edition s was-first)

  -- Every byte of the second buffer is written, whatever stood there.
  pub whole-buffer : (convert_out s out ≡ converted s) × (length (converted s) ≡ length out)
  whole-buffer =
      let a = answered s (length out) n e in (
        left_out s out (convert_answer s (length out)) (Ok n) e,
        (converted-sound s (first-known s was-first).1).size ∙ sym (a.exact ∙ a.needed),
      )

  -- Document 02's sentences on what is left there, all of them.
  pub convert-converts : Converts s (convert_out s out)
  convert-converts = subst (Converts s) (sym whole-buffer.0) (tested-converts s (first-known s was-first).1 (none-reserved s was-first))

  -- What is left is refused by a second conversion, with 2.
  pub again-refused : (room : ℕ) → convert_answer (convert_out s out) room ≡ Err Foreign
  again-refused room = second-refused (second_of (shape_of s)) (convert_out s out) room convert-converts.sound refl
