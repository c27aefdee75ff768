-- An image that ends in the trailer of a shape: it tells that shape, and its trailer is known and fitting.
--     shape-told, known-told, fitting-told     for xs before the trailer, just as long as the shape's words
--     ends-in-trailer                          and the other way: the last bytes of a fitting image are its shape's trailer
use Rattle.std.proofs.Common.{◌≡◌, ℕ, suc, ◌+◌, ◌*◌, ◌/◌, ◌%◌, ◌<◌, ◌≤◌, true, false, ◌&&◌, eqb, leb, List, [], ◌∷◌, ◌++◌, length, get_or, drop, sym, refl, ap, ◌∙◌, ap₂, ⊎_elim, append_assoc, append-nil, arith, length-append, drop_of_length-le, drop-cons, get_or-append-add, eq-eqb, ne_eqb, eqb-true, le-leb}
use Rattle.words.specs.Words.{Bytes, number, digits, u16_at, u32_at}
use Rattle.words.proofs.Laws.{length_digits, number-skip}
use Rattle.words.proofs.Numbers.{number-here, number-next, drop-number}
use Rattle.search.proofs.Bools.{contradict, is_false, and_intro, and_left, and_right, or_left, or_right, or_cases, cond-true, cond-false}
use Rattle.layout.specs.declared.Shape.{Shape}
use Rattle.layout.specs.Layout.{first_edition, last_edition, head, tag, map_bytes, trailer_bytes, trailer_start, shape_bytes, size_bytes, added_bytes, tagged_at, known_as, edition_of, reserved_at, agreeing, spare_zero, trailer_of, trailer_at, image_bytes, within_limits, shape_of, known, fitting}
use Rattle.layout.proofs.Limits.{limits, two-editions, edition-some, edition-last, known_as_lem, shape-edition, known-long, fitting-limits, fitting-length, maps-high, units-high, image-high}
use Rattle.layout.specs.Shaped.{Limits}

-- the trailer, field after field
abbrev after-back : Shape → List ℕ
after-back g = digits 4 (map_bytes g) ++ (digits 4 (image_bytes g) ++ added_bytes g)

abbrev after-m : Shape → List ℕ
after-m g = digits 4 g.n ++ (digits 4 (trailer_start g) ++ after-back g)

abbrev after_tag : Shape → List ℕ
after_tag g = digits 2 g.edition ++ (digits 2 g.p ++ (digits 4 g.c ++ (digits 4 g.m ++ after-m g)))

trailer-fields : (g : Shape) → trailer_of g ≡ tag ++ after_tag g
unfolding trailer_of shape_bytes size_bytes
trailer-fields g =
    let front : digits 2 g.edition ++ digits 2 g.p ++ digits 4 g.c ++ digits 4 g.m ++ digits 4 g.n
    ++ (digits 4 (trailer_start g) ++ digits 4 (map_bytes g) ++ digits 4 (image_bytes g))
    ++ added_bytes g ≡ after_tag g = simp append_assoc in
    ap (λ (l : List ℕ). tag ++ l) front

-- what follows edition 1's fields
pub added-first : (g : Shape) → g.edition ≡ first_edition → added_bytes g ≡ []
unfolding added_bytes
added-first g e = rw e

pub added-second : (g : Shape) → g.edition ≡ last_edition → added_bytes g ≡ digits 4 g.r ++ digits 4 0
unfolding added_bytes
added-second g e = rw e

pub length-added : (g : Shape) → Limits g → length (added_bytes g) ≡ 8 * head g
length-added g l =
    ⊎_elim (λ e. ap length (added-first g e) ∙ omega arith)
    (λ e. let two : length (digits 4 g.r ++ digits 4 0) ≡ 8 = simp (length-append, length_digits) in ap length (added-second g e) ∙ two ∙ omega arith)
    (two-editions g.edition l.edition-low l.edition-high)

pub length-trailer : (g : Shape) → Limits g → length (trailer_of g) ≡ trailer_bytes g.edition
length-trailer g l = let e = length-added g l in ap length (trailer-fields g) ∙ simp (length-append, length_digits, e) (omega arith)

module _ (g : Shape) (l : Limits g) where
  read-version : number 2 (tag ++ after_tag g) 4 ≡ g.edition
  read-version = number-skip 2 tag (after_tag g) 4 0 refl ∙ number-here 2 g.edition _ (omega (arith, l.edition-high))

  read-p : number 2 (tag ++ after_tag g) 6 ≡ g.p
  read-p = number-skip 2 tag (after_tag g) 4 2 refl ∙ number-next 2 2 g.edition _ 0 ∙ number-here 2 g.p _ (omega (arith, l.p-high))

  read-c : number 4 (tag ++ after_tag g) 8 ≡ g.c
  read-c = number-skip 4 tag (after_tag g) 4 4 refl ∙ number-next 4 2 g.edition _ 2 ∙ number-next 4 2 g.p _ 0 ∙ number-here 4 g.c _ (omega (arith, l.c-high))

  read-m : number 4 (tag ++ after_tag g) 12 ≡ g.m
  read-m =
      number-skip 4 tag (after_tag g) 4 8 refl ∙ number-next 4 2 g.edition _ 6 ∙ number-next 4 2 g.p _ 4 ∙ number-next 4 4 g.c _ 0
      ∙ number-here 4 g.m _ (omega (arith, l.c-high, l.m-high))

  -- the fields after M
  read-after : (w i : ℕ) → number w (tag ++ after_tag g) (4 + (2 + (2 + (4 + (4 + i))))) ≡ number w (after-m g) i
  read-after w i =
      number-skip w tag (after_tag g) 4 (2 + (2 + (4 + (4 + i)))) refl ∙ number-next w 2 g.edition _ (2 + (4 + (4 + i)))
      ∙ number-next w 2 g.p _ (4 + (4 + i))
      ∙ number-next w 4 g.c _ (4 + i)
      ∙ number-next w 4 g.m _ i

  read-n : number 4 (tag ++ after_tag g) 16 ≡ g.n
  read-n = read-after 4 0 ∙ number-here 4 g.n _ (omega (arith, units-high g l))

  read_back : number 4 (tag ++ after_tag g) 20 ≡ trailer_start g
  read_back = read-after 4 4 ∙ number-next 4 4 g.n _ 0 ∙ number-here 4 (trailer_start g) _ (omega (arith, image-high g l))

  read-maps-back : number 4 (tag ++ after_tag g) 24 ≡ map_bytes g
  read-maps-back =
      read-after 4 8 ∙ number-next 4 4 g.n _ 4 ∙ number-next 4 4 (trailer_start g) _ 0
      ∙ number-here 4 (map_bytes g) _ (omega (arith, maps-high g l))

  read_length : number 4 (tag ++ after_tag g) 28 ≡ image_bytes g
  read_length =
      read-after 4 12 ∙ number-next 4 4 g.n _ 8 ∙ number-next 4 4 (trailer_start g) _ 4 ∙ number-next 4 4 (map_bytes g) _ 0
      ∙ number-here 4 (image_bytes g) _ (omega (arith, image-high g l))

  read-added : (i : ℕ) → number 4 (tag ++ after_tag g) (4 + (2 + (2 + (4 + (4 + (4 + (4 + (4 + (4 + i))))))))) ≡ number 4 (added_bytes g) i
  read-added i =
      read-after 4 (4 + (4 + (4 + (4 + i)))) ∙ number-next 4 4 g.n _ (4 + (4 + (4 + i))) ∙ number-next 4 4 (trailer_start g) _ (4 + (4 + i))
      ∙ number-next 4 4 (map_bytes g) _ (4 + i)
      ∙ number-next 4 4 (image_bytes g) _ i

  read-reserved : g.edition ≡ last_edition → number 4 (tag ++ after_tag g) 32 ≡ g.r
  read-reserved e =
      read-added 0 ∙ ap (λ (b : List ℕ). number 4 b 0) (added-second g e) ∙ number-here 4 g.r _ (omega (arith, units-high g l, l.r-high))

  read-last : g.edition ≡ last_edition → number 4 (tag ++ after_tag g) 36 ≡ 0
  read-last e =
      read-added 4 ∙ ap (λ (b : List ℕ). number 4 b 4) (added-second g e) ∙ number-next 4 4 g.r _ 0
      ∙ ap (λ (b : List ℕ). number 4 b 0) (sym (append-nil (digits 4 0)))
      ∙ number-here 4 0 [] (omega arith)

module _ (xs : List ℕ) (g : Shape) (full : length xs ≡ trailer_start g) (w : within_limits g ≡ true) where
  lim : Limits g
  lim = limits g w

  abbrev pub told : List ℕ
  told = xs ++ trailer_of g

  pub length-told : length told ≡ image_bytes g
  length-told = length-append xs (trailer_of g) ∙ ap₂ (λ (a b : ℕ). a + b) full (length-trailer g lim)

  pub trailer_at-told : trailer_at g.edition told ≡ trailer_start g
  trailer_at-told = let e = length-told in omega arith

  at-trailer : (w i : ℕ) → number w told (trailer_at g.edition told + i) ≡ number w (tag ++ after_tag g) i
  at-trailer w i =
      ap (λ (t : ℕ). number w told (t + i)) trailer_at-told ∙ number-skip w xs (trailer_of g) (trailer_start g) i full
      ∙ ap (λ (l : List ℕ). number w l i) (trailer-fields g)

  byte-trailer : (k i : ℕ) → k ≡ trailer_start g + i → get_or told k 0 ≡ get_or (tag ++ after_tag g) i 0
  byte-trailer k i e =
      let q : k ≡ length xs + i = omega (arith, full) in
      ap (λ (k : ℕ). get_or told k 0) q ∙ get_or-append-add xs (trailer_of g) i 0 ∙ ap (λ (t : List ℕ). get_or t i 0) (trailer-fields g)

  told-as : known_as g.edition told ≡ true
  unfolding known_as tagged_at
  told-as =
      let t = trailer_at g.edition told in
      let e = trailer_at-told in
      let b : leb (trailer_bytes g.edition) (length told) ≡ true =
      le-leb (trailer_bytes g.edition) (length told) (omega (arith, length-told)) in
      let b₀ : eqb (get_or told t 0) 0x52 ≡ true = eq-eqb (get_or told t 0) 0x52 (byte-trailer t 0 (omega arith)) in
      let b₁ : eqb (get_or told (t + 1) 0) 0x4D ≡ true = eq-eqb (get_or told (t + 1) 0) 0x4D (byte-trailer (t + 1) 1 (omega arith)) in
      let b₂ : eqb (get_or told (t + 2) 0) 0x41 ≡ true = eq-eqb (get_or told (t + 2) 0) 0x41 (byte-trailer (t + 2) 2 (omega arith)) in
      let b₃ : eqb (get_or told (t + 3) 0) 0x50 ≡ true = eq-eqb (get_or told (t + 3) 0) 0x50 (byte-trailer (t + 3) 3 (omega arith)) in
      let b₄ : eqb (u16_at told (t + 4)) g.edition ≡ true = eq-eqb (u16_at told (t + 4)) g.edition (at-trailer 2 4 ∙ read-version g lim) in
      and_intro _ _ b (and_intro _ _ (and_intro _ _ (and_intro _ _ (and_intro _ _ b₀ b₁) b₂) b₃) b₄)

  -- the last 32 bytes of an edition 2 image are no edition 1 trailer: their third byte is one of C's, which is few
  pub not_first : g.edition ≡ last_edition → known_as first_edition told ≡ false
  unfolding known_as tagged_at digits
  not_first e = is_false (known_as first_edition told) (λ h.
      let t = trailer_at 1 told in
      let tagged : get_or told (t + 2) 0 ≡ 0x41 = search (and_left, and_right, eqb-true) in
      let byte : get_or told (t + 2) 0 ≡ (g.c / 256 / 256) % 256 = byte-trailer (t + 2) 10 (omega (arith, length-told)) in
      omega (arith, lim.c-high))

  pub edition-told : edition_of told ≡ g.edition
  unfolding edition_of
  edition-told =
      ⊎_elim
      (λ e. cond-true (known_as first_edition told) first_edition last_edition (ap (λ (k : ℕ). known_as k told) (sym e) ∙ told-as) ∙ sym e)
      (λ e. cond-false (known_as first_edition told) first_edition last_edition (not_first e) ∙ sym e)
      (two-editions g.edition lim.edition-low lim.edition-high)

  field_told : (v i : ℕ) → number v told (trailer_at (edition_of told) told + i) ≡ number v (tag ++ after_tag g) i
  field_told v i = ap (λ (e : ℕ). number v told (trailer_at e told + i)) edition-told ∙ at-trailer v i

  reserved-told : reserved_at told (edition_of told) (trailer_at (edition_of told) told) ≡ g.r
  unfolding reserved_at
  reserved-told =
      let e = edition_of told in
      let v = u32_at told (trailer_at e told + 32) in
      ⊎_elim (λ q. cond-true (eqb e first_edition) 0 v (eq-eqb e first_edition (edition-told ∙ q)) ∙ sym (lim.r-first q))
      (λ q. cond-false (eqb e first_edition) 0 v (ne_eqb e first_edition (λ z. omega (arith, edition-told))) ∙ field_told 4 32 ∙ read-reserved g lim q)
      (two-editions g.edition lim.edition-low lim.edition-high)

  pub shape-told : shape_of told ≡ g
  unfolding shape_of
  shape-told = λ i.
      record {
        edition = edition-told i;
        p = (field_told 2 6 ∙ read-p g lim) i;
        c = (field_told 4 8 ∙ read-c g lim) i;
        m = (field_told 4 12 ∙ read-m g lim) i;
        n = (field_told 4 16 ∙ read-n g lim) i;
        r = reserved-told i;
      }

  pub known-told : known told ≡ true
  known-told = known_as_lem told ∙ ap (λ (e : ℕ). known_as e told) edition-told ∙ told-as

  agreeing-told : agreeing told g ≡ true
  unfolding agreeing
  agreeing-told =
      let t = trailer_at g.edition told in
      let b₁ : eqb (u32_at told (t + 20)) (trailer_start g) ≡ true = eq-eqb (u32_at told (t + 20)) (trailer_start g) (at-trailer 4 20 ∙ read_back g lim) in
      let b₂ : eqb (u32_at told (t + 24)) (map_bytes g) ≡ true = eq-eqb (u32_at told (t + 24)) (map_bytes g) (at-trailer 4 24 ∙ read-maps-back g lim) in
      let b₃ : eqb (u32_at told (t + 28)) (image_bytes g) ≡ true = eq-eqb (u32_at told (t + 28)) (image_bytes g) (at-trailer 4 28 ∙ read_length g lim) in
      let b₄ : eqb (length told) (image_bytes g) ≡ true = eq-eqb (length told) (image_bytes g) length-told in
      and_intro _ _ (and_intro _ _ (and_intro _ _ b₁ b₂) b₃) b₄

  spare_zero-told : spare_zero told g ≡ true
  unfolding spare_zero
  spare_zero-told =
      let v = u32_at told (trailer_at g.edition told + 36) in
      ⊎_elim (λ e. or_left (eqb g.edition first_edition) (eqb v 0) (eq-eqb g.edition first_edition e))
      (λ e. or_right (eqb g.edition first_edition) (eqb v 0) (eq-eqb v 0 (at-trailer 4 36 ∙ read-last g lim e)))
      (two-editions g.edition lim.edition-low lim.edition-high)

  pub fitting-told : fitting told ≡ true
  unfolding fitting
  fitting-told = rw shape-told (and_intro _ _ (and_intro _ _ w agreeing-told) spare_zero-told)

-- ---- the last bytes of a fitting image

module _ (s : List ℕ) (b : Bytes s) (known-s : known s ≡ true) where
  abbrev g : Shape
  g = shape_of s

  abbrev t : ℕ
  t = trailer_at (edition_of s) s

  long : trailer_bytes (edition_of s) ≤ length s
  long = known-long s known-s

  drop-byte : (i : ℕ) → i < 32 → drop (t + i) s ≡ get_or s (t + i) 0 ∷ drop (t + suc i) s
  drop-byte i h =
      let e : suc (t + i) ≡ t + suc i = omega arith in
      drop-cons s (t + i) 0 (omega (arith, long)) ∙ ap (λ (k : ℕ). get_or s (t + i) 0 ∷ drop k s) e

  drop-field : (w i : ℕ) → i + w ≤ trailer_bytes (edition_of s) → drop (t + i) s ≡ digits w (number w s (t + i)) ++ drop (t + (i + w)) s
  drop-field w i h =
      let e : t + i + w ≡ t + (i + w) = omega arith in
      drop-number w s (t + i) b (omega (arith, long)) ∙ ap (λ (k : ℕ). digits w (number w s (t + i)) ++ drop k s) e

  module _ (f : fitting s ≡ true) where
    lim-s : Limits g
    lim-s = fitting-limits s f

    reserved-second : edition_of s ≡ last_edition → u32_at s (t + 32) ≡ g.r
    unfolding shape_of reserved_at
    reserved-second e = sym (cond-false (eqb (edition_of s) first_edition) 0 (u32_at s (t + 32)) (ne_eqb (edition_of s) first_edition (λ z. omega arith)))

    last-zero : spare_zero s g ≡ true → edition_of s ≡ last_edition → u32_at s (t + 36) ≡ 0
    unfolding spare_zero shape_of
    last-zero h e =
        let v = u32_at s (t + 36) in
        ⊎_elim (λ q. contradict q (ne_eqb (edition_of s) first_edition (λ z. omega arith))) (λ q. eqb-true v 0 q)
        (or_cases (eqb (edition_of s) first_edition) (eqb v 0) h)

    -- what follows edition 1's fields
    drop-added : spare_zero s g ≡ true → drop (t + 32) s ≡ added_bytes g
    unfolding shape_of
    drop-added h =
        ⊎_elim (λ e. drop_of_length-le s {i = t + 32} (omega (arith, long, e)) ∙ sym (added-first g e))
        (λ e. drop-field 4 32 (omega (arith, e))
        ∙ ap₂ (λ (v : ℕ) (l : List ℕ). digits 4 v ++ l) (reserved-second e) (drop-field 4 36 (omega (arith, e))
        ∙ ap₂ (λ (v : ℕ) (l : List ℕ). digits 4 v ++ l) (last-zero h e) (drop_of_length-le s {i = t + 40} (omega (arith, long, e)))
        ∙ append-nil (digits 4 0))
        ∙ sym (added-second g e))
        (two-editions (edition_of s) (edition-some s) (edition-last s))

    drop-trailer : drop t s ≡ trailer_of g
    unfolding known_as tagged_at fitting agreeing shape_of
    drop-trailer =
        let e = edition_of s in
        let k₀ = eqb (get_or s t 0) 0x52 in
        let k₁ = eqb (get_or s (t + 1) 0) 0x4D in
        let k₂ = eqb (get_or s (t + 2) 0) 0x41 in
        let k₃ = eqb (get_or s (t + 3) 0) 0x50 in
        let k₄ = eqb (u16_at s (t + 4)) e in
        let k₅ = leb (trailer_bytes e) (length s) in
        let e₄ = and_right k₅ (k₀ && k₁ && k₂ && k₃ && k₄) (sym (known_as_lem s) ∙ known-s) in
        let e₃ = and_left (k₀ && k₁ && k₂ && k₃) k₄ e₄ in
        let e₂ = and_left (k₀ && k₁ && k₂) k₃ e₃ in
        let e₁ = and_left (k₀ && k₁) k₂ e₂ in
        let a = within_limits g in
        let f₁ = eqb (u32_at s (t + 20)) (trailer_start g) in
        let f₂ = eqb (u32_at s (t + 24)) (map_bytes g) in
        let f₃ = eqb (u32_at s (t + 28)) (image_bytes g) in
        let f₄ = eqb (length s) (image_bytes g) in
        let h₄ = and_left (a && (f₁ && f₂ && f₃ && f₄)) (spare_zero s g) f in
        let h₃ = and_left (f₁ && f₂ && f₃) f₄ (and_right a (f₁ && f₂ && f₃ && f₄) h₄) in
        let h₂ = and_left (f₁ && f₂) f₃ h₃ in
        let d₂₈ : drop (t + 28) s ≡ digits 4 (image_bytes g) ++ added_bytes g =
        drop-field 4 28 (omega arith)
        ∙ ap₂ (λ (v : ℕ) (l : List ℕ). digits 4 v ++ l) (eqb-true (u32_at s (t + 28)) (image_bytes g) (and_right (f₁ && f₂) f₃ h₃))
        (drop-added (and_right (a && (f₁ && f₂ && f₃ && f₄)) (spare_zero s g) f)) in
        let d₂₀ : drop (t + 20) s ≡ digits 4 (trailer_start g) ++ after-back g =
        drop-field 4 20 (omega arith)
        ∙ ap₂ (λ (v : ℕ) (l : List ℕ). digits 4 v ++ l) (eqb-true (u32_at s (t + 20)) (trailer_start g) (and_left f₁ f₂ h₂))
        (drop-field 4 24 (omega arith)
        ∙ ap₂ (λ (v : ℕ) (l : List ℕ). digits 4 v ++ l) (eqb-true (u32_at s (t + 24)) (map_bytes g) (and_right f₁ f₂ h₂)) d₂₈) in
        let d₈ : drop (t + 8) s ≡ digits 4 g.c ++ (digits 4 g.m ++ after-m g) =
        drop-field 4 8 (omega arith)
        ∙ ap (λ (l : List ℕ). digits 4 g.c ++ l) (drop-field 4 12 (omega arith)
        ∙ ap (λ (l : List ℕ). digits 4 g.m ++ l) (drop-field 4 16 (omega arith) ∙ ap (λ (l : List ℕ). digits 4 g.n ++ l) d₂₀)) in
        let d₄ : drop (t + 4) s ≡ after_tag g =
        drop-field 2 4 (omega arith)
        ∙ ap₂ (λ (v : ℕ) (l : List ℕ). digits 2 v ++ l) (eqb-true (u16_at s (t + 4)) e (and_right (k₀ && k₁ && k₂ && k₃) k₄ e₄))
        (drop-field 2 6 (omega arith) ∙ ap (λ (l : List ℕ). digits 2 g.p ++ l) d₈) in
        let z : t ≡ t + 0 = omega arith in
        ap (λ (i : ℕ). drop i s) z ∙ drop-byte 0 (omega arith)
        ∙ ap₂ (λ (v : ℕ) (l : List ℕ). v ∷ l) (sym (ap (λ (i : ℕ). get_or s i 0) z) ∙ eqb-true (get_or s t 0) 0x52 (and_left k₀ k₁ e₁))
        (drop-byte 1 (omega arith)
        ∙ ap₂ (λ (v : ℕ) (l : List ℕ). v ∷ l) (eqb-true (get_or s (t + 1) 0) 0x4D (and_right k₀ k₁ e₁))
        (drop-byte 2 (omega arith)
        ∙ ap₂ (λ (v : ℕ) (l : List ℕ). v ∷ l) (eqb-true (get_or s (t + 2) 0) 0x41 (and_right (k₀ && k₁) k₂ e₂))
        (drop-byte 3 (omega arith)
        ∙ ap₂ (λ (v : ℕ) (l : List ℕ). v ∷ l) (eqb-true (get_or s (t + 3) 0) 0x50 (and_right (k₀ && k₁ && k₂) k₃ e₃)) d₄)))
        ∙ sym (trailer-fields g)

    -- the last bytes of a known and fitting image are its shape's trailer
    pub ends-in-trailer : drop (trailer_start g) s ≡ trailer_of g
    ends-in-trailer =
        let at : trailer_start g ≡ t = let e = fitting-length s f in let q = shape-edition s in omega arith in
        ap (λ (k : ℕ). drop k s) at ∙ drop-trailer
