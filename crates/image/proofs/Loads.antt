-- What a caller of the loader learns from its answer and the sets that it lent, and what the loader owes.
use Rattle.std.specs.Prelude.{Result, Ok, Err, ⊤}
use Prim.Native.Nat.{ℕ}
use mathlib.Core.Path.{◌≡◌, refl, sym, ap, ◌∙◌}
use mathlib.Core.Bool.{Bool, true, false, true≢false}
use mathlib.Core.List.{List}
use Rattle.layout.specs.declared.Refusal.{Refusal}
use native.Mathlib.Omega.{arith}
use Rattle.layout.specs.declared.Shape.{Shape}
use Rattle.layout.specs.Trailer.{trailer_outcome}
use Rattle.layout.specs.Layout.{shape_of}
use Rattle.layout.specs.Shaped.{Shaped, On}
use Rattle.layout.proofs.Limits.{fits_on, shaped}
use Rattle.bitset.specs.Bits.{bit_set}
use Rattle.image.specs.declared.Loaded.{Loaded}
use Rattle.image.specs.Claims.{Tested}
use Rattle.image.specs.Verdicts.{chunk_verdict, verdict}
use Rattle.image.specs.Survey.{passed, Surveyed}
use Rattle.image.specs.Free.{free_unit, free_map}
use Rattle.image.specs.Loading.{unit_set_words, map_set_words, answer, loaded}
use Rattle.image.specs.Outcomes.{outcome, LoadedInto}
use Rattle.image.specs.Answers.{if_sound}
use Rattle.image.proofs.SoundLaws.{passed-tested}
use Rattle.image.proofs.Surveyed.{passed-yes}
use Rattle.image.proofs.Verdicts.{verdict-fits, verdict-refused}

-- of a sound image: its shape and its free sets
pub record Known (s : List ℕ) (l : Loaded) : Type 0 where
  pub passed : verdict s ≡ Ok tt
  pub sound : Tested s
  pub shape : l.shape ≡ shape_of s
  pub on : On l.shape s
  pub shaped : Shaped s l.shape
  pub units : l.units ≡ bit_set (free_unit s) unit_set_words
  pub maps : l.maps ≡ bit_set (free_map s) map_set_words

-- ---- of the outcome

-- a shape is the outcome where nothing is refused, and a refusal where it is; of any verdict v and shape h
pub sound-passed : (v : Result ⊤ Refusal) (h g : Shape) → if_sound v Err (Ok h) ≡ Ok g → (v ≡ Ok tt) × (g ≡ h)
sound-passed (Ok tt) h g e = (refl, cc)
sound-passed (Err r) h g e = let z : ◌≡◌ {A = ℕ} 0 1 = cc in absurd (omega arith)

pub refused-so : (v : Result ⊤ Refusal) (h : Shape) (r : Refusal) → if_sound v Err (Ok h) ≡ Err r → v ≡ Err r
refused-so (Ok tt) h r e = let z : ◌≡◌ {A = ℕ} 0 1 = cc in absurd (omega arith)
refused-so (Err q) h r e = cc

-- the answer to a question, as a call finds it that asks for the outcome first
module _ {A : Type 0} (v : Result ⊤ Refusal) (h : Shape) (o : Result Shape Refusal) (e : o ≡ if_sound v Err (Ok h)) (refuse : Refusal → A) (reply : A) where
  pub answer-refused : (r : Refusal) → o ≡ Err r → refuse r ≡ if_sound v refuse reply
  answer-refused r q = rw (refused-so v h r (sym e ∙ q))

  pub answer-sound : (g : Shape) → o ≡ Ok g → reply ≡ if_sound v refuse reply
  answer-sound g q = rw (sound-passed v h g (sym e ∙ q)).0

-- of a sound image of shape g, where nobody asks what is free
pub record KnownShape (s : List ℕ) (g : Shape) : Type 0 where
  pub passed : verdict s ≡ Ok tt
  pub sound : Tested s
  pub shape : g ≡ shape_of s
  pub shaped : Shaped s g

module _ (s : List ℕ) (o : Result Shape Refusal) (e : o ≡ outcome s) where
  pub outcome-refused : (r : Refusal) → o ≡ Err r → verdict s ≡ Err r
  outcome-refused r h = refused-so (verdict s) (shape_of s) r (sym e ∙ h)

  pub outcome-passed : (g : Shape) → o ≡ Ok g → (verdict s ≡ Ok tt) × (g ≡ shape_of s)
  outcome-passed g h = sound-passed (verdict s) (shape_of s) g (sym e ∙ h)

  pub outcome-known : (g : Shape) → o ≡ Ok g → KnownShape s g
  outcome-known g h =
      let p = outcome-passed g h in
      let z : Tested s = passed-tested s p.0 in
      record { passed = p.0; sound = z; shape = p.1; shaped = shaped s g p.1 z.fitting }

  -- the answer to a question on the image, as an entry point finds it
  module _ {A : Type 0} (refuse : Refusal → A) (reply : A) where
    pub outcome-answer-refused : (r : Refusal) → o ≡ Err r → refuse r ≡ if_sound (verdict s) refuse reply
    outcome-answer-refused = answer-refused (verdict s) (shape_of s) o e refuse reply

    pub outcome-answer-sound : (g : Shape) → o ≡ Ok g → reply ≡ if_sound (verdict s) refuse reply
    outcome-answer-sound = answer-sound (verdict s) (shape_of s) o e refuse reply

module _ (s : List ℕ) (o : Result Shape Refusal) (us ms : List ℕ) (e : LoadedInto s o us ms) (g : Shape) (h : o ≡ Ok g) where
  pub into-loaded : Ok (record { shape = g; units = us; maps = ms }) ≡ loaded s
  into-loaded =
      let p = outcome-passed s o e.right g h in
      let q : Ok (record { shape = g; units = us; maps = ms }) ≡ answer (Ok tt) s =
      λ i. Ok (record { shape = p.1 i; units = e.units-left g h i; maps = e.maps-left g h i }) in
      q ∙ ap (λ (w : Result ⊤ Refusal). answer w s) (sym p.0)

  pub into-known : Known s (record { shape = g; units = us; maps = ms })
  into-known =
      let p = outcome-passed s o e.right g h in
      let z : Tested s = passed-tested s p.0 in
      record {
        passed = p.0;
        sound = z;
        shape = p.1;
        on = record { long = z.long; shape = sym p.1; known = z.known; fitting = z.fitting };
        shaped = shaped s g p.1 z.fitting;
        units = e.units-left g h;
        maps = e.maps-left g h;
      }

-- ---- what `check_image` and `load_into` owe at each of their returns

refused-outcome : (s : List ℕ) (r : Refusal) → verdict s ≡ Err r → Err r ≡ outcome s
refused-outcome s r e = rw e

pub trailer-outcome : (s : List ℕ) (r : Refusal) → trailer_outcome s ≡ Err r → Err r ≡ outcome s
trailer-outcome s r e = refused-outcome s r (verdict-refused s r e)

module _ (s : List ℕ) (g : Shape) (e : trailer_outcome s ≡ Ok g) where
  pub chunks-outcome : (r : Refusal) → chunk_verdict s ≡ Err r → Err r ≡ outcome s
  chunks-outcome r h = refused-outcome s r (verdict-fits s g e ∙ h)

  pub sound-outcome : passed (chunk_verdict s) ≡ true → Ok g ≡ outcome s
  sound-outcome h = rw (verdict-fits s g e ∙ passed-yes (chunk_verdict s) h, sym (fits_on s g e).shape)

  pub surveyed-into : (ok : Bool) (us ms : List ℕ) → Surveyed s ok unit_set_words map_set_words us ms → ok ≡ true → LoadedInto s (Ok g) us ms
  surveyed-into ok us ms h t =
      record { right = sound-outcome (sym h.right ∙ t); units-left = λ q z. h.units-left t; maps-left = λ q z. h.maps-left t }

-- a refusal says nothing of the sets
pub refused-into : (s : List ℕ) (r : Refusal) (us ms : List ℕ) → Err r ≡ outcome s → LoadedInto s (Err r) us ms
refused-into s r us ms e = record { right = e; units-left = λ g h. absurd (not_sound g h); maps-left = λ g h. absurd (not_sound g h) }
  where
    not_sound : (g : Shape) → Err r ≡ Ok g → ⊥
    not_sound g h = let z : ◌≡◌ {A = ℕ} 0 1 = cc in omega arith

-- ---- what `refusal` owes: the pass said no, so that the scans find a refusal

pub judged-some : (s : List ℕ) (v : Result ⊤ Refusal) → v ≡ chunk_verdict s → passed (chunk_verdict s) ≡ false → v ≡ Ok tt → ⊥
judged-some s v e n h = true≢false (ap passed (sym h ∙ e) ∙ n)
