-- An index that is current is admitted by every call, and what a call answers by it and leaves is what the scanning call does.
use Rattle.std.specs.Prelude.{Result, Ok, Err, ⊤}
use Prim.Native.Nat.{ℕ, ◌≤◌, ◌<◌}
use native.Mathlib.Omega.{arith}
use mathlib.Core.Path.{◌≡◌, refl, sym, ap, subst, ◌∙◌}
use mathlib.Core.Logic.{⊎_elim}
use mathlib.Core.Bool.{Bool, true, false, ◌&&◌}
use mathlib.Core.List.{List, ◌++◌, append_assoc}
use lib.ListN.{length, take, drop, length-append, take-append-drop}
use lib.Seq.{take_at, drop_at}
use borrow.Author.Tests.{eq-eqb}
use Rattle.search.proofs.Bools.{and_intro, not-of-true, less-or-not}
use Rattle.bitset.specs.Bits.{bit_set, in_set}
use Rattle.bitset.proofs.BitSets.{length-bit_set}
use Rattle.layout.specs.declared.Shape.{Shape}
use Rattle.layout.specs.declared.Refusal.{Refusal}
use Rattle.layout.specs.Layout.{shape_of}
use Rattle.layout.proofs.Limits.{on_fits, shaped}
use Rattle.image.specs.declared.Loaded.{Loaded}
use Rattle.image.specs.Soundness.{mapped}
use Rattle.image.specs.Verdicts.{verdict, good_link, after_trailer}
use Rattle.image.specs.Claims.{Tested}
use Rattle.image.specs.Free.{free_unit, free_map}
use Rattle.image.specs.Loading.{unit_set_words, map_set_words}
use Rattle.image.specs.Answers.{if_sound}
use Rattle.image.proofs.SoundLaws.{passed-tested}
use Rattle.image.proofs.Loads.{Known as Loads, sound-passed}
use Rattle.access.specs.Ranges.{reads_first, access_answer}
use Rattle.access.specs.Parts.{held_of, held_on}
use Rattle.access.specs.Sizes.{size_answer, size_on}
use Rattle.access.proofs.PartLaws.{held-judged}
use Rattle.access.proofs.SizeLaws.{size-judged}
use Rattle.report.specs.declared.Level.{Level}
use Rattle.report.specs.Counts.{free_count}
use Rattle.report.specs.Reports.{report_of, report_answer}
use Rattle.report.specs.Alarms.{alarm_at, alarm_answer}
use Rattle.report.proofs.CountLaws.{report-known, alarm-known}
use Rattle.steps.specs.declared.Request.{Request}
use Rattle.steps.specs.Steps.{chunk_of, good_chunk}
use Rattle.rules.specs.Rules.{Known, known, known_of, judged, checked}
use Rattle.rules.proofs.Knowing.{known-loaded, judged-loaded}
use Rattle.planner.specs.Planner.{plan_of, plan_in, plan_answer, written, out_in, plan_out}
use Rattle.carry.specs.Carry.{carry_in, carry_answer, left_by, carry_image}
use Rattle.indexed.specs.Admitting.{Index, same_shape, trailer_by, enough, bad_entry, entry_verdict, verdict_by, chunk_verdict_by}
use Rattle.renewal.specs.Renewal.{set_words, units_in, maps_in}
use Rattle.indexed.specs.Calls.{Current, index_of, refuses_by, chunk_refuses_by, known_in, plan_answer_by, plan_out_by, checked_by, carry_answer_by, carry_image_by, access_answer_by, held_of_by, size_answer_by, report_answer_by, alarm_answer_by}
use Rattle.indexed.specs.Opening.{open_verdict, open_outcome, free_sets, opened_sets, open_sets}
use Rattle.indexed.proofs.Admitting.{trailer-same, many, entry_past, entry-tested, entry-passed}

-- a shape is the same as itself
same-own : (g : Shape) → same_shape g g ≡ true
unfolding same_shape
same-own g =
    and_intro _ _
    (and_intro _ _
    (and_intro _ _
    (and_intro _ _ (and_intro _ _ (eq-eqb g.edition g.edition refl) (eq-eqb g.p g.p refl)) (eq-eqb g.c g.c refl))
    (eq-eqb g.m g.m refl))
    (eq-eqb g.n g.n refl))
    (eq-eqb g.r g.r refl)

-- of a chunk that is not below C nobody asks whether it is mapped
module _ (g : Shape) (units maps : ℕ → Bool) (b : Bool) (r : Request) where
  abbrev asked : Known
  asked = known g units maps (good_chunk g r && b)

  abbrev told : Known
  told = known g units maps b

  plan-chunk : (room : ℕ) → plan_in asked r room ≡ plan_in told r room
  unfolding plan_in
  plan-chunk room = go (good_chunk g r) refl
    where
      go : (t : Bool) → good_chunk g r ≡ t → plan_in asked r room ≡ plan_in told r room
      go true e = rw e
      go false e = rw e

  out-chunk : (out : List ℕ) → out_in asked r out ≡ out_in told r out
  unfolding plan_in
  out-chunk out = go (good_chunk g r) refl
    where
      go : (t : Bool) → good_chunk g r ≡ t → out_in asked r out ≡ out_in told r out
      go true e = rw e
      go false e = rw e

module _ (s : List ℕ) (ix : Index) (c : Current s ix) where
  tested : Tested s
  tested = passed-tested s c.passed

  -- ---- it is admitted

  -- the words of both sets are there
  words : set_words ≤ length ix.sets
  words =
      let ws = ix.sets in
      let later = drop unit_set_words ws in
      let a = sym (length-append (units_in ws) later) ∙ ap length (take-append-drop unit_set_words ws) in
      let b = sym (length-append (maps_in ws) (drop map_set_words later)) ∙ ap length (take-append-drop map_set_words later) in
      let d = ap length c.units ∙ length-bit_set (free_unit s) unit_set_words in
      let e = ap length c.maps ∙ length-bit_set (free_map s) map_set_words in
      omega arith

  trailer-fits : trailer_by ix.shape s ≡ Ok (shape_of s)
  trailer-fits =
      sym (trailer-same ix.shape s (shape_of s) (on_fits s tested.long tested.known tested.fitting)
      (ap (same_shape (shape_of s)) c.shape ∙ same-own (shape_of s)))

  entry-fine : (i : ℕ) → bad_entry ix.shape s i ≡ false
  entry-fine i =
      ⊎_elim
      (λ l. entry-tested ix.shape s i l ∙ not-of-true (good_link s i) (tested.links i (subst (λ (h : Shape). i < h.c) c.shape l)))
      (λ l. entry_past ix.shape s i l)
      (less-or-not i ix.shape.c)

  pub current-admitted : refuses_by ix s ≡ Ok tt
  unfolding verdict_by
  current-admitted =
      let n = length ix.sets in ap (λ (t : Result Shape Refusal). after_trailer t (enough n)) trailer-fits ∙ many n words

  pub current-chunk : (i : ℕ) → chunk_refuses_by ix s i ≡ Ok tt
  unfolding chunk_verdict_by
  current-chunk i =
      let n = length ix.sets in
      ap (λ (t : Result Shape Refusal). after_trailer t (entry_verdict ix.shape n s i)) trailer-fits ∙ entry-passed ix.shape s i n (entry-fine i) ∙ many n words

  -- ---- what is known by it is what is known of the image

  abbrev held : Loaded
  held = record { shape = ix.shape; units = units_in ix.sets; maps = maps_in ix.sets }

  loads : Loads s held
  loads = record {
    passed = c.passed;
    sound = tested;
    shape = c.shape;
    on = record { long = tested.long; shape = sym c.shape; known = tested.known; fitting = tested.fitting };
    shaped = shaped s ix.shape c.shape tested.fitting;
    units = c.units;
    maps = c.maps;
  }

  -- an answer behind the refusals of an indexed call is the one behind the image's own
  module _ {A : Type 0} (refuse : Refusal → A) (by of : A) (e : by ≡ of) where
    either_way : (v : Result ⊤ Refusal) → v ≡ Ok tt → if_sound v refuse by ≡ if_sound (verdict s) refuse of
    either_way v p = ap (λ (w : Result ⊤ Refusal). if_sound w refuse by) p ∙ e ∙ ap (λ (w : Result ⊤ Refusal). if_sound w refuse of) (sym c.passed)

    asked-whole : if_sound (refuses_by ix s) refuse by ≡ if_sound (verdict s) refuse of
    asked-whole = either_way (refuses_by ix s) current-admitted

    asked-chunk : (i : ℕ) → if_sound (chunk_refuses_by ix s i) refuse by ≡ if_sound (verdict s) refuse of
    asked-chunk i = either_way (chunk_refuses_by ix s i) (current-chunk i)

  -- ---- what a reader is answered

  pub same-access : (write : Bool) (offset span : ℕ) → access_answer_by ix s write offset span ≡ access_answer s write offset span
  same-access write offset span =
      asked-whole Err (reads_first ix.shape (mapped s) write offset span) (reads_first (shape_of s) (mapped s) write offset span)
      (ap (λ (g : Shape). reads_first g (mapped s) write offset span) c.shape)

  pub same-held : (i : ℕ) → held_of_by ix s i ≡ held_of s i
  same-held i = asked-chunk Err (held_on s i) (held_on s i) refl i ∙ sym (held-judged s i)

  pub same_size : (i : ℕ) → size_answer_by ix s i ≡ size_answer s i
  same_size i = asked-chunk Err (size_on s i) (size_on s i) refl i ∙ sym (size-judged s i)

  pub same-report : report_answer_by ix s ≡ report_answer s
  same-report = asked-whole Err _ (Ok (report_of s)) (ap Ok (report-known s held loads))

  pub same-alarm : (level : Level) → alarm_answer_by ix s level ≡ alarm_answer s level
  same-alarm level = asked-whole Err _ (alarm_at (free_count s) (shape_of s).n level) (alarm-known s held loads level)

  -- ---- what a request is answered, and what it leaves

  module _ (r : Request) where
    abbrev of_image : Known
    of_image = known ix.shape (in_set (units_in ix.sets)) (in_set (maps_in ix.sets)) (mapped s (chunk_of r))

    same_known : of_image ≡ known_of s r
    same_known = known-loaded s held loads r

    pub same-plan : (room : ℕ) → plan_answer_by ix s r room ≡ plan_answer s r room
    same-plan room =
        asked-chunk Err (plan_in (known_in ix s r) r room) (plan_in (known_of s r) r room)
        (plan-chunk ix.shape (in_set (units_in ix.sets)) (in_set (maps_in ix.sets)) (mapped s (chunk_of r)) r room
        ∙ ap (λ (kn : Known). plan_in kn r room) same_known)
        (chunk_of r)

    pub same_out : (out : List ℕ) → plan_out_by ix s r out ≡ plan_out s r out
    same_out out =
        ap (λ (v : Result ⊤ Refusal). written (if_sound v Err (plan_in (known_in ix s r) r (length out))) (plan_of (known_in ix s r) r) out)
        (current-chunk (chunk_of r))
        ∙ out-chunk ix.shape (in_set (units_in ix.sets)) (in_set (maps_in ix.sets)) (mapped s (chunk_of r)) r out
        ∙ ap (λ (kn : Known). out_in kn r out) same_known
        ∙ ap (λ (v : Result ⊤ Refusal). written (if_sound v Err (plan_in (known_of s r) r (length out))) (plan_of (known_of s r) r) out) (sym c.passed)

    module _ (plan : List ℕ) where
      same-judged : judged (known_in ix s r) r plan ≡ judged (known_of s r) r plan
      same-judged = judged-loaded s held loads r plan (good_chunk ix.shape r && mapped s (chunk_of r)) refl

      pub same-checked : checked_by ix s r plan ≡ checked s r plan
      unfolding checked
      same-checked = asked-chunk Err (judged (known_in ix s r) r plan) (judged (known_of s r) r plan) same-judged (chunk_of r)

      pub same-carry : (n : ℕ) → carry_answer_by ix s r plan n ≡ carry_answer s r plan n
      unfolding carry_in
      same-carry n = asked-chunk Err (carry_in (known_in ix s r) r plan n) (carry_in (known_of s r) r plan n) (rw same-judged) (chunk_of r)

      pub same-image : (n : ℕ) → carry_image_by ix s r plan n ≡ carry_image s r plan n
      same-image n = ap (λ (a : Result ⊤ Refusal). left_by a s plan n) (same-carry n)

-- ---- the index of an image that was opened

-- an image that passes, with its sets in the first of some words
pub free-current : (s rest : List ℕ) → verdict s ≡ Ok tt → Current s (index_of (shape_of s) (free_sets s ++ rest))
free-current s rest e =
    let us = bit_set (free_unit s) unit_set_words in
    let ms = bit_set (free_map s) map_set_words in
    let run : free_sets s ++ rest ≡ us ++ (ms ++ rest) = append_assoc us ms rest in
    let long = length-bit_set (free_unit s) unit_set_words in
    record {
      passed = e;
      shape = refl;
      units = ap (take unit_set_words) run ∙ take_at us (ms ++ rest) unit_set_words long;
      maps =
          ap (λ (ws : List ℕ). take map_set_words (drop unit_set_words ws)) run ∙ ap (take map_set_words) (drop_at us (ms ++ rest) unit_set_words long)
          ∙ take_at ms rest map_set_words (length-bit_set (free_map s) map_set_words);
    }

both-passed : (v w : Result ⊤ Refusal) → if_sound v Err w ≡ Ok tt → (v ≡ Ok tt) × (w ≡ Ok tt)
both-passed (Ok tt) w e = (refl, e)
both-passed (Err r) w e = let y : ◌≡◌ {A = ℕ} 0 1 = cc in absurd (omega arith)

module _ (s sets : List ℕ) (g : Shape) (e : open_outcome s (length sets) ≡ Ok g) where
  opened : (open_verdict s (length sets) ≡ Ok tt) × (g ≡ shape_of s)
  opened = sound-passed (open_verdict s (length sets)) (shape_of s) g e

  pub open-passed : verdict s ≡ Ok tt
  open-passed = (both-passed (verdict s) (enough (length sets)) opened.0).0

  pub open-current : Current s (index_of g (open_sets s sets))
  open-current =
      let q : index_of (shape_of s) (free_sets s ++ drop set_words sets) ≡ index_of g (open_sets s sets) =
      sym (λ i. index_of (opened.1 i) (opened_sets (opened.0 i) s sets)) in
      subst (Current s) q (free-current s (drop set_words sets) open-passed)
