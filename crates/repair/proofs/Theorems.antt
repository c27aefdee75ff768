-- The theorems of this crate that a reader wants. `Bytes s` says that each element of s is below 256, as every lent image's is.
use Rattle.std.specs.Prelude.{Result, Ok, Err}
use Prim.Native.Nat.{ℕ, zero, suc, ◌+◌, ◌*◌, ◌^◌, ◌≤◌, ◌<◌}
use native.Mathlib.Omega.{arith}
use mathlib.Core.Path.{◌≡◌, refl, sym, ap, ap₂, ◌∙◌, subst}
use mathlib.Core.Bool.{Bool, true, false, cond}
use mathlib.Core.List.{List, [], ◌∷◌, ◌++◌, map, append_assoc}
use lib.ListN.{length, get_or, drop}
use lib.Seq.{drop_at}
use lib.Dec.{ltb}
use borrow.Author.Tests.{ltb-true, ltb-false, lt-ltb, le-ltb}
use Rattle.search.specs.Search.{below, member, joined}
use Rattle.search.proofs.Members.{member-head, member-tail, no-numbers}
use Rattle.search.proofs.Mapping.{map-below-ext, map-places}
use Rattle.search.proofs.Rising.{kept-rising}
use Rattle.words.specs.Words.{Bytes, u32_at, digits}
use Rattle.words.proofs.Numbers.{number-here, number-next}
use Rattle.layout.specs.declared.Shape.{Shape}
use Rattle.layout.specs.declared.Refusal.{Refusal}
use Rattle.layout.specs.declared.Refusal.TheVariants.{Small}
use Rattle.layout.specs.Trailer.{trailer_outcome}
use Rattle.layout.specs.Layout.{trailer_start, trailer_of, shape_of}
use Rattle.layout.specs.Shaped.{On}
use Rattle.layout.proofs.Limits.{fits_on, on_fits, fitting-limits}
use Rattle.layout.proofs.Told.{ends-in-trailer}
use Rattle.image.specs.Soundness.{Sound}
use Rattle.image.specs.Claims.{Tested}
use Rattle.image.proofs.Order.{orderly-tested}
use Rattle.image.proofs.Wording.{trailed-sound, sound-tested}
use Rattle.repair.specs.Repair.{unlinks, unlinked, unlink, repaired, list_bytes, listing, if_room, if_shaped, repair_answer, unless_refused, repair_image, repair_list}
use Rattle.repair.specs.Reading.{numbers_in, Repairs}
use Rattle.repair.proofs.Unlinking.{length-list_bytes}
use Rattle.repair.proofs.Answering.{unlinked-few, answer-fits, answer-refused}
use Rattle.repair.proofs.Mending.{unlinked-chunk, chunk-unlinked, repaired-on, repaired-rest, repaired-absent, repaired-kept, repaired-orderly, tested-none, tested-same}
use Rattle.repair.proofs.Wording.{unlinks-fault, fault-unlinks}

-- ---- "Answers 1 to 3 still refuse. A list buffer too short gives 10."

-- what an answer says: the trailer passes, n chunks are unlinked, and the buffer has four bytes for each
pub record Answered (s : List ℕ) (room n : ℕ) : Type 0 where
  pub trailer : trailer_outcome s ≡ Ok (shape_of s)
  pub count : n ≡ length (unlinked s)
  pub enough : 4 * n ≤ room

-- and a refusal: the trailer is refused so; or it passes, and the buffer is too short
pub data Denied (s : List ℕ) (room : ℕ) (r : Refusal) : Type 0 where
  by_trailer : trailer_outcome s ≡ Err r → Denied s room r
  for_room : trailer_outcome s ≡ Ok (shape_of s) → r ≡ Small (4 * length (unlinked s)) → room < 4 * length (unlinked s) → Denied s room r

-- what each answer says of the input
abbrev Says : List ℕ → ℕ → Result ℕ Refusal → Type 0
Says s room (Ok n) = Answered s room n
Says s room (Err r) = Denied s room r

says : (s : List ℕ) (room : ℕ) → Says s room (repair_answer s room)
unfolding repair_answer if_room
says s room = by-trailer (trailer_outcome s) refl
  where
    by-room : (b : Bool) → ltb room (4 * length (unlinked s)) ≡ b → trailer_outcome s ≡ Ok (shape_of s)
        → Says s room (cond b (Err (Small (4 * length (unlinked s)))) (Ok (length (unlinked s))))
    by-room true l t = for_room t refl (ltb-true room (4 * length (unlinked s)) l)
    by-room false l t = record { trailer = t; count = refl; enough = ltb-false room (4 * length (unlinked s)) l }

    by-trailer : (t : Result Shape Refusal) → trailer_outcome s ≡ t
        → Says s room (if_shaped t (cond (ltb room (4 * length (unlinked s))) (Err (Small (4 * length (unlinked s)))) (Ok (length (unlinked s)))))
    by-trailer (Ok g) q = by-room (ltb room (4 * length (unlinked s))) refl (q ∙ ap (λ (k : Shape). Ok k) (sym (fits_on s g q).shape))
    by-trailer (Err r) q = by_trailer q

-- A repair is answered, and refused, exactly so.
pub answered : (s : List ℕ) (room n : ℕ) → repair_answer s room ≡ Ok n → Answered s room n
answered s room n e = subst (Says s room) e (says s room)

pub answers : (s : List ℕ) (room n : ℕ) → Answered s room n → repair_answer s room ≡ Ok n
unfolding if_room
answers s room n a =
    let c = a.count in
    sym (answer-fits s room (shape_of s) a.trailer) ∙ rw (← c, le-ltb room (4 * n) a.enough)

pub denied : (s : List ℕ) (room : ℕ) (r : Refusal) → repair_answer s room ≡ Err r → Denied s room r
denied s room r e = subst (Says s room) e (says s room)

pub denies : (s : List ℕ) (room : ℕ) (r : Refusal) → Denied s room r → repair_answer s room ≡ Err r
unfolding if_room
denies s room r (by_trailer t) = sym (answer-refused s room r t)
denies s room r (for_room t e h) =
    sym (answer-fits s room (shape_of s) t) ∙ rw (e, lt-ltb room (4 * length (unlinked s)) h)

-- Four bytes for each chunk are always enough.
pub always-room : (s : List ℕ) (room : ℕ) → trailer_outcome s ≡ Ok (shape_of s) → 4 * (shape_of s).c ≤ room → repair_answer s room ≡ Ok (length (unlinked s))
always-room s room t h =
    answers s room (length (unlinked s)) (record { trailer = t; count = refl; enough = omega (arith, unlinked-few s) })

-- "A refusal changes nothing lent."
pub refusal-changes-nothing : (s out : List ℕ) (r : Refusal) → repair_answer s (length out) ≡ Err r
    → (repair_image s (length out) ≡ s) × (repair_list s out ≡ out)
refusal-changes-nothing s out r e =
    (ap (λ (a : Result ℕ Refusal). unless_refused a (repaired s) s) e, ap (λ (a : Result ℕ Refusal). unless_refused a (listing s out) out) e)

-- ---- what a repair leaves

module _ (s : List ℕ) (room n : ℕ) (e : repair_answer s room ≡ Ok n) where
  answered-on : On (shape_of s) s
  answered-on = fits_on s (shape_of s) (answered s room n e).trailer

  left-image : repair_image s room ≡ repaired s
  left-image = ap (λ (r : Result ℕ Refusal). unless_refused r (repaired s) s) e

  left-tested : Tested (repair_image s room)
  left-tested = subst Tested (sym left-image) (orderly-tested (repaired-orderly s answered-on))

  left-sound : Bytes s → Sound (shape_of s) (repaired s)
  left-sound b =
      let g = shape_of s in
      let o = answered-on in
      let t = repaired-on s o in
      let ends = repaired-rest s (trailer_start g) (omega arith) ∙ ends-in-trailer s b o.known o.fitting in
      subst (λ (k : Shape). Sound k (repaired s)) t.shape
      (trailed-sound (repaired s) (orderly-tested (repaired-orderly s o))
      (ap (λ (k : Shape). drop (trailer_start k) (repaired s)) t.shape ∙ ends ∙ ap trailer_of (sym t.shape)))

  left-repairs : Bytes s → Repairs (shape_of s) s (repaired s) (unlinked s)
  unfolding unlinked
  left-repairs b =
      let o = answered-on in
      record {
        faulty = λ i m. let r = unlinked-chunk s i m in unlinks-fault s o.fitting i r.0 r.1;
        complete = λ i f. let r = fault-unlinks s o.fitting i f in chunk-unlinked s i r.0 r.1;
        rising = kept-rising (unlinks s) (shape_of s).c 0;
        absent = repaired-absent s o;
        kept = λ i h m. repaired-kept s o i m;
        rest = repaired-rest s (8 * (shape_of s).c) (omega arith);
        sound = left-sound b;
      }

-- the bytes of a list, read
list_bytes-at : (xs ys : List ℕ) (k : ℕ) → ((i : ℕ) → member i xs ≡ true → i < 2 ^ 32) → k < length xs → u32_at (list_bytes xs ++ ys) (4 * k) ≡ get_or xs k 0
unfolding list_bytes joined
list_bytes-at [] ys k h l = absurd (omega arith)
list_bytes-at (x ∷ xs) ys zero h l =
    ap (λ (zs : List ℕ). u32_at zs 0) (append_assoc (digits 4 x) (list_bytes xs) ys) ∙ number-here 4 x (list_bytes xs ++ ys) (h x (member-head x x xs refl))
list_bytes-at (x ∷ xs) ys (suc k) h l =
    let e : 4 * suc k ≡ 4 + 4 * k = omega arith in
    ap₂ u32_at (append_assoc (digits 4 x) (list_bytes xs) ys) e ∙ number-next 4 4 x (list_bytes xs ++ ys) (4 * k)
    ∙ list_bytes-at xs ys k (λ i m. h i (member-tail i x xs m)) (omega arith)

list_bytes-nil : (out : List ℕ) → list_bytes [] ++ drop 0 out ≡ out
unfolding list_bytes joined
list_bytes-nil out = refl

module _ (s out : List ℕ) (n : ℕ) (e : repair_answer s (length out) ≡ Ok n) where
  left-list : repair_list s out ≡ listing s out
  left-list = ap (λ (r : Result ℕ Refusal). unless_refused r (listing s out) out) e

  left-count : length (unlinked s) ≡ n
  left-count = sym (answered s (length out) n e).count

  left-numbers : numbers_in n (repair_list s out) ≡ unlinked s
  left-numbers =
      let l = fitting-limits s (answered-on s (length out) n e).fitting in
      map-below-ext (λ k. u32_at (repair_list s out) (4 * k)) (λ k. get_or (unlinked s) k 0) n (λ k h.
      ap (λ (zs : List ℕ). u32_at zs (4 * k)) left-list
      ∙ list_bytes-at (unlinked s) (drop (4 * length (unlinked s)) out) k (λ i m. omega (arith, (unlinked-chunk s i m).0, l.c-high)) (omega (arith, left-count)))
      ∙ ap (λ (k : ℕ). map (λ k. get_or (unlinked s) k 0) (below k)) (sym left-count) ∙ map-places (unlinked s)

  -- Document 02's sentences on the image that is left and on the n numbers in the list buffer, all of them.
  pub repair-repairs : Bytes s → Repairs (shape_of s) s (repair_image s (length out)) (numbers_in n (repair_list s out))
  repair-repairs b =
      subst (λ (xs : List ℕ). Repairs (shape_of s) s (repair_image s (length out)) xs) (sym left-numbers)
      (subst (λ (t : List ℕ). Repairs (shape_of s) s t (unlinked s)) (sym (left-image s (length out) n e)) (left-repairs s (length out) n e b))

  -- Past the list the buffer is as it was.
  pub list-alone : drop (4 * n) (repair_list s out) ≡ drop (4 * n) out
  list-alone =
      let w : length (list_bytes (unlinked s)) ≡ 4 * n = length-list_bytes (unlinked s) ∙ ap (λ (k : ℕ). 4 * k) left-count in
      ap (drop (4 * n)) left-list ∙ ap (λ (k : ℕ). drop (4 * n) (list_bytes (unlinked s) ++ drop (4 * k) out)) left-count
      ∙ drop_at (list_bytes (unlinked s)) (drop (4 * n) out) (4 * n) w

-- ---- "a sound image comes back unchanged with an empty list, and a second repair changes nothing"

pub record Unchanged (s out : List ℕ) : Type 0 where
  pub answer : repair_answer s (length out) ≡ Ok 0
  pub image : repair_image s (length out) ≡ s
  pub list : repair_list s out ≡ out

pub tested-unchanged : (s out : List ℕ) → Tested s → Unchanged s out
tested-unchanged s out z =
    let none = tested-none s z in
    let a = answers s (length out) 0 (record { trailer = on_fits s z.long z.known z.fitting; count = sym (ap length none); enough = omega arith }) in
    record {
      answer = a;
      image = ap (λ (r : Result ℕ Refusal). unless_refused r (repaired s) s) a ∙ tested-same s z;
      list =
          ap (λ (r : Result ℕ Refusal). unless_refused r (listing s out) out) a
          ∙ ap (λ (xs : List ℕ). list_bytes xs ++ drop (4 * length xs) out) none
          ∙ list_bytes-nil out;
    }

pub sound-unchanged : (g : Shape) (s out : List ℕ) → Sound g s → Unchanged s out
sound-unchanged g s out z = tested-unchanged s out (sound-tested g s z)

pub repaired-unchanged : (s out next : List ℕ) (n : ℕ) → repair_answer s (length out) ≡ Ok n → Unchanged (repair_image s (length out)) next
repaired-unchanged s out next n e = tested-unchanged (repair_image s (length out)) next (left-tested s (length out) n e)

-- And only of a sound image is the list empty.
pub none-is-sound : (s : List ℕ) (room : ℕ) → Bytes s → repair_answer s room ≡ Ok 0 → Sound (shape_of s) s
unfolding repaired unlink
none-is-sound s room b e =
    let none = no-numbers (unlinked s) (sym (answered s room 0 e).count) in
    subst (Sound (shape_of s)) (ap (unlink s) none) (left-sound s room 0 e b)
