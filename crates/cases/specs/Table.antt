-- Document 01's worked cases of the 224-byte volume, 'The 64 KB volume worked through', and its 'How a map comes to lie', as one table. Each row asks the
-- definitions that the promises cite. The questions are asked of a volume, so that the tables of requests 4 and 5 (Second.antt, Reserved.antt) ask them too.
use Rattle.std.specs.Prelude.{ℕ, ◌+◌, ◌*◌, ◌%◌, ◌≡◌, Bool, true, false, List, [], ◌∷◌, ◌++◌, eqb, length, replicate, Some, None, Result, Ok, Err, ⊤}
use Rattle.search.specs.Search.{below, from}
use Rattle.bitset.specs.Bits.{members}
use Rattle.layout.specs.declared.Refusal.{Refusal}
use Rattle.layout.specs.declared.Refusal.TheVariants.{Shared, Size, NoRoom}
use Rattle.layout.specs.Layout.{edition1, map_words, put_word, shape_of}
use Rattle.layout.specs.Format.{format_image}
use Rattle.layout.specs.Refusals.{refusal_number, refusal_place, refusal_second}
use Rattle.image.specs.Soundness.{units_of}
use Rattle.image.specs.Stored.{stored_size}
use Rattle.image.specs.Verdicts.{first_verdict}
use Rattle.image.specs.Loading.{loaded}
use Rattle.image.specs.declared.Loaded.{Loaded}
use Rattle.access.specs.declared.Piece.{Piece}
use Rattle.access.specs.Ranges.{piece_bytes, pieces_of, split_answer}
use Rattle.steps.specs.declared.Step.{Step}
use Rattle.steps.specs.declared.Step.TheVariants.{Data, Map, Link, Fence}
use Rattle.steps.specs.declared.Request.{Request}
use Rattle.steps.specs.declared.Request.TheVariants.{Write, Discard}
use Rattle.steps.specs.Steps.{step_bytes, encode_all}
use Rattle.rules.specs.Rules.{known_of, checked}
use Rattle.planner.specs.Planner.{plan_of, plan_answer}
use Rattle.carry.specs.Carry.{carry_image}
use Rattle.durable.specs.Events.{Volume, Event, holds, after}

-- ---- the volume and what is done on it

-- "C=4, P=4, M=5, N=20", formatted in a buffer of 224 bytes
abbrev pub volume : List ℕ
volume = format_image (edition1 4 4 5 20) (replicate 224 0)

-- the steps of the planner's plan for a request, and their bytes
abbrev pub steps_for : List ℕ → Request → List Step
steps_for s r = plan_of (known_of s r) r

abbrev pub plan_for : List ℕ → Request → List ℕ
plan_for s r = encode_all (steps_for s r)

-- the image after the first n steps of it are carried out
abbrev pub partly : List ℕ → Request → ℕ → List ℕ
partly s r n = carry_image s r (plan_for s r) n

-- the image after some requests, the planner's plan for each carried out whole
unfoldable pub done : List ℕ → List Request → List ℕ
done s [] = s
done s (r ∷ rs) = done (partly s r (length (steps_for s r))) rs

-- the planner's plan for a request cut at point n; `landed` says which steps since the last FENCE passed landed
abbrev pub cut_at : List ℕ → Request → ℕ → (ℕ → Bool) → Event ℕ
cut_at s r n landed = record { request = r; payload = λ j. 100 + j; plan = plan_for s r; count = n; landed = landed; left = λ i. 200 + i }

-- ---- the questions, of a fresh volume

pub data Case : Type 0 where
  -- after these requests load gives these units and maps as free
  free : List Request → List ℕ → List ℕ → Case
  -- after these requests the planner answers a further one with these steps
  plans : List Request → Request → List Step → Case
  -- the planner and the checker refuse the request, with this number
  refuses : Request → Refusal → ℕ → Case
  -- a write of this size takes so many units
  takes : ℕ → ℕ → Case
  -- after these requests a chunk has this stored size
  stores : List Request → ℕ → ℕ → Case
  -- after these requests a chunk shows these units
  shows : List Request → ℕ → List ℕ → Case
  -- after these requests and the planner's plan for a further one, cut at a point, a chunk shows these units and holds their contents: whichever steps
  -- landed, and where these did
  cuts : List Request → Request → ℕ → ℕ → List ℕ → Case
  cuts_so : List Request → Request → ℕ → (ℕ → Bool) → ℕ → List ℕ → Case
  -- after these requests a byte range splits into these pieces
  splits : List Request → ℕ → ℕ → List Piece → Case
  -- after these requests the image with some words stored is refused, with this number and these two places
  unsound : List Request → List (ℕ × ℕ) → Refusal → ℕ → ℕ → ℕ → Case
  -- after these requests the checker's number and place for these steps and a further one: 0 and 0 where it accepts them, 11 and the lowest broken rule
  checks : List Request → Request → List Step → ℕ → ℕ → Case
  -- after these requests edition 1 code gives this number on the image, 0 where it passes
  foreign : List Request → ℕ → Case
  -- load answers so many reserved units
  reserves : ℕ → Case
  -- after these requests a further one is refused for room, with so many free units
  lacks : List Request → Request → ℕ → Case

-- the image with words stored
abbrev pub put_words : List ℕ → List (ℕ × ℕ) → List ℕ
put_words s [] = s
put_words s (w ∷ ws) = put_words (put_word s w.0 w.1) ws

-- the checker's number and place
abbrev pub numbers_of : Result ⊤ Refusal → ℕ × ℕ
numbers_of (Ok tt) = (0, 0)
numbers_of (Err x) = (refusal_number x, refusal_place x)

-- the longest plan of the planner: "at most 35", and in edition 2 "k+P+4 steps"
abbrev pub plan_room : ℕ
plan_room = step_bytes * 36

-- the number of a verdict: 0 where it passes
abbrev pub verdict_number : Result ⊤ Refusal → ℕ
verdict_number (Ok tt) = 0
verdict_number (Err x) = refusal_number x

-- what load answers: an image with these free units and maps, and with so many reserved units
abbrev pub HasFree : Result Loaded Refusal → List ℕ → List ℕ → Type 0
HasFree (Ok l) us ks = (members l.units ≡ us) × (members l.maps ≡ ks)
HasFree (Err x) us ks = ⊥

abbrev pub HasReserved : Result Loaded Refusal → ℕ → Type 0
HasReserved (Ok l) k = l.shape.r ≡ k
HasReserved (Err x) k = ⊥

module _ (start : List ℕ) where
  -- what some requests leave
  abbrev pub left : List Request → List ℕ
  left rs = done start rs

  -- what chunk i shows after a cut, and what it holds, where each unit's content was its own number
  abbrev pub ShowsAfter : List Request → Request → ℕ → (ℕ → Bool) → ℕ → List ℕ → Type 0
  ShowsAfter rs r n landed i us =
      let v : Volume ℕ = after (record { image = left rs; content = λ u. u }) (cut_at (left rs) r n landed) in
      (units_of v.image i ≡ us) × (holds v i ≡ us)

  abbrev pub Right : Case → Type 0
  Right (free rs us ks) = HasFree (loaded (left rs)) us ks
  Right (plans rs r xs) = (plan_answer (left rs) r (step_bytes * length xs) ≡ Ok (length xs)) × (steps_for (left rs) r ≡ xs)
  Right (refuses r x k) = (plan_answer start r plan_room ≡ Err x) × (checked start r [] ≡ Err x) × (refusal_number x ≡ k) × (refusal_place x ≡ 0)
  Right (takes size k) = plan_answer start (Write 0 size) plan_room ≡ Ok (k + map_words (shape_of start) + 3)
  Right (stores rs i size) = stored_size (left rs) i ≡ size
  Right (shows rs i us) = units_of (left rs) i ≡ us
  Right (cuts rs r n i us) = (landed : ℕ → Bool) → ShowsAfter rs r n landed i us
  Right (cuts_so rs r n landed i us) = ShowsAfter rs r n landed i us
  Right (splits rs offset span xs) =
      (split_answer (left rs) offset span (piece_bytes * length xs) ≡ Ok (length xs)) × (pieces_of (shape_of (left rs)) offset span ≡ xs)
  Right (unsound rs ws x k i j) =
      (loaded (put_words (left rs) ws) ≡ Err x) × (refusal_number x ≡ k) × (refusal_place x ≡ i) × (refusal_second x ≡ j)
  Right (checks rs r xs k place) = numbers_of (checked (left rs) r (encode_all xs)) ≡ (k, place)
  Right (foreign rs k) = verdict_number (first_verdict (left rs)) ≡ k
  Right (reserves k) = HasReserved (loaded start) k
  Right (lacks rs r k) = (plan_answer (left rs) r plan_room ≡ Err (NoRoom k)) × (refusal_number (NoRoom k) ≡ 9) × (refusal_place (NoRoom k) ≡ k)

  abbrev pub AllRight : List Case → Type 0
  AllRight [] = Unit {0}
  AllRight (x ∷ xs) = Right x × AllRight xs

-- ---- the table

-- document 01's three writes
abbrev pub write1 : Request
write1 = Write 2 6144

abbrev pub write2 : Request
write2 = Write 0 3072

abbrev pub write3 : Request
write3 = Write 0 5120

-- their plans
abbrev pub plan1 : List Step
plan1 = Data 0 0 0 ∷ Data 1 1 0 ∷ Map 0 0 (Some 0) ∷ Map 0 1 (Some 1) ∷ Map 0 2 None ∷ Map 0 3 None ∷ Fence ∷ Link 2 (Some 0) ∷ Fence ∷ []

abbrev pub plan2 : List Step
plan2 = Data 2 0 0 ∷ Map 1 0 (Some 2) ∷ Map 1 1 None ∷ Map 1 2 None ∷ Map 1 3 None ∷ Fence ∷ Link 0 (Some 1) ∷ Fence ∷ []

-- the DATA and MAP steps of a plan for the third, on these units
abbrev pub steps3 : ℕ → ℕ → List Step
steps3 u w = Data u 0 0 ∷ Data w 1 0 ∷ Map 2 0 (Some u) ∷ Map 2 1 (Some w) ∷ Map 2 2 None ∷ Map 2 3 None ∷ []

abbrev pub plan3 : List Step
plan3 = steps3 3 4 ++ (Fence ∷ Link 0 (Some 2) ∷ Fence ∷ [])

-- the same on map 4, which is free too, piece 1 first
abbrev pub other_plan3 : List Step
other_plan3 =
    Data 4 1 0 ∷ Data 3 0 0 ∷ Map 4 0 (Some 3) ∷ Map 4 1 (Some 4) ∷ Map 4 2 None ∷ Map 4 3 None ∷ Fence ∷ Link 0 (Some 4) ∷ Fence ∷ []

abbrev pub table : List Case
table =
    -- "fresh: free units 0 to 19, maps 0 to 4"
    free [] (below 20) (below 5)
    -- "s 6,144 on chunk 2: units 0, 1, map 0, nine steps"
    ∷ plans [] write1 plan1
    -- "then s 3,072 on chunk 0: unit 2, map 1"
    ∷ plans (write1 ∷ []) write2 plan2
    -- "then s 5,120 on chunk 0: units 3, 4, map 2; after it unit 2 and map 1 are free"
    ∷ plans (write1 ∷ write2 ∷ []) write3 plan3
    ∷ shows (write1 ∷ write2 ∷ write3 ∷ []) 0 (3 ∷ 4 ∷ [])
    ∷ free (write1 ∷ write2 ∷ write3 ∷ []) (2 ∷ from 5 15) (1 ∷ 3 ∷ 4 ∷ [])
    -- "the same plan cut before LINK: chunk 0 still shows unit 2"
    ∷ cuts (write1 ∷ write2 ∷ []) write3 7 0 (2 ∷ [])
    -- .. and earlier, with a map that is half written: every other step landed, none, all of four
    ∷ cuts_so (write1 ∷ write2 ∷ []) write3 6 (λ i. eqb (i % 2) 0) 0 (2 ∷ [])
    ∷ cuts_so (write1 ∷ write2 ∷ []) write3 6 (λ i. false) 0 (2 ∷ [])
    ∷ cuts_so (write1 ∷ write2 ∷ []) write3 4 (λ i. true) 0 (2 ∷ [])
    -- "s 1, 4,096, 4,097, 16,384 take 1, 1, 2, 4 units; 0 and 16,385 give 8"
    ∷ takes 1 1
    ∷ takes 4096 1
    ∷ takes 4097 2
    ∷ takes 16384 4
    ∷ refuses (Write 0 0) Size 8
    ∷ refuses (Write 0 16385) Size 8
    -- "20,480 bytes at 4,096: (0, 4096, 12288), (1, 0, 8192)"
    ∷ splits [] 4096 20480 (record { chunk = 0; offset = 4096; len = 12288 } ∷ record { chunk = 1; offset = 0; len = 8192 } ∷ [])
    -- "chunks 0 and 3 both naming map 0 (a sound map): 6 with 0 and 3"
    ∷ unsound (Write 0 6144 ∷ []) ((3, 0) ∷ []) (Shared 0 3) 6 0 3
    -- "discard of unmapped chunk 1: no steps; a lone FENCE gives 11, rule 5"
    ∷ plans [] (Discard 1) []
    ∷ checks [] (Discard 1) [] 0 0
    ∷ checks [] (Discard 1) (Fence ∷ []) 11 5
    -- "LINK before the fence", "No last FENCE": 11, rule 5
    ∷ checks (write1 ∷ write2 ∷ []) write3 (steps3 3 4 ++ (Link 0 (Some 2) ∷ Fence ∷ [])) 11 5
    ∷ checks (write1 ∷ write2 ∷ []) write3 (steps3 3 4 ++ (Fence ∷ Link 0 (Some 2) ∷ [])) 11 5
    -- "Old units counted free for the write that replaces them": 11, rule 2, where the new plan is on unit 2.
    ∷ checks (write1 ∷ write2 ∷ []) write3 (steps3 2 3 ++ (Fence ∷ Link 0 (Some 2) ∷ Fence ∷ [])) 11 2
    -- "A plan on other free units, accepted until now, gives 11 with rule 2" (02, request 6): units 5 and 4, units 3 and 5, and the lowest two in another order.
    ∷ checks (write1 ∷ write2 ∷ []) write3 (steps3 5 4 ++ (Fence ∷ Link 0 (Some 2) ∷ Fence ∷ [])) 11 2
    ∷ checks (write1 ∷ write2 ∷ []) write3 (steps3 3 5 ++ (Fence ∷ Link 0 (Some 2) ∷ Fence ∷ [])) 11 2
    ∷ checks (write1 ∷ write2 ∷ []) write3 (steps3 4 3 ++ (Fence ∷ Link 0 (Some 2) ∷ Fence ∷ [])) 11 2
    -- "The choice of map stays free.", and so does the order of the DATA steps.
    ∷ checks (write1 ∷ write2 ∷ []) write3 plan3 0 0
    ∷ checks (write1 ∷ write2 ∷ []) write3 other_plan3 0 0
    -- "dead maps leak units": map 1, which no chunk names any more, still says unit 2. That unit is free above, and the next write takes it.
    ∷ plans (write1 ∷ write2 ∷ write3 ∷ []) (Write 3 1)
    (Data 2 0 0 ∷ Map 1 0 (Some 2) ∷ Map 1 1 None ∷ Map 1 2 None ∷ Map 1 3 None ∷ Fence ∷ Link 3 (Some 1) ∷ Fence ∷ [])
    -- "On a double claim, letting the later chunk win": unit 1 in the maps of chunks 2 and 0
    ∷ unsound (write1 ∷ write2 ∷ []) ((8, 1) ∷ []) (Shared 0 2) 6 0 2
    ∷ []
