-- Worked cases of steps and their bytes, computed: one table, one statement.
use Rattle.std.specs.Prelude.{Option, Some, None}
use Prim.Native.Nat.{ℕ}
use mathlib.Core.Path.{◌≡◌, refl}
use mathlib.Core.List.{List, [], ◌∷◌, ◌++◌, map}
use lib.ListN.{replicate}
use Rattle.search.specs.Search.{from}
use Rattle.words.specs.Words.{number, digits}
use Rattle.steps.specs.declared.Step.{Step}
use Rattle.steps.specs.declared.Step.TheVariants.{Data, Map, Link, Fence}
use Rattle.steps.specs.Steps.{encode, encode_all, decode_fields, decode_at, decoded_steps}

-- steps to be written, or bytes to be read
pub data Question : Type 0 where
  write : List Step → Question
  read : List ℕ → Question

-- their bytes, or what the whole steps say
pub data Reply : Type 0 where
  bytes : List ℕ → Reply
  said : List (Option Step) → Reply

abbrev pub ask : Question → Reply
ask (write xs) = bytes (encode_all xs)
ask (read plan) = said (decoded_steps plan)

pub record Case : Type 0 where
  pub question : Question
  pub reply : Reply

abbrev pub gives : Question → Reply → Case
gives q r = record { question = q; reply = r }

-- four u32 below 256
abbrev pub four : ℕ → ℕ → ℕ → ℕ → List ℕ
four k a b d = k ∷ 0 ∷ 0 ∷ 0 ∷ a ∷ 0 ∷ 0 ∷ 0 ∷ b ∷ 0 ∷ 0 ∷ 0 ∷ d ∷ 0 ∷ 0 ∷ 0 ∷ []

-- three, and 4294967295
abbrev pub absent : ℕ → ℕ → ℕ → List ℕ
absent k a b = k ∷ 0 ∷ 0 ∷ 0 ∷ a ∷ 0 ∷ 0 ∷ 0 ∷ b ∷ 0 ∷ 0 ∷ 0 ∷ 255 ∷ 255 ∷ 255 ∷ 255 ∷ []

abbrev pub table : List Case
table =
    -- "DATA: 1, unit, piece, 0", "MAP: 2, map, word, value", "LINK: 3, chunk, 0, value", "FENCE: 4, 0, 0, 0"
    gives (write (Data 3 1 0 ∷ Map 2 1 (Some 4) ∷ Fence ∷ Link 5 (Some 2) ∷ Fence ∷ []))
    (bytes (four 1 3 1 0 ++ four 2 2 1 4 ++ four 4 0 0 0 ++ four 3 5 0 2 ++ four 4 0 0 0))
    ∷ gives (read (four 1 3 1 0 ++ four 2 2 1 4 ++ four 4 0 0 0 ++ four 3 5 0 2))
    (said (Some (Data 3 1 0) ∷ Some (Map 2 1 (Some 4)) ∷ Some Fence ∷ Some (Link 5 (Some 2)) ∷ []))
    -- "X is written 4294967295"
    ∷ gives (write (Map 2 3 None ∷ Link 5 None ∷ [])) (bytes (absent 2 2 3 ++ absent 3 5 0))
    ∷ gives (read (absent 2 2 3 ++ absent 3 5 0)) (said (Some (Map 2 3 None) ∷ Some (Link 5 None) ∷ []))
    -- of DATA every number is read, 4294967295 too
    ∷ gives (read (absent 1 3 1)) (said (Some (Data 3 1 4294967295) ∷ []))
    -- little-endian: unit 258, piece 2^24
    ∷ gives (write (Data 258 16777216 0 ∷ [])) (bytes (1 ∷ 0 ∷ 0 ∷ 0 ∷ 2 ∷ 1 ∷ 0 ∷ 0 ∷ 0 ∷ 0 ∷ 0 ∷ 1 ∷ 0 ∷ 0 ∷ 0 ∷ 0 ∷ []))
    -- unused fields that are not 0, and kinds that are none of the four
    ∷ gives (read (four 3 5 1 2 ++ four 4 1 0 0 ++ four 4 0 1 0 ++ four 4 0 0 1)) (said (None ∷ None ∷ None ∷ None ∷ []))
    ∷ gives (read (four 0 0 0 0 ++ four 5 0 0 0)) (said (None ∷ None ∷ []))
    -- 15 bytes have no whole step, 17 have one
    ∷ gives (read (replicate 15 0)) (said [])
    ∷ gives (read (four 4 0 0 0 ++ (4 ∷ []))) (said (Some Fence ∷ []))
    ∷ []

pub cases-right : map (λ (k : Case). ask k.question) table ≡ map (λ (k : Case). k.reply) table
unfolding encode encode_all decode_fields decode_at number digits from
cases-right = refl
