-- Worked cases on document 01's 224-byte volume after its third write, computed: one table, one statement.
use Rattle.std.specs.Prelude.{Result, Ok, Err, ⊤}
use Prim.Native.Nat.{ℕ}
use mathlib.Core.Path.{◌≡◌, refl}
use mathlib.Core.Bool.{Bool, true, false}
use mathlib.Core.List.{List, [], ◌∷◌, ◌++◌, map}
use lib.ListN.{length, replicate}
use Rattle.words.specs.Words.{number, digits}
use Rattle.search.specs.Search.{from, all, any, member, distinct, disjoint, lowest_from}
use Rattle.layout.specs.declared.Refusal.TheVariants.{Range, Small}
use Rattle.layout.specs.Trailer.{trailer_outcome}
use Rattle.layout.specs.Layout.{is_unit, map_words, added_bytes, tagged_at, known_as, edition_of, spare_zero, fresh, trailer_of, shape_bytes, size_bytes, known, fitting, within_limits, max_reserved, reserved_at, shape_of, agreeing, words_of}
use Rattle.image.specs.Soundness.{leading, units_of}
use Rattle.image.specs.Verdicts.{verdict, chunk_verdict, bad_link, bad_map, double_claim, first_claim, contested, clash, well_formed, size_fits, good_form}
use Rattle.image.proofs.Cases.{third}
use Rattle.access.specs.declared.Access.{Access}
use Rattle.access.specs.declared.Access.TheVariants.{Nothing, Zeros, Chunk}
use Rattle.access.specs.Ranges.{good_range, piece_of, pieces, encode, encode_all, split_in, split_answer, split_out, reads_first, access_answer}
use Rattle.access.specs.Parts.{held_status, held_words, held_part}
use Rattle.layout.specs.declared.Refusal.{Refusal}

-- a question: offset, length and output of `split`; read or write, offset and length of `access`; chunk of `held` and its companion
pub data Question : Type 0 where
  splits : ℕ → ℕ → List ℕ → Question
  reads : Bool → ℕ → ℕ → Question
  holds : ℕ → Question

-- what is answered: of `split` the answer and the output afterwards, of `held` what the companion says and the part
pub data Reply : Type 0 where
  split : Result ℕ Refusal → List ℕ → Reply
  access : Result Access Refusal → Reply
  held : Result ⊤ Refusal → List ℕ → Reply

abbrev pub ask : List ℕ → Question → Reply
ask s (splits offset span out) = split (split_answer s offset span (length out)) (split_out s offset span out)
ask s (reads write offset span) = access (access_answer s write offset span)
ask s (holds chunk) = held (held_status s chunk) (held_part s chunk)

pub record Case : Type 0 where
  pub question : Question
  pub reply : Reply

abbrev pub gives : Question → Reply → Case
gives q r = record { question = q; reply = r }

-- a lent output of so many bytes, each 7
abbrev pub sevens : ℕ → List ℕ
sevens n = replicate n 7

-- a word below 256
abbrev pub word : ℕ → List ℕ
word x = x ∷ 0 ∷ 0 ∷ 0 ∷ 0 ∷ 0 ∷ 0 ∷ 0 ∷ []

-- the pieces (0, 4096, 12288) and (1, 0, 8192)
abbrev pub two : List ℕ
two =
    0 ∷ 0 ∷ 0 ∷ 0 ∷ 0 ∷ 16 ∷ 0 ∷ 0 ∷ 0 ∷ 48 ∷ 0 ∷ 0 ∷ 1 ∷ 0 ∷ 0 ∷ 0 ∷ 0 ∷ 0 ∷ 0 ∷ 0 ∷ 0 ∷ 32 ∷ 0 ∷ 0 ∷ []

abbrev pub table : List Case
table =
    -- "20,480 bytes at 4,096: (0, 4096, 12288), (1, 0, 8192)"; the two bytes past the pieces stay
    gives (splits 4096 20480 (sevens 26)) (split (Ok 2) (two ++ sevens 2))
    -- one byte too few for them
    ∷ gives (splits 4096 20480 (sevens 23)) (split (Err (Small 24)) (sevens 23))
    -- "4,096 at 65,536 gives 7, length 0 gives 7"; and off the grain, and an end past 2^64
    ∷ gives (splits 65536 4096 (sevens 12)) (split (Err Range) (sevens 12))
    ∷ gives (splits 0 0 (sevens 12)) (split (Err Range) (sevens 12))
    ∷ gives (splits 0 4097 []) (split (Err Range) [])
    ∷ gives (splits 18446744073709547520 8192 []) (split (Err Range) [])
    -- "range 65,536 long at 0 is good": four pieces
    ∷ gives (splits 0 65536 []) (split (Err (Small 48)) [])
    -- chunk 0 is mapped, chunk 1 is not; a read never covers its chunk
    ∷ gives (reads false 0 16384) (access (Ok Chunk))
    ∷ gives (reads true 0 16384) (access (Ok Nothing))
    ∷ gives (reads true 4096 12288) (access (Ok Chunk))
    ∷ gives (reads true 16384 16384) (access (Ok Nothing))
    ∷ gives (reads true 16384 8192) (access (Ok Zeros))
    -- a good range, across chunks
    ∷ gives (reads false 4096 16384) (access (Err Range))
    -- units 3 and 4; nothing; "Chunk 3 is in range, 4 gives 7"; 2^32 is not chunk 0
    ∷ gives (holds 0) (held (Ok tt) (word 3 ++ word 4))
    ∷ gives (holds 1) (held (Ok tt) [])
    ∷ gives (holds 3) (held (Ok tt) [])
    ∷ gives (holds 4) (held (Err Range) [])
    ∷ gives (holds 4294967296) (held (Err Range) [])
    ∷ []

pub cases-right : map (λ (k : Case). ask third k.question) table ≡ map (λ (k : Case). k.reply) table
unfolding verdict trailer_outcome chunk_verdict bad_link bad_map double_claim first_claim contested clash well_formed leading units_of lowest_from all any member distinct disjoint known fitting within_limits max_reserved reserved_at agreeing fresh trailer_of shape_bytes size_bytes is_unit map_words size_fits good_form added_bytes tagged_at known_as edition_of spare_zero number digits from shape_of words_of good_range piece_of pieces encode encode_all split_in reads_first held_words
cases-right = refl
