-- Request 4's worked cases: the same volume in edition 2, 272 bytes, and what edition 1 answers to the request's questions.
use Rattle.std.specs.Prelude.{ℕ, List, [], ◌∷◌, replicate, Option, Some, None}
use Rattle.search.specs.Search.{below, from}
use Rattle.layout.specs.declared.Refusal.TheVariants.{BadMap, Shared, Size}
use Rattle.layout.specs.Layout.{X, edition2}
use Rattle.layout.specs.Format.{format_image}
use Rattle.steps.specs.declared.Step.{Step}
use Rattle.steps.specs.declared.Step.TheVariants.{Data, Map, Link, Fence}
use Rattle.steps.specs.declared.Request.TheVariants.{Write, Discard}
use Rattle.cases.specs.Table.{Case, free, plans, refuses, takes, stores, shows, cuts, unsound, checks, foreign, write1, write2, write3, plan1}

-- "C=4, P=4, M=5, N=20" in edition 2: 4 words, 5 maps of 5 words, 40 bytes
abbrev pub second : List ℕ
second = format_image (edition2 4 4 5 20 0) (replicate 272 0)

-- a plan for the first write with this in word 0 of its map: "first the compressed size, then the units"
abbrev pub plan_of_size : Option ℕ → List Step
plan_of_size v =
    Data 0 0 0 ∷ Data 1 1 0 ∷ Map 0 0 v ∷ Map 0 1 (Some 0) ∷ Map 0 2 (Some 1) ∷ Map 0 3 None ∷ Map 0 4 None ∷ Fence ∷ Link 2 (Some 0) ∷ Fence
    ∷ []

abbrev pub table2 : List Case
table2 =
    free [] (below 20) (below 5)
    -- "The planner's write has k+P+4 steps"
    ∷ plans [] write1 (plan_of_size (Some 6144))
    ∷ takes 1 1
    ∷ takes 4096 1
    ∷ takes 4097 2
    ∷ takes 16384 4
    ∷ refuses (Write 0 0) Size 8
    ∷ refuses (Write 0 16385) Size 8
    -- "a call answers a chunk's stored size, .. 0 for an unmapped chunk"; a later write has its own
    ∷ stores (write1 ∷ write2 ∷ []) 2 6144
    ∷ stores (write1 ∷ write2 ∷ []) 0 3072
    ∷ stores (write1 ∷ write2 ∷ write3 ∷ []) 0 5120
    ∷ stores (write1 ∷ []) 1 0
    ∷ stores (write1 ∷ Discard 2 ∷ []) 2 0
    ∷ shows (write1 ∷ write2 ∷ write3 ∷ []) 0 (3 ∷ 4 ∷ [])
    ∷ free (write1 ∷ write2 ∷ write3 ∷ []) (2 ∷ from 5 15) (1 ∷ 3 ∷ 4 ∷ [])
    ∷ cuts (write1 ∷ write2 ∷ []) write3 8 0 (2 ∷ [])
    -- "word 0 holds 1 to P·4,096 (rule 1), the request's size (rule 3)"
    ∷ checks [] write1 (plan_of_size (Some 6144)) 0 0
    ∷ checks [] write1 (plan_of_size (Some 0)) 11 1
    ∷ checks [] write1 (plan_of_size (Some 16385)) 11 1
    ∷ checks [] write1 (plan_of_size None) 11 1
    ∷ checks [] write1 (plan_of_size (Some 6145)) 11 3
    ∷ checks [] write1 (plan_of_size (Some 16384)) 11 3
    -- "MAP words run from 0 to P": word 5 is none, and a plan of edition 1 has unit 0 where the size belongs
    ∷ checks [] write1 (Map 0 5 None ∷ plan_of_size (Some 6144)) 11 1
    ∷ checks [] write1 plan1 11 1
    -- "A sound map has k equal to the size rounded up in units; otherwise 5": word 4 is the size of map 0
    ∷ unsound (write1 ∷ []) ((4, 0) ∷ []) (BadMap 2) 5 2 0
    ∷ unsound (write1 ∷ []) ((4, 4096) ∷ []) (BadMap 2) 5 2 0
    ∷ unsound (write1 ∷ []) ((4, 8193) ∷ []) (BadMap 2) 5 2 0
    ∷ unsound (write1 ∷ []) ((4, X) ∷ []) (BadMap 2) 5 2 0
    ∷ unsound (Write 0 6144 ∷ []) ((3, 0) ∷ []) (Shared 0 3) 6 0 3
    -- "Edition 1 code must give 2 on it"
    ∷ foreign [] 2
    ∷ foreign (write1 ∷ write2 ∷ write3 ∷ []) 2
    ∷ []

-- of edition 1: "k·4,096 in edition 1", and a plan of edition 2 has a word too many there (rule 1)
abbrev pub table1 : List Case
table1 =
    stores (write1 ∷ write2 ∷ []) 2 8192
    ∷ stores (write1 ∷ write2 ∷ []) 0 4096
    ∷ stores (write1 ∷ []) 1 0
    ∷ checks [] write1 (plan_of_size (Some 6144)) 11 1
    ∷ foreign (write1 ∷ []) 0
    ∷ []
