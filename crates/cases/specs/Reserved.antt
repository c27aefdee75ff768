-- Request 5's worked cases: the volume of 272 bytes with its first units reserved.
use Rattle.std.specs.Prelude.{ℕ, List, [], ◌∷◌, replicate, Some, None}
use Rattle.search.specs.Search.{below, from}
use Rattle.layout.specs.declared.Refusal.TheVariants.{BadMap}
use Rattle.layout.specs.Layout.{edition2}
use Rattle.layout.specs.Format.{format_image}
use Rattle.steps.specs.declared.Step.{Step}
use Rattle.steps.specs.declared.Step.TheVariants.{Data, Map, Link, Fence}
use Rattle.steps.specs.declared.Request.TheVariants.{Write}
use Rattle.cases.specs.Table.{Case, free, plans, shows, cuts, unsound, checks, reserves, lacks, write1, write2, write3}

-- "C=4, P=4, M=5, N=20" in edition 2, with the first r units reserved
abbrev pub reserving : ℕ → List ℕ
reserving r = format_image (edition2 4 4 5 20 r) (replicate 272 0)

-- a plan for the first write with its pieces on units u and v, whose map names a and b
abbrev pub plan_naming : ℕ → ℕ → ℕ → ℕ → List Step
plan_naming u v a b =
    Data u 0 0 ∷ Data v 1 0 ∷ Map 0 0 (Some 6144) ∷ Map 0 1 (Some a) ∷ Map 0 2 (Some b) ∷ Map 0 3 None ∷ Map 0 4 None ∷ Fence
    ∷ Link 2 (Some 0)
    ∷ Fence
    ∷ []

-- three units reserved
abbrev pub reserved3 : List Case
reserved3 =
    -- "load answers it"
    reserves 3
    -- "Units below R are never free"
    ∷ free [] (from 3 17) (below 5)
    ∷ plans [] write1 (plan_naming 3 4 3 4)
    ∷ free (write1 ∷ write2 ∷ write3 ∷ []) (5 ∷ from 8 12) (1 ∷ 3 ∷ 4 ∷ [])
    ∷ shows (write1 ∷ write2 ∷ write3 ∷ []) 0 (6 ∷ 7 ∷ [])
    ∷ cuts (write1 ∷ write2 ∷ []) write3 8 0 (5 ∷ [])
    -- rule 1 still says "units below N": DATA on a reserved unit breaks rule 2, and a map that names one rule 3
    ∷ checks [] write1 (plan_naming 3 4 3 4) 0 0
    ∷ checks [] write1 (plan_naming 0 1 0 1) 11 2
    ∷ checks [] write1 (plan_naming 2 3 2 3) 11 2
    ∷ checks [] write1 (plan_naming 3 0 3 0) 11 2
    ∷ checks [] write1 (plan_naming 3 4 2 4) 11 3
    ∷ checks [] write1 (plan_naming 3 4 3 0) 11 3
    ∷ checks [] write1 (plan_naming 20 3 20 3) 11 1
    -- unit 19 is free, and not the second lowest (request 6)
    ∷ checks [] write1 (plan_naming 3 19 3 19) 11 2
    -- "a named map with one gives 5", before any 6: word 4 is the size of map 0, words 5 to 8 name its units, word 3 is chunk 3's entry
    ∷ unsound (write1 ∷ []) ((5, 2) ∷ []) (BadMap 2) 5 2 0
    ∷ unsound (write1 ∷ []) ((6, 2) ∷ []) (BadMap 2) 5 2 0
    ∷ unsound (write1 ∷ []) ((4, 12288) ∷ (7, 0) ∷ []) (BadMap 2) 5 2 0
    ∷ unsound (write1 ∷ []) ((3, 0) ∷ (6, 2) ∷ []) (BadMap 2) 5 2 0
    ∷ []

-- a write of one byte to chunk 1 on one unit and map 1
abbrev pub plan_on_one : ℕ → List Step
plan_on_one u =
    Data u 0 0 ∷ Map 1 0 (Some 1) ∷ Map 1 1 (Some u) ∷ Map 1 2 None ∷ Map 1 3 None ∷ Map 1 4 None ∷ Fence ∷ Link 1 (Some 1) ∷ Fence ∷ []

-- all reserved but the units of one chunk, "N-P": 9's place does not count the reserved ones
abbrev pub reserved16 : List Case
reserved16 =
    reserves 16
    ∷ free [] (from 16 4) (below 5)
    ∷ shows (Write 0 16384 ∷ []) 0 (from 16 4)
    ∷ lacks (Write 0 16384 ∷ []) (Write 1 1) 0
    ∷ lacks (Write 0 8192 ∷ []) (Write 1 12288) 2
    -- with no unit free no plan keeps rule 2, "Refusal 9 isn't given here": on unit 0, and on unit 16, which chunk 0 holds
    ∷ checks (Write 0 16384 ∷ []) (Write 1 1) (plan_on_one 0) 11 2
    ∷ checks (Write 0 16384 ∷ []) (Write 1 1) (plan_on_one 16) 11 2
    ∷ []
