-- The rules on document 01's 64 KB volume, fresh: P 4, C 4, M 5, N 20. A table that tests the definitions.
use Rattle.std.specs.Prelude.{Some, None}
use Prim.Native.Nat.{ℕ}
use mathlib.Core.Path.{◌≡◌, refl}
use mathlib.Core.Bool.{Bool, true, false, ◌&&◌}
use mathlib.Core.List.{List, [], ◌∷◌, ◌++◌}
use lib.Dec.{eqb, ltb}
use Rattle.words.specs.Words.{number, digits}
use Rattle.search.specs.Search.{from, keep, member, any, all, distinct}
use Rattle.steps.specs.declared.Step.{Step}
use Rattle.steps.specs.declared.Step.TheVariants.{Data, Map, Link, Fence}
use Rattle.steps.specs.declared.Request.{Request}
use Rattle.steps.specs.declared.Request.TheVariants.{Write, Discard}
use Rattle.steps.specs.Steps.{encode, encode_all, gather, steps_of, decode_at, decode_fields}
use Rattle.rules.specs.Rules.{known, broken_rule, rule1, rule2, rule3, rule4, rule5, once_each, data_fits, links_are, collect, every, piece_in, unit_in, map_in, word_in, link_in, linked_in, unit_of, plan_map, word_in_range, map_fits, ends_in, before_link, after_link}
use Rattle.layout.specs.Layout.{edition1, map_words, after_head}

-- whether the chunk is mapped, the request, the plan, and the lowest rule broken
pub record Case : Type 0 where
  pub mapped : Bool
  pub request : Request
  pub steps : List Step
  pub broken : ℕ

unfoldable pub holds : Case → Bool
holds k =
    eqb k.broken
    (broken_rule (known (edition1 4 4 5 20) (λ u. ltb u 20) (λ a. ltb a 5) k.mapped) k.request (encode_all k.steps))

abbrev pub write : List Step → ℕ → Case
write xs r = record { mapped = false; request = Write 2 6144; steps = xs; broken = r }

abbrev pub discard : Bool → List Step → ℕ → Case
discard m xs r = record { mapped = m; request = Discard 1; steps = xs; broken = r }

abbrev pub words : List Step
words = Map 0 0 (Some 0) ∷ Map 0 1 (Some 1) ∷ Map 0 2 None ∷ Map 0 3 None ∷ []

abbrev pub ends : List Step
ends = Fence ∷ Link 2 (Some 0) ∷ Fence ∷ []

unfoldable pub cases : List Case
cases =
    -- the planner's nine steps
    write (Data 0 0 0 ∷ Data 1 1 0 ∷ words ++ ends) 0
    -- MAP before DATA, and a FENCE more
    ∷ write (Fence ∷ words ++ (Data 1 1 0 ∷ Data 0 0 0 ∷ ends)) 0
    -- a unit not below N
    ∷ write (Data 20 0 0 ∷ Data 1 1 0 ∷ words ++ ends) 1
    -- a piece missing, and a unit twice
    ∷ write (Data 0 0 0 ∷ words ++ ends) 2
    ∷ write (Data 0 0 0 ∷ Data 0 1 0 ∷ words ++ ends) 2
    -- the lowest free units in another order, and other free units
    ∷ write (Data 1 0 0 ∷ Data 0 1 0 ∷ Map 0 0 (Some 1) ∷ Map 0 1 (Some 0) ∷ Map 0 2 None ∷ Map 0 3 None ∷ ends) 2
    ∷ write (Data 0 0 0 ∷ Data 2 1 0 ∷ Map 0 0 (Some 0) ∷ Map 0 1 (Some 2) ∷ Map 0 2 None ∷ Map 0 3 None ∷ ends) 2
    -- words that are not the pieces' units, and two maps
    ∷ write (Data 0 0 0 ∷ Data 1 1 0 ∷ Map 0 0 (Some 1) ∷ Map 0 1 (Some 0) ∷ Map 0 2 None ∷ Map 0 3 None ∷ ends) 3
    ∷ write (Data 0 0 0 ∷ Data 1 1 0 ∷ Map 0 0 (Some 0) ∷ Map 1 1 (Some 1) ∷ Map 0 2 None ∷ Map 0 3 None ∷ ends) 3
    -- another chunk
    ∷ write (Data 0 0 0 ∷ Data 1 1 0 ∷ words ++ (Fence ∷ Link 3 (Some 0) ∷ Fence ∷ [])) 4
    -- no FENCE before LINK, none at the end, and DATA after LINK
    ∷ write (Data 0 0 0 ∷ Data 1 1 0 ∷ words ++ (Link 2 (Some 0) ∷ Fence ∷ [])) 5
    ∷ write (Data 0 0 0 ∷ Data 1 1 0 ∷ words ++ (Fence ∷ Link 2 (Some 0) ∷ [])) 5
    ∷ write (Data 0 0 0 ∷ words ++ (Fence ∷ Link 2 (Some 0) ∷ Data 1 1 0 ∷ Fence ∷ [])) 5
    -- discards of an unmapped chunk and of a mapped one
    ∷ discard false [] 0
    ∷ discard false (Fence ∷ []) 5
    ∷ discard true (Link 1 None ∷ Fence ∷ []) 0
    ∷ discard true (Fence ∷ []) 4
    ∷ discard true (Link 1 None ∷ []) 5
    ∷ []

unfoldable pub all_hold : List Case → Bool
all_hold [] = true
all_hold (k ∷ ks) = holds k && all_hold ks

pub cases-hold : all_hold cases ≡ true
unfolding all_hold every holds cases broken_rule rule1 rule2 rule3 rule4 rule5 once_each data_fits keep links_are collect piece_in unit_in map_in word_in link_in linked_in unit_of plan_map word_in_range map_words after_head map_fits ends_in before_link after_link encode_all encode digits number from steps_of gather decode_at decode_fields member any all distinct
cases-hold = refl
