-- Rule 4: n LINK steps, one or none, each of the chunk, and the word of the last one.
use Prim.Native.Nat.{ℕ, zero, suc, ◌≤◌}
use mathlib.Core.Path.{◌≡◌, refl, sym, ap, ◌∙◌}
use mathlib.Core.Bool.{Bool, true, false, ◌&&◌, and-true}
use mathlib.Core.List.{List, [], ◌∷◌}
use native.Mathlib.Omega.{arith}
use lib.ListN.{length}
use lib.Dec.{eqb, eqb-suc-zero, eqb-suc-suc}
use borrow.Author.Tests.{eqb-true, eq-eqb}
use Rattle.search.specs.Search.{all, any, member, distinct}
use Rattle.layout.specs.Layout.{X}
use Rattle.steps.specs.declared.Step.{Step}
use Rattle.steps.specs.declared.Step.TheVariants.{Data, Map, Link, Fence}
use Rattle.rules.specs.Rules.{collect, every, link_in, linked_in, links, linked, once_each, links_are}
use Rattle.pass.proofs.Parts.{of_chunk, zero_in, last_or}

-- the LINK steps are all of chunk i
of-chunk : (i : ℕ) (xs : List Step) → every (of_chunk i) xs ≡ all (eqb i) (links xs)
unfolding every collect link_in all
of-chunk i [] = refl
of-chunk i (Data u j w ∷ xs) = of-chunk i xs
of-chunk i (Map k j v ∷ xs) = of-chunk i xs
of-chunk i (Link c v ∷ xs) = ap (λ (b : Bool). eqb i c && b) (of-chunk i xs)
of-chunk i (Fence ∷ xs) = of-chunk i xs

-- as many numbers 0, as many words
abbrev zeros : List ℕ → List ℕ
zeros [] = []
zeros (c ∷ cs) = 0 ∷ zeros cs

zeros-are : (xs : List Step) → collect zero_in xs ≡ zeros (links xs)
unfolding collect link_in
zeros-are [] = refl
zeros-are (Data u j w ∷ xs) = zeros-are xs
zeros-are (Map k j v ∷ xs) = zeros-are xs
zeros-are (Link c v ∷ xs) = ap (λ (l : List ℕ). 0 ∷ l) (zeros-are xs)
zeros-are (Fence ∷ xs) = zeros-are xs

same-words : (xs : List Step) → length (linked xs) ≡ length (links xs)
unfolding collect link_in linked_in
same-words [] = refl
same-words (Data u j w ∷ xs) = same-words xs
same-words (Map k j v ∷ xs) = same-words xs
same-words (Link c v ∷ xs) = ap suc (same-words xs)
same-words (Fence ∷ xs) = same-words xs

once-zeros : (n : ℕ) → n ≤ 1 → (cs : List ℕ) → once_each n (zeros cs) ≡ eqb (length cs) n
unfolding once_each distinct all member any
once-zeros zero h [] = refl
once-zeros zero h (c ∷ cs) = rw (eqb-suc-zero (length (zeros cs)), eqb-suc-zero (length cs))
once-zeros (suc zero) h [] = refl
once-zeros (suc zero) h (c ∷ []) = refl
once-zeros (suc zero) h (c ∷ (d ∷ cs)) =
    rw (eqb-suc-suc (suc (length (zeros cs))) 0, eqb-suc-suc (suc (length cs)) 0, eqb-suc-zero (length (zeros cs)), eqb-suc-zero (length cs))
once-zeros (suc (suc n)) h cs = absurd (omega arith)

-- the word of the only one, or X where there is none and X is asked for
last_word : (n w : ℕ) → n ≤ 1 → (n ≡ 0 → w ≡ X) → (ws : List ℕ) → length ws ≡ n → eqb w (last_or X ws) ≡ all (eqb w) ws
unfolding all
last_word n w h z [] e = eq-eqb w X (z (sym e))
last_word n w h z (y ∷ []) e = sym (and-true (eqb w y))
last_word n w h z (y ∷ (x ∷ ws)) e = absurd (omega arith)

pub links-are : (n i w : ℕ) → n ≤ 1 → (n ≡ 0 → w ≡ X) → (xs : List Step)
    → ((once_each n (collect zero_in xs) && every (of_chunk i) xs) && eqb w (last_or X (linked xs))) ≡ links_are n i w xs
unfolding links_are
links-are n i w h z xs =
    ap (λ (l : List ℕ). (once_each n l && every (of_chunk i) xs) && eqb w (last_or X (linked xs))) (zeros-are xs)
    ∙ ap (λ (b : Bool). (b && every (of_chunk i) xs) && eqb w (last_or X (linked xs))) (once-zeros n h (links xs))
    ∙ ap (λ (b : Bool). (eqb (length (links xs)) n && b) && eqb w (last_or X (linked xs))) (of-chunk i xs)
    ∙ go (eqb (length (links xs)) n) refl
  where
    go : (b : Bool) → eqb (length (links xs)) n ≡ b
        → ((eqb (length (links xs)) n && all (eqb i) (links xs)) && eqb w (last_or X (linked xs)))
        ≡ (eqb (length (links xs)) n && all (eqb i) (links xs) && all (eqb w) (linked xs))
    go true e =
        ap (λ (b : Bool). (eqb (length (links xs)) n && all (eqb i) (links xs)) && b)
        (last_word n w h z (linked xs) (same-words xs ∙ eqb-true (length (links xs)) n e))
    go false e = rw (e)
