-- The planner's steps stored in a plan's bytes, one after the other.
use Rattle.std.specs.Prelude.{Some}
use Prim.Native.Nat.{ℕ, ◌+◌, ◌-◌, ◌≤◌, ◌<◌}
use native.Mathlib.Nat.{add_assoc}
use native.Mathlib.Omega.{arith}
use mathlib.Core.Path.{◌≡◌, ap, sym, ◌∙◌}
use mathlib.Core.List.{List, [], ◌∷◌, ◌++◌, map}
use lib.ListN.{length, length-append}
use Rattle.search.specs.Search.{from}
use Rattle.search.proofs.Ranges.{from_next, from_end}
use Rattle.search.proofs.Mapping.{length-map-from}
use Rattle.steps.specs.declared.Step.{Step}
use Rattle.steps.specs.declared.Step.TheVariants.{Link, Fence}
use Rattle.steps.specs.Steps.{put_steps}
use Rattle.steps.proofs.Encoding.{put_steps-none, put_steps-cons, put_steps-append}
use Rattle.planner.specs.Planner.{data_step, data_steps, map_step, map_steps, link_steps, write_steps}

-- ---- a loop that stores step f j in turn j, from step `at` on

module _ (f : ℕ → Step) (out : List ℕ) (at n : ℕ) where
  module _ (j : ℕ) where
    pub steps-turn :
        j < n
        → put_steps (put_steps out (at + j) (f j ∷ [])) (at + (j + 1)) (map f (from (j + 1) (n - (j + 1)))) ≡ put_steps out (at + j) (map f (from j (n - j)))
    steps-turn h =
        rw (from_next j n h, ← add_assoc at j 1) (put_steps-cons out (at + j) (f j) (map f (from (j + 1) (n - (j + 1)))))

    pub steps-end : n ≤ j → put_steps out (at + j) (map f (from j (n - j))) ≡ out
    steps-end h = rw (from_end j n h) (put_steps-none out (at + j))

-- ---- the parts of a write's plan

pub length-data_steps : (us : List ℕ) → length (data_steps us) ≡ length us
unfolding data_steps
length-data_steps us = length-map-from (data_step us) 0 (length us)

pub length-map_steps : (heads size m : ℕ) (us : List ℕ) (words : ℕ) → length (map_steps heads size m us words) ≡ words
unfolding map_steps
length-map_steps heads size m us words = length-map-from (map_step heads size m us) 0 words

-- "That is k+P+3 steps"
pub length-write_steps : (heads size : ℕ) (us : List ℕ) (m words i : ℕ) → length (write_steps heads size us m words i) ≡ length us + words + 3
unfolding write_steps
length-write_steps heads size us m words i =
    let maps = map_steps heads size m us words in
    let a = length-append (data_steps us) (maps ++ link_steps i m) in
    let b = length-append maps (link_steps i m) in
    omega (arith, a, b, length-data_steps us, length-map_steps heads size m us words)

module _ (out : List ℕ) where
  pub link-stored :
      (at i m : ℕ)
      → put_steps (put_steps (put_steps out at (Fence ∷ [])) (at + 1) (Link i (Some m) ∷ [])) (at + 2) (Fence ∷ []) ≡ put_steps out at (link_steps i m)
  link-stored at i m =
      ap (λ n. put_steps (put_steps (put_steps out at (Fence ∷ [])) (at + 1) (Link i (Some m) ∷ [])) n (Fence ∷ [])) (sym (add_assoc at 1 1))
      ∙ put_steps-cons (put_steps out at (Fence ∷ [])) (at + 1) (Link i (Some m)) (Fence ∷ [])
      ∙ put_steps-cons out at Fence (Link i (Some m) ∷ Fence ∷ [])

  pub write-stored :
      (heads size : ℕ) (us : List ℕ) (m words i : ℕ)
      → put_steps (put_steps (put_steps out 0 (data_steps us)) (length us) (map_steps heads size m us words)) (length us + words) (link_steps i m)
      ≡ put_steps out 0 (write_steps heads size us m words i)
  unfolding write_steps
  write-stored heads size us m words i =
      let k = length us in
      let maps = map_steps heads size m us words in
      let d = put_steps-append out 0 (data_steps us) (maps ++ link_steps i m) in
      let q = put_steps-append (put_steps out 0 (data_steps us)) k maps (link_steps i m) in
      let at : 0 + length (data_steps us) ≡ k = omega (arith, length-data_steps us) in
      sym (d ∙ ap (λ (n : ℕ). put_steps (put_steps out 0 (data_steps us)) n (maps ++ link_steps i m)) at
      ∙ q ∙ rw (length-map_steps heads size m us words))
