-- Whether a LINK is among the first n steps of a plan, step by step, and where it stands.
use Prim.Native.Nat.{ℕ, ◌+◌, ◌<◌}
use mathlib.Core.Path.{◌≡◌, refl}
use mathlib.Core.Bool.{true, false, ◌||◌}
use mathlib.Core.List.{List}
use Rattle.search.specs.Search.{from, any}
use Rattle.search.proofs.Ranges.{any_below, any-below-intro, any-below-more}
use Rattle.steps.specs.Steps.{decode_at}
use Rattle.carry.specs.Carry.{says_link, link_within}

module _ (plan : List ℕ) where
  -- ---- for whoever goes over the steps: of malformed steps too, and of any number

  pub no-link-yet : link_within plan 0 ≡ false
  unfolding link_within any from
  no-link-yet = refl

  pub link-more : (i : ℕ) → link_within plan (i + 1) ≡ (link_within plan i || says_link (decode_at plan i))
  unfolding link_within
  link-more i = any-below-more (λ j. says_link (decode_at plan j)) i

  -- ---- the place of one

  pub link-place : (n : ℕ) → link_within plan n ≡ true → (i : ℕ) × (i < n) × (says_link (decode_at plan i) ≡ true)
  unfolding link_within
  link-place n e = any_below (λ j. says_link (decode_at plan j)) n e

  pub place-link : (n i : ℕ) → i < n → says_link (decode_at plan i) ≡ true → link_within plan n ≡ true
  unfolding link_within
  place-link n i h e = any-below-intro (λ j. says_link (decode_at plan j)) n i h e
