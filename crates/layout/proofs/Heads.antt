-- The words of a map: those before its units, and its units.
use Rattle.std.proofs.Common.{◌≡◌, ℕ, ◌+◌, ◌-◌, ◌<◌, ◌≤◌, Bool, true, false, cond, ltb, List, map, drop, sym, refl, ap, ◌∙◌, arith, length-drop, get_or-drop, ext_get_or, le-ltb, lt-ltb}
use Rattle.search.specs.Search.{below}
use Rattle.search.proofs.Bools.{cond-true, cond-false}
use Rattle.search.proofs.Mapping.{length-map-from, get_or-map-below}
use Rattle.layout.specs.Layout.{after_head}

module _ {A : Type 0} (heads : ℕ) (x : A) (f : ℕ → A) where
  pub in_head : (j : ℕ) → j < heads → after_head heads x f j ≡ x
  unfolding after_head
  in_head j h = cond-true (ltb j heads) x (f (j - heads)) (lt-ltb j heads h)

  pub past_head : (j : ℕ) → heads ≤ j → after_head heads x f j ≡ f (j - heads)
  unfolding after_head
  past_head j h = cond-false (ltb j heads) x (f (j - heads)) (le-ltb j heads h)

  pub after-head : (j : ℕ) → after_head heads x f (heads + j) ≡ f j
  after-head j = past_head (heads + j) (omega arith) ∙ ap f (omega arith)

-- a function of what the words hold
pub after-ap : {A B : Type 0} (F : A → B) (heads : ℕ) (x : A) (f : ℕ → A) (j : ℕ) → F (after_head heads x f j) ≡ after_head heads (F x) (λ i. F (f i)) j
unfolding after_head
after-ap {A} {B} F heads x f j = go (ltb j heads)
  where
    go : (b : Bool) → F (cond b x (f (j - heads))) ≡ cond b (F x) (F (f (j - heads)))
    go true = refl
    go false = refl

-- the words of a map after its head are the units
pub units-after : (heads x : ℕ) (f : ℕ → ℕ) (p : ℕ) → drop heads (map (after_head heads x f) (below (heads + p))) ≡ map f (below p)
units-after heads x f p =
    let ws : List ℕ = map (after_head heads x f) (below (heads + p)) in
    let full = length-map-from (after_head heads x f) 0 (heads + p) in
    let left = length-drop heads ws in
    let some = length-map-from f 0 p in
    ext_get_or 0 (drop heads ws) (map f (below p)) (omega arith) λ j h.
    get_or-drop heads ws j 0 ∙ get_or-map-below (after_head heads x f) (heads + p) (heads + j) 0 (omega arith) ∙ after-head heads x f j
    ∙ sym (get_or-map-below f p j 0 (omega arith))
