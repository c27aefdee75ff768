-- The theorem of this crate that a reader wants: nothing else cites it.
use Rattle.std.proofs.Common.{ℕ, List, [], refl, ap, subst, append-nil}
use Rattle.layout.specs.Layout.{shape_of}
use Rattle.indexed.specs.Calls.{Current, index_of}
use Rattle.indexed.specs.Opening.{free_sets}
use Rattle.indexed.proofs.Currents.{free-current}
use Rattle.index.specs.Values.{opened_index, FirstIsCurrent}

-- What `Index::open` answers for a sound image is current.
pub first-is-current : FirstIsCurrent
first-is-current s e = (
  record { shape = shape_of s; sets = free_sets s },
  ap (λ v. opened_index v s) e,
  subst (λ (ws : List ℕ). Current s (index_of (shape_of s) ws)) (append-nil (free_sets s)) (free-current s [] e),
)
