-- `layout::trailers::shape_of` meets its contract: the edition is the one that the bytes have, and each other field is what a read of it ensures.
use Rattle.std.proofs.Common.{◌≡◌, ℕ, ◌+◌, ◌-◌, List, length}
use Rattle.words.specs.Words.{u16_at, u32_at}
use Rattle.layout.specs.declared.Shape.{Shape}
use Rattle.layout.specs.Layout.{trailer_bytes, edition_of, reserved_at, shape_of}
use Rattle.layout.proofs.trailers.shape_of.Goals as goal

-- where the trailer starts as the bytes' edition has it, the fields read from there are those of the shape
said : (s : List ℕ) {e z p c m n r : ℕ} → e ≡ edition_of s → z ≡ trailer_bytes e → p ≡ u16_at s (length s - z + 6) → c ≡ u32_at s (length s - z + 8)
    → m ≡ u32_at s (length s - z + 12)
    → n ≡ u32_at s (length s - z + 16)
    → r ≡ reserved_at s e (length s - z)
    → ◌≡◌ {A = Shape} (record { edition = e; p = p; c = c; m = m; n = n; r = r }) (shape_of s)
unfolding shape_of
said s e₀ e₁ e₂ e₃ e₄ e₅ e₆ = rw (e₂, e₃, e₄, e₅, e₆, e₁, e₀)

pub returns : goal.returns
returns c =
    said c.args.s.now c.requires.0 c.trailer_bytes.ensures.0 c.get_u16.ensures
    c.get_u32.ensures
    c.get_u32-2.ensures
    c.get_u32-3.ensures
    c.reserved_at.ensures
