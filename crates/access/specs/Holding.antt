-- What the held part of a chunk is, said of any bytes. No promise cites it: proofs/Theorems.antt ties it to `held_part`.
use Rattle.std.specs.Prelude.{ℕ, ◌*◌, ◌<◌, ◌≡◌, List, length, get_or}
use Rattle.words.specs.Words.{u64_at}

-- the bytes are these numbers in order, 8 bytes each
pub record Holds (us bytes : List ℕ) : Type 0 where
  pub size : length bytes ≡ 8 * length us
  pub word : (j : ℕ) → j < length us → u64_at bytes (8 * j) ≡ get_or us j 0
