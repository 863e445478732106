-- The first bytes of a control sequence.
use Rattle.std.specs.Prelude.{◌≡◌, ◌≤◌, ℕ, List, length, slice_index}

-- `ESC [` stands at the front
pub record BeginsSequence (bytes : List ℕ) : Type 0 where
  pub two : 2 ≤ length bytes
  pub escape : slice_index bytes 0 ≡ 0x1B
  pub bracket : slice_index bytes 1 ≡ 0x5B
