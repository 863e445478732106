-- What a clause reads of `Kept`: the bytes of a subnegotiation for which it stands.
use Rattle.std.specs.Prelude.{◌≡◌, ◌≤◌, ℕ, List, length, min, take}
use Rattle.telnet_wire.specs.declared.kept.Kept.{Kept}
use Rattle.gate_model.specs.Limits.{most_in_sub}

-- the bytes are counted as far as one past the limit, and are kept within it
pub record Holds (kept : Kept) (list : List ℕ) : Type 0 where
  pub counted : kept.count ≡ min 1025 (length list)
  pub held : length list ≤ most_in_sub → take kept.count kept.bytes ≡ list
