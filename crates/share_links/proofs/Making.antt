-- What the steps of a request for a link come to.
use Rattle.std.proofs.Common.{◌≡◌, ℕ, List, Option, Some, None, Bool, true, ap, sym, ◌∙◌}
use Rattle.std.specs.Prelude.{IfSome, length, is_some}
use Rattle.guac_handshake.specs.Doors.{Sessions, at_name}
use Rattle.uuid.proofs.TextLemmas.{by_index_length}
use Rattle.uuid.specs.Text.{hyphenated_text, lower}
use Rattle.share_links.specs.Doors.{HasName}

pub long_id : (text id : List ℕ) → text ≡ hyphenated_text lower id → length text ≡ 36
long_id text id is = ap length is ∙ by_index_length 36 _

-- the door knows the session
pub has_some : (id_of : List ℕ → Option (List ℕ)) (o : Option Sessions) (asked name : List ℕ) (has : Bool) → asked ≡ name → has ≡ true → IfSome o (λ m. has ≡ is_some (at_name (id_of asked) m)) → HasName id_of o name true
has_some id_of None asked name has same is t = tt
has_some id_of (Some m) asked name has same is t = sym is ∙ (t ∙ ap (λ (i : List ℕ). is_some (at_name (id_of i) m)) same)
