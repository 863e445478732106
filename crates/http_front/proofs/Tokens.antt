-- A method that a head has is a token: both libraries say the same of its bytes.
use Rattle.std.proofs.Common.{ℕ, List}
use Rattle.httparse.specs.Grammar.{IsToken, is_token_byte}
use Rattle.http_header.specs.Token as other

pub token : (bytes : List ℕ) → IsToken bytes → other.IsToken bytes
unfolding is_token_byte other.is_token_byte
token bytes is = is
