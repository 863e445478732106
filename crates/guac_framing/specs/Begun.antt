-- What the first bytes of a character leave open (RFC 3629, section 4).
use Rattle.std.specs.Prelude.{◌≡◌, ℕ, zero, suc, ◌≤◌, List, [], ◌∷◌, ◌++◌}
use Rattle.std.specs.Char.{IsScalar, encode_utf8}

-- so many bytes, the first of them in a range, the others from 128 to 191
abbrev pub Follows : ℕ → ℕ → ℕ → List ℕ → Type 0
Follows zero least most bytes = bytes ≡ []
Follows (suc n) least most bytes = (b : ℕ) × (rest : List ℕ) × (bytes ≡ b ∷ rest) × (least ≤ b) × (b ≤ most) × Follows n 128 191 rest

-- these bytes begin a character, and just the bytes that follow so complete one
pub record Begins (begun : List ℕ) (n least most : ℕ) : Type 0 where
  pub room : least ≤ most
  pub whole : (rest : List ℕ) → Follows n least most rest → (c : ℕ) × IsScalar c × (encode_utf8 c ≡ begun ++ rest)
  pub only : (c : ℕ) (x z : List ℕ) → IsScalar c → encode_utf8 c ++ x ≡ begun ++ z → (rest : List ℕ) × Follows n least most rest × (rest ++ x ≡ z)

-- no character begins with this byte
abbrev pub BeginsNone : ℕ → Type 0
BeginsNone lead = (c : ℕ) (x z : List ℕ) → IsScalar c → encode_utf8 c ++ x ≡ lead ∷ z → ⊥
