-- The range of a character's second byte, by its first (RFC 3629, section 4).
use Rattle.std.proofs.Common.{◌≡◌, ℕ, ◌≤◌, ◌≢◌, [], ◌∷◌, arith}
use Rattle.guac_framing.specs.Begun.{Begins}
use Rattle.guac_framing.proofs.Begins.{lead_three, lead_four}

pub three_short : (b : ℕ) → b ≡ 224 → Begins (b ∷ []) 2 160 191
three_short b e = lead_three b 160 191 record {
  from = omega arith;
  to = omega arith;
  room = omega arith;
  low = omega arith;
  high = omega arith;
  not_short = λ _. omega arith;
  no_surrogate = λ h. omega arith;
  all = λ y l u s n. (s e, u);
}

pub three_surrogate : (b : ℕ) → b ≡ 237 → Begins (b ∷ []) 2 128 159
three_surrogate b e = lead_three b 128 159 record {
  from = omega arith;
  to = omega arith;
  room = omega arith;
  low = omega arith;
  high = omega arith;
  not_short = λ h. omega arith;
  no_surrogate = λ _. omega arith;
  all = λ y l u s n. (l, n e);
}

pub three_other : (b : ℕ) → 224 ≤ b → b ≤ 239 → b ≢ 224 → b ≢ 237 → Begins (b ∷ []) 2 128 191
three_other b l u s n = lead_three b 128 191 record {
  from = l;
  to = omega arith;
  room = omega arith;
  low = omega arith;
  high = omega arith;
  not_short = λ h. absurd (s h);
  no_surrogate = λ h. absurd (n h);
  all = λ y l2 u2 s2 n2. (l2, u2);
}

pub four_short : (b : ℕ) → b ≡ 240 → Begins (b ∷ []) 3 144 191
four_short b e = lead_four b 144 191 record {
  from = omega arith;
  to = omega arith;
  room = omega arith;
  low = omega arith;
  high = omega arith;
  not_short = λ _. omega arith;
  not_past = λ h. omega arith;
  all = λ y l u s n. (s e, u);
}

pub four_last : (b : ℕ) → b ≡ 244 → Begins (b ∷ []) 3 128 143
four_last b e = lead_four b 128 143 record {
  from = omega arith;
  to = omega arith;
  room = omega arith;
  low = omega arith;
  high = omega arith;
  not_short = λ h. omega arith;
  not_past = λ _. omega arith;
  all = λ y l u s n. (l, n e);
}

pub four_other : (b : ℕ) → 240 ≤ b → b ≤ 244 → b ≢ 240 → b ≢ 244 → Begins (b ∷ []) 3 128 191
four_other b l u s n = lead_four b 128 191 record {
  from = l;
  to = u;
  room = omega arith;
  low = omega arith;
  high = omega arith;
  not_short = λ h. absurd (s h);
  not_past = λ h. absurd (n h);
  all = λ y l2 u2 s2 n2. (l2, u2);
}
