-- A run of places that have one key, as the loop that looks for its end goes on.
use Rattle.std.proofs.Common.{◌≡◌, ℕ, ◌+◌, ◌<◌, ◌≤◌, Bool, true, false, not, List, length, refl, sym, ap, ◌∙◌, arith, inl, inr}
use Rattle.std.proofs.lemmas.Bool.{cases_lt}
use Rattle.gate_model.specs.declared.key.Key.{Key}
use Rattle.gate_model.specs.picture.Pictures.{key_at}
use Rattle.gate_model.specs.picture.Buffers.{is_same_key}
use Rattle.frame_draw.specs.Leads.{IsRun}
use Rattle.frame_draw.proofs.NewKeys.{same_is}

pub record IsSame (keys : List Key) (from to : ℕ) : Type 0 where
  pub some : from < to
  pub same : (p : ℕ) → from ≤ p → p < to → key_at keys p ≡ key_at keys from

pub same_one : (keys : List Key) (from : ℕ) → IsSame keys from (from + 1)
same_one keys from = record { some = omega arith; same = λ p low high. let e : p ≡ from = omega (arith, low, high) in ap (key_at keys) e }

not_false : (b : Bool) → not b ≡ false → b ≡ true
not_false true e = refl
not_false false e = absurd (cc)

pub same_more : (keys : List Key) (from to : ℕ) (a b : Key) (differs : Bool) → IsSame keys from to → a ≡ key_at keys to → b ≡ key_at keys from → differs ≡ not (is_same_key a b) → differs ≡ false → IsSame keys from (to + 1)
same_more keys from to a b differs s is_a is_b e f = record {
  some = omega (arith, s.some);
  same = λ p low high. elim (cases_lt p to) as (λ _. key_at keys p ≡ key_at keys from) [
    | inl lt ↦ s.same p low lt
    | inr le ↦ let here : p ≡ to = omega (arith, le, high) in ap (key_at keys) here ∙ (sym is_a ∙ (same_is a b (not_false (is_same_key a b) (sym e ∙ f)) ∙ is_b))
  ];
}

pub same_run : (keys : List Key) (from to : ℕ) → to ≤ length keys → IsSame keys from to → IsRun keys from to
same_run keys from to within s = record { some = s.some; within = within; same = s.same }
