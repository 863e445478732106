-- The values of a frame, by where they stand in the bytes.
use Rattle.std.specs.Prelude.{ℕ, ◌≤◌, List, [], ◌∷◌, length, map, slice_range}
use Rattle.std.specs.Str.{IsUtf8}
use Rattle.guac_framing.specs.declared.span.Span.{Span}

-- the bytes of a value
abbrev pub text_at : List ℕ → Span → List ℕ
text_at bytes s = slice_range bytes s.start s.end

abbrev pub texts_at : List ℕ → List Span → List (List ℕ)
texts_at bytes spans = map (text_at bytes) spans

-- it stands within the bytes, and is text
pub record IsSpan (bytes : List ℕ) (s : Span) : Type 0 where
  pub ordered : s.start ≤ s.end
  pub within : s.end ≤ length bytes
  pub utf8 : IsUtf8 (text_at bytes s)

abbrev pub AreSpans : List ℕ → List Span → Type 0
AreSpans bytes [] = Unit {0}
AreSpans bytes (s ∷ spans) = IsSpan bytes s × AreSpans bytes spans
