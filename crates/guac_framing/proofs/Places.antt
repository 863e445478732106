-- The spans of a frame, and the values at them.
use Rattle.std.proofs.Common.{◌≡◌, ℕ, zero, suc, ◌+◌, ◌-◌, ◌<◌, ◌≤◌, List, [], ◌∷◌, ◌++◌, map, length, get_or, take, drop, slice_get, Some, refl, ap, sym, ◌∙◌, subst, arith, add-one, length-take, length-append}
use Rattle.std.specs.Prelude.{slice_range, encode_utf8_all}
use Rattle.std.specs.Str.{chars, IsUtf8}
use Rattle.std.proofs.lemmas.Str.{chars-encodes, encodes-chars}
use Rattle.guac_framing.specs.Scanned.{HasChars}
use Rattle.guac_framing.specs.Standing.{BehindValue}
use Rattle.std.proofs.Math.Seq.{take-suc-set, drop-append_seam}
use Rattle.std.proofs.Math.ListN.{set}
use Rattle.std.proofs.lemmas.List.{drop-take, map-append}
use Rattle.guac_framing.specs.declared.span.Span.{Span}
use Rattle.guac_framing.specs.Spans.{text_at, texts_at, IsSpan, AreSpans}

pub span_of : (bytes : List ℕ) (spans : List Span) (k : ℕ) (d : Span) → AreSpans bytes spans → k < length (texts_at bytes spans) → IsSpan bytes (get_or spans k d)
span_of bytes [] k d all less = absurd (omega arith)
span_of bytes (s ∷ spans) zero d all less = all.0
span_of bytes (s ∷ spans) (suc k) d all less = span_of bytes spans k d all.1 (omega arith)

pub text_of_span : (bytes : List ℕ) (spans : List Span) (k : ℕ) (d : Span) → k < length (texts_at bytes spans) → slice_get (texts_at bytes spans) k ≡ Some (text_at bytes (get_or spans k d))
text_of_span bytes [] k d less = absurd (omega arith)
text_of_span bytes (s ∷ spans) zero d less = refl
text_of_span bytes (s ∷ spans) (suc k) d less = text_of_span bytes spans k d (omega arith)

-- what stands between two places
pub between_is : (bytes e : List ℕ) (start end : ℕ) → start ≤ end → start ≤ length bytes → take end bytes ≡ take start bytes ++ e → slice_range bytes start end ≡ e
between_is bytes e start end le within split =
    let n : start + (end - start) ≡ end = omega arith in
    let l : length (take start bytes) ≡ start = omega (arith, length-take start bytes) in
    sym (drop-take start (end - start) bytes) ∙ ap (λ m. drop start (take m bytes)) n ∙ ap (drop start) split
    ∙ ap (λ m. drop m (take start bytes ++ e)) (sym l) ∙ drop-append_seam (take start bytes) e

-- one span more
AreSpans-append : (bytes : List ℕ) (spans more : List Span) → AreSpans bytes spans → AreSpans bytes more → AreSpans bytes (spans ++ more)
AreSpans-append bytes [] more a b = b
AreSpans-append bytes (s ∷ spans) more a b = (a.0, AreSpans-append bytes spans more a.1 b)

more_spans : (spans : List Span) (count : ℕ) (s : Span) → count < length spans → take (count + 1) (set spans count s) ≡ take count spans ++ s ∷ []
more_spans spans count s less = rw add-one (take-suc-set spans count s less)

pub spans_more : (bytes : List ℕ) (spans : List Span) (count : ℕ) (s : Span) → count < length spans → AreSpans bytes (take count spans) → IsSpan bytes s → AreSpans bytes (take (count + 1) (set spans count s))
spans_more bytes spans count s less all is = subst (AreSpans bytes) (sym (more_spans spans count s less)) (AreSpans-append bytes (take count spans) (s ∷ []) all (is, tt))

pub values_more : (bytes : List ℕ) (spans : List Span) (count : ℕ) (s : Span) → count < length spans
    → map chars (texts_at bytes (take (count + 1) (set spans count s))) ≡ map chars (texts_at bytes (take count spans)) ++ chars (text_at bytes s) ∷ []
values_more bytes spans count s less =
    ap (λ l. map chars (texts_at bytes l)) (more_spans spans count s less)
    ∙ ap (map chars) (map-append (text_at bytes) (take count spans) (s ∷ []))
    ∙ map-append chars (texts_at bytes (take count spans)) (text_at bytes s ∷ [])

-- the text of a value that was read
pub text_utf8 : (bytes : List ℕ) (start end n left : ℕ) (h : HasChars bytes start end n left) → start ≤ end → start ≤ length bytes → IsUtf8 (slice_range bytes start end)
text_utf8 bytes start end n left h le within = (h.chars, (h.scalars, sym (between_is bytes (encode_utf8_all h.chars) start end le within h.split)))

pub chars_text : (bytes : List ℕ) (start end n left : ℕ) (h : HasChars bytes start end n left) → start ≤ end → start ≤ length bytes → chars (slice_range bytes start end) ≡ h.chars
chars_text bytes start end n left h le within = ap chars (between_is bytes (encode_utf8_all h.chars) start end le within h.split) ∙ chars-encodes h.chars h.scalars

pub length-values : (bytes : List ℕ) (spans : List Span) → length (map chars (texts_at bytes spans)) ≡ length spans
length-values bytes [] = refl
length-values bytes (s ∷ spans) = omega (arith, length-values bytes spans)

-- behind the value at a span more
pub behind_more : (bytes : List ℕ) (spans : List Span) (count : ℕ) (s : Span) (end : ℕ) → count < length spans → end ≡ s.end
    → BehindValue (take s.end bytes) (map chars (texts_at bytes (take count spans)) ++ chars (text_at bytes s) ∷ [])
    → BehindValue (take end bytes) (map chars (texts_at bytes (take (count + 1) (set spans count s))))
behind_more bytes spans count s end less is b =
    let b2 = subst (BehindValue (take s.end bytes)) (sym (values_more bytes spans count s less)) b in
    subst (λ n. BehindValue (take n bytes) (map chars (texts_at bytes (take (count + 1) (set spans count s))))) (sym is) b2

pub count_more : (bytes : List ℕ) (spans : List Span) (count : ℕ) (s : Span) → count < length spans → length (map chars (texts_at bytes (take (count + 1) (set spans count s)))) ≡ count + 1
count_more bytes spans count s less = length-values bytes (take (count + 1) (set spans count s)) ∙ ap length (more_spans spans count s less) ∙ omega (arith, length-append (take count spans) (s ∷ []), length-take count spans)

-- the texts at spans are the UTF-8 of their characters
pub texts_utf8 : (bytes : List ℕ) (spans : List Span) → AreSpans bytes spans → texts_at bytes spans ≡ map encode_utf8_all (map chars (texts_at bytes spans))
texts_utf8 bytes [] all = refl
texts_utf8 bytes (s ∷ spans) all =
    ap (λ t. t ∷ texts_at bytes spans) (sym (encodes-chars (text_at bytes s) all.0.utf8))
    ∙ ap (λ l. encode_utf8_all (chars (text_at bytes s)) ∷ l) (texts_utf8 bytes spans all.1)
