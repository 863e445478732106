-- An element from the digits of its length and the bytes of its value.
use Rattle.std.proofs.Common.{◌≡◌, ℕ, List, Bool, true, false, length, decimal, ap, sym, ◌∙◌}
use Rattle.std.specs.Str.{IsUtf8, IsAscii, chars, encode_utf8_all}
use Rattle.std.proofs.lemmas.Str.{encodes-chars, encodes-IsAscii}
use Rattle.guac_framing.specs.Appended.{separated, spelled}

pub spelled-separated : (first : Bool) (value bytes : List ℕ) → encode_utf8_all value ≡ bytes → spelled first (decimal (length value)) bytes ≡ separated first value
spelled-separated true value bytes e = ap (spelled true (decimal (length value))) (sym e)
spelled-separated false value bytes e = ap (spelled false (decimal (length value))) (sym e)

-- of a text
pub spelled-text : (first : Bool) (count : ℕ) (bytes : List ℕ) → IsUtf8 bytes → count ≡ length (chars bytes) → spelled first (decimal count) bytes ≡ separated first (chars bytes)
spelled-text first count bytes utf8 counted =
    ap (λ n. spelled first (decimal n) bytes) counted ∙ spelled-separated first (chars bytes) bytes (encodes-chars bytes utf8)

-- of ASCII
pub spelled-ascii : (first : Bool) (count : ℕ) (bytes : List ℕ) → IsAscii bytes → count ≡ length bytes → spelled first (decimal count) bytes ≡ separated first bytes
spelled-ascii first count bytes ascii counted =
    ap (λ n. spelled first (decimal n) bytes) counted ∙ spelled-separated first bytes bytes (encodes-IsAscii bytes ascii)
