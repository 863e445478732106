-- What a client's instructions do to the text that is pasted (the Guacamole manual, "Guacamole protocol reference", on
-- `clipboard`, `blob` and `end`; RFC 4648, section 4; the limits and what is left out are this project's own).
use Rattle.std.specs.Prelude.{ℕ, ◌+◌, ◌==◌, List, [], ◌++◌, length, Bool, true, false, Option, Some, None, bytes_eq, codes, nat_le, if◌then◌else◌, slice_get}
use Rattle.base64.specs.Engines.{standard}
use Rattle.base64.specs.GeneralPurpose.{decoded_of}
use Rattle.gate_model.specs.text.Numerals.{number_in, value_at}
use Rattle.clip_stream.specs.Typed.{keys_of}

-- the most bytes that are pasted at once
abbrev pub most_pasted : ℕ
most_pasted = 262144

-- the number of a stream: 1 to 10 digits, leading zeros among them
abbrev pub stream_of : List ℕ → Option ℕ
stream_of value = if nat_le (length value) 10 then number_in value else None

-- what an instruction asks of the clipboard
pub data Wish : Type 0 where
  -- it is none of the three that are taken out
  Kept : Wish
  -- a text begins on this stream
  Opens : (stream : ℕ) → Wish
  -- what is open is given up
  Closes : Wish
  -- bytes of the text come on this stream, in Base64
  Brings : (stream : ℕ) (encoded : List ℕ) → Wish
  -- the text of this stream is whole
  Ends : (stream : ℕ) → Wish
  -- nothing
  Idle : Wish

-- a clipboard of another type than `text/plain`, or without a stream or a type, gives up what is open
abbrev pub opens : Option ℕ → Option (List ℕ) → Wish
opens (Some stream) (Some kind) = if bytes_eq kind (codes "text/plain") then Opens stream else Closes
opens stream kind = Closes

abbrev pub brings : Option ℕ → Option (List ℕ) → Wish
brings (Some stream) (Some encoded) = Brings stream encoded
brings stream encoded = Idle

abbrev pub ends : Option ℕ → Wish
ends (Some stream) = Ends stream
ends None = Idle

-- by the opcode; further values are ignored
abbrev pub wish_named : List ℕ → List (List ℕ) → Wish
wish_named opcode values =
    if bytes_eq opcode (codes "clipboard") then opens (value_at stream_of 1 values) (slice_get values 2) else (
    if bytes_eq opcode (codes "blob") then brings (value_at stream_of 1 values) (slice_get values 2) else (
    if bytes_eq opcode (codes "end") then ends (value_at stream_of 1 values) else Kept))

-- of the values of an instruction, the opcode first, each in UTF-8
abbrev pub wish_by : Option (List ℕ) → List (List ℕ) → Wish
wish_by None values = Kept
wish_by (Some opcode) values = wish_named opcode values

abbrev pub wish_of : List (List ℕ) → Wish
wish_of values = wish_by (slice_get values 0) values

-- it is none of the three
abbrev pub is_kept : Wish → Bool
is_kept Kept = true
is_kept (Opens stream) = false
is_kept Closes = false
is_kept (Brings stream encoded) = false
is_kept (Ends stream) = false
is_kept Idle = false

-- the stream that is open, if any, and the bytes that came on it
abbrev pub Clip : Type 0
Clip = Option (ℕ × List ℕ)

-- a stream, if any is open, with these bytes
abbrev pub clip_of : Option ℕ → List ℕ → Clip
clip_of None bytes = None
clip_of (Some stream) bytes = Some (stream, bytes)

abbrev pub is_open : Clip → ℕ → Bool
is_open None stream = false
is_open (Some clip) stream = clip.0 == stream

-- the bytes on the stream that is open
abbrev pub clip_bytes : Clip → List ℕ
clip_bytes None = []
clip_bytes (Some clip) = clip.1

-- the bytes with those that a text decodes to behind them, where it decodes and they are within the limit
abbrev pub extended : List ℕ → Option (List ℕ) → Option (List ℕ)
extended bytes None = None
extended bytes (Some more) = if nat_le (length bytes + length more) most_pasted then Some (bytes ++ more) else None

-- the stream with all its bytes, or closed
abbrev pub brought : ℕ → Option (List ℕ) → Clip
brought stream None = None
brought stream (Some bytes) = Some (stream, bytes)

-- the clipboard behind an instruction
abbrev pub clip_after : Clip → Wish → Clip
clip_after clip Kept = clip
clip_after clip (Opens stream) = Some (stream, [])
clip_after clip Closes = None
clip_after clip (Brings stream encoded) = if is_open clip stream then brought stream (extended (clip_bytes clip) (decoded_of standard encoded)) else clip
clip_after clip (Ends stream) = if is_open clip stream then None else clip
clip_after clip Idle = clip

-- what stands in the place of an instruction of these bytes
abbrev pub put_for : Clip → List ℕ → Wish → List ℕ
put_for clip own Kept = own
put_for clip own (Ends stream) = if is_open clip stream then keys_of (clip_bytes clip) else []
put_for clip own wish = []
