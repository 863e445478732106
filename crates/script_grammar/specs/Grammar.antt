-- What a script's line says (this project's own). Words are separated by one blank, which is a space or
-- a tab.
use Rattle.std.specs.Prelude.{ℕ, ◌+◌, ◌-◌, ◌^◌, List, [], ◌∷◌, length, take, drop, Bool, true, false, ◌&&◌, ◌||◌, ◌==◌, nat_le, nat_lt, if◌then◌else◌, Option, Some, None, option_and_then, codes, bytes_eq}
use Rattle.std.specs.List.{position_or_len, list_any, ends_with}
use Rattle.gate_model.specs.declared.sharing.Asked.{Asked}
use Rattle.gate_model.specs.declared.sharing.Asked.TheVariants.{Owner, Control as ask_control, View as ask_view, Keep}
use Rattle.gate_model.specs.declared.sharing.Share.{Share}
use Rattle.gate_model.specs.declared.sharing.Share.TheVariants.{Nobody, View, Control}
use Rattle.gate_model.specs.Limits.{most_piece}
use Rattle.script_grammar.specs.declared.text_form.TextForm.{TextForm}
use Rattle.script_grammar.specs.declared.text_form.TextForm.TheVariants.{Draw, Script}
use Rattle.script_grammar.specs.declared.size.Size.{Size}
use Rattle.script_grammar.specs.Numbers.{number_up_to}
use Rattle.script_grammar.specs.Hexadecimal.{bytes_of}
use Rattle.script_grammar.specs.Words.{size_of}
use Rattle.script_grammar.specs.Pieces.{whole_pieces, all_pieces}
use Rattle.script_grammar.specs.declared.line.Line.{Line}
use Rattle.script_grammar.specs.declared.line.Line.TheVariants.{Blank, Bad, At, Start, Server, Join, Read, Write, Resize, Take, Leave, Close, Pixel, Same, Acknowledge, Done, Press, Totals}
use Rattle.script_grammar.specs.declared.order.Order.{Order}
use Rattle.script_grammar.specs.declared.order.Order.TheVariants.{Told}
use Rattle.script_grammar.specs.Lines.{line_in, draw_lines}
use Rattle.std.specs.Prelude.{reverse}

-- the most bytes of a line without its end, and of a script
abbrev pub most_line : ℕ
most_line = 262144

abbrev pub most_script : ℕ
most_script = 67108864

-- the most bytes of a take
abbrev pub most_taken : ℕ
most_taken = 65536

abbrev pub is_blank : ℕ → Bool
is_blank b = b == 32 || b == 9

-- the first word, and what stands behind the blank after it
abbrev pub first_word : List ℕ → List ℕ
first_word text = take (position_or_len is_blank text) text

abbrev pub behind_word : List ℕ → Option (List ℕ)
behind_word text = if nat_lt (position_or_len is_blank text) (length text) then Some (drop (position_or_len is_blank text + 1) text) else None

-- 1 to 65,536 bytes
abbrev pub served : Option (List ℕ) → Line
served None = Bad
served (Some bytes) = if nat_le 1 (length bytes) && nat_le (length bytes) most_piece then Server bytes else Bad

abbrev pub moved : Option ℕ → Line
moved None = Bad
moved (Some now) = At now

abbrev pub reading : Option ℕ → Line
reading None = Bad
reading (Some viewer) = Read viewer

-- `write N TEXT`
abbrev pub writing : Option ℕ → Option (List ℕ) → Line
writing (Some viewer) (Some text) = Write viewer text
writing viewer text = Bad

-- `size N COLS ROWS`
abbrev pub resizing : Option ℕ → Option Size → Line
resizing (Some viewer) (Some size) = Resize viewer size
resizing viewer size = Bad

abbrev pub new_size : List ℕ → Option (List ℕ) → Line
new_size viewer None = Bad
new_size viewer (Some text) = resizing (number_up_to (2 ^ 32 - 1) viewer) (option_and_then (size_of (first_word text)) (behind_word text))

-- `take M`
abbrev pub taking : Option ℕ → Line
taking None = Bad
taking (Some most) = Take most

-- `leave N`
abbrev pub leaving : Option ℕ → Line
leaving None = Bad
leaving (Some viewer) = Leave viewer

-- `pixel N X Y`
abbrev pub looking : Option ℕ → Option ℕ → Option ℕ → Line
looking (Some viewer) (Some x) (Some y) = Pixel viewer x y
looking viewer x y = Bad

abbrev pub pixel_place : List ℕ → Option (List ℕ) → Line
pixel_place viewer None = Bad
pixel_place viewer (Some text) = looking (number_up_to (2 ^ 32 - 1) viewer) (number_up_to (2 ^ 64 - 1) (first_word text)) (option_and_then (number_up_to (2 ^ 64 - 1)) (behind_word text))

-- `same N M`
abbrev pub comparing : Option ℕ → Option ℕ → Line
comparing (Some one) (Some other) = Same one other
comparing one other = Bad

-- `join ASKED`
abbrev pub asked_of : List ℕ → Option Asked
asked_of word =
    if bytes_eq word (codes "owner") then Some Owner else (
    if bytes_eq word (codes "control") then Some ask_control else (
    if bytes_eq word (codes "view") then Some ask_view else (
    if bytes_eq word (codes "keep") then Some Keep else None)))

abbrev pub joining : Option Asked → Line
joining None = Bad
joining (Some asked) = Join asked

abbrev pub mode_of : List ℕ → Option Share
mode_of word =
    if bytes_eq word (codes "none") then Some Nobody else (
    if bytes_eq word (codes "view") then Some View else (
    if bytes_eq word (codes "control") then Some Control else None))

abbrev pub starting : ℕ → Option Size → Option Share → Line
starting entries (Some size) (Some mode) = Start size mode entries
starting entries size mode = Bad

-- `start COLS ROWS MODE`: the words behind `start`, then those behind the columns
abbrev pub start_mode : ℕ → List ℕ → List ℕ → Option (List ℕ) → Line
start_mode entries cols rows None = Bad
start_mode entries cols rows (Some mode) = starting entries (size_of cols rows) (mode_of mode)

abbrev pub start_rows : ℕ → List ℕ → Option (List ℕ) → Line
start_rows entries cols None = Bad
start_rows entries cols (Some text) = start_mode entries cols (first_word text) (behind_word text)

-- a line by its first word, and what stands behind it
abbrev pub meant : ℕ → List ℕ → List ℕ → Line
meant entries name text =
    if bytes_eq name (codes "at") then moved (number_up_to (2 ^ 64 - 1) text) else (
    if bytes_eq name (codes "start") then start_rows entries (first_word text) (behind_word text) else (
    if bytes_eq name (codes "server") then served (bytes_of text) else (
    if bytes_eq name (codes "join") then joining (asked_of text) else (
    if bytes_eq name (codes "read") then reading (number_up_to (2 ^ 32 - 1) text) else (
    if bytes_eq name (codes "write") then writing (number_up_to (2 ^ 32 - 1) (first_word text)) (behind_word text) else (
    if bytes_eq name (codes "size") then new_size (first_word text) (behind_word text) else (
    if bytes_eq name (codes "take") then taking (number_up_to most_taken text) else (
    if bytes_eq name (codes "leave") then leaving (number_up_to (2 ^ 32 - 1) text) else (
    if bytes_eq name (codes "pixel") then pixel_place (first_word text) (behind_word text) else (
    if bytes_eq name (codes "same") then comparing (number_up_to (2 ^ 32 - 1) (first_word text)) (option_and_then (number_up_to (2 ^ 32 - 1)) (behind_word text)) else Bad))))))))))

-- a line of one word
abbrev pub alone : List ℕ → Line
alone word = if bytes_eq word (codes "close") then Close else Bad

abbrev pub by_word : ℕ → List ℕ → Option (List ℕ) → Line
by_word entries name None = alone name
by_word entries name (Some text) = meant entries name text

-- an empty line and one that begins with `#` have no effect
abbrev pub line_of : ℕ → List ℕ → Line
line_of entries [] = Blank
line_of entries (b ∷ bs) = if b == 35 then Blank else by_word entries (first_word (b ∷ bs)) (behind_word (b ∷ bs))

-- a line without its end: a line feed, or a carriage return and a line feed
abbrev pub end_length : List ℕ → ℕ
end_length piece = if ends_with (λ a b. a == b) piece (13 ∷ 10 ∷ []) then 2 else (if ends_with (λ a b. a == b) piece (10 ∷ []) then 1 else 0)

abbrev pub content : List ℕ → List ℕ
content piece = take (length piece - end_length piece) piece

-- `start` comes once, and before it nothing but `at`
abbrev pub is_start : Line → Bool
is_start (Start size mode entries) = true
is_start line = false

abbrev pub in_place : Bool → Line → Line
in_place true (Start size mode entries) = Bad
in_place false (Server bytes) = Bad
in_place false (Join asked) = Bad
in_place false (Read viewer) = Bad
in_place false (Write viewer text) = Bad
in_place false (Resize viewer size) = Bad
in_place false (Take most) = Bad
in_place false (Leave viewer) = Bad
in_place false Close = Bad
in_place false (Pixel viewer x y) = Bad
in_place false (Same one other) = Bad
in_place false (Acknowledge viewer) = Bad
in_place false Done = Bad
in_place false (Press viewer keysym) = Bad
in_place false (Totals totals) = Bad
in_place opened line = line

-- the order starts the session
abbrev pub starts : Order → Bool
starts order = is_start (line_in order)

-- a line after `before` bytes of the script
abbrev pub judged : ℕ → Bool → ℕ → List ℕ → Line
judged entries opened before piece = if nat_le (before + length piece) most_script && nat_le (length (content piece)) most_line then in_place opened (line_of entries (content piece)) else Bad

-- a script's lines; lines and pieces have the newest first
abbrev pub total : List (List ℕ) → ℕ
total [] = 0
total (piece ∷ pieces) = total pieces + length piece

abbrev pub script_grammar : ℕ → List (List ℕ) → List Order
script_grammar entries [] = []
script_grammar entries (piece ∷ pieces) = Told (judged entries (list_any starts (script_grammar entries pieces)) (total pieces) piece) ∷ script_grammar entries pieces

-- the orders of a form for its pieces
abbrev pub lines_of : TextForm → List (List ℕ) → List Order
lines_of (Draw size) pieces = draw_lines size pieces
lines_of (Script entries) pieces = script_grammar entries pieces

-- the most bytes of a piece; a longer line of a script is judged by its front
abbrev pub most_of : TextForm → ℕ
most_of (Draw size) = most_piece
most_of (Script entries) = most_line + 2

-- the orders of the whole pieces, and at the end of the input of all pieces
abbrev pub whole_lines : TextForm → List ℕ → List Order
whole_lines form bytes = lines_of form (reverse (whole_pieces (most_of form) bytes))

abbrev pub ending : TextForm → List Order → List Order
ending (Draw size) orders = Told Done ∷ orders
ending (Script entries) orders = orders

abbrev pub all_lines : TextForm → List ℕ → List Order
all_lines form bytes = ending form (lines_of form (reverse (all_pieces (most_of form) bytes)))
