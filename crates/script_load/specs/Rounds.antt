-- The lines that drawn words make (this project's own). Each round draws one word, and a feed one more for each of
-- its pieces.
use Rattle.std.specs.Prelude.{ℕ, zero, suc, ◌+◌, ◌/◌, ◌%◌, ◌≤◌, List, [], ◌∷◌, ◌++◌, map, flat_map, reverse, length, drop, decimal, ◌==◌, nat_lt, if◌then◌else◌}
use Rattle.gate_model.specs.declared.sharing.Asked.TheVariants.{Owner, View as ask_view}
use Rattle.gate_model.specs.declared.sharing.Share.TheVariants.{View}
use Rattle.gate_model.specs.Limits.{most_entries, most_piece}
use Rattle.script_grammar.specs.declared.line.Line.{Line}
use Rattle.script_grammar.specs.declared.line.Line.TheVariants.{At, Start, Server, Join, Read, Take, Leave, Acknowledge, Press, Totals as told_totals}
use Rattle.script_grammar.specs.declared.order.Order.{Order}
use Rattle.script_grammar.specs.declared.order.Order.TheVariants.{Told, Untold}
use Rattle.script_grammar.specs.declared.totals.Totals.{Totals}
use Rattle.script_load.specs.Words.{Words}

-- ---- a feed

-- what the host sends for a word: CR LF, a colour, a place or a character
abbrev pub text_of : ℕ → List ℕ
text_of w =
    if w % 16 == 0 then 13 ∷ 10 ∷ [] else (
    if w % 16 == 1 then 27 ∷ 91 ∷ 51 ∷ (48 + w / 16 % 8) ∷ 109 ∷ [] else (
    if w % 16 == 2 then 27 ∷ 91 ∷ decimal (1 + w / 16 % 24) ++ 59 ∷ decimal (1 + w / 1024 % 80) ++ 72 ∷ [] else
    (32 + w / 16 % 95) ∷ []))

-- .. for so many words, from the place on
abbrev pub texts_of : Words → ℕ → ℕ → List ℕ
texts_of word place zero = []
texts_of word place (suc n) = texts_of word place n ++ text_of (word (place + n))

-- how many pieces the feed of a word has
abbrev pub feed_size : ℕ → ℕ
feed_size w = 1 + w / 8 % 200

-- ---- a round

-- where rounds leave the words and the viewers: how many words were drawn, who is there beside viewer 1, in the
-- order of numbers, and how many viewers have joined
pub record Stand : Type 0 where
  pub drawn : ℕ
  pub others : List ℕ
  pub joined : ℕ

abbrev pub beginning : Stand
beginning = record { drawn = 0; others = []; joined = 1 }

abbrev pub read_and_acknowledge : ℕ → List Line
read_and_acknowledge viewer = Read viewer ∷ Acknowledge viewer ∷ []

-- each viewer who is there reads and acknowledges
abbrev pub turn : List ℕ → List Line
turn others = flat_map read_and_acknowledge (1 ∷ others)

-- with fewer than eight viewers one joins, else the one with the least number above 1 leaves
abbrev pub first_leaves : List ℕ → Line
first_leaves [] = Join ask_view
first_leaves (viewer ∷ others) = Leave viewer

abbrev pub coming : List ℕ → Line
coming others = if nat_lt (length others) 7 then Join ask_view else first_leaves others

abbrev pub came : Stand → Stand
came s = if nat_lt (length s.others) 7 then record s { others = s.others ++ (s.joined + 1) ∷ []; joined = s.joined + 1 } else record s { others = drop 1 s.others }

-- what the word w of a round says; its feed draws from the place on
abbrev pub deeds : Words → ℕ → ℕ → List ℕ → List Line
deeds word w place others =
    if nat_lt (w % 8) 5 then Server (texts_of word place (feed_size w)) ∷ [] else (
    if w % 8 == 5 then coming others ∷ [] else (
    if w % 8 == 6 then Press 1 (97 + w / 8 % 26) ∷ Take 256 ∷ [] else turn others))

-- where it leaves them
abbrev pub after_word : ℕ → Stand → Stand
after_word w s =
    if nat_lt (w % 8) 5 then record s { drawn = s.drawn + feed_size w } else (
    if w % 8 == 5 then came s else s)

-- the lines of a round, in which the clock stands at its number
abbrev pub round_lines : Words → ℕ → Stand → List Line
round_lines word round s = At round ∷ deeds word (word s.drawn) (s.drawn + 1) s.others

abbrev pub after : Words → Stand → Stand
after word s = after_word (word s.drawn) record s { drawn = s.drawn + 1 }

abbrev pub stand_after : Words → ℕ → Stand
stand_after word zero = beginning
stand_after word (suc rounds) = after word (stand_after word rounds)

-- ---- all lines

-- lines of which no answer is told, behind some orders, which have the newest first
abbrev pub untold : List Line → List Order → List Order
untold lines orders = map Untold (reverse lines) ++ orders

-- the orders before the first round
abbrev pub load_begins : List Order
load_begins = Untold (Join Owner) ∷ Untold (Start record { cols = 80; rows = 24 } View most_entries) ∷ []

-- the orders of some rounds
abbrev pub rounds_done : Words → ℕ → List Order
rounds_done word zero = load_begins
rounds_done word (suc rounds) = untold (round_lines word (rounds + 1) (stand_after word rounds)) (rounds_done word rounds)

-- .. and of so many takes behind them, after each viewer has read and acknowledged
abbrev pub takes_done : Words → ℕ → ℕ → List Order
takes_done word rounds zero = untold (turn (stand_after word rounds).others) (rounds_done word rounds)
takes_done word rounds (suc takes) = Untold (Take 65536) ∷ takes_done word rounds takes

-- .. and last the totals are told
abbrev pub load_orders : Words → ℕ → ℕ → Totals → List Order
load_orders word rounds takes totals = Told (told_totals totals) ∷ takes_done word rounds takes

-- ---- what a round's lines hold

-- a line of a round: the clock, a feed of 1 to 65,536 bytes, a join, a leave, a press, a take, a read or an
-- acknowledgement
abbrev pub IsRoundLine : Line → Type 0
IsRoundLine (At now) = Unit {0}
IsRoundLine (Server bytes) = (1 ≤ length bytes) × (length bytes ≤ most_piece)
IsRoundLine (Join asked) = Unit {0}
IsRoundLine (Read viewer) = Unit {0}
IsRoundLine (Take most) = Unit {0}
IsRoundLine (Leave viewer) = Unit {0}
IsRoundLine (Acknowledge viewer) = Unit {0}
IsRoundLine (Press viewer keysym) = Unit {0}
IsRoundLine line = ⊥
