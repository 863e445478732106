-- What a session sends to its Telnet host, and how much of it was taken.
use Rattle.std.specs.Prelude.{ℕ, ◌+◌, List, [], ◌∷◌, ◌++◌, length, drop, Bool, if◌then◌else◌}
use Rattle.gate_model.specs.declared.entry.Entry.{Entry}
use Rattle.gate_model.specs.declared.entry.Entry.TheVariants.{Feed, Size, Write}
use Rattle.gate_model.specs.declared.act.Act.{Act}
use Rattle.gate_model.specs.declared.act.Act.TheVariants.{Key as key_act}
use Rattle.gate_model.specs.declared.mods.Mods.{Mods}
use Rattle.gate_model.specs.keys.Encoding.{encoding}
use Rattle.gate_model.specs.keys.Modifiers.{mods_after}
use Rattle.gate_model.specs.session.Entries.{taken_by}
use Rattle.gate_model.specs.session.History.{History, at, bytes, cuts, opening, terminal_type}
use Rattle.gate_model.specs.terminal.Replies.{replies}
use Rattle.gate_model.specs.telnet.OptionAnswers.{all_off, switches_from, size_text}
use Rattle.gate_model.specs.session.Rights.{may, mods}
use Rattle.gate_model.specs.telnet.TelnetTokens.{tokens, doubled}

-- what the presses among a viewer's acts send, under the modifiers that it holds and the screen's cursor
-- mode; a 255 is doubled (RFC 854)
abbrev pub typed : Bool → Mods → List Act → List ℕ
typed cursor_mode held [] = []
typed cursor_mode held (key_act keysym pressed ∷ acts) =
    (if pressed then doubled (encoding keysym held cursor_mode) else []) ++ typed cursor_mode (mods_after held keysym pressed) acts
typed cursor_mode held (a ∷ acts) = typed cursor_mode held acts

-- what bytes are answered in the session
abbrev pub answered : History → List ℕ → List ℕ
answered h bytes = replies (opening h) (terminal_type h) bytes (cuts h)

-- the host is told each size: it asked for it, and the option is on
abbrev pub is_told : History → Bool
is_told h = (switches_from all_off (tokens (bytes h))).own_size

-- what the entry e sends after the entries g: of a Feed, what the bytes through it are answered past what
-- those before it are; of a Size, the size, where the host is told it; of a Write, what a viewer types who may
abbrev pub sent : History → Entry → List ℕ
sent g (Feed piece stamp frame) = drop (length (answered g (bytes g))) (answered g (bytes g ++ piece))
sent g (Size viewer cols rows stamp frame) = if is_told g then size_text cols rows else []
sent g (Write viewer acts) = if may g viewer then typed (at g).modes.cursor_keys (mods g viewer) acts else []
sent g e = []

-- all that the session sends, in the order of its entries
abbrev pub out : History → List ℕ
out [] = []
out (e ∷ g) = out g ++ sent g e

-- how many bytes of it were taken
abbrev pub taken : History → ℕ
taken [] = 0
taken (e ∷ g) = taken g + taken_by e

-- the bytes that wait for the host
abbrev pub untaken : History → List ℕ
untaken h = drop (taken h) (out h)
