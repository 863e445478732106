-- The words that ask for a text in place of a run (this project's own).
use Rattle.std.specs.Prelude.{ℕ, List, [], ◌∷◌, Bool, false, ◌&&◌, ◌||◌, Option, Some, None, if◌then◌else◌, codes, bytes_eq}
use Rattle.guacgate.specs.declared.help.TheConstants.{HELP, VERSION}

-- the text that a word asks for
abbrev pub text_of : List ℕ → Option (List ℕ)
text_of word =
    if bytes_eq word (codes "--help") || bytes_eq word (codes "-h") then Some HELP.now else (
    if bytes_eq word (codes "--version") then Some VERSION.now else None)

-- a text is asked for by one word alone
abbrev pub text_asked : List (List ℕ) → Option (List ℕ)
text_asked (word ∷ []) = text_of word
text_asked words = None

-- the words ask what `serve` is given
abbrev pub asks_of_serve : List (List ℕ) → Bool
asks_of_serve (name ∷ word ∷ []) = bytes_eq name (codes "serve") && (bytes_eq word (codes "--help") || bytes_eq word (codes "-h"))
asks_of_serve words = false
