-- The options that the words after `serve` give: the command is this project's own, and how its words are read is what
-- `clap` states of a simple command.
use Rattle.std.specs.Prelude.{List, [], ◌∷◌, Option, Some, None, true, codes, option_and_then}
use Rattle.clap.specs.Simple.{on_top}
use Rattle.clap.specs.Words.{App, Kinds, Rule, Text, all_of, fault_of, first_of, matches_of, new_app, new_rule, with_rule}
use Rattle.clap.specs.declared.builder.action.ArgAction.TheVariants.{Append, SetTrue}
use Rattle.serve_options.specs.Values.{admin_of, allowed_of, faces_of, flag_of, format_of, level_of, page_of, port_of, recorder_of, seconds_of, seed_of}
use Rattle.serve_options.specs.declared.options.Manner.{Manner}
use Rattle.serve_options.specs.declared.options.Options.{Options}
use Rattle.serve_options.specs.declared.options.Place.{Place}

-- an option with one value, as `--port 80` or `--port=80`
abbrev pub with_value : Text → Rule
with_value name = record (new_rule name) { long = Some name; value_names = 1 }

-- the seed has to be there; the port, the level and the format of notes, the two times and the faces have defaults, and the
-- recorder and the operator's place have none; what may be
-- dialed and the names of the page are given any number of times; the page is a flag
abbrev pub seed_rule : Rule
seed_rule = record (with_value (codes "seed")) { required = true }

abbrev pub port_rule : Rule
port_rule = record (with_value (codes "port")) { defaults = codes "4822" ∷ [] }

abbrev pub log_rule : Rule
log_rule = record (with_value (codes "log")) { defaults = codes "warn" ∷ [] }

abbrev pub log_format_rule : Rule
log_format_rule = record (with_value (codes "log-format")) { defaults = codes "text" ∷ [] }

abbrev pub admin_rule : Rule
admin_rule = with_value (codes "admin")

abbrev pub recorder_rule : Rule
recorder_rule = with_value (codes "recorder")

abbrev pub allow_rule : Rule
allow_rule = record (with_value (codes "allow")) { action = Some Append }

abbrev pub silence_rule : Rule
silence_rule = record (with_value (codes "silence")) { defaults = codes "0" ∷ [] }

abbrev pub linger_rule : Rule
linger_rule = record (with_value (codes "linger")) { defaults = codes "0" ∷ [] }

abbrev pub faces_rule : Rule
faces_rule = record (with_value (codes "faces")) { defaults = codes "ascii" ∷ [] }

abbrev pub page_rule : Rule
page_rule = record (new_rule (codes "page")) { long = Some (codes "page"); action = Some SetTrue }

abbrev pub name_rule : Rule
name_rule = record (with_value (codes "name")) { action = Some Append }

-- the command, whose words begin behind `serve`
abbrev pub bare_command : App
bare_command = on_top (λ s. record s { no_binary_name = true }) (new_app (codes "guacgate serve"))

-- .. with where it listens and records, with what it notes and where it tells, with whom it dials and gives up, with what
-- its sessions show, with its page
abbrev pub with_place : App → App
with_place app = with_rule (with_rule (with_rule app seed_rule) port_rule) recorder_rule

abbrev pub with_notes : App → App
with_notes app = with_rule (with_rule (with_rule app log_rule) log_format_rule) admin_rule

abbrev pub with_limits : App → App
with_limits app = with_rule (with_rule (with_rule app allow_rule) silence_rule) linger_rule

abbrev pub with_faces : App → App
with_faces app = with_rule app faces_rule

abbrev pub with_page : App → App
with_page app = with_rule (with_rule app page_rule) name_rule

abbrev pub serve_command : App
serve_command = with_page (with_faces (with_limits (with_notes (with_place bare_command))))

-- the texts of the options, each where it is there
pub record Texts : Type 0 where
  pub seed : Option Text
  pub port : Option Text
  pub recorder : Option Text
  pub level : Option Text
  pub format : Option Text
  pub admin : Option Text
  pub allow : Option (List Text)
  pub silence : Option Text
  pub linger : Option Text
  pub faces : Option Text
  pub page : Option Text
  pub names : Option (List Text)

-- .. by the first text of each name and by all of them
abbrev pub texts_by : (Text → Option Text) → (Text → Option (List Text)) → Texts
texts_by first all = record {
  seed = first (codes "seed");
  port = first (codes "port");
  recorder = first (codes "recorder");
  level = first (codes "log");
  format = first (codes "log-format");
  admin = first (codes "admin");
  allow = all (codes "allow");
  silence = first (codes "silence");
  linger = first (codes "linger");
  faces = first (codes "faces");
  page = first (codes "page");
  names = all (codes "name");
}

-- .. of words that the command takes
abbrev pub texts_given : List Text → Texts
texts_given words = texts_by (λ name. first_of name (matches_of serve_command words)) (λ name. all_of name (matches_of serve_command words))

module _ {A B : Type 0} where
  -- what follows from a value, where it is there
  abbrev pub from : Option A → (A → Option B) → Option B
  from None next = None
  from (Some value) next = next value

-- where it listens, records, notes and tells, of the texts, where each is of its form
abbrev pub place_in : Texts → Option Place
place_in t =
    from (option_and_then seed_of t.seed) (λ seed.
    from (option_and_then port_of t.port) (λ port.
    from (recorder_of t.recorder) (λ recorder.
    from (option_and_then level_of t.level) (λ level.
    from (option_and_then format_of t.format) (λ format.
    from (admin_of t.admin) (λ admin.
    Some (record { seed = seed; port = port; recorder = recorder; level = level; format = format; admin = admin })))))))

-- .. and whom it dials and gives up, and what it shows
abbrev pub manner_in : Texts → Option Manner
manner_in t =
    from (allowed_of t.allow) (λ allow.
    from (option_and_then seconds_of t.silence) (λ silence.
    from (option_and_then seconds_of t.linger) (λ linger.
    from (option_and_then faces_of t.faces) (λ faces.
    from (option_and_then flag_of t.page) (λ has_page.
    from (page_of has_page t.names) (λ page.
    Some (record { allow = allow; silence = silence; linger = linger; faces = faces; page = page })))))))

-- the options of both
abbrev pub options_with : Place → Manner → Options
options_with p m = record { seed = p.seed; port = p.port; recorder = p.recorder; level = p.level; format = p.format; admin = p.admin; allow = m.allow; silence = m.silence; linger = m.linger; faces = m.faces; page = m.page }

abbrev pub options_in : Texts → Option Options
options_in t = from (place_in t) (λ place. from (manner_in t) (λ manner. Some (options_with place manner)))

-- nothing, where the command refuses the words
abbrev pub unless_refused : Kinds → Option Options → Option Options
unless_refused [] options = options
unless_refused (kind ∷ kinds) options = None

-- the options that the words give: the command takes them, and each value is of its form
abbrev pub options_given : List Text → Option Options
options_given words = unless_refused (fault_of serve_command words) (options_in (texts_given words))
