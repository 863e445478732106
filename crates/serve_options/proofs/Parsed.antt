-- What a parse of the words says of the options that they give.
use mathlib.Core.Path.{fun_ext}
use Rattle.std.proofs.Common.{◌∙◌, ◌≡◌, ◌≢◌, List, [], ◌∷◌, Option, None, ap, ap₂, inl, inr, refl, subst, sym, true}
use Rattle.std.specs.Prelude.{IfOk, Result, Ok, Err, Some}
use Rattle.std.specs.Option.{option_map}
use Rattle.clap.specs.Matches.{raw_values}
use Rattle.clap.specs.Words.{App, FailsBy, HasKind, HasMatchesOf, IsAmong, Kinds, Text, fault_of, first_value, found_of, is_simple, is_simple_and_free, kind_of, matched_of, matches_of, rows_of}
use Rattle.clap.specs.declared.error.Error.{Error}
use Rattle.clap.specs.declared.error.kind.ErrorKind.{ErrorKind}
use Rattle.clap.specs.declared.error.kind.ErrorKind.TheVariants.{OutOfMemory}
use Rattle.clap.specs.declared.parser.matches.ArgMatches.{ArgMatches}
use Rattle.clap.specs.Words.{all_of, first_of}
use Rattle.clap.proofs.OnLiterals.{clap_on_literals}
use Rattle.clap.proofs.WalkLemmas.{first_value-rows, raw_values-rows}
use Rattle.serve_options.specs.Given.{Texts, options_given, options_in, serve_command, texts_by, texts_given, unless_refused}
use Rattle.serve_options.specs.declared.options.Options.{Options}
use Rattle.serve_options.specs.declared.options.WordsFault.{WordsFault}

-- the command is one whose matches and faults `clap` states
is_plain : is_simple serve_command ≡ true
unfolding clap_on_literals
is_plain = refl

is_free : is_simple_and_free serve_command ≡ true
unfolding clap_on_literals
is_free = refl

-- a kind among some is one at least
among : (kind : ErrorKind) (kinds : Kinds) (options : Option Options) → IsAmong kind kinds → unless_refused kinds options ≡ None
among kind [] options h = absurd h
among kind (k ∷ ks) options h = refl

has_kind : (e : Error) (kinds : Kinds) (options : Option Options) → HasKind kinds e → kind_of e ≢ OutOfMemory → unless_refused kinds options ≡ None
has_kind e kinds options (inl memory) other = absurd (other memory)
has_kind e kinds options (inr h) other = among (kind_of e) kinds options h

-- a refusal that isn't want of memory
pub refused : (a : App) (words : List Text) (e : Error) → a ≡ serve_command → (is_simple_and_free a ≡ true → FailsBy {T = ArgMatches} (fault_of a words) (Err e)) → kind_of e ≢ OutOfMemory → options_given words ≡ None
refused a words e same kinds other =
    has_kind e (fault_of serve_command words) _ (subst (λ (b : App). HasKind (fault_of b words) e) same (kinds (ap is_simple_and_free same ∙ is_free))) other

-- the texts that a parse found are those that the words give
abbrev pub found : ArgMatches → Texts
found m = texts_by (first_value (found_of m)) (λ name. option_map raw_values (matched_of (found_of m) name))

found_texts : (words : List Text) (m : ArgMatches) → rows_of (found_of m) ≡ matches_of serve_command words → texts_given words ≡ found m
found_texts words m rows =
    ap₂ texts_by
    (fun_ext λ name. ap (first_of name) (sym rows) ∙ sym (first_value-rows (found_of m) name))
    (fun_ext λ name. ap (all_of name) (sym rows) ∙ sym (raw_values-rows (found_of m) name))

none_refused : (kinds : Kinds) (options : Option Options) → kinds ≡ [] → unless_refused kinds options ≡ options
none_refused kinds options none = ap (λ (k : Kinds). unless_refused k options) none

-- what was taken
pub taken : (a : App) (words : List Text) (m : ArgMatches) (texts : Texts) → a ≡ serve_command → (is_simple_and_free a ≡ true → FailsBy (fault_of a words) (Ok m)) → HasMatchesOf a words m → texts ≡ found m
    → options_given words ≡ options_in texts
taken a words m texts same kinds matches is =
    let none : fault_of serve_command words ≡ [] = subst (λ (b : App). fault_of b words ≡ []) same (kinds (ap is_simple_and_free same ∙ is_free)) in
    let rows : rows_of (found_of m) ≡ matches_of serve_command words = subst (λ (b : App). rows_of (found_of m) ≡ matches_of b words) same (matches (ap is_simple same ∙ is_plain)).0 in
    none_refused (fault_of serve_command words) _ none ∙ ap options_in (found_texts words m rows ∙ sym is)

-- what is read of the texts is what the words give
pub given_as : (given four : Option Options) (r : Result Options WordsFault) → given ≡ four → IfOk r (λ options. four ≡ Some options) → IfOk r (λ options. given ≡ Some options)
given_as given four (Ok options) is h = is ∙ h
given_as given four (Err fault) is h = tt
