-- How one more character changes what a state stands for.
use Rattle.std.proofs.Common.{◌≡◌, ◌≢◌, ◌+◌, ℕ, take, List, [], ◌∷◌, ◌++◌, Bool, true, false, cond, Some, None, append_assoc, append-nil, refl, sym, ap, subst, ◌∙◌}
use Rattle.std.proofs.lemmas.Bool.{cond-true, cond-false, ne_eqb}
use Rattle.std.proofs.lemmas.List.Sums.{take_while-cons}
use Rattle.std.specs.List.{take_while}
use Rattle.gate_model.specs.declared.control.Control.{Control}
use Rattle.gate_model.specs.terminal.Controls.{Found, after_while, ended_by, no_control, is_parameter, is_intermediate, is_csi_final, has_effect, sequence, csi_after, string_escape, head_string, head_palette, head_osc, is_escape_final, begins_string, escape_after, plain_escape, head_escape, control_of, head_control}
use Rattle.gate_model.specs.text.Reading.{read, after}
use Rattle.gate_model.proofs.Cutting.{read-whole, read-unfinished, resumes}
use Rattle.gate_model.proofs.ControlLaws.{head_control-is}
use Rattle.ecma_parser.specs.declared.machine.Machine.{Machine}
use Rattle.ecma_parser.specs.declared.sequence.Sequence.{Sequence}
use Rattle.ecma_parser.specs.declared.state.State.{State}
use Rattle.ecma_parser.specs.declared.state.State.TheVariants.{Ground, Escape, EscapeIntermediate, CsiEntry, CsiParam, CsiIntermediate, CsiIgnore, OscEntry, OscPalette, OscPaletteEscape, OscString, SosPmApcString, StringEscape}
use Rattle.ecma_parser.specs.Sequence.{Holds, Continues, IsVoid}
use Rattle.ecma_parser.specs.State.{csi_void, csi_void_end, palette_escape, Follows, ReadsAs, StandsFor, Stands, Gives}
use Rattle.ecma_parser.proofs.StringLaws.{palette-nil}

-- ---- one more character, for any state

pub follows : (rest : List ℕ) (c : ℕ) (next : List ℕ → Found) → ReadsAs rest next → Follows rest c next
follows rest c next reads more = reads (c ∷ more)

-- the character goes on what is unfinished
pub gives-waiting : (rest : List ℕ) (c : ℕ) (next following : List ℕ → Found) (m : Machine) → Follows rest c next → ((more : List ℕ) → next (c ∷ more) ≡ following more)
    → following [] ≡ None → (ReadsAs (rest ++ c ∷ []) following → Stands m (rest ++ c ∷ [])) → Gives (rest ++ c ∷ []) [] m
gives-waiting rest c next following m reads step none stands = record {
  rest = rest ++ c ∷ [];
  is = read-unfinished head_control head_control-is (rest ++ c ∷ []) (reads [] ∙ step [] ∙ none);
  stands = stands (λ more. ap head_control (append_assoc rest (c ∷ []) more) ∙ reads more ∙ step more);
}

-- the character ends what was unfinished
pub gives-ended : (rest : List ℕ) (c : ℕ) (next : List ℕ → Found) (given : List Control) (m : Machine) → Follows rest c next
    → next (c ∷ []) ≡ Some (given, []) → Stands m [] → Gives (rest ++ c ∷ []) given m
gives-ended rest c next given m reads step stands = record {
  rest = [];
  is =
      read-whole head_control head_control-is (rest ++ c ∷ []) [] given (reads [] ∙ step)
      ∙ ap (after given) (read-unfinished head_control head_control-is [] refl)
      ∙ ap (λ given. (given, [])) (append-nil given);
  stands = stands;
}

-- the character abandons what was unfinished, and some of it is read anew
pub gives-left : (rest : List ℕ) (c : ℕ) (next : List ℕ → Found) (left : List ℕ) (given : List Control) (m : Machine) → Follows rest c next
    → next (c ∷ []) ≡ Some ([], left) → Gives left given m → Gives (rest ++ c ∷ []) given m
gives-left rest c next left given m reads step gives = record {
  rest = gives.rest;
  is = read-whole head_control head_control-is (rest ++ c ∷ []) left [] (reads [] ∙ step) ∙ ap (after []) gives.is;
  stands = gives.stands;
}

-- ---- runs and ends

skips : (p : ℕ → Bool) (c : ℕ) (more : List ℕ) → p c ≡ true → after_while p (c ∷ more) ≡ after_while p more
skips p c more is = cond-true _ _ _ is

stops : (p : ℕ → Bool) (c : ℕ) (more : List ℕ) → p c ≡ false → after_while p (c ∷ more) ≡ c ∷ more
stops p c more isnt = cond-false _ _ _ isnt

ends : (p : ℕ → Bool) (given : ℕ → List Control) (c : ℕ) (more : List ℕ) → p c ≡ true → ended_by p given (c ∷ more) ≡ Some (given c, more)
ends p given c more is = cond-true _ _ _ is

abandons : (p : ℕ → Bool) (given : ℕ → List Control) (c : ℕ) (more : List ℕ) → p c ≡ false → ended_by p given (c ∷ more) ≡ Some ([], c ∷ more)
abandons p given c more isnt = cond-false _ _ _ isnt

takes : (p : ℕ → Bool) (c : ℕ) (more : List ℕ) → p c ≡ true → take_while p (c ∷ more) ≡ c ∷ take_while p more
takes p c more is = take_while-cons p c more ∙ cond-true _ _ _ is

takes-none : (p : ℕ → Bool) (c : ℕ) (more : List ℕ) → p c ≡ false → take_while p (c ∷ more) ≡ []
takes-none p c more isnt = take_while-cons p c more ∙ cond-false _ _ _ isnt

-- ---- escape sequences with intermediates

pub escape_after-more : (c : ℕ) (more : List ℕ) → is_intermediate c ≡ true → escape_after (c ∷ more) ≡ escape_after more
escape_after-more c more is = ap (ended_by is_escape_final no_control) (skips is_intermediate c more is)

pub escape_after-final : (c : ℕ) → is_intermediate c ≡ false → is_escape_final c ≡ true → escape_after (c ∷ []) ≡ Some ([], [])
escape_after-final c isnt is = ap (ended_by is_escape_final no_control) (stops is_intermediate c [] isnt) ∙ ends is_escape_final no_control c [] is

pub escape_after-other : (c : ℕ) → is_intermediate c ≡ false → is_escape_final c ≡ false → escape_after (c ∷ []) ≡ Some ([], c ∷ [])
escape_after-other c isnt neither = ap (ended_by is_escape_final no_control) (stops is_intermediate c [] isnt) ∙ abandons is_escape_final no_control c [] neither

-- ---- control sequences without effect

pub csi_void-more : (c : ℕ) (more : List ℕ) → is_parameter c ≡ true → csi_void (c ∷ more) ≡ csi_void more
csi_void-more c more is = ap csi_void_end (skips is_parameter c more is)

pub csi_void-end : (c : ℕ) (more : List ℕ) → is_parameter c ≡ false → csi_void (c ∷ more) ≡ csi_void_end (c ∷ more)
csi_void-end c more isnt = ap csi_void_end (stops is_parameter c more isnt)

pub csi_void_end-more : (c : ℕ) (more : List ℕ) → is_intermediate c ≡ true → csi_void_end (c ∷ more) ≡ csi_void_end more
csi_void_end-more c more is = ap (ended_by is_csi_final no_control) (skips is_intermediate c more is)

pub csi_void_end-final : (c : ℕ) → is_intermediate c ≡ false → is_csi_final c ≡ true → csi_void_end (c ∷ []) ≡ Some ([], [])
csi_void_end-final c isnt is = ap (ended_by is_csi_final no_control) (stops is_intermediate c [] isnt) ∙ ends is_csi_final no_control c [] is

pub csi_void_end-other : (c : ℕ) → is_intermediate c ≡ false → is_csi_final c ≡ false → csi_void_end (c ∷ []) ≡ Some ([], c ∷ [])
csi_void_end-other c isnt neither = ap (ended_by is_csi_final no_control) (stops is_intermediate c [] isnt) ∙ abandons is_csi_final no_control c [] neither

-- what ends such a sequence gives nothing
ended_by-void : (p : ℕ → Bool) (given : ℕ → List Control) (xs : List ℕ) → ((last : ℕ) → given last ≡ []) → ended_by p given xs ≡ ended_by p no_control xs
ended_by-void p given [] void = refl
ended_by-void p given (c ∷ cs) void = ap (λ gives. cond (p c) (Some (gives, cs)) (Some ([], c ∷ cs))) (void c)

-- ---- control sequences

-- from the parameters and what follows them
abbrev csi_from : List ℕ → List ℕ → Found
csi_from parameters others = ended_by is_csi_final (sequence parameters (take_while is_intermediate others)) (after_while is_intermediate others)

sequence-void : (parameters intermediates : List ℕ) (last : ℕ) → has_effect parameters ≡ false → sequence parameters intermediates last ≡ []
sequence-void parameters [] last isnt = cond-false _ _ _ isnt
sequence-void parameters (i ∷ is) last isnt = refl

pub csi_after-more : (text : List ℕ) (c : ℕ) (more : List ℕ) → is_parameter c ≡ true → csi_after text (c ∷ more) ≡ csi_after (text ++ c ∷ []) more
csi_after-more text c more is =
    ap (λ run. csi_from (text ++ run) (after_while is_parameter (c ∷ more))) (takes is_parameter c more is)
    ∙ ap (csi_from (text ++ c ∷ take_while is_parameter more)) (skips is_parameter c more is)
    ∙ ap (λ parameters. csi_from parameters (after_while is_parameter more)) (sym (append_assoc text (c ∷ []) (take_while is_parameter more)))

pub csi_after-void : (text more : List ℕ) → IsVoid text → csi_after text more ≡ csi_void more
csi_after-void text more void =
    let others = after_while is_parameter more in
    ended_by-void is_csi_final (sequence (text ++ take_while is_parameter more) (take_while is_intermediate others)) (after_while is_intermediate others)
    (λ last. sequence-void (text ++ take_while is_parameter more) (take_while is_intermediate others) last (void (take_while is_parameter more)))

-- a character that isn't a parameter
csi_after-end : (text : List ℕ) (c : ℕ) (more : List ℕ) → is_parameter c ≡ false → csi_after text (c ∷ more) ≡ csi_from text (c ∷ more)
csi_after-end text c more isnt =
    ap (λ run. csi_from (text ++ run) (after_while is_parameter (c ∷ more))) (takes-none is_parameter c more isnt)
    ∙ ap (csi_from (text ++ [])) (stops is_parameter c more isnt)
    ∙ ap (λ parameters. csi_from parameters (c ∷ more)) (append-nil text)

pub csi_after-intermediate : (text : List ℕ) (c : ℕ) (more : List ℕ) → is_parameter c ≡ false → is_intermediate c ≡ true
    → csi_after text (c ∷ more) ≡ csi_void_end more
csi_after-intermediate text c more isnt is =
    csi_after-end text c more isnt
    ∙ ap (λ run. ended_by is_csi_final (sequence text run) (after_while is_intermediate (c ∷ more))) (takes is_intermediate c more is)
    ∙ ended_by-void is_csi_final (sequence text (c ∷ take_while is_intermediate more)) (after_while is_intermediate (c ∷ more)) (λ last. refl)
    ∙ csi_void_end-more c more is

csi_from-none : (text : List ℕ) (c : ℕ) (more : List ℕ) → is_intermediate c ≡ false → csi_from text (c ∷ more) ≡ ended_by is_csi_final (sequence text []) (c ∷ more)
csi_from-none text c more isnt =
    ap (λ run. ended_by is_csi_final (sequence text run) (after_while is_intermediate (c ∷ more))) (takes-none is_intermediate c more isnt)
    ∙ ap (ended_by is_csi_final (sequence text [])) (stops is_intermediate c more isnt)

pub csi_after-final : (text : List ℕ) (c : ℕ) (control : Control) → is_parameter c ≡ false → is_intermediate c ≡ false → is_csi_final c ≡ true
    → sequence text [] c ≡ control ∷ [] → csi_after text (c ∷ []) ≡ Some (control ∷ [], [])
csi_after-final text c control isnt neither is gives =
    csi_after-end text c [] isnt ∙ csi_from-none text c [] neither ∙ ends is_csi_final (sequence text []) c [] is
    ∙ ap (λ given. Some (given, [])) gives

pub csi_after-other : (text : List ℕ) (c : ℕ) → is_parameter c ≡ false → is_intermediate c ≡ false → is_csi_final c ≡ false
    → csi_after text (c ∷ []) ≡ Some ([], c ∷ [])
csi_after-other text c isnt neither nor =
    csi_after-end text c [] isnt ∙ csi_from-none text c [] neither ∙ abandons is_csi_final (sequence text []) c [] nor

-- ---- after ESC

module _ (c : ℕ) (more : List ℕ) where
  pub escape-csi : c ≡ 0x5B → head_escape (c ∷ more) ≡ csi_after [] more
  escape-csi is = ap (λ d. head_escape (d ∷ more)) is

  pub escape-osc : c ≡ 0x5D → head_escape (c ∷ more) ≡ head_osc more
  escape-osc is = ap (λ d. head_escape (d ∷ more)) is

  module _ (not_csi : c ≢ 0x5B) (not_osc : c ≢ 0x5D) where
    abbrev others : Found
    others = cond (begins_string c) (head_string false more) (cond (is_intermediate c) (escape_after more) (ended_by is_escape_final plain_escape (c ∷ more)))

    escape-others : head_escape (c ∷ more) ≡ others
    escape-others = cond-false _ _ _ (ne_eqb c 0x5B not_csi) ∙ cond-false _ _ _ (ne_eqb c 0x5D not_osc)

    pub escape-string : begins_string c ≡ true → head_escape (c ∷ more) ≡ head_string false more
    escape-string is = escape-others ∙ cond-true _ _ _ is

    pub escape-intermediate : begins_string c ≡ false → is_intermediate c ≡ true → head_escape (c ∷ more) ≡ escape_after more
    escape-intermediate isnt is = escape-others ∙ cond-false _ _ _ isnt ∙ cond-true _ _ _ is

    pub escape-final : begins_string c ≡ false → is_intermediate c ≡ false → is_escape_final c ≡ true → head_escape (c ∷ more) ≡ Some (plain_escape c, more)
    escape-final isnt neither is = escape-others ∙ cond-false _ _ _ isnt ∙ cond-false _ _ _ neither ∙ ends is_escape_final plain_escape c more is

    pub escape-other : begins_string c ≡ false → is_intermediate c ≡ false → is_escape_final c ≡ false → head_escape (c ∷ more) ≡ Some ([], c ∷ more)
    escape-other isnt neither nor = escape-others ∙ cond-false _ _ _ isnt ∙ cond-false _ _ _ neither ∙ abandons is_escape_final plain_escape c more nor

pub escape-follows : (c : ℕ) → Follows (0x1B ∷ []) c head_escape
escape-follows c more = refl

-- ---- outside a sequence

pub ground-escape : (c : ℕ) (m : Machine) → c ≡ 0x1B → Stands m (0x1B ∷ []) → Gives (c ∷ []) [] m
ground-escape c m is stands = record {
  rest = 0x1B ∷ [];
  is = ap (λ d. read head_control (d ∷ [])) is ∙ read-unfinished head_control head_control-is (0x1B ∷ []) refl;
  stands = stands;
}

pub ground-outside : (c : ℕ) (m : Machine) → c ≢ 0x1B → Stands m [] → Gives (c ∷ []) (control_of c) m
ground-outside c m isnt stands = gives-ended [] c head_control (control_of c) m (λ more. refl) (cond-false _ _ _ (ne_eqb c 0x1B isnt)) stands

-- ---- nothing more

-- what is unfinished gives nothing
pub stands-unfinished : (rest : List ℕ) (next : List ℕ → Found) → ReadsAs rest next → next [] ≡ None → read head_control rest ≡ ([], rest)
stands-unfinished rest next reads none =
    read-unfinished head_control head_control-is rest (ap head_control (sym (append-nil rest)) ∙ reads [] ∙ none)

pub rest-unfinished : (state : State) (s : Sequence) (rest : List ℕ) → StandsFor state s rest → read head_control rest ≡ ([], rest)
rest-unfinished Ground s rest is = subst (λ r. read head_control r ≡ ([], r)) (sym is) (read-unfinished head_control head_control-is [] refl)
rest-unfinished Escape s rest is = subst (λ r. read head_control r ≡ ([], r)) (sym is) (read-unfinished head_control head_control-is (0x1B ∷ []) refl)
rest-unfinished EscapeIntermediate s rest reads = stands-unfinished rest escape_after reads refl
rest-unfinished CsiEntry s rest (holds, reads) = stands-unfinished rest (csi_after []) reads refl
rest-unfinished CsiParam s rest (c, text, holds, reads) = stands-unfinished rest (csi_after (c ∷ text)) reads refl
rest-unfinished CsiIntermediate s rest reads = stands-unfinished rest csi_void_end reads refl
rest-unfinished CsiIgnore s rest reads = stands-unfinished rest csi_void reads refl
rest-unfinished OscEntry s rest reads = stands-unfinished rest head_osc reads refl
rest-unfinished (OscPalette left) s rest (some, reads) = stands-unfinished rest (head_palette left) reads (palette-nil left some)
rest-unfinished (OscPaletteEscape left) s rest (some, reads) = stands-unfinished rest (palette_escape left) reads refl
rest-unfinished OscString s rest reads = stands-unfinished rest (head_string true) reads refl
rest-unfinished SosPmApcString s rest reads = stands-unfinished rest (head_string false) reads refl
rest-unfinished StringEscape s rest reads = stands-unfinished rest string_escape reads refl

pub gives-nothing : (rest : List ℕ) (m : Machine) → Stands m rest → Gives (rest ++ []) [] m
gives-nothing rest m stands = record {
  rest = rest;
  is = ap (read head_control) (append-nil rest) ∙ rest-unfinished m.state m.sequence rest stands;
  stands = stands;
}

-- ---- among the parameters of a control sequence

-- a text with one more character isn't empty
param-stands : (s : Sequence) (rest text : List ℕ) (c : ℕ) → Holds s (text ++ c ∷ []) → ReadsAs rest (csi_after (text ++ c ∷ [])) → StandsFor CsiParam s rest
param-stands s rest [] c holds reads = (c, [], holds, reads)
param-stands s rest (x ∷ xs) c holds reads = (x, xs ++ c ∷ [], holds, reads)

module _ (rest text : List ℕ) (c : ℕ) (reads : Follows rest c (csi_after text)) (parameter : is_parameter c ≡ true) (s : Sequence) (state : State) where
  pub param-kept : state ≡ CsiParam → Holds s (text ++ c ∷ []) → Gives (rest ++ c ∷ []) [] (record { state = state; sequence = s })
  param-kept is holds = gives-waiting rest c (csi_after text) (csi_after (text ++ c ∷ [])) _ reads (λ more. csi_after-more text c more parameter) refl
      (λ on. subst (λ st. StandsFor st s (rest ++ c ∷ [])) (sym is) (param-stands s (rest ++ c ∷ []) text c holds on))

  pub param-void : state ≡ CsiIgnore → IsVoid (text ++ c ∷ []) → Gives (rest ++ c ∷ []) [] (record { state = state; sequence = s })
  param-void is void = gives-waiting rest c (csi_after text) csi_void _ reads
      (λ more. csi_after-more text c more parameter ∙ csi_after-void (text ++ c ∷ []) more void) refl
      (λ on. subst (λ st. StandsFor st s (rest ++ c ∷ [])) (sym is) on)

pub param-marked : (rest : List ℕ) (c : ℕ) (s : Sequence) → Follows rest c (csi_after []) → c ≡ 0x3F → Holds s (0x3F ∷ [])
    → Gives (rest ++ c ∷ []) [] (record { state = CsiParam; sequence = s })
param-marked rest c s reads is holds =
    param-kept rest [] c reads (ap is_parameter is) s CsiParam refl (subst (λ d. Holds s (d ∷ [])) (sym is) holds)

-- the text of such a state
pub record HasText (s : Sequence) (rest : List ℕ) : Type 0 where
  pub text : List ℕ
  pub holds : Holds s text
  pub reads : ReadsAs rest (csi_after text)
  pub begun : (c : ℕ) → Continues text c

pub param-text : (s : Sequence) (rest : List ℕ) (state : State) → state ≡ CsiParam → StandsFor state s rest → HasText s rest
param-text s rest state is stands = of_parts (subst (λ st. StandsFor st s rest) is stands)
  where
    of_parts : StandsFor CsiParam s rest → HasText s rest
    of_parts (c, text, holds, reads) = record { text = c ∷ text; holds = holds; reads = reads; begun = λ d none. absurd (begins c text none) }
      where
        begins : (c : ℕ) (text : List ℕ) → c ∷ text ≡ [] → ⊥
        begins c text none = cc

-- what is read next, from what was unfinished
pub gives-on : (cs more : List ℕ) (given next : List Control) (between m : Machine) → Gives cs given between
    → ((rest : List ℕ) → Stands between rest → Gives (rest ++ more) next m) → Gives (cs ++ more) (given ++ next) m
gives-on cs more given next between m first second =
    let then = second first.rest first.stands in
    record {
      rest = then.rest;
      is =
          resumes head_control head_control-is cs more
          ∙ ap (λ (r : List Control × List ℕ). after r.0 (read head_control (r.1 ++ more))) first.is
          ∙ ap (after given) then.is;
      stands = then.stands;
    }

-- the next byte of a piece, after bytes that completed nothing
pub gives-next : (rest piece : List ℕ) (i b : ℕ) (next : List Control) (between m : Machine) → take (i + 1) piece ≡ take i piece ++ b ∷ []
    → Gives (rest ++ take i piece) [] between → ((left : List ℕ) → Stands between left → Gives (left ++ b ∷ []) next m)
    → Gives (rest ++ take (i + 1) piece) next m
gives-next rest piece i b next between m more first second =
    subst (λ cs. Gives cs next m) (append_assoc rest (take i piece) (b ∷ []) ∙ ap (λ t. rest ++ t) (sym more))
    (gives-on (rest ++ take i piece) (b ∷ []) [] next between m first second)
