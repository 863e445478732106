-- One more byte, from its characters and from their control functions.
use Rattle.std.proofs.Common.{◌≡◌, ℕ, All, map, ◌≤◌, List, [], ◌∷◌, ◌++◌, Option, Some, None, append_assoc, refl, sym, ap, subst, ◌∙◌, arith}
use Rattle.std.proofs.lemmas.Bool.Decides.{nat_tests}
use Rattle.std.specs.List.{cons_option}
use Rattle.std.proofs.lemmas.List.Elements.{All-cons, All-head, All-tail}
use Rattle.bstr.proofs.lemmas.PieceLemmas.{lossy_chars-nil}
use Rattle.gate_model.specs.declared.control.Control.{Control}
use Rattle.gate_model.specs.declared.control.Control.TheVariants.{Print}
use Rattle.gate_model.specs.terminal.Characters.{characters, pending, head_char}
use Rattle.gate_model.specs.terminal.Controls.{controls, unfinished, control_of, head_control}
use Rattle.gate_model.specs.text.Reading.{read, after}
use Rattle.gate_model.proofs.CharacterLaws.{characters_read, head_char-is}
use Rattle.gate_model.proofs.ControlLaws.{head_control-is}
use Rattle.gate_model.proofs.Cutting.{read-unfinished, resumes}
use Rattle.gate_model.proofs.UnfinishedLaws.{characters-cut, controls-cut}
use Rattle.ecma_parser.specs.declared.held.Held.{Held}
use Rattle.ecma_parser.specs.declared.machine.Machine.{Machine}
use Rattle.ecma_parser.specs.declared.state.State.TheVariants.{Ground}
use Rattle.ecma_parser.specs.Held.{held_bytes, GivesCharacters}
use Rattle.ecma_parser.specs.Past.{HaveRead}
use Rattle.gate_model.specs.terminal.Printing.{IsPrintable}
use Rattle.ecma_parser.specs.State.{Stands, StandsFor, Gives}
use Rattle.ecma_parser.proofs.HeldLaws.{read-ascii}
use Rattle.ecma_parser.proofs.StateLaws.{ground-outside, gives-on}

-- what one more byte gives, and what is read after it
pub record Steps (bytes : List ℕ) (byte : ℕ) (given : List Control) (held : Held) (m : Machine) : Type 0 where
  pub controls : controls (characters (bytes ++ byte ∷ [])) ≡ controls (characters bytes) ++ given
  pub past : HaveRead held m (bytes ++ byte ∷ [])

-- from the characters that the byte completes, and the control functions that these complete
step : (bytes : List ℕ) (byte : ℕ) (held : Held) (m : Machine) (cs : List ℕ) (given : List Control) (rest : List ℕ)
    → read head_char (pending bytes ++ byte ∷ []) ≡ (cs, held_bytes held)
    → read head_control (unfinished (characters bytes) ++ cs) ≡ (given, rest) → Stands m rest → Steps bytes byte given held m
step bytes byte held m cs given rest chars controls_read stands =
    let found : (characters (pending bytes ++ byte ∷ []), pending (pending bytes ++ byte ∷ [])) ≡ (cs, held_bytes held) =
    sym (characters_read (pending bytes ++ byte ∷ [])) ∙ chars in
    let cut = characters-cut bytes (byte ∷ []) in
    let text : characters (bytes ++ byte ∷ []) ≡ characters bytes ++ cs =
    cut.given ∙ ap (λ (r : List ℕ × List ℕ). characters bytes ++ r.0) found in
    let both = controls-cut (characters bytes) cs in
    record {
      controls = ap controls text ∙ both.given ∙ ap (λ (r : List Control × List ℕ). controls (characters bytes) ++ r.0) controls_read;
      past = record {
        bytes_held = sym (ap (λ (r : List ℕ × List ℕ). r.1) found) ∙ sym cut.held;
        stands = subst (Stands m) (sym (ap unfinished text ∙ both.held ∙ ap (λ (r : List Control × List ℕ). r.1) controls_read)) stands;
      };
    }

-- two characters that may have come, one after the other
cons_option-append : {A : Type 0} (o : Option A) (xs : List A) → cons_option o [] ++ xs ≡ cons_option o xs
cons_option-append None xs = refl
cons_option-append (Some x) xs = refl

pub step-two : (bytes : List ℕ) (byte : ℕ) (old held : Held) (m between after_both : Machine) (first second : Option ℕ) (given next : Option Control)
    → HaveRead old m bytes → GivesCharacters (held_bytes old ++ byte ∷ []) first second held
    → ((rest : List ℕ) → Stands m rest → Gives (rest ++ cons_option first []) (cons_option given []) between)
    → ((rest : List ℕ) → Stands between rest → Gives (rest ++ cons_option second []) (cons_option next []) after_both)
    → Steps bytes byte (cons_option given (cons_option next [])) held after_both
step-two bytes byte old held m between after_both first second given next past chars reads_first reads_second =
    let rest = unfinished (characters bytes) in
    let one = reads_first rest past.stands in
    let two = reads_second one.rest one.stands in
    let cs = cons_option first [] in
    let more = cons_option second [] in
    let whole : read head_control (rest ++ cons_option first more) ≡ (cons_option given (cons_option next []), two.rest) =
    ap (λ t. read head_control (rest ++ t)) (sym (cons_option-append first more))
    ∙ ap (read head_control) (sym (append_assoc rest cs more))
    ∙ resumes head_control head_control-is (rest ++ cs) more
    ∙ ap (λ (r : List Control × List ℕ). after r.0 (read head_control (r.1 ++ more))) one.is
    ∙ ap (after (cons_option given [])) two.is
    ∙ ap (λ t. (t, two.rest)) (cons_option-append given (cons_option next [])) in
    step bytes byte held after_both (cons_option first more) (cons_option given (cons_option next [])) two.rest
    (ap (λ t. read head_char (t ++ byte ∷ [])) (sym past.bytes_held) ∙ chars) whole two.stands

-- a byte below 0x80 where nothing is held is a character by itself
pub step-ascii : (bytes : List ℕ) (byte : ℕ) (held : Held) (m new : Machine) (given : List Control)
    → HaveRead held m bytes → held_bytes held ≡ [] → byte ≤ 0x7F → ((rest : List ℕ) → Stands m rest → Gives (rest ++ byte ∷ []) given new)
    → Steps bytes byte given held new
step-ascii bytes byte held m new given past none low reads =
    let one = reads (unfinished (characters bytes)) past.stands in
    step bytes byte held new (byte ∷ []) given one.rest
    (ap (λ t. read head_char (t ++ byte ∷ [])) (sym past.bytes_held ∙ none) ∙ read-ascii byte low ∙ ap (λ t. (byte ∷ [], t)) (sym none))
    one.is one.stands

-- a printable one outside a sequence is printed
pub step-print : (bytes : List ℕ) (byte : ℕ) (held : Held) (m : Machine) → HaveRead held m bytes → held_bytes held ≡ [] → m.state ≡ Ground
    → 0x20 ≤ byte → byte ≤ 0x7E → Steps bytes byte (Print byte ∷ []) held m
step-print bytes byte held m past none at_ground from to = step-ascii bytes byte held m m (Print byte ∷ []) past none (omega arith)
    (λ rest stands.
    let empty : rest ≡ [] = subst (λ st. StandsFor st m.sequence rest) at_ground stands in
    subst (λ r. Gives (r ++ byte ∷ []) (Print byte ∷ []) m) (sym empty)
    (subst (λ given. Gives (byte ∷ []) given m) printed
    (ground-outside byte m (λ e. absurd (omega arith)) (subst (λ st. StandsFor st m.sequence []) (sym at_ground) refl))))
  where
    printed : control_of byte ≡ Print byte ∷ []
    printed = grind (arith, nat_tests)

pub new-past : (held : Held) (m : Machine) → held_bytes held ≡ [] → Stands m [] → HaveRead held m []
new-past held m none stands =
    let chars : characters [] ≡ [] = lossy_chars-nil in
    let rest : unfinished (characters []) ≡ [] =
    ap unfinished chars ∙ ap (λ (r : List Control × List ℕ). r.1) (read-unfinished head_control head_control-is [] refl) in
    record {
      bytes_held = none;
      stands = subst (Stands m) (sym rest) stands;
    }

-- ---- a run of bytes below 0x80

read-run : (run : List ℕ) → All (λ b. b ≤ 0x7F) run → read head_char run ≡ (run, [])
read-run [] all = read-unfinished head_char head_char-is [] refl
read-run (b ∷ bs) all =
    resumes head_char head_char-is (b ∷ []) bs
    ∙ ap (λ (r : List ℕ × List ℕ). after r.0 (read head_char (r.1 ++ bs))) (read-ascii b (All-head (λ b. b ≤ 0x7F) b bs all))
    ∙ ap (after (b ∷ [])) (read-run bs (All-tail (λ b. b ≤ 0x7F) b bs all))

pub record Runs (bytes run : List ℕ) (given : List Control) (held : Held) (m : Machine) : Type 0 where
  pub controls : controls (characters (bytes ++ run)) ≡ controls (characters bytes) ++ given
  pub past : HaveRead held m (bytes ++ run)

-- a run of whole characters
pub run-whole : (bytes run cs : List ℕ) (held : Held) (m new : Machine) (given : List Control)
    → HaveRead held m bytes → held_bytes held ≡ [] → read head_char run ≡ (cs, []) → ((rest : List ℕ) → Stands m rest → Gives (rest ++ cs) given new)
    → Runs bytes run given held new
run-whole bytes run cs held m new given past none whole reads =
    let one = reads (unfinished (characters bytes)) past.stands in
    let empty : pending bytes ≡ [] = sym past.bytes_held ∙ none in
    let found : (characters (pending bytes ++ run), pending (pending bytes ++ run)) ≡ (cs, []) =
    sym (characters_read (pending bytes ++ run)) ∙ ap (λ t. read head_char (t ++ run)) empty ∙ whole in
    let cut = characters-cut bytes run in
    let text : characters (bytes ++ run) ≡ characters bytes ++ cs =
    cut.given ∙ ap (λ (r : List ℕ × List ℕ). characters bytes ++ r.0) found in
    let both = controls-cut (characters bytes) cs in
    record {
      controls = ap controls text ∙ both.given ∙ ap (λ (r : List Control × List ℕ). controls (characters bytes) ++ r.0) one.is;
      past = record {
        bytes_held = none ∙ sym (ap (λ (r : List ℕ × List ℕ). r.1) found) ∙ sym cut.held;
        stands = subst (Stands new) (sym (ap unfinished text ∙ both.held ∙ ap (λ (r : List Control × List ℕ). r.1) one.is)) one.stands;
      };
    }

pub run-ascii : (bytes run : List ℕ) (held : Held) (m new : Machine) (given : List Control)
    → HaveRead held m bytes → held_bytes held ≡ [] → All (λ b. b ≤ 0x7F) run → ((rest : List ℕ) → Stands m rest → Gives (rest ++ run) given new)
    → Runs bytes run given held new
run-ascii bytes run held m new given past none low reads = run-whole bytes run run held m new given past none (read-run run low) reads

-- ---- a run of printable bytes outside a sequence

printed-one : (byte : ℕ) → IsPrintable byte → control_of byte ≡ Print byte ∷ []
printed-one byte (from, to) = grind (arith, nat_tests)

gives-text : (run : List ℕ) (m : Machine) → m.state ≡ Ground → All IsPrintable run → Gives run (map Print run) m
gives-text [] m at_ground all = record {
  rest = [];
  is = read-unfinished head_control head_control-is [] refl;
  stands = subst (λ st. StandsFor st m.sequence []) (sym at_ground) refl;
}
gives-text (b ∷ bs) m at_ground all =
    let first : IsPrintable b = All-head IsPrintable b bs all in
    let one : Gives (b ∷ []) (Print b ∷ []) m = subst (λ given. Gives (b ∷ []) given m) (printed-one b first)
    (ground-outside b m (λ e. absurd (omega (arith, first.1, first.0, e))) (subst (λ st. StandsFor st m.sequence []) (sym at_ground) refl)) in
    gives-on (b ∷ []) bs (Print b ∷ []) (map Print bs) m m one
    (λ rest stands. subst (λ r. Gives (r ++ bs) (map Print bs) m) (sym (subst (λ st. StandsFor st m.sequence rest) at_ground stands))
    (gives-text bs m at_ground (All-tail IsPrintable b bs all)))

pub run-text : (bytes run : List ℕ) (held : Held) (m : Machine) → HaveRead held m bytes → held_bytes held ≡ [] → m.state ≡ Ground → All IsPrintable run
    → Runs bytes run (map Print run) held m
run-text bytes run held m past none at_ground all = run-ascii bytes run held m m (map Print run) past none (low run all)
    (λ rest stands. subst (λ r. Gives (r ++ run) (map Print run) m) (sym (subst (λ st. StandsFor st m.sequence rest) at_ground stands)) (gives-text run m at_ground all))
  where
    low : (run : List ℕ) → All IsPrintable run → All (λ b. b ≤ 0x7F) run
    low [] all = λ k d below. absurd (omega (arith, below))
    low (b ∷ bs) all = All-cons (λ b. b ≤ 0x7F) b bs (omega (arith, (All-head IsPrintable b bs all).1)) (low bs (All-tail IsPrintable b bs all))
