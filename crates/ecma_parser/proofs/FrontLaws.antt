-- A control sequence at the front of a piece.
use Rattle.std.proofs.Common.{◌≡◌, ◌≢◌, ◌+◌, ◌-◌, ◌≤◌, ◌<◌, ℕ, take, drop, get_or, List, [], ◌∷◌, ◌++◌, length, length-append, All, true, false, append_assoc, append-nil, refl, sym, ap, subst, ◌∙◌, arith}
use Rattle.std.proofs.lemmas.Bool.Decides.{nat_tests}
use Rattle.std.proofs.lemmas.List.{length-take-le, take_more}
use Rattle.std.proofs.lemmas.List.Elements.{All-append, All-cons, All-head, All-nil, All-tail}
use Rattle.std.proofs.Math.Seq.{take-add}
use Rattle.std.specs.Prelude.{slice_index}
use Rattle.gate_model.specs.terminal.Controls.{csi_after, head_control, is_csi_final, is_intermediate, is_parameter}
use Rattle.gate_model.specs.declared.control.Control.{Control}
use Rattle.ecma_parser.specs.declared.machine.Machine.{Machine}
use Rattle.ecma_parser.specs.declared.sequence.Sequence.{Sequence}
use Rattle.ecma_parser.specs.declared.state.State.{State}
use Rattle.ecma_parser.specs.declared.state.State.TheVariants.{Ground, CsiEntry, CsiParam}
use Rattle.ecma_parser.specs.Begun.{BeginsSequence}
use Rattle.ecma_parser.specs.Sequence.{Holds, IsPlain, csi_of}
use Rattle.ecma_parser.specs.State.{Gives, Opened, ReadsAs, Stands, StandsFor}
use Rattle.ecma_parser.proofs.SequenceLaws.{control-is}
use Rattle.ecma_parser.proofs.StateLaws.{csi_after-final, csi_after-more, follows, gives-ended, stands-unfinished}

-- ---- where it begins

front : (bytes : List ℕ) → BeginsSequence bytes → take 2 bytes ≡ 0x1B ∷ 0x5B ∷ []
front [] begins = absurd (omega (arith, begins.two))
front (a ∷ []) begins = absurd (omega (arith, begins.two))
front (a ∷ b ∷ more) begins = ap (λ c. c ∷ b ∷ []) begins.escape ∙ ap (λ c. 0x1B ∷ c ∷ []) begins.bracket

front-marked : (bytes : List ℕ) → BeginsSequence bytes → 3 ≤ length bytes → slice_index bytes 2 ≡ 0x3F → take 3 bytes ≡ 0x1B ∷ 0x5B ∷ 0x3F ∷ []
front-marked [] begins long mark = absurd (omega (arith, long))
front-marked (a ∷ []) begins long mark = absurd (omega (arith, long))
front-marked (a ∷ b ∷ []) begins long mark = absurd (omega (arith, long))
front-marked (a ∷ b ∷ c ∷ more) begins long mark =
    ap (λ d. d ∷ b ∷ c ∷ []) begins.escape ∙ ap (λ d. 0x1B ∷ d ∷ c ∷ []) begins.bracket ∙ ap (λ d. 0x1B ∷ 0x5B ∷ d ∷ []) mark

low-front : All (λ b. b ≤ 0x7F) (0x1B ∷ 0x5B ∷ [])
low-front = All-cons (λ b. b ≤ 0x7F) 0x1B (0x5B ∷ []) (omega arith) (All-cons (λ b. b ≤ 0x7F) 0x5B [] (omega arith) (All-nil (λ b. b ≤ 0x7F)))

low-marked : All (λ b. b ≤ 0x7F) (0x1B ∷ 0x5B ∷ 0x3F ∷ [])
low-marked = All-append (λ b. b ≤ 0x7F) (0x1B ∷ 0x5B ∷ []) (0x3F ∷ []) low-front (All-cons (λ b. b ≤ 0x7F) 0x3F [] (omega arith) (All-nil (λ b. b ≤ 0x7F)))

pub opened-plain : (bytes : List ℕ) (s : Sequence) → BeginsSequence bytes → Holds s [] → Opened 2 bytes s
opened-plain bytes s begins holds = record {
  within = begins.two;
  text = [];
  long = refl;
  holds = holds;
  reads = λ more. ap (λ t. head_control (t ++ more)) (front bytes begins);
  ascii = subst (All (λ b. b ≤ 0x7F)) (sym (front bytes begins)) low-front;
}

pub opened-marked : (bytes : List ℕ) (s : Sequence) → BeginsSequence bytes → 3 ≤ length bytes → slice_index bytes 2 ≡ 0x3F → Holds s (0x3F ∷ []) → Opened 3 bytes s
opened-marked bytes s begins long mark holds = record {
  within = long;
  text = 0x3F ∷ [];
  long = refl;
  holds = holds;
  reads = λ more. ap (λ t. head_control (t ++ more)) (front-marked bytes begins long mark) ∙ csi_after-more [] 0x3F more refl;
  ascii = subst (All (λ b. b ≤ 0x7F)) (sym (front-marked bytes begins long mark)) low-marked;
}

-- ---- and goes on

plain-parameter : (c : ℕ) → IsPlain c → is_parameter c ≡ true
plain-parameter c is = grind (arith, nat_tests)

csi_after-run : (text run more : List ℕ) → All IsPlain run → csi_after text (run ++ more) ≡ csi_after (text ++ run) more
csi_after-run text [] more all = ap (λ t. csi_after t more) (sym (append-nil text))
csi_after-run text (c ∷ cs) more all =
    csi_after-more text c (cs ++ more) (plain-parameter c (All-head IsPlain c cs all))
    ∙ csi_after-run (text ++ c ∷ []) cs more (All-tail IsPlain c cs all)
    ∙ ap (λ t. csi_after t more) (append_assoc text (c ∷ []) cs)

plain-low : (c : ℕ) → IsPlain c → c ≤ 0x7F
plain-low c is = grind (arith, nat_tests)

low : (run : List ℕ) → All IsPlain run → All (λ b. b ≤ 0x7F) run
low [] all = All-nil (λ b. b ≤ 0x7F)
low (c ∷ cs) all = All-cons (λ b. b ≤ 0x7F) c cs (plain-low c (All-head IsPlain c cs all)) (low cs (All-tail IsPlain c cs all))

-- with a run of digits and separators behind what is read
pub opened-on : (start count : ℕ) (bytes rest : List ℕ) (s n : Sequence) → Opened start bytes s → rest ≡ drop start bytes → length rest ≡ length bytes - start
    → count ≤ length rest → All IsPlain (take count rest) → ((text : List ℕ) → Holds s text → Holds n (text ++ take count rest)) → Opened (start + count) bytes n
opened-on start count bytes rest s n o is left within plain holds =
    let run = take count rest in
    let front : take (start + count) bytes ≡ take start bytes ++ run = take-add start count bytes ∙ ap (λ r. take start bytes ++ take count r) (sym is) in
    let counted : length run ≡ count = length-take-le count rest within in
    let both : length (o.text ++ run) ≡ length o.text + length run = length-append o.text run in
    record {
      within = omega (arith, o.within, left, within);
      text = o.text ++ run;
      long = omega (arith, o.long, counted, both);
      holds = holds o.text o.holds;
      reads = λ more.
          ap (λ t. head_control (t ++ more)) front ∙ ap head_control (append_assoc (take start bytes) run more) ∙ o.reads (run ++ more)
          ∙ csi_after-run o.text run more plain;
      ascii = subst (All (λ b. b ≤ 0x7F)) (sym front) (All-append (λ b. b ≤ 0x7F) (take start bytes) run o.ascii (low run plain));
    }

-- ---- what it stands for, and what ends it

stands-within : (text rest : List ℕ) (s : Sequence) (state : State) → (length text ≡ 0 → state ≡ CsiEntry) → (length text ≢ 0 → state ≡ CsiParam)
    → Holds s text → ReadsAs rest (csi_after text) → StandsFor state s rest
stands-within [] rest s state entry param holds reads = subst (λ st. StandsFor st s rest) (sym (entry refl)) (holds, reads)
stands-within (c ∷ cs) rest s state entry param holds reads = subst (λ st. StandsFor st s rest) (sym (param (λ none. absurd (omega (arith, none))))) (c, cs, holds, reads)

pub opened-gives : (at : ℕ) (bytes : List ℕ) (s : Sequence) (state : State) → Opened at bytes s → (at ≡ 2 → state ≡ CsiEntry) → (at ≢ 2 → state ≡ CsiParam)
    → Gives (take at bytes) [] (record { state = state; sequence = s })
opened-gives at bytes s state o entry param = record {
  rest = take at bytes;
  is = stands-unfinished (take at bytes) (csi_after o.text) o.reads refl;
  stands = stands-within o.text (take at bytes) s state (λ none. entry (omega (arith, o.long, none))) (λ some. param (λ two. some (omega (arith, o.long, two)))) o.holds o.reads;
}

final-low : (c : ℕ) → is_csi_final c ≡ true → c ≤ 0x7F
final-low c is = grind (arith, nat_tests)

not-parameter : (c : ℕ) → is_csi_final c ≡ true → is_parameter c ≡ false
not-parameter c is = grind (arith, nat_tests)

not-intermediate : (c : ℕ) → is_csi_final c ≡ true → is_intermediate c ≡ false
not-intermediate c is = grind (arith, nat_tests)

pub ended-ascii : (at : ℕ) (bytes : List ℕ) (s : Sequence) → Opened at bytes s → at < length bytes → is_csi_final (get_or bytes at 0) ≡ true
    → All (λ b. b ≤ 0x7F) (take (at + 1) bytes)
ended-ascii at bytes s o lt is = subst (All (λ b. b ≤ 0x7F)) (sym (take_more bytes at 0 lt))
    (All-append (λ b. b ≤ 0x7F) (take at bytes) (get_or bytes at 0 ∷ []) o.ascii (All-cons (λ b. b ≤ 0x7F) (get_or bytes at 0) [] (final-low (get_or bytes at 0) is) (All-nil (λ b. b ≤ 0x7F))))

pub ended-gives : (at : ℕ) (bytes : List ℕ) (s : Sequence) → Opened at bytes s → at < length bytes → is_csi_final (get_or bytes at 0) ≡ true
    → Gives (take (at + 1) bytes) (csi_of s (get_or bytes at 0) ∷ []) (record { state = Ground; sequence = s })
ended-gives at bytes s o lt is =
    let c = get_or bytes at 0 in
    let apart = not-parameter c is in
    let neither = not-intermediate c is in
    subst (λ cs. Gives cs (csi_of s c ∷ []) (record { state = Ground; sequence = s })) (sym (take_more bytes at 0 lt))
    (gives-ended (take at bytes) c (csi_after o.text) (csi_of s c ∷ []) _ (follows (take at bytes) c (csi_after o.text) o.reads)
    (csi_after-final o.text c (csi_of s c) apart neither is (control-is s o.text c o.holds)) refl)

-- outside a sequence nothing is unfinished
pub from-ground : (old new : Machine) (given : List Control) (run : List ℕ) → old.state ≡ Ground → Gives run given new → (rest : List ℕ) → Stands old rest
    → Gives (rest ++ run) given new
from-ground old new given run at_ground gives rest stands =
    subst (λ r. Gives (r ++ run) given new) (sym (subst (λ st. StandsFor st old.sequence rest) at_ground stands)) gives
