-- How one more byte changes what a state stands for.
use Rattle.std.proofs.Common.{◌≡◌, ◌≢◌, ◌≤◌, ◌<◌, ◌+◌, ℕ, take, map, All, arith, List, [], ◌∷◌, ◌++◌, Some, None, append_assoc, append-nil, refl, sym, ap, subst, ◌∙◌, Result, Ok, Err, IfOk, OnErr}
use Rattle.std.proofs.lemmas.Bool.{cond-false, ne_eqb}
use Rattle.std.proofs.lemmas.Bool.Decides.{nat_tests}
use Rattle.std.proofs.lemmas.List.Elements.{All-head, All-tail}
use Rattle.gate_model.specs.declared.token.Token.{Token}
use Rattle.gate_model.specs.declared.token.Token.TheVariants.{Byte, Single}
use Rattle.gate_model.specs.text.Reading.{read, after}
use Rattle.gate_model.specs.telnet.TelnetTokens.{FoundToken, iac, sub_token, head_sub, head_command, head_token, tokens, unfinished_token}
use Rattle.gate_model.proofs.Cutting.{read-whole, read-unfinished, resumes}
use Rattle.gate_model.proofs.TokenLaws.{head_token-is, tokens-cut}
use Rattle.telnet_wire.specs.declared.kept.Kept.{Kept}
use Rattle.telnet_wire.specs.declared.reader.Reader.{Reader}
use Rattle.telnet_wire.specs.declared.state.State.{State}
use Rattle.telnet_wire.specs.declared.state.State.TheVariants.{Data, Command, AfterWill, AfterWont, AfterDo, AfterDont, Within, WithinCommand}
use Rattle.telnet_wire.specs.Past.{HaveRead}
use Rattle.telnet_wire.specs.declared.part.Part.{Part}
use Rattle.telnet_wire.specs.Parts.{given}
use Rattle.gate_model.specs.declared.memory.NoMemory.{NoMemory}
use Rattle.telnet_wire.specs.State.{sub_command, Follows, ReadsAs, StandsFor, Stands, Gives}

-- ---- one more byte, for any state

-- the byte goes on what is unfinished
pub gives-waiting : (rest : List ℕ) (b : ℕ) (next following : List ℕ → FoundToken) (reader : Reader) → Follows rest b next → ((more : List ℕ) → next (b ∷ more) ≡ following more)
    → following [] ≡ None → (ReadsAs (rest ++ b ∷ []) following → Stands reader (rest ++ b ∷ [])) → Gives (rest ++ b ∷ []) [] reader
gives-waiting rest b next following reader reads step none stands = record {
  rest = rest ++ b ∷ [];
  is = read-unfinished head_token head_token-is (rest ++ b ∷ []) (reads [] ∙ step [] ∙ none);
  stands = stands (λ more. ap head_token (append_assoc rest (b ∷ []) more) ∙ reads more ∙ step more);
}

-- the byte ends what was unfinished
pub gives-ended : (rest : List ℕ) (b : ℕ) (next : List ℕ → FoundToken) (given : List Token) (reader : Reader) → Follows rest b next
    → next (b ∷ []) ≡ Some (given, []) → Stands reader [] → Gives (rest ++ b ∷ []) given reader
gives-ended rest b next given reader reads step stands = record {
  rest = [];
  is =
      read-whole head_token head_token-is (rest ++ b ∷ []) [] given (reads [] ∙ step)
      ∙ ap (after given) (read-unfinished head_token head_token-is [] refl)
      ∙ ap (λ given. (given, [])) (append-nil given);
  stands = stands;
}

-- the byte ends what was unfinished without a token, and some of it is read anew
pub gives-left : (rest : List ℕ) (b : ℕ) (next : List ℕ → FoundToken) (left : List ℕ) (given : List Token) (reader : Reader) → Follows rest b next
    → next (b ∷ []) ≡ Some ([], left) → Gives left given reader → Gives (rest ++ b ∷ []) given reader
gives-left rest b next left given reader reads step gives = record {
  rest = gives.rest;
  is = read-whole head_token head_token-is (rest ++ b ∷ []) left [] (reads [] ∙ step) ∙ ap (after []) gives.is;
  stands = gives.stands;
}

-- what is read next, from what was unfinished
pub gives-on : (bytes more : List ℕ) (given next : List Token) (between reader : Reader) → Gives bytes given between
    → ((rest : List ℕ) → Stands between rest → Gives (rest ++ more) next reader) → Gives (bytes ++ more) (given ++ next) reader
gives-on bytes more given next between reader first second =
    let then = second first.rest first.stands in
    record {
      rest = then.rest;
      is =
          resumes head_token head_token-is bytes more
          ∙ ap (λ (r : List Token × List ℕ). after r.0 (read head_token (r.1 ++ more))) first.is
          ∙ ap (after given) then.is;
      stands = then.stands;
    }

-- ---- within a subnegotiation

pub sub-iac : (before : List ℕ) (b : ℕ) (more : List ℕ) → b ≡ iac → head_sub before (b ∷ more) ≡ sub_command before more
sub-iac before b [] is = refl
sub-iac before b (c ∷ cs) is = ap (λ n. head_sub before (n ∷ c ∷ cs)) is

pub sub-more : (before : List ℕ) (b : ℕ) (more : List ℕ) → b ≢ iac → head_sub before (b ∷ more) ≡ head_sub (before ++ b ∷ []) more
sub-more before b [] isnt = refl
sub-more before b (c ∷ cs) isnt = cond-false _ _ _ (ne_eqb b iac isnt)

pub command-iac : (before : List ℕ) (b : ℕ) (more : List ℕ) → b ≡ iac → sub_command before (b ∷ more) ≡ head_sub (before ++ iac ∷ []) more
command-iac before b more is = ap (λ n. sub_command before (n ∷ more)) is

pub command-end : (before : List ℕ) (b : ℕ) → b ≡ 240 → sub_command before (b ∷ []) ≡ Some (sub_token before, [])
command-end before b is = ap (λ n. sub_command before (n ∷ [])) is

pub command-other : (before : List ℕ) (b : ℕ) → b ≢ iac → b ≢ 240 → sub_command before (b ∷ []) ≡ Some ([], iac ∷ b ∷ [])
command-other before b isnt neither = cond-false _ _ _ (ne_eqb b iac isnt) ∙ cond-false _ _ _ (ne_eqb b 240 neither)

-- ---- outside a subnegotiation

pub data-iac : (b : ℕ) (reader : Reader) → b ≡ iac → Stands reader (iac ∷ []) → Gives (b ∷ []) [] reader
data-iac b reader is stands = record {
  rest = iac ∷ [];
  is = ap (λ n. read head_token (n ∷ [])) is ∙ read-unfinished head_token head_token-is (iac ∷ []) refl;
  stands = stands;
}

pub data-byte : (b : ℕ) (reader : Reader) → b ≢ iac → Stands reader [] → Gives (b ∷ []) (Byte b ∷ []) reader
data-byte b reader isnt stands = gives-ended [] b head_token (Byte b ∷ []) reader (λ more. refl) (cond-false _ _ _ (ne_eqb b iac isnt)) stands

-- after IAC
module _ (b : ℕ) (reader : Reader) where
  pub after-iac : b ≡ iac → Stands reader [] → Gives (iac ∷ b ∷ []) (Byte iac ∷ []) reader
  after-iac is stands = gives-ended (iac ∷ []) b head_command (Byte iac ∷ []) reader (λ more. refl) (ap (λ n. head_command (n ∷ [])) is) stands

  pub after-single : 241 ≤ b → b ≤ 249 → Stands reader [] → Gives (iac ∷ b ∷ []) (Single b ∷ []) reader
  after-single from to stands = gives-ended (iac ∷ []) b head_command (Single b ∷ []) reader (λ more. refl) found stands
    where
      found : head_command (b ∷ []) ≡ Some (Single b ∷ [], [])
      found = grind (arith, nat_tests)

  pub after-none : b < 241 → Stands reader [] → Gives (iac ∷ b ∷ []) [] reader
  after-none low stands = gives-ended (iac ∷ []) b head_command [] reader (λ more. refl) found stands
    where
      found : head_command (b ∷ []) ≡ Some ([], [])
      found = grind (arith, nat_tests)

  pub after-verb : (verb : ℕ) → b ≡ verb → head_command (verb ∷ []) ≡ None → Stands reader (iac ∷ verb ∷ []) → Gives (iac ∷ b ∷ []) [] reader
  after-verb verb is none stands = subst (λ n. Gives (iac ∷ n ∷ []) [] reader) (sym is) (record {
    rest = iac ∷ verb ∷ [];
    is = read-unfinished head_token head_token-is (iac ∷ verb ∷ []) none;
    stands = stands;
  })

  pub after-sub : b ≡ 250 → (ReadsAs (iac ∷ b ∷ []) (head_sub []) → Stands reader (iac ∷ b ∷ [])) → Gives (iac ∷ b ∷ []) [] reader
  after-sub is stands = gives-waiting (iac ∷ []) b head_command (head_sub []) reader (λ more. refl) (λ more. ap (λ n. head_command (n ∷ more)) is) refl stands

-- an option after its verb
pub option-read : (verb b : ℕ) (rest : List ℕ) (token : Token) (reader : Reader) → rest ≡ iac ∷ verb ∷ [] → head_token (iac ∷ verb ∷ b ∷ []) ≡ Some (token ∷ [], [])
    → Stands reader [] → Gives (rest ++ b ∷ []) (token ∷ []) reader
option-read verb b rest token reader is found stands = subst (λ r. Gives (r ++ b ∷ []) (token ∷ []) reader) (sym is) (record {
  rest = [];
  is = read-whole head_token head_token-is (iac ∷ verb ∷ b ∷ []) [] (token ∷ []) found ∙ ap (after (token ∷ [])) (read-unfinished head_token head_token-is [] refl);
  stands = stands;
})

-- ---- nothing more

-- what is unfinished gives nothing
reads-unfinished : (rest : List ℕ) (next : List ℕ → FoundToken) → ReadsAs rest next → next [] ≡ None → read head_token rest ≡ ([], rest)
reads-unfinished rest next reads none =
    read-unfinished head_token head_token-is rest (ap head_token (sym (append-nil rest)) ∙ reads [] ∙ none)

known-unfinished : (rest known : List ℕ) → rest ≡ known → head_token known ≡ None → read head_token rest ≡ ([], rest)
known-unfinished rest known is none = read-unfinished head_token head_token-is rest (ap head_token is ∙ none)

rest-unfinished : (state : State) (kept : Kept) (rest : List ℕ) → StandsFor state kept rest → read head_token rest ≡ ([], rest)
rest-unfinished Data kept rest is = known-unfinished rest [] is refl
rest-unfinished Command kept rest is = known-unfinished rest (iac ∷ []) is refl
rest-unfinished AfterWill kept rest is = known-unfinished rest (iac ∷ 251 ∷ []) is refl
rest-unfinished AfterWont kept rest is = known-unfinished rest (iac ∷ 252 ∷ []) is refl
rest-unfinished AfterDo kept rest is = known-unfinished rest (iac ∷ 253 ∷ []) is refl
rest-unfinished AfterDont kept rest is = known-unfinished rest (iac ∷ 254 ∷ []) is refl
rest-unfinished Within kept rest (before, holds, reads) = reads-unfinished rest (head_sub before) reads refl
rest-unfinished WithinCommand kept rest (before, holds, reads) = reads-unfinished rest (sub_command before) reads refl

pub gives-nothing : (rest : List ℕ) (reader : Reader) → Stands reader rest → Gives (rest ++ []) [] reader
gives-nothing rest reader stands = record {
  rest = rest;
  is = ap (read head_token) (append-nil rest) ∙ rest-unfinished reader.state reader.kept rest stands;
  stands = stands;
}

-- ---- a piece, and the whole stream

-- the next byte of a piece, after the bytes before it
pub gives-next : (rest piece : List ℕ) (i b : ℕ) (given next : List Token) (between reader : Reader) → take (i + 1) piece ≡ take i piece ++ b ∷ []
    → Gives (rest ++ take i piece) given between → ((left : List ℕ) → Stands between left → Gives (left ++ b ∷ []) next reader)
    → Gives (rest ++ take (i + 1) piece) (given ++ next) reader
gives-next rest piece i b given next between reader more first second =
    subst (λ bytes. Gives bytes (given ++ next) reader) (append_assoc rest (take i piece) (b ∷ []) ∙ ap (λ t. rest ++ t) (sym more))
    (gives-on (rest ++ take i piece) (b ∷ []) given next between reader first second)

-- what a piece gives after the bytes before it
pub record Steps (bytes piece : List ℕ) (given : List Token) (reader : Reader) : Type 0 where
  pub tokens : tokens (bytes ++ piece) ≡ tokens bytes ++ given
  pub past : HaveRead reader (bytes ++ piece)

pub steps : (bytes piece : List ℕ) (given : List Token) (old reader : Reader) → HaveRead old bytes
    → ((rest : List ℕ) → Stands old rest → Gives (rest ++ piece) given reader) → Steps bytes piece given reader
steps bytes piece given old reader past reads =
    let rest = unfinished_token bytes in
    let found = reads rest past in
    let cut = tokens-cut bytes piece in
    record {
      tokens = cut.given ∙ ap (λ (r : List Token × List ℕ). tokens bytes ++ r.0) found.is;
      past = subst (Stands reader) (sym (cut.held ∙ ap (λ (r : List Token × List ℕ). r.1) found.is)) found.stands;
    }

pub new-past : (reader : Reader) → Stands reader [] → HaveRead reader []
new-past reader stands =
    let rest : unfinished_token [] ≡ [] = ap (λ (r : List Token × List ℕ). r.1) (read-unfinished head_token head_token-is [] refl) in
    subst (Stands reader) (sym rest) stands

-- ---- a run of data bytes

pub gives-run : (bytes : List ℕ) (reader : Reader) → All (λ b. b ≢ iac) bytes → Stands reader [] → Gives bytes (map Byte bytes) reader
gives-run [] reader all stands = record { rest = []; is = read-unfinished head_token head_token-is [] refl; stands = stands }
gives-run (b ∷ bs) reader all stands =
    let later = gives-run bs reader (All-tail (λ b. b ≢ iac) b bs all) stands in
    record {
      rest = later.rest;
      is = read-whole head_token head_token-is (b ∷ bs) bs (Byte b ∷ []) (cond-false _ _ _ (ne_eqb b iac (All-head (λ b. b ≢ iac) b bs all))) ∙ ap (after (Byte b ∷ [])) later.is;
      stands = later.stands;
    }

-- where nothing was unfinished
pub gives-run-after : (rest bytes : List ℕ) (reader : Reader) → All (λ b. b ≢ iac) bytes → rest ≡ [] → Stands reader [] → Gives (rest ++ bytes) (map Byte bytes) reader
gives-run-after rest bytes reader all is stands = subst (λ r. Gives (r ++ bytes) (map Byte bytes) reader) (sym is) (gives-run bytes reader all stands)

-- what the front of a piece gives
module _ (piece : List ℕ) (old reader : Reader) where
  pub next-past : (result : Result (Part × ℕ) NoMemory) → IfOk result (λ r. (rest : List ℕ) → Stands old rest → Gives (rest ++ take r.1 piece) (given r.0) reader)
      → OnErr result (reader ≡ old) → ((bytes : List ℕ) × HaveRead old bytes) → ((bytes : List ℕ) × HaveRead reader bytes)
  next-past (Ok r) reads same known = (known.0 ++ take r.1 piece, (steps known.0 (take r.1 piece) (given r.0) old reader known.1 reads).past)
  next-past (Err e) reads same known = (known.0, subst (λ reader. HaveRead reader known.0) (sym same) known.1)
