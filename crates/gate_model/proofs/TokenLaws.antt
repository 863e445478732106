-- A head of Telnet tokens takes something, and finds the same whatever follows; doubled bytes are read back.
use Rattle.std.proofs.Common.{◌≡◌, ℕ, ◌≤◌, ◌<◌, List, [], ◌∷◌, ◌++◌, length, length-append, Bool, true, false, cond, Some, append_assoc, append-nil, refl, sym, ap, ◌∙◌, arith}
use Rattle.std.proofs.lemmas.Bool.{false≢true}
use Rattle.std.specs.Prelude.{◌==◌, is_some}
use Rattle.std.specs.Int.{is_in_range}
use Rattle.gate_model.specs.declared.token.Token.{Token}
use Rattle.gate_model.specs.declared.token.Token.TheVariants.{Byte}
use Rattle.gate_model.specs.text.Reading.{read, after, IsHead}
use Rattle.gate_model.specs.telnet.TelnetTokens.{iac, head_sub, head_option, head_command, head_token, sub_token, sent_byte, doubled}
use Rattle.gate_model.specs.telnet.TelnetLaws.{TokensOfAnyCutting, DoubledIsData, SubnegotiationIsRead}
use Rattle.gate_model.proofs.Cutting.{read-whole, read-unfinished, resumes}
use Rattle.gate_model.proofs.Heads.{carried, either, left_of, left-either}

head_sub-carried : (before xs more : List ℕ) → is_some (head_sub before xs) ≡ true → head_sub before (xs ++ more) ≡ carried more (head_sub before xs)
head_sub-carried before [] more e = absurd (false≢true e)
head_sub-carried before (b ∷ []) more e = absurd (false≢true e)
head_sub-carried before (b ∷ c ∷ bs) more e = either (b == iac) more _ _ _ _
    (λ s. either (c == iac) more _ _ _ _ (head_sub-carried (before ++ iac ∷ []) bs more)
    (λ t. either (c == 240) more _ _ _ _ (λ u. refl) (λ u. refl) t) s)
    (head_sub-carried (before ++ b ∷ []) (c ∷ bs) more) e

head_option-carried : (verb : ℕ) (xs more : List ℕ) → is_some (head_option verb xs) ≡ true → head_option verb (xs ++ more) ≡ carried more (head_option verb xs)
head_option-carried verb [] more e = absurd (false≢true e)
head_option-carried verb (b ∷ bs) more e = refl

head_command-carried : (xs more : List ℕ) → is_some (head_command xs) ≡ true → head_command (xs ++ more) ≡ carried more (head_command xs)
head_command-carried [] more e = absurd (false≢true e)
head_command-carried (b ∷ bs) more e = either (b == iac) more _ _ _ _ (λ s. refl)
    (λ s. either (b == 250) more _ _ _ _ (head_sub-carried [] bs more)
    (λ t. either (is_in_range 251 254 b) more _ _ _ _ (head_option-carried b bs more)
    (λ u. either (is_in_range 241 249 b) more _ _ _ _ (λ v. refl) (λ v. refl) u) t) s) e

head_token-carried : (xs more : List ℕ) → is_some (head_token xs) ≡ true → head_token (xs ++ more) ≡ carried more (head_token xs)
head_token-carried [] more e = absurd (false≢true e)
head_token-carried (b ∷ bs) more e = either (b == iac) more _ _ _ _ (head_command-carried bs more) (λ s. refl) e

-- ---- what is left

head_sub-left : (before xs : List ℕ) → left_of (head_sub before xs) ≤ length xs
head_sub-left before [] = omega arith
head_sub-left before (b ∷ []) = omega arith
head_sub-left before (b ∷ c ∷ bs) =
    let all = length (b ∷ c ∷ bs) in
    left-either (b == iac) _ _ all
    (left-either (c == iac) _ _ all (omega (arith, head_sub-left (before ++ iac ∷ []) bs))
    (left-either (c == 240) _ _ all (omega arith) (omega arith)))
    (omega (arith, head_sub-left (before ++ b ∷ []) (c ∷ bs)))

head_option-left : (verb : ℕ) (xs : List ℕ) → left_of (head_option verb xs) ≤ length xs
head_option-left verb [] = omega arith
head_option-left verb (b ∷ bs) = omega arith

head_command-left : (xs : List ℕ) → left_of (head_command xs) ≤ length xs
head_command-left [] = omega arith
head_command-left (b ∷ bs) =
    let all = length (b ∷ bs) in
    left-either (b == iac) _ _ all (omega arith)
    (left-either (b == 250) _ _ all (omega (arith, head_sub-left [] bs))
    (left-either (is_in_range 251 254 b) _ _ all (omega (arith, head_option-left b bs))
    (left-either (is_in_range 241 249 b) _ _ all (omega arith) (omega arith))))

head_token-left : (b : ℕ) (bs : List ℕ) → left_of (head_token (b ∷ bs)) ≤ length bs
head_token-left b bs = left-either (b == iac) _ _ (length bs) (head_command-left bs) (omega arith)

pub head_token-is : IsHead head_token
head_token-is = record {
  shrinks = shrinking;
  stable = λ xs more rest given e. head_token-carried xs more (ap is_some e) ∙ ap (carried more) e;
}
  where
    shrinking : (xs rest : List ℕ) (given : List Token) → head_token xs ≡ Some (given, rest) → length rest < length xs
    shrinking [] rest given e = absurd (false≢true (ap is_some e))
    shrinking (b ∷ bs) rest given e = omega (arith, head_token-left b bs, ap left_of e)

pub tokens-cut : TokensOfAnyCutting
tokens-cut first second =
    let whole = resumes head_token head_token-is first second in
    record {
      given = ap (λ r. r.0) whole;
      held = ap (λ r. r.1) whole;
    }

-- ---- doubled bytes

read-nothing : read head_token [] ≡ ([], [])
read-nothing = read-unfinished head_token head_token-is [] refl

-- a data byte as it is sent
head-sent : (b : ℕ) (more : List ℕ) → head_token (sent_byte b ++ more) ≡ Some (Byte b ∷ [], more)
head-sent b more = by_test (b == iac) refl
  where
    by_test : (is : Bool) → (b == iac) ≡ is → head_token (cond is (iac ∷ iac ∷ []) (b ∷ []) ++ more) ≡ Some (Byte b ∷ [], more)
    by_test true e = let same : b ≡ iac = grind (arith, e) in ap (λ n. Some (Byte n ∷ [], more)) (sym same)
    by_test false e = rw e refl

pub doubled-data : DoubledIsData
doubled-data [] = read-nothing
doubled-data (b ∷ bs) =
    read-whole head_token head_token-is (sent_byte b ++ doubled bs) (doubled bs) (Byte b ∷ []) (head-sent b (doubled bs))
    ∙ ap (after (Byte b ∷ [])) (doubled-data bs)

-- within a subnegotiation, a byte as it is sent
sub-sent : (before : List ℕ) (b : ℕ) (x : ℕ) (more : List ℕ) → head_sub before (sent_byte b ++ x ∷ more) ≡ head_sub (before ++ b ∷ []) (x ∷ more)
sub-sent before b x more = by_test (b == iac) refl
  where
    by_test : (is : Bool) → (b == iac) ≡ is → head_sub before (cond is (iac ∷ iac ∷ []) (b ∷ []) ++ x ∷ more) ≡ head_sub (before ++ b ∷ []) (x ∷ more)
    by_test true e = let same : b ≡ iac = grind (arith, e) in ap (λ n. head_sub (before ++ n ∷ []) (x ∷ more)) (sym same)
    by_test false e = rw e refl

-- up to IAC SE
sub-doubled : (before bytes : List ℕ) → head_sub before (doubled bytes ++ iac ∷ 240 ∷ []) ≡ Some (sub_token (before ++ bytes), [])
sub-doubled before [] = ap (λ list. Some (sub_token list, [])) (sym (append-nil before))
sub-doubled before (b ∷ bs) =
    ap (head_sub before) (append_assoc (sent_byte b) (doubled bs) (iac ∷ 240 ∷ []))
    ∙ on (doubled bs ++ iac ∷ 240 ∷ []) (begins bs)
    ∙ sub-doubled (before ++ b ∷ []) bs
    ∙ ap (λ list. Some (sub_token list, [])) (append_assoc before (b ∷ []) bs)
  where
    on : (ys : List ℕ) → 0 < length ys → head_sub before (sent_byte b ++ ys) ≡ head_sub (before ++ b ∷ []) ys
    on [] some = absurd (omega arith)
    on (y ∷ ys) some = sub-sent before b y ys

    begins : (xs : List ℕ) → 0 < length (doubled xs ++ iac ∷ 240 ∷ [])
    begins xs = let long = length-append (doubled xs) (iac ∷ 240 ∷ []) in omega arith

pub subnegotiation-read : SubnegotiationIsRead
subnegotiation-read bytes =
    read-whole head_token head_token-is (iac ∷ 250 ∷ doubled bytes ++ iac ∷ 240 ∷ []) [] (sub_token bytes) (sub-doubled [] bytes)
    ∙ ap (after (sub_token bytes)) read-nothing
    ∙ ap (λ given. (given, [])) (append-nil (sub_token bytes))
