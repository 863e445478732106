-- A byte completes at most one Telnet token.
use Rattle.std.proofs.Common.{◌≡◌, ℕ, ◌≤◌, List, [], ◌∷◌, ◌++◌, length, Bool, true, false, Option, Some, None, ◌⊎◌, inl, inr, refl, ap, ◌∙◌, arith, lit≤, append-nil}
use Rattle.std.specs.Prelude.{◌==◌, nat_le, if◌then◌else◌}
use Rattle.std.specs.Int.{is_in_range}
use Rattle.gate_model.specs.declared.token.Token.{Token}
use Rattle.gate_model.specs.declared.token.Token.TheVariants.{Byte, Sub, Single}
use Rattle.gate_model.specs.text.Reading.{read, after}
use Rattle.gate_model.specs.telnet.TelnetTokens.{FoundToken, iac, sub_token, tokens, unfinished_token, head_token, head_command, head_option, head_sub}
use Rattle.gate_model.proofs.Cutting.{read-whole, read-unfinished, rest-unfinished}
use Rattle.gate_model.proofs.TokenLaws.{head_token-is}

module _ {A B : Type 0} where
  -- how many a head gives
  abbrev pub given_by : Option (List B × List A) → ℕ
  given_by None = 0
  given_by (Some found) = length found.0

  pub given-either : (b : Bool) (x y : Option (List B × List A)) → given_by x ≤ 1 → given_by y ≤ 1 → given_by (if b then x else y) ≤ 1
  given-either true x y p q = p
  given-either false x y p q = q

-- ---- a head gives at most one token

sub-one : (before bs : List ℕ) → given_by (head_sub before bs) ≤ 1
sub-one before [] = lit≤ tt
sub-one before (b ∷ []) = lit≤ tt
sub-one before (b ∷ c ∷ bs) = pick (b == iac) (c == iac) (c == 240) (nat_le (length before) 1024) (sub-one (before ++ iac ∷ []) bs) (sub-one (before ++ b ∷ []) (c ∷ bs))
  where
    pick : (x y z w : Bool) → given_by (head_sub (before ++ iac ∷ []) bs) ≤ 1 → given_by (head_sub (before ++ b ∷ []) (c ∷ bs)) ≤ 1
        → given_by (if x then (if y then head_sub (before ++ iac ∷ []) bs else (if z then Some ((if w then Sub before ∷ [] else []), bs) else Some ([], iac ∷ c ∷ bs))) else head_sub (before ++ b ∷ []) (c ∷ bs)) ≤ 1
    pick true true z w p q = p
    pick true false true true p q = lit≤ tt
    pick true false true false p q = lit≤ tt
    pick true false false w p q = lit≤ tt
    pick false y z w p q = q

option-one : (verb : ℕ) (bs : List ℕ) → given_by (head_option verb bs) ≤ 1
option-one verb [] = lit≤ tt
option-one verb (o ∷ bs) = lit≤ tt

command-one : (bs : List ℕ) → given_by (head_command bs) ≤ 1
command-one [] = lit≤ tt
command-one (b ∷ bs) = pick (b == iac) (b == 250) (is_in_range 251 254 b) (is_in_range 241 249 b)
  where
    pick : (x y z w : Bool) → given_by (if x then Some (Byte iac ∷ [], bs) else (if y then head_sub [] bs else (if z then head_option b bs else (if w then Some (Single b ∷ [], bs) else Some ([], bs))))) ≤ 1
    pick true y z w = lit≤ tt
    pick false true z w = sub-one [] bs
    pick false false true w = option-one b bs
    pick false false false true = lit≤ tt
    pick false false false false = lit≤ tt

pub token-one : (bs : List ℕ) → given_by (head_token bs) ≤ 1
token-one [] = lit≤ tt
token-one (b ∷ bs) = given-either (b == iac) (head_command bs) (Some (Byte b ∷ [], bs)) (command-one bs) (lit≤ tt)

-- ---- one more byte behind bytes that aren't whole leaves nothing, or gives nothing and leaves IAC and that byte

abbrev Closes : ℕ → FoundToken → Type 0
Closes b None = Unit {0}
Closes b (Some found) = (found.1 ≡ []) ⊎ ((found.0 ≡ []) × (found.1 ≡ iac ∷ b ∷ []))

never : {A : Type 0} (x : A) {T : Type 0} → Some x ≡ None → T
never x e = absurd (let w : Some x ≡ None = e in cc)

sub-closes : (b : ℕ) (before xs : List ℕ) → head_sub before xs ≡ None → Closes b (head_sub before (xs ++ b ∷ []))
sub-closes b before [] e = tt
sub-closes b before (x ∷ []) e = pick (x == iac) (b == iac) (b == 240)
  where
    pick : (p q r : Bool) → Closes b (if p then (if q then None else (if r then Some (sub_token before, []) else Some ([], iac ∷ b ∷ []))) else None)
    pick true true r = tt
    pick true false true = inl refl
    pick true false false = inr (refl, refl)
    pick false q r = tt
sub-closes b before (x ∷ y ∷ xs) e = pick (x == iac) (y == iac) (y == 240) (sub-closes b (before ++ iac ∷ []) xs) (sub-closes b (before ++ x ∷ []) (y ∷ xs)) e
  where
    pick : (p q r : Bool) → (head_sub (before ++ iac ∷ []) xs ≡ None → Closes b (head_sub (before ++ iac ∷ []) (xs ++ b ∷ [])))
        → (head_sub (before ++ x ∷ []) (y ∷ xs) ≡ None → Closes b (head_sub (before ++ x ∷ []) (y ∷ xs ++ b ∷ [])))
        → (if p then (if q then head_sub (before ++ iac ∷ []) xs else (if r then Some (sub_token before, xs) else Some ([], iac ∷ y ∷ xs))) else head_sub (before ++ x ∷ []) (y ∷ xs)) ≡ None
        → Closes b (if p then (if q then head_sub (before ++ iac ∷ []) (xs ++ b ∷ []) else (if r then Some (sub_token before, xs ++ b ∷ []) else Some ([], iac ∷ y ∷ xs ++ b ∷ []))) else head_sub (before ++ x ∷ []) (y ∷ xs ++ b ∷ []))
    pick true true r f g q = f q
    pick true false true f g q = never (sub_token before, xs) q
    pick true false false f g q = never ([], iac ∷ y ∷ xs) q
    pick false p r f g q = g q

-- the first byte behind IAC leaves nothing
abbrev Shuts : FoundToken → Type 0
Shuts None = Unit {0}
Shuts (Some found) = found.1 ≡ []

command-shuts : (b : ℕ) → Shuts (head_command (b ∷ []))
command-shuts b = pick (b == iac) (b == 250) (is_in_range 251 254 b) (is_in_range 241 249 b)
  where
    pick : (p q r s : Bool) → Shuts (if p then Some (Byte iac ∷ [], []) else (if q then None else (if r then head_option b [] else (if s then Some (Single b ∷ [], []) else Some ([], [])))))
    pick true q r s = refl
    pick false true r s = tt
    pick false false true s = tt
    pick false false false true = refl
    pick false false false false = refl

weaker : (b : ℕ) (o : FoundToken) → Shuts o → Closes b o
weaker b None s = tt
weaker b (Some found) s = inl s

option-closes : (b verb : ℕ) (xs : List ℕ) → head_option verb xs ≡ None → Closes b (head_option verb (xs ++ b ∷ []))
option-closes b verb [] e = inl refl
option-closes b verb (o ∷ xs) e = never _ e

command-closes : (b : ℕ) (xs : List ℕ) → head_command xs ≡ None → Closes b (head_command (xs ++ b ∷ []))
command-closes b [] e = weaker b (head_command (b ∷ [])) (command-shuts b)
command-closes b (x ∷ xs) e = pick (x == iac) (x == 250) (is_in_range 251 254 x) (is_in_range 241 249 x) e
  where
    pick : (p q r s : Bool) → (if p then Some (Byte iac ∷ [], xs) else (if q then head_sub [] xs else (if r then head_option x xs else (if s then Some (Single x ∷ [], xs) else Some ([], xs))))) ≡ None
        → Closes b (if p then Some (Byte iac ∷ [], xs ++ b ∷ []) else (if q then head_sub [] (xs ++ b ∷ []) else (if r then head_option x (xs ++ b ∷ []) else (if s then Some (Single x ∷ [], xs ++ b ∷ []) else Some ([], xs ++ b ∷ [])))))
    pick true q r s f = never (Byte iac ∷ [], xs) f
    pick false true r s f = sub-closes b [] xs f
    pick false false true s f = option-closes b x xs f
    pick false false false true f = never (Single x ∷ [], xs) f
    pick false false false false f = never ([], xs) f

token-closes : (b : ℕ) (xs : List ℕ) → head_token xs ≡ None → Closes b (head_token (xs ++ b ∷ []))
token-closes b [] e = pick (b == iac)
  where
    pick : (p : Bool) → Closes b (if p then None else Some (Byte b ∷ [], []))
    pick true = tt
    pick false = inl refl
token-closes b (x ∷ xs) e = pick (x == iac) e
  where
    pick : (p : Bool) → (if p then head_command xs else Some (Byte x ∷ [], xs)) ≡ None → Closes b (if p then head_command (xs ++ b ∷ []) else Some (Byte x ∷ [], xs ++ b ∷ []))
    pick true f = command-closes b xs f
    pick false f = never (Byte x ∷ [], xs) f

-- ---- so it completes at most one

read-empty : read head_token [] ≡ ([], [])
read-empty = read-unfinished head_token head_token-is [] refl

-- where the head leaves nothing
shut-one : (xs : List ℕ) (o : FoundToken) → head_token xs ≡ o → Shuts o → length (tokens xs) ≤ 1
shut-one xs None e s = omega (arith, ap (λ (r : List Token × List ℕ). length r.0) (read-unfinished head_token head_token-is xs e))
shut-one xs (Some found) e s =
    let whole : read head_token xs ≡ after found.0 (read head_token []) = read-whole head_token head_token-is xs found.1 found.0 e ∙ ap (λ (ys : List ℕ). after found.0 (read head_token ys)) s in
    let all : tokens xs ≡ found.0 = ap (λ (r : List Token × List ℕ). r.0) (whole ∙ ap (after found.0) read-empty) ∙ append-nil found.0 in
    omega (arith, ap length all, token-one xs, ap given_by e)

-- IAC and a byte
command-one-token : (b : ℕ) → length (tokens (iac ∷ b ∷ [])) ≤ 1
command-one-token b = shut-one (iac ∷ b ∷ []) (head_command (b ∷ [])) refl (command-shuts b)

closed-one : (b : ℕ) (xs : List ℕ) (o : FoundToken) → head_token xs ≡ o → Closes b o → length (tokens xs) ≤ 1
closed-one b xs None e s = shut-one xs None e tt
closed-one b xs (Some found) e (inl s) = shut-one xs (Some found) e s
closed-one b xs (Some found) e (inr s) =
    let whole : read head_token xs ≡ after [] (read head_token (iac ∷ b ∷ [])) = read-whole head_token head_token-is xs found.1 found.0 e ∙ (ap (λ (ys : List ℕ). after found.0 (read head_token ys)) s.1 ∙ ap (λ (ts : List Token). after ts (read head_token (iac ∷ b ∷ []))) s.0) in
    omega (arith, ap (λ (r : List Token × List ℕ). length r.0) whole, command-one-token b)

pub one-token : (before : List ℕ) (b : ℕ) → length (tokens (unfinished_token before ++ b ∷ [])) ≤ 1
one-token before b =
    let rest : List ℕ = unfinished_token before in
    closed-one b (rest ++ b ∷ []) (head_token (rest ++ b ∷ [])) refl (token-closes b rest (rest-unfinished head_token head_token-is before))
