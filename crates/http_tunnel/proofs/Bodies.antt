-- How a body is read, instruction by instruction.
use Rattle.std.proofs.Common.{◌≡◌, ℕ, ◌+◌, ◌≤◌, List, [], ◌∷◌, ◌++◌, length, Bool, true, false, Option, Some, None, refl, ap, sym, ◌∙◌, subst, take, drop, append_assoc, length-append, true≢false, arith}
use Rattle.std.specs.Prelude.{Ok, Err, ◌==◌, fold, map, encode_utf8_all, if◌then◌else◌}
use Rattle.std.proofs.lemmas.Bool.{eq-eqb, eqb-true}
use Rattle.std.proofs.lemmas.List.{take-append-drop}
use Rattle.gate_model.specs.Limits.{most_acts}
use Rattle.gate_model.specs.declared.act.Act.{Act}
use Rattle.gate_model.specs.text.ClientMeaning.{act_of}
use Rattle.gate_model.specs.text.Spelling.{Spells}
use Rattle.gate_model.proofs.Spelt.{prefix_free}
use Rattle.guac_framing.specs.Answers.{IsWhole}
use Rattle.guac_framing.specs.Found.{HasNoInstruction, IsBadPlace}
use Rattle.guac_handshake.specs.Splits.{IsInstruction, Splits}
use Rattle.guac_handshake.proofs.Behind.{splits_more}
use Rattle.http_tunnel.specs.Bodies.{HasRead, IsNoBody, IsPutBehind, TakesNext, Wish, is_disconnect, no_wish, wish_more, wish_of, with_act, with_instruction}
use Rattle.http_tunnel.specs.declared.acts.BodyFault.{BodyFault}
use Rattle.http_tunnel.specs.declared.acts.BodyFault.TheVariants.{Form, NoMemory}

-- ---- texts

no_length : {A : Type 0} (xs : List A) → length xs ≡ 0 → xs ≡ []
no_length {A} [] e = refl
no_length {A} (x ∷ xs) e = absurd (omega (arith, e))

pub empty : {A : Type 0} (xs : List A) (b : Bool) → b ≡ true → b ≡ (length xs == 0) → xs ≡ []
empty {A} xs b t e = no_length xs (eqb-true (length xs) 0 (sym e ∙ t))

pub not_empty : {A : Type 0} (xs : List A) (b : Bool) → b ≡ false → b ≡ (length xs == 0) → xs ≡ [] → ⊥
not_empty {A} xs b f e none = true≢false (sym (eq-eqb (length xs) 0 (ap length none)) ∙ (sym e ∙ f))

cancel : (a x y : List ℕ) → a ++ x ≡ a ++ y → x ≡ y
cancel [] x y e = e
cancel (c ∷ a) x y e = cancel a x y (let t : a ++ x ≡ a ++ y = cc in t)

front_is : (a x : List ℕ) → take (length a) (a ++ x) ≡ a
front_is [] x = refl
front_is (c ∷ a) x = ap (λ (bs : List ℕ). c ∷ bs) (front_is a x)

same_instruction : (a b x y : List ℕ) (u v : List (List ℕ)) → IsInstruction a u → IsInstruction b v → a ++ x ≡ b ++ y → (u ≡ v) × (x ≡ y)
same_instruction a b x y u v i j e =
    let p = prefix_free a b x y i.0 j.0 i.1 j.1 e in
    (i.2 ∙ (ap (λ (es : List (List ℕ)). map encode_utf8_all es) p.1 ∙ sym j.2), cancel a x y (e ∙ ap (λ (bs : List ℕ). bs ++ y) (sym p.0)))

-- the instructions behind one that is known
behind : (rest own after : List ℕ) (values : List (List ℕ)) → IsInstruction own values → rest ≡ own ++ after → (rest ≡ [] → ⊥) → (others : List (List (List ℕ))) → Splits rest others []
    → (more : List (List (List ℕ))) × (others ≡ values ∷ more) × Splits after more []
behind rest own after values i is some [] s = absurd (some s)
behind rest own after values i is some (v ∷ more) s =
    let same = same_instruction own s.0 after s.1 values v i s.2 (sym is ∙ s.3) in
    (more, ap (λ (x : List (List ℕ)). x ∷ more) (sym same.0), subst (λ (bs : List ℕ). Splits bs more []) (sym same.1) s.4)

-- ---- the acts

fold_last : (w : Wish) (is : List (List (List ℕ))) (v : List (List ℕ)) → fold with_instruction w (is ++ v ∷ []) ≡ with_instruction (fold with_instruction w is) v
fold_last w [] v = refl
fold_last w (x ∷ is) v = fold_last (with_instruction w x) is v

act_few : (b : Bool) (wish : Wish) (act : Act) (n : ℕ) → length wish.acts ≤ n → length (Wish.acts (if b then record { acts = wish.acts; ends = true } else record { acts = wish.acts ++ act ∷ []; ends = wish.ends })) ≤ n + 1
act_few true wish act n few = omega (arith, few)
act_few false wish act n few = omega (arith, few, length-append wish.acts (act ∷ []))

wish_few : (b : Bool) (wish : Wish) (o : Option Act) (n : ℕ) → length wish.acts ≤ n → length (Wish.acts (if b then wish else wish_more wish o)) ≤ n + 1
wish_few true wish o n few = omega (arith, few)
wish_few false wish None n few = omega (arith, few)
wish_few false wish (Some act) n few = act_few (is_disconnect act) wish act n few

-- ---- so far

pub record SoFar (body rest : List ℕ) (wish : Wish) (n : ℕ) : Type 0 where
  pub heard : List (List (List ℕ))
  pub splits : Splits body heard rest
  pub only : (is : List (List (List ℕ))) → Splits body is [] → (others : List (List (List ℕ))) × (is ≡ heard ++ others) × Splits rest others []
  pub wish_is : wish ≡ wish_of heard
  pub count : length heard ≡ n
  pub few : length wish.acts ≤ n

far_none : (body : List ℕ) → SoFar body body no_wish 0
far_none body = record { heard = []; splits = refl; only = λ is s. (is, refl, s); wish_is = refl; count = refl; few = omega arith }

pub far_begin : (body : List ℕ) (acts : List Act) → acts ≡ [] → SoFar body body record { acts = acts; ends = false } 0
far_begin body acts none = subst (λ (xs : List Act). SoFar body body record { acts = xs; ends = false } 0) (sym none) (far_none body)

module _ (body rest : List ℕ) (wish : Wish) (n : ℕ) (s : SoFar body rest wish n) where
  pub far_on : (values : List (List ℕ)) (k : ℕ) → IsWhole rest values k → (rest ≡ [] → ⊥) → (now : Wish) → now ≡ with_act wish (act_of values) → SoFar body (drop k rest) now (n + 1)
  far_on values k whole some now is =
      let own = take k rest in
      let after = drop k rest in
      let i : IsInstruction own values = (whole.elements, whole.spelled, whole.texts) in
      let split : rest ≡ own ++ after = sym (take-append-drop k rest) in record {
        heard = s.heard ++ values ∷ [];
        splits = splits_more s.heard body rest own after values s.splits i split;
        only = λ other t. (let o = s.only other t in let b = behind rest own after values i split some o.0 o.2 in (b.0, o.1 ∙ (ap (λ (es : List (List (List ℕ))). s.heard ++ es) b.1 ∙ sym (append_assoc s.heard (values ∷ []) b.0)), b.2));
        wish_is = is ∙ (ap (λ (w : Wish). with_instruction w values) s.wish_is ∙ sym (fold_last no_wish s.heard values));
        count = omega (arith, length-append s.heard (values ∷ []), s.count);
        few = subst (λ (w : Wish). length w.acts ≤ n + 1) (sym is) (wish_few wish.ends wish (act_of values) n s.few);
      }

  -- all of it was read
  pub body_read : n ≤ most_acts → rest ≡ [] → HasRead body (Ok wish)
  body_read few none = (s.heard, record { splits = subst (λ (bs : List ℕ). Splits body s.heard bs) none s.splits; few = omega (arith, few, s.count) }, s.wish_is, omega (arith, few, s.few))

  -- no instruction comes next
  pub none_next : HasNoInstruction rest → (rest ≡ [] → ⊥) → IsNoBody body
  none_next none some is b = let o = s.only is b.splits in by o.0 o.2
    where
      by : (others : List (List (List ℕ))) → Splits rest others [] → ⊥
      by [] t = some t
      by (v ∷ more) t = none (length t.0) t.2.0 (subst (λ (bs : List ℕ). Spells bs t.2.0) (sym (ap (take (length t.0)) t.3 ∙ front_is t.0 t.1)) t.2.1)

  -- there are too many
  pub too_many : most_acts + 1 ≤ n → IsNoBody body
  too_many many is b = let o = s.only is b.splits in omega (arith, many, b.few, s.count, ap length o.1, length-append s.heard o.0)

  -- .. by what one step came to
  pub far_next : (now : Wish) (k : ℕ) (after : List ℕ) → (rest ≡ [] → ⊥) → TakesNext wish now rest (Ok k) → after ≡ drop k rest → SoFar body after now (n + 1)
  far_next now k after some t is = subst (λ (bs : List ℕ). SoFar body bs now (n + 1)) (sym is) (far_on t.0 k t.1 some now t.2)

  pub far_stop : (now : Wish) (fault : BodyFault) → n ≤ most_acts → (rest ≡ [] → ⊥) → TakesNext wish now rest (Err fault) → HasRead body (Err fault)
  far_stop now Form few some t = none_next t some
  far_stop now NoMemory few some t =
      let own = take t.1 rest in
      let after = drop t.1 rest in
      let i : IsInstruction own t.0 = (t.2.elements, t.2.spelled, t.2.texts) in record {
        instructions = s.heard;
        values = t.0;
        rest = after;
        splits = splits_more s.heard body rest own after t.0 s.splits i (sym (take-append-drop t.1 rest));
        few = omega (arith, few, s.count);
        put = subst (λ (w : Wish). IsPutBehind w (act_of t.0)) s.wish_is t.3;
      }

pub bad_none : (rest : List ℕ) (place : ℕ) → IsBadPlace rest place → HasNoInstruction rest
bad_none rest place bad = subst HasNoInstruction (take-append-drop (place + 1) rest) (bad.through (drop (place + 1) rest))
