-- Worked facts of what asks room in the list of acts.
use Rattle.std.proofs.Common.{◌≡◌, ℕ, ◌<◌, List, [], ◌∷◌, ◌++◌, length, length-append, refl, ap, sym, ◌∙◌, subst, arith, lit<, lit≤}
use Rattle.std.proofs.lemmas.List.{append_cancel_left}
use Rattle.std.proofs.lemmas.Str.{encode_ascii}
use Rattle.std.specs.Prelude.{Option, Some, None, codes, encode_utf8_all}
use Rattle.gate_model.specs.declared.act.Act.{Act}
use Rattle.gate_model.specs.declared.act.Act.TheVariants.{Nop}
use Rattle.gate_model.specs.text.ClientMeaning.{act_of}
use Rattle.gate_model.specs.text.Spelling.{Spells}
use Rattle.gate_model.proofs.Spelt.{prefix_free}
use Rattle.guac_framing.specs.Splits.{Splits}
use Rattle.guac_framing.proofs.Streams.{spelled_some}
use Rattle.script_grammar.specs.Acts.{AsksRoom, acts_from, acts_of}

abbrev nop : List (List ℕ)
nop = codes "nop" ∷ []

-- it has no meaning
abbrev other : List (List ℕ)
other = codes "x" ∷ []

letter : (c : ℕ) (cs : List ℕ) → c < 128 → encode_utf8_all cs ≡ cs → encode_utf8_all (c ∷ cs) ≡ c ∷ cs
letter c cs small rest = ap (λ (front : List ℕ). front ++ encode_utf8_all cs) (encode_ascii c small) ∙ ap (λ (l : List ℕ). c ∷ l) rest

nop_spelled : Spells (codes "3.nop;") nop
nop_spelled = record {
  spelled = (codes "3.nop", [], (codes "3", record { all = ((lit≤ tt, lit≤ tt), tt); some = lit≤ tt; short = lit≤ tt; value = refl }, refl, ap (λ (l : List ℕ). 51 ∷ 46 ∷ l) (sym (letter 110 (codes "op") (lit< tt) (letter 111 (codes "p") (lit< tt) (letter 112 [] (lit< tt) refl))))), refl, refl);
  count = lit≤ tt;
  size = lit≤ tt;
}

other_spelled : Spells (codes "1.x;") other
other_spelled = record {
  spelled = (codes "1.x", [], (codes "1", record { all = ((lit≤ tt, lit≤ tt), tt); some = lit≤ tt; short = lit≤ tt; value = refl }, refl, ap (λ (l : List ℕ). 49 ∷ 46 ∷ l) (sym (letter 120 [] (lit< tt) refl))), refl, refl);
  count = lit≤ tt;
  size = lit≤ tt;
}

-- an act asks room, whatever stands behind it
one_act : AsksRoom (codes "1.x;3.nop;3.n")
one_act = record {
  before = other ∷ [];
  last = nop;
  rest = codes "3.n";
  splits = (codes "1.x;", codes "3.nop;3.n", other_spelled, refl, (codes "3.nop;", codes "3.n", nop_spelled, refl, refl));
  few = lit≤ tt;
  act = Nop;
  act_is = refl;
}

-- ---- without an act no room is asked

nothing_spelled : {A : Type 0} → (text own after : List ℕ) (e : List (List ℕ)) → text ≡ [] → Spells own e → text ≡ own ++ after → A
nothing_spelled text own after e none spells is = absurd (omega (arith, spelled_some own e spells.spelled, ap length (sym none ∙ is), length-append own after))

right_none : (xs ys : List Act) → xs ++ ys ≡ [] → ys ≡ []
right_none [] ys none = none
right_none (x ∷ xs) ys none = absurd (let z : x ∷ xs ++ ys ≡ [] = none in cc)

act_there : {A : Type 0} → (o : Option Act) (act : Act) (ys : List Act) → acts_from o ++ ys ≡ [] → o ≡ Some act → A
act_there None act ys none is = absurd (let z : None ≡ Some act = is in cc)
act_there (Some own) act ys none is = absurd (let z : own ∷ ys ≡ [] = none in cc)

front_has_none : {A : Type 0} → (es before : List (List (List ℕ))) (text rest : List ℕ) (last : List (List ℕ)) (act : Act) → Splits text es [] → acts_of es ≡ [] → Splits text (before ++ last ∷ []) rest → act_of last ≡ Some act → A
front_has_none [] [] text rest last act s none t is = nothing_spelled text t.0 t.1 last s t.2 t.3
front_has_none [] (b ∷ before) text rest last act s none t is = nothing_spelled text t.0 t.1 b s t.2 t.3
front_has_none (e ∷ es) [] text rest last act s none t is =
    let same = prefix_free s.0 t.0 s.1 t.1 e last s.2 t.2 (sym s.3 ∙ t.3) in
    act_there (act_of e) act (acts_of es) none (ap act_of same.1 ∙ is)
front_has_none (e ∷ es) (b ∷ before) text rest last act s none t is =
    let both : s.0 ++ s.1 ≡ t.0 ++ t.1 = sym s.3 ∙ t.3 in
    let same = prefix_free s.0 t.0 s.1 t.1 e b s.2 t.2 both in
    let after : s.1 ≡ t.1 = append_cancel_left s.0 s.1 t.1 (both ∙ ap (λ (l : List ℕ). l ++ t.1) (sym same.0)) in
    front_has_none es before s.1 rest last act s.4 (right_none (acts_from (act_of e)) (acts_of es) none) (subst (λ (l : List ℕ). Splits l (before ++ last ∷ []) rest) (sym after) t.4) is

pub asks_none : (text : List ℕ) (es : List (List (List ℕ))) → Splits text es [] → acts_of es ≡ [] → AsksRoom text → ⊥
asks_none text es splits none asks = front_has_none es asks.before text asks.rest asks.last asks.act splits none asks.splits asks.act_is

no_act : AsksRoom (codes "1.x;") → ⊥
no_act = asks_none (codes "1.x;") (other ∷ []) (codes "1.x;", [], other_spelled, refl, refl) refl

nothing : AsksRoom [] → ⊥
nothing = asks_none [] [] refl refl
