-- What a whole load wrote fixes its play and its totals, however often it took.
use Rattle.std.proofs.Common.{◌≡◌, ℕ, zero, suc, List, [], ◌∷◌, ◌++◌, ◌⊎◌, inl, inr, length, take, refl, ap, sym, ◌∙◌, subst, append_assoc, append-nil}
use Rattle.gate_model.specs.declared.entry.Entry.{Entry}
use Rattle.gate_model.specs.session.Calls.{take_entry}
use Rattle.gate_model.specs.session.History.{History}
use Rattle.gate_model.specs.session.Output.{untaken}
use Rattle.script_grammar.specs.declared.line.Line.TheVariants.{Take as take_up_to, Totals as tell_totals}
use Rattle.script_grammar.specs.declared.order.Order.{Order}
use Rattle.script_grammar.specs.declared.order.Order.TheVariants.{Untold}
use Rattle.script_grammar.specs.declared.totals.Totals.{Totals}
use Rattle.script_load.specs.Words.{drawn}
use Rattle.script_load.specs.Rounds.{takes_done}
use Rattle.gate_script.specs.Laws.{LoadedIsOnePlay}
use Rattle.gate_script.specs.Loading.{takes_behind}
use Rattle.gate_script.specs.Outcomes.{Loaded}
use Rattle.gate_script.specs.Plays.{AreTotals, Does, Play, Plays}
use Rattle.gate_script.specs.Told.{framings}
use Rattle.gate_script.proofs.LoadLaws.{takes_are}
use Rattle.gate_script.proofs.OnePlay.{IsOne, behind, does_same, plays_same}
use Rattle.gate_script.proofs.StepLaws.{take_is}

-- ---- takes

-- where nothing waits, a take does nothing
took_nothing : (most : ℕ) (p q : Play) (a f : List ℕ) → Does (take_up_to most) p q a f → untaken p.history ≡ [] → (p ≡ q) × ([] ≡ f)
took_nothing most p q a f calls none =
    let is = take_is p.history most calls.result calls.added calls.step in
    let added : calls.added ≡ [] = is.adds ∙ (ap (λ (l : List ℕ). take_entry (length (take most l))) none ∙ no_entry most) in (
      sym (calls.after_it ∙ ap (λ (es : List Entry). record { now = p.now; history = es ++ p.history }) added),
      sym (calls.framed ∙ ap (framings p.history) added),
    )
  where
    no_entry : (n : ℕ) → take_entry (length {A = ℕ} (take n [])) ≡ []
    no_entry zero = refl
    no_entry (suc n) = refl

-- nor do more takes behind orders after which nothing waits
no_more_takes : (takes : ℕ) (orders : List Order) (p q : Play) (a b f g bytes others x y : List ℕ) → Plays orders p a f bytes → Plays (takes_behind orders takes) q b g others → f ++ x ≡ g ++ y → untaken p.history ≡ [] → IsOne p q a b f g
no_more_takes zero orders p q a b f g bytes others x y one other e none = plays_same orders p q a b f g bytes others x y one other e
no_more_takes (suc takes) orders p q a b f g bytes others x y one other e none =
    let own = other.5 in
    let alike : f ++ x ≡ other.2 ++ (own.own_f ++ y) = e ∙ (ap (λ (l : List ℕ). l ++ y) own.framed ∙ append_assoc other.2 own.own_f y) in
    let so_far = no_more_takes takes orders p other.0 a other.1 f other.2 bytes other.3 x (own.own_f ++ y) one other.4 alike none in
    let still = took_nothing 65536 other.0 q own.answer own.own_f own.does (subst (λ (k : Play). untaken k.history ≡ []) so_far.play none) in
    record {
      play = so_far.play ∙ still.0;
      answer = so_far.answer ∙ (sym (append-nil other.1) ∙ sym own.answered);
      framing = so_far.framing ∙ (sym (append-nil other.2) ∙ (ap (λ (l : List ℕ). other.2 ++ l) still.1 ∙ sym own.framed));
    }

-- takes behind a first one
first_take : (orders : List Order) (takes : ℕ) → Untold (take_up_to 65536) ∷ takes_behind orders takes ≡ takes_behind (Untold (take_up_to 65536) ∷ orders) takes
first_take orders zero = refl
first_take orders (suc takes) = ap (λ (l : List Order). Untold (take_up_to 65536) ∷ l) (first_take orders takes)

-- the second takes are the first and more
abbrev GoOn : List Order → ℕ → ℕ → Type 0
GoOn orders first second = (more : ℕ) × (takes_behind orders second ≡ takes_behind (takes_behind orders first) more)

one_goes_on : (orders : List Order) (first second : ℕ) → GoOn orders first second ⊎ GoOn orders second first
one_goes_on orders zero second = inl (second, refl)
one_goes_on orders (suc first) zero = inr (suc first, refl)
one_goes_on orders (suc first) (suc second) = by (one_goes_on orders first second)
  where
    one_more : (n m : ℕ) → GoOn orders n m → GoOn orders (suc n) (suc m)
    one_more n m w = (w.0, ap (λ (l : List Order). Untold (take_up_to 65536) ∷ l) w.1 ∙ first_take (takes_behind orders n) w.0)

    by : GoOn orders first second ⊎ GoOn orders second first → GoOn orders (suc first) (suc second) ⊎ GoOn orders (suc second) (suc first)
    by (inl w) = inl (one_more first second w)
    by (inr w) = inr (one_more second first w)

-- ---- whole loads

-- a history has one list of totals
totals_same : (t u : Totals) (h : History) → AreTotals t h → AreTotals u h → t ≡ u
totals_same t u h one other =
    ap (λ (n : ℕ). record { feeds = n; keys = t.keys; out = t.out }) (one.feeds ∙ sym other.feeds)
    ∙ (ap (λ (n : ℕ). record { feeds = u.feeds; keys = n; out = t.out }) (one.keys ∙ sym other.keys) ∙ ap (λ (n : ℕ). record { feeds = u.feeds; keys = u.keys; out = n }) (one.out ∙ sym other.out))

-- all orders before the takes
abbrev turned : ℕ → ℕ → List Order
turned seed rounds = takes_done (drawn seed) rounds 0

-- two loads, of which the second took no less often
goes_on : (seed rounds : ℕ) (a b f : List ℕ) (one : Loaded seed rounds a f) (other : Loaded seed rounds b f) → GoOn (turned seed rounds) one.takes other.takes → (one.play ≡ other.play) × (a ≡ b)
goes_on seed rounds a b f one other more =
    let w = one.tells.plays in
    let v = other.tells.plays in
    let orders : List Order = takes_behind (turned seed rounds) one.takes in
    let first : Plays orders w.0 w.1 w.2 w.3 = subst (λ (os : List Order). Plays os w.0 w.1 w.2 w.3) (sym (takes_are (drawn seed) rounds one.takes)) w.4 in
    let second : Plays (takes_behind orders more.0) v.0 v.1 v.2 v.3 = subst (λ (os : List Order). Plays os v.0 v.1 v.2 v.3) (sym (takes_are (drawn seed) rounds other.takes) ∙ more.1) v.4 in
    let alike : w.2 ++ w.5.own_f ≡ v.2 ++ v.5.own_f = sym w.5.framed ∙ v.5.framed in
    let none : untaken w.0.history ≡ [] = subst (λ (k : Play). untaken k.history ≡ []) w.5.does.2.same one.all_taken in
    let before = no_more_takes more.0 orders w.0 v.0 w.1 v.1 w.2 v.2 w.3 v.3 w.5.own_f v.5.own_f first second alike none in
    let play : one.play ≡ other.play = w.5.does.2.same ∙ (before.play ∙ sym v.5.does.2.same) in
    let totals = totals_same one.totals other.totals other.play.history (subst (λ (k : Play). AreTotals one.totals k.history) play one.are_totals) other.are_totals in
    let does : Does (tell_totals other.totals) v.0 one.play w.5.answer w.5.own_f =
    subst (λ (k : Play). Does (tell_totals other.totals) k one.play w.5.answer w.5.own_f) before.play (subst (λ (t : Totals). Does (tell_totals t) w.0 one.play w.5.answer w.5.own_f) totals w.5.does) in
    let own_f : w.5.own_f ++ [] ≡ v.5.own_f ++ [] = ap (λ (l : List ℕ). l ++ []) (behind w.2 v.2 w.5.own_f v.5.own_f alike before.framing) in
    let own = does_same v.0 one.play other.play w.5.answer v.5.answer w.5.own_f v.5.own_f [] [] (tell_totals other.totals) does v.5.does own_f in
    (play, w.5.answered ∙ (ap (λ (l : List ℕ). l ++ w.5.answer) before.answer ∙ (ap (λ (l : List ℕ). v.1 ++ l) own.answer ∙ sym v.5.answered)))

pub loaded_once : LoadedIsOnePlay
loaded_once seed rounds a b f one other = by (one_goes_on (turned seed rounds) one.takes other.takes)
  where
    by : GoOn (turned seed rounds) one.takes other.takes ⊎ GoOn (turned seed rounds) other.takes one.takes → (one.play ≡ other.play) × (a ≡ b)
    by (inl more) = goes_on seed rounds a b f one other more
    by (inr more) = let is = goes_on seed rounds b a f other one more in (sym is.0, sym is.1)
