-- A whole load: what was done is some first orders of all.
use Rattle.std.proofs.Common.{◌≡◌, ℕ, zero, suc, ◌+◌, ◌≤◌, List, [], ◌∷◌, ◌++◌, map, reverse, Bool, true, false, refl, ap, sym, ◌∙◌, subst, add-one, arith}
use Rattle.std.specs.Prelude.{Result, Ok, Err, nat_le}
use Rattle.std.proofs.lemmas.Bool.{leb-true, leb-false}
use Rattle.gate_model.specs.Sequences.{IsLater}
use Rattle.gate_model.specs.session.History.{History}
use Rattle.gate_model.specs.session.Output.{untaken}
use Rattle.script_grammar.specs.declared.line.Line.{Line}
use Rattle.script_grammar.specs.declared.line.Line.TheVariants.{Totals as tell_totals}
use Rattle.script_grammar.specs.declared.order.Order.{Order}
use Rattle.script_grammar.specs.declared.order.Order.TheVariants.{Told, Untold}
use Rattle.script_grammar.specs.declared.totals.Totals.{Totals}
use Rattle.script_load.specs.declared.rounds.Rounds.{Rounds}
use Rattle.script_load.specs.Draws.{stand_of}
use Rattle.script_load.specs.Words.{Words, drawn}
use Rattle.script_load.specs.Rounds.{load_begins, load_orders, round_lines, rounds_done, stand_after, takes_done, turn, untold}
use Rattle.gate_script.specs.declared.load.Load.{Load}
use Rattle.gate_script.specs.declared.stop.Stop.{Stop}
use Rattle.gate_script.specs.declared.stop.Stop.TheVariants.{NoMemory}
use Rattle.gate_script.specs.Plays.{AreTotals}
use Rattle.gate_script.specs.Sinks.{Sinks}
use Rattle.gate_script.specs.Running.{Told as all_told}
use Rattle.gate_script.specs.Loading.{LoadAt, LoadRunEnds, LoadStopped, LoadTaken, TotalsEnd, takes_behind}
use Rattle.gate_script.proofs.OneRun.{later_still}
use Rattle.gate_script.proofs.LoadLaws.{no_memory_behind, stopped_more, takes_are}

-- nothing was counted
none_counted : Totals
none_counted = record { feeds = 0; keys = 0; out = 0 }

module _ (word : Words) where
  one_later : (xs : List Order) (n : ℕ) → IsLater xs (rounds_done word n) → IsLater xs (rounds_done word (suc n))
  one_later xs n p = later_still xs (rounds_done word n) (rounds_done word (suc n)) p (map Untold (reverse (round_lines word (n + 1) (stand_after word n))), refl)

  rounds_later : (k rounds : ℕ) → k ≤ rounds → IsLater (rounds_done word k) (rounds_done word rounds)
  rounds_later k zero le =
      let e : k ≡ zero = omega (arith, le) in
      subst (λ (m : ℕ). IsLater (rounds_done word k) (rounds_done word m)) e ([], refl)
  rounds_later k (suc n) le = by (nat_le k n) refl (λ less. rounds_later k n less)
    where
      by : (b : Bool) → nat_le k n ≡ b → (k ≤ n → IsLater (rounds_done word k) (rounds_done word n)) → IsLater (rounds_done word k) (rounds_done word (suc n))
      by true e before = one_later (rounds_done word k) n (before (leb-true k n e))
      by false e before =
          let less = leb-false k n e in
          let same : k ≡ suc n = omega (arith, less, le) in
          subst (λ (m : ℕ). IsLater (rounds_done word k) (rounds_done word m)) same ([], refl)

  -- so many rounds are some first ones of all, and of the turn behind them
  pub turn_later : (k rounds : ℕ) → k ≤ rounds → IsLater (rounds_done word k) (takes_done word rounds 0)
  turn_later k rounds le =
      later_still (rounds_done word k) (rounds_done word rounds) (takes_done word rounds 0) (rounds_later k rounds le) (map Untold (reverse (turn (stand_after word rounds).others)), refl)

-- the lines that were drawn are those of the next round, and of the turn behind the last one
pub one_round : (seed k : ℕ) (r : Rounds) (lines : List Line) → r.seed ≡ seed → r.round ≡ k → lines ≡ round_lines (drawn r.seed) (r.round + 1) (stand_of r) → untold lines (rounds_done (drawn seed) k) ≡ rounds_done (drawn seed) (k + 1)
one_round seed k r lines is at e =
    ap (λ (ls : List Line). untold ls (rounds_done (drawn seed) k))
    (e ∙ (ap (λ (s : ℕ). round_lines (drawn s) (r.round + 1) (stand_after (drawn s) r.round)) is ∙ ap (λ (j : ℕ). round_lines (drawn seed) (j + 1) (stand_after (drawn seed) j)) at))
    ∙ sym (ap (rounds_done (drawn seed)) (add-one k))

pub one_turn : (seed rounds : ℕ) (r : Rounds) (lines : List Line) → r.seed ≡ seed → r.round ≡ rounds → lines ≡ turn (stand_of r).others → untold lines (rounds_done (drawn seed) rounds) ≡ takes_done (drawn seed) rounds 0
one_turn seed rounds r lines is at e =
    ap (λ (ls : List Line). untold ls (rounds_done (drawn seed) rounds))
    (e ∙ (ap (λ (s : ℕ). turn (stand_after (drawn s) r.round).others) is ∙ ap (λ (j : ℕ). turn (stand_after (drawn seed) j).others) at))

module _ (seed rounds : ℕ) (b n : Sinks) where
  -- it stopped in so many rounds
  pub stopped_in_rounds : (k : ℕ) → k ≤ rounds → (stop : Stop) → LoadStopped (rounds_done (drawn seed) k) stop b n → LoadStopped (takes_done (drawn seed) rounds 0) stop b n
  stopped_in_rounds k le stop s = stopped_more (rounds_done (drawn seed) k) (takes_done (drawn seed) rounds 0) stop b n (turn_later (drawn seed) k rounds le) s

  pub no_memory_in_rounds : (k : ℕ) → k ≤ rounds → (l : Load) → LoadAt (rounds_done (drawn seed) k) l b n → LoadStopped (takes_done (drawn seed) rounds 0) NoMemory b n
  no_memory_in_rounds k le l w = stopped_in_rounds k le NoMemory (no_memory_behind (rounds_done (drawn seed) k) l.run b n w.at)

  -- .. in some first orders
  stopped_in : (orders : List Order) (takes : ℕ) → IsLater orders (takes_done (drawn seed) rounds takes) → (stop : Stop) → LoadStopped orders stop b n → LoadRunEnds seed rounds (Err stop) b n
  stopped_in orders takes first stop s =
      (takes, none_counted, stopped_more orders (load_orders (drawn seed) rounds takes none_counted) stop b n (later_still orders (takes_done (drawn seed) rounds takes) (load_orders (drawn seed) rounds takes none_counted) first (Told (tell_totals none_counted) ∷ [], refl)) s)

  -- .. before the first round
  pub stopped_in_open : (stop : Stop) → LoadStopped load_begins stop b n → LoadRunEnds seed rounds (Err stop) b n
  stopped_in_open stop s = stopped_in load_begins 0 (turn_later (drawn seed) 0 rounds (omega arith)) stop s

  -- .. in the rounds and the turn behind them
  pub stopped_in_turn : (stop : Stop) → LoadStopped (takes_done (drawn seed) rounds 0) stop b n → LoadRunEnds seed rounds (Err stop) b n
  stopped_in_turn stop s = stopped_in (takes_done (drawn seed) rounds 0) 0 ([], refl) stop s

  -- .. in the takes behind that
  pub stopped_in_takes : (takes : ℕ) (stop : Stop) → LoadStopped (takes_behind (takes_done (drawn seed) rounds 0) takes) stop b n → LoadRunEnds seed rounds (Err stop) b n
  stopped_in_takes takes stop s =
      stopped_in (takes_done (drawn seed) rounds takes) takes ([], refl) stop (subst (λ (os : List Order). LoadStopped os stop b n) (takes_are (drawn seed) rounds takes) s)

  -- the totals were told, or it stopped in them
  pub told_last : (takes : ℕ) (l : Load) (m : Sinks) (t : LoadTaken (takes_behind (takes_done (drawn seed) rounds 0) takes) l b m) (r : Result (Unit {0}) Stop) → TotalsEnd (takes_behind (takes_done (drawn seed) rounds 0) takes) l.totals t.stands.at.play.history r b n → LoadRunEnds seed rounds r b n
  told_last takes l m t (Ok u) e =
      let all_are = ap (λ (os : List Order). Told (tell_totals l.totals) ∷ os) (takes_are (drawn seed) rounds takes) in
      record {
        takes = takes;
        totals = l.totals;
        done = record { play = e.done.play; told = subst (λ (os : List Order). all_told os e.done.play b n) all_are e.done.told; lawful = e.done.lawful };
        are_totals = subst (AreTotals l.totals) (sym e.same) t.stands.totals;
        all_taken = subst (λ (h : History). untaken h ≡ []) (sym e.same) t.all_taken;
      }
  told_last takes l m t (Err stop) e =
      (takes, l.totals, subst (λ (os : List Order). LoadStopped os stop b n) (ap (λ (os : List Order). Told (tell_totals l.totals) ∷ os) (takes_are (drawn seed) rounds takes)) e)
