-- What a pump gains, step by step.
use Rattle.std.proofs.Common.{◌≡◌, ℕ, ◌≤◌, ◌⊎◌, List, [], ◌∷◌, ◌++◌, length, Bool, true, false, refl, ap, sym, ◌∙◌, subst}
use Rattle.std.specs.Prelude.{Option, Some, None, Ok, Err}
use Rattle.std.specs.Option.{option_map}
use Rattle.gate_model.specs.declared.answer.Answer.TheVariants.{Feed as fed}
use Rattle.gate_model.specs.declared.cause.Cause.{Cause}
use Rattle.gate_model.specs.declared.cause.Cause.TheVariants as cause
use Rattle.gate_model.specs.declared.entry.Entry.{Entry}
use Rattle.gate_model.specs.declared.entry.Entry.TheVariants.{Feed}
use Rattle.gate_model.specs.declared.event.Event.TheVariants.{Feed as feed}
use Rattle.gate_model.specs.declared.feed_refusal.FeedRefusal.{FeedRefusal}
use Rattle.gate_model.specs.declared.feed_refusal.FeedRefusal.TheVariants.{Closed as feed_closed, Worn as feed_worn, NoMemory as feed_no_memory}
use Rattle.gate_model.specs.session.Calls.{IsPiece, stop_of}
use Rattle.gate_model.specs.session.History.{History, is_full}
use Rattle.gate_model.specs.session.Refusals.{close_cause, first_of, only_if}
use Rattle.gate_model.proofs.Causes.{open_without_cause}
use Rattle.desk_core.specs.Calls.{feed_answer}
use Rattle.turn_lock.proofs.Elements.{later_refl, later_trans}
use Rattle.turn_lock.specs.declared.view.View.{View}
use Rattle.shared_desk.specs.Called.{Called}
use Rattle.shared_desk.proofs.Lasting.{FeedCause, closes_seen, feed_adds, feed_refused, full_stays, some_seen, stopped_alone, turn_later, turn_legal}
use Rattle.session_link.specs.Closings.{HasClosed, HasEnded}
use Rattle.session_link.specs.Pumps.{HasPumped, HasStopped, IsFed, IsStopped, MayEnd, TakesFeeds, MayLose, PumpCause, PumpRun, StopCause}
use Rattle.session_link.specs.declared.ends.PumpEnd.{PumpEnd}
use Rattle.session_link.specs.declared.ends.PumpEnd.TheVariants.{LinkEnded, ReadFault, Closed, Worn, NoMemory}

-- ---- one piece

-- where nothing stops a feed, its session is open and not full
no_stop : (o : Option Cause) (full : Bool) (n : ℕ) → option_map (λ (x : FeedRefusal). fed (Err x)) (first_of (option_map feed_closed o ∷ only_if full (feed_worn n) ∷ [])) ≡ None → (o ≡ None) × (full ≡ false)
no_stop None false n e = (refl, refl)
no_stop None true n e = absurd (let z : Some (fed (Err (feed_worn n))) ≡ None = e in cc)
no_stop (Some c) full n e = absurd (let z : Some (fed (Err (feed_closed c))) ≡ None = e in cc)

takes_feeds : (g : History) (piece : List ℕ) (now : ℕ) → stop_of g (feed piece now) ≡ None → TakesFeeds g
takes_feeds g piece now e = let k = no_stop (close_cause g) (is_full g) (length g) e in (open_without_cause g k.0, k.1)

pub fed_piece : (v w : View Entry) (piece : List ℕ) (now stamp : ℕ) → Called v (feed piece now) (feed_answer (Ok stamp)) w → IsFed v w piece
fed_piece v w piece now stamp t =
    let k = feed_adds v w piece now stamp t in record { later = turn_later v w _ t; stamp = k.0; frame = k.1; own = k.2 }

module _ (v w : View Entry) (piece : List ℕ) (now : ℕ) (r : FeedRefusal) (is : IsPiece piece) (t : Called v (feed piece now) (feed_answer (Err r)) w) where
  pub refused_closed : (c : Cause) → r ≡ feed_closed c → IsStopped v w piece (Closed c)
  refused_closed c e =
      let k = feed_refused v w piece now r t in record { later = turn_later v w _ t; own = k.0; loses = is.few; cause = closes_seen w.seen c (subst (λ (x : FeedRefusal). FeedCause x w.seen) e k.1) }

  pub refused_worn : (n : ℕ) → r ≡ feed_worn n → IsStopped v w piece Worn
  refused_worn n e =
      let k = feed_refused v w piece now r t in record { later = turn_later v w _ t; own = k.0; loses = is.few; cause = (subst (λ (x : FeedRefusal). FeedCause x w.seen) e k.1, turn_legal v w _ t) }

  pub refused_memory : r ≡ feed_no_memory → IsStopped v w piece NoMemory
  refused_memory e =
      let k = feed_refused v w piece now r t in
      let none = stopped_alone v w (feed piece now) _ [] [] (subst (λ (x : FeedRefusal). Called v (feed piece now) (feed_answer (Err x)) w) e t) in
      record { later = turn_later v w _ t; own = k.0; loses = is.few; cause = takes_feeds w.seen piece now none }

-- nothing came
pub none_came : (v : View Entry) (end : PumpEnd) → MayLose end [] → StopCause end v.seen → IsStopped v v [] end
none_came v end loses why = record { later = later_refl v.seen; own = refl; loses = loses; cause = why }

-- ---- piece after piece

pub pumped_none : (v : View Entry) → HasPumped v v []
pumped_none v = record { later = later_refl v.seen; feeds = []; fed = tt; own = refl; joined = refl }

pub pumped_more : (v u w : View Entry) (read piece : List ℕ) → HasPumped v u read → IsFed u w piece → HasPumped v w (read ++ piece)
pumped_more v u w read piece p k = record {
  later = later_trans v.seen u.seen w.seen p.later k.later;
  feeds = Feed piece k.stamp k.frame ∷ p.feeds;
  fed = p.fed;
  own = k.own ∙ ap (λ (es : List Entry). Feed piece k.stamp k.frame ∷ es) p.own;
  joined = ap (λ (bs : List ℕ). bs ++ piece) p.joined;
}

pub pumped_stop : (v u w : View Entry) (read lost : List ℕ) (end : PumpEnd) → HasPumped v u read → IsStopped u w lost end → HasStopped v w (read ++ lost) end
pumped_stop v u w read lost end p k = record {
  later = later_trans v.seen u.seen w.seen p.later k.later;
  feeds = p.feeds;
  fed = p.fed;
  own = k.own ∙ p.own;
  lost = lost;
  joined = ap (λ (bs : List ℕ). bs ++ lost) p.joined;
  loses = k.loses;
  cause = k.cause;
}

-- ---- the end

ran_closed : (v u w : View Entry) (read : List ℕ) (end : PumpEnd) (c : Cause) → HasStopped v u read end → (k : HasClosed c u w) → MayEnd end k.closes → PumpCause end w.seen → PumpRun v w read end
ran_closed v u w read end c s k last why = record {
  later = later_trans v.seen u.seen w.seen s.later k.later;
  feeds = s.feeds;
  closes = k.closes;
  fed = s.fed;
  last = last;
  own = k.own ∙ ap (λ (es : List Entry). k.closes ++ es) s.own;
  lost = s.lost;
  joined = s.joined;
  loses = s.loses;
  cause = why;
}

ran_open : (v u w : View Entry) (read : List ℕ) (end : PumpEnd) → HasStopped v u read end → w ≡ u → MayEnd end [] → PumpCause end u.seen → PumpRun v w read end
ran_open v u w read end s is last why = subst (λ (z : View Entry). PumpRun v z read end) (sym is) record {
  later = s.later;
  feeds = s.feeds;
  closes = [];
  fed = s.fed;
  last = last;
  own = s.own;
  lost = s.lost;
  joined = s.joined;
  loses = s.loses;
  cause = why;
}

pub pump_ran : (v u w : View Entry) (read : List ℕ) (end : PumpEnd) → HasStopped v u read end → HasEnded end u w → PumpRun v w read end
pump_ran v u w read LinkEnded s k = ran_closed v u w read LinkEnded cause.ServerEnd s k k.few k.closed
pump_ran v u w read ReadFault s k = ran_closed v u w read ReadFault cause.LinkFault s k k.few k.closed
pump_ran v u w read Worn s k = ran_closed v u w read Worn cause.Worn s k k.few (full_stays u.seen w.seen k.later (some_seen u.seen s.cause.1) k.legal s.cause.0, k.closed)
pump_ran v u w read (Closed c) s is = ran_open v u w read (Closed c) s is refl s.cause
pump_ran v u w read NoMemory s is = ran_open v u w read NoMemory s is refl s.cause
