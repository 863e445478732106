-- Why a door refuses, by the sessions that it tells.
use Rattle.std.proofs.Common.{◌≡◌, ℕ, List, [], Option, Some, None, refl, ap, sym, ◌∙◌, subst}
use Rattle.std.specs.Prelude.{Err, IfSome, IsSome, is_some}
use Rattle.gate_model.specs.session.History.{History}
use Rattle.gate_outside.specs.Helpers.{HelperView}
use Rattle.id_table.specs.Draws.{nth_id}
use Rattle.id_table.specs.Maps.{Same, Told}
use Rattle.guac_handshake.specs.declared.greeted.Greeted.{Greeted}
use Rattle.guac_handshake.specs.declared.greeted.Greeted.TheVariants as greeted
use Rattle.guac_handshake.specs.declared.refused.Refused.{Refused}
use Rattle.guac_handshake.specs.declared.request.Request.{Request}
use Rattle.guac_handshake.specs.declared.request.Request.TheVariants.{Begin, Join}
use Rattle.guac_handshake.specs.declared.welcome.Welcome.{Welcome}
use Rattle.guac_handshake.specs.Asks.{Wants, Wish}
use Rattle.guac_handshake.specs.Doors.{AddedOne, AreTaken, HasConflict, IsAbsent, Sessions, at_name}
use Rattle.guac_handshake.proofs.Causes.{rose_from}
use Rattle.guac_handshake.specs.Views.{DoorView, Looks, MayRefuse, Names}
use Rattle.guac_handshake.specs.Greetings.{EarlyReply, IsReplyTo, IsServed, NoReply, ReadyReply, RefusalReply}

-- a look changed no session: an ID that was there is there
conflict_before : (o p : Option Sessions) → Told o p Same → HasConflict p → HasConflict o
conflict_before None p t h = tt
conflict_before (Some m) None t h = absurd t
conflict_before (Some m) (Some n) t h = (h.0, subst (λ (x : Option (Option History)). IsSome x) (t h.0) h.1)

taken_before : (o p : Option Sessions) (d : Option (ℕ → List ℕ)) → Told o p Same → AreTaken p d → AreTaken o d
taken_before None p d t h = tt
taken_before (Some m) None d t h = absurd t
taken_before (Some m) (Some n) None t h = tt
taken_before (Some m) (Some n) (Some draws) t h = λ k below. subst (λ (x : Option (Option History)). IsSome x) (t (nth_id draws k)) (h k below)

at_same : (id : Option (List ℕ)) (m n : Sessions) → Same m n → at_name id m ≡ at_name id n
at_same None m n same = refl
at_same (Some id) m n same = sym (same id)

absent_before : (id : Option (List ℕ)) (r : Refused) (o p : Option Sessions) → Told o p Same → IfSome p (λ m. IsAbsent {A = Unit {0}} (Err r) (is_some (at_name id m))) → IfSome o (λ m. IsAbsent {A = Unit {0}} (Err r) (is_some (at_name id m)))
absent_before id r None p t h = tt
absent_before id r (Some m) None t h = absurd t
absent_before id r (Some m) (Some n) t h = subst (λ (x : Option (Option History)). IsAbsent {A = Unit {0}} (Err r) (is_some x)) (sym (at_same id m n t)) h

-- a session that was added after it
added_before : (name : Option (List ℕ)) (o p q : Option Sessions) → Told o p Same → Told p q (AddedOne name) → Told o q (AddedOne name)
added_before name None None None t u = tt
added_before name None None (Some l) t u = absurd u
added_before name None (Some n) q t u = absurd t
added_before name (Some m) None q t u = absurd t
added_before name (Some m) (Some n) None t u = absurd u
added_before name (Some m) (Some n) (Some l) t u = (u.0, u.1, sym (t u.0) ∙ u.2, u.3, λ id ne. u.4 id ne ∙ t id)

-- what a door refuses, and what it may name, after a look, by what it told before
module _ (id_of : List ℕ → Option (List ℕ)) (before mid after : DoorView) (looks : Looks before mid) where
  pub may_before : (request : Request) (refusal : Refused) → MayRefuse id_of mid after request refusal → MayRefuse id_of before after request refusal
  may_before (Begin ask) refusal h = record {
    kind = h.kind;
    dial = λ is. rose_from _ _ _ (ap (λ (w : HelperView). w.dial_faults) looks.helper) (h.dial is);
    busy = λ is. rose_from _ _ _ (ap (λ (w : HelperView). w.start_faults) looks.helper) (h.busy is);
    conflict = λ is.
        let c = h.conflict is in (
          conflict_before before.sessions mid.sessions looks.sessions c.0,
          taken_before before.sessions mid.sessions before.helper.draws looks.sessions (subst (λ (x : Option (ℕ → List ℕ)). AreTaken mid.sessions x) (ap (λ (w : HelperView). w.draws) looks.helper) c.1),
        );
  }
  may_before (Join id role) refusal h = (h.0, absent_before (id_of id) refusal before.sessions mid.sessions looks.sessions h.1, h.2)

  pub names_before : (request : Request) (id : List ℕ) → Names id_of mid after request id → Names id_of before after request id
  names_before (Begin ask) id h = added_before (id_of id) before.sessions mid.sessions after.sessions looks.sessions h
  names_before (Join name role) id h = h

reply_as : (M N : Request → Refused → Type 0) (A B : Request → List ℕ → Type 0) (wish : Wish) (rest text : List ℕ) → ((q : Request) (r : Refused) → M q r → N q r) → ((q : Request) (id : List ℕ) → A q id → B q id) → IsReplyTo M A wish rest text → IsReplyTo N B wish rest text
reply_as M N A B wish rest text f n (NoReply waits e) = NoReply waits e
reply_as M N A B wish rest text f n (EarlyReply status early e) = EarlyReply status early e
reply_as M N A B wish rest text f n (RefusalReply q r is may e) = RefusalReply q r is (f q r may) e
reply_as M N A B wish rest text f n (ReadyReply q id is named e) = ReadyReply q id is (n q id named) e

module _ {P : Type 0} (M N : Request → Refused → Type 0) (A B : Request → List ℕ → Type 0) (G : Request → Welcome P → Type 0) (request : Request) (w v : Option (List ℕ)) (a b : Option (List Request)) where
  pub served_as : (result : Greeted P) → ((q : Request) (r : Refused) → M q r → N q r) → ((q : Request) (id : List ℕ) → A q id → B q id) → IsServed M A G request w v a b result → IsServed N B G request w v a b result
  served_as (greeted.Ready welcome) f n s = (s.0, s.1, n request welcome.id s.2, s.3)
  served_as (greeted.Refused status) f n s = (s.0, f request s.0 s.1, s.2, s.3, s.4)
  served_as greeted.Ended f n s = s
  served_as greeted.ReadFault f n s = s
  served_as greeted.WriteFault f n s = (s.0, reply_as M N A B (Wants request) [] s.0 f n s.1, s.2, s.3)
  served_as greeted.NoMemory f n s = (s.0, reply_as M N A B (Wants request) [] s.0 f n s.1, s.2, s.3)
