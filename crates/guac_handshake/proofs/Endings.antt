-- How a greeting ends.
use Rattle.std.proofs.Common.{◌≡◌, ℕ, ◌+◌, List, [], ◌++◌, length, take, Option, Ok, Err, refl, ap, sym, ◌∙◌, subst, append-nil, length-append, arith}
use Rattle.std.specs.Prelude.{Result}
use Rattle.std.proofs.Math.Seq.{take-append-add}
use Rattle.gate_outside.specs.Edge.{GainedFront, gained}
use Rattle.gate_outside.proofs.Moved.{gained-gained}
use Rattle.id_table.specs.Maps.{Same, Told}
use Rattle.guac_handshake.specs.declared.greeted.Greeted.{Greeted}
use Rattle.guac_handshake.specs.declared.greeted.Greeted.TheVariants as greeted
use Rattle.guac_handshake.specs.declared.refused.Refused.{Refused}
use Rattle.guac_handshake.specs.declared.refused.Refused.TheVariants as refused
use Rattle.guac_handshake.specs.declared.request.Request.{Request}
use Rattle.guac_handshake.specs.declared.stop.Stop.{Stop}
use Rattle.guac_handshake.specs.declared.stop.Stop.TheVariants as stop
use Rattle.guac_handshake.specs.declared.welcome.Welcome.{Welcome}
use Rattle.guac_handshake.specs.Asks.{Wish, Refuses, Unfinished, Wants, asks, selected}
use Rattle.guac_handshake.specs.Doors.{asked_more, logged_for}
use Rattle.guac_handshake.specs.Greetings.{AskedAsWished, AskedAtMost, AskedOnce, Broken, ByDoor, ByForm, EarlyReply, Ends, HasAsked, IsGreeting, IsReplyTo, IsServed, IsToldError, IsToldReady, NoReply, NotAsked, OnReady, OutOfForm, ReadyReply, RefusalReply, RefusedEarly, Unasked, UnlessWanted, Wished}
use Rattle.guac_handshake.specs.Views.{DoorView, MayRefuse, Names}
use Rattle.guac_handshake.specs.Statuses.{status_of}
use Rattle.guac_handshake.specs.Splits.{Splits}
use Rattle.guac_handshake.specs.Texts.{args_for, error_text, ready_text}

at_most : (before now : Option (List Request)) (request : Request) (r : Refused) → now ≡ logged_for before request r → AskedAtMost before now request
at_most before now request refused.NoMemory e = NotAsked e
at_most before now request refused.Absent e = AskedOnce e
at_most before now request refused.Conflict e = AskedOnce e
at_most before now request refused.Dial e = AskedOnce e
at_most before now request refused.Busy e = AskedOnce e
at_most before now request refused.Closed e = AskedOnce e
at_most before now request refused.Forbidden e = AskedOnce e
at_most before now request refused.TooMany e = AskedOnce e
at_most before now request refused.Worn e = AskedOnce e

-- the door let the viewer in, and is as it was then where the client was told of it
pub serve_ok : {P D : Type 0} (May : Request → Refused → Type 0) (Named : Request → List ℕ → Type 0) (Gives : D → Request → Welcome P → Type 0) (d now : D) (request : Request) (w v : Option (List ℕ)) (a b : Option (List Request)) (welcome : Welcome P) (result : Greeted P)
    → b ≡ asked_more a request → Named request welcome.id → Gives d request welcome → OnReady result (now ≡ d) → IsToldReady welcome w v result → IsServed May Named (Gives now) request w v a b result
serve_ok {P = P} {D = D} May Named Gives d now request w v a b welcome (greeted.Ready other) e named given same t =
    (t.1, e, subst (λ (x : Welcome P). Named request x.id) (sym t.0) named, subst (λ (x : D). Gives x request other) (sym same) (subst (λ (x : Welcome P). Gives d request x) (sym t.0) given))
serve_ok May Named Gives d now request w v a b welcome (greeted.Refused status) e named given same t = absurd t
serve_ok May Named Gives d now request w v a b welcome greeted.Ended e named given same t = absurd t
serve_ok May Named Gives d now request w v a b welcome greeted.ReadFault e named given same t = absurd t
serve_ok May Named Gives d now request w v a b welcome greeted.WriteFault e named given same t = (ready_text welcome.id, ReadyReply request welcome.id refl named refl, t, AskedOnce e)
serve_ok May Named Gives d now request w v a b welcome greeted.NoMemory e named given same t = (ready_text welcome.id, ReadyReply request welcome.id refl named refl, t, AskedOnce e)

-- the door refused
pub serve_err : {P : Type 0} (May : Request → Refused → Type 0) (Named : Request → List ℕ → Type 0) (Gives : Request → Welcome P → Type 0) (request : Request) (w v : Option (List ℕ)) (a b : Option (List Request)) (r : Refused) (status : ℕ) (result : Greeted P) → May request r → status ≡ status_of r → b ≡ logged_for a request r → IsToldError status w v result → IsServed May Named Gives request w v a b result
serve_err May Named Gives request w v a b r status (greeted.Ready other) may is e t = absurd t
serve_err May Named Gives request w v a b r status (greeted.Refused told) may is e t = (r, may, t.0 ∙ is, t.1, e)
serve_err May Named Gives request w v a b r status greeted.Ended may is e t = absurd t
serve_err May Named Gives request w v a b r status greeted.ReadFault may is e t = absurd t
serve_err May Named Gives request w v a b r status greeted.WriteFault may is e t = (error_text status, RefusalReply request r refl may (ap error_text is), t, at_most a b request r e)
serve_err May Named Gives request w v a b r status greeted.NoMemory may is e t = (error_text status, RefusalReply request r refl may (ap error_text is), t, at_most a b request r e)

-- a text after the parameters
gained_on : (w m v : Option (List ℕ)) (args text : List ℕ) → m ≡ gained w args → v ≡ gained m text → v ≡ gained w (args ++ text)
gained_on w m v args text e f = f ∙ ap (λ (o : Option (List ℕ)). gained o text) e ∙ gained-gained w args text

front_on : (w m v : Option (List ℕ)) (args text : List ℕ) → m ≡ gained w args → GainedFront m v text → GainedFront w v (args ++ text)
front_on w m v args text e f =
    (length args + f.0, omega (arith, f.1, length-append args text), gained_on w m v args (take f.0 text) e f.2 ∙ ap (gained w) (sym (take-append-add args text f.0)))

wished : (wish : Wish) (a b : Option (List Request)) (request : Request) → wish ≡ Wants request → AskedAtMost a b request → AskedAsWished wish a b
wished wish a b request is (NotAsked e) = Unasked e
wished wish a b request is (AskedOnce e) = Wished request is e

wants_open : (request : Request) → Wants request ≡ Unfinished → ⊥
wants_open request e = cc

wants_early : (request : Request) (rest : List ℕ) (status : ℕ) → RefusedEarly (Wants request) rest status → ⊥
wants_early request rest status (OutOfForm e) = let same : Wants request ≡ Refuses status = e in cc
wants_early request rest status (Broken e is at) = wants_open request e

-- the reply to a request is that to the wish
reply_to : (May : Request → Refused → Type 0) (Named : Request → List ℕ → Type 0) (wish : Wish) (rest text : List ℕ) (request : Request) → wish ≡ Wants request → IsReplyTo May Named (Wants request) [] text → IsReplyTo May Named wish rest text
reply_to May Named wish rest text request is (NoReply waits e) = absurd (wants_open request waits)
reply_to May Named wish rest text request is (EarlyReply status early e) = absurd (wants_early request [] status early)
reply_to May Named wish rest text request is (RefusalReply q r same may e) = RefusalReply q r (is ∙ same) may e
reply_to May Named wish rest text request is (ReadyReply q id same named e) = ReadyReply q id (is ∙ same) named e

ends_served : {P : Type 0} (May : Request → Refused → Type 0) (Named : Request → List ℕ → Type 0) (Gives : Request → Welcome P → Type 0) (wish : Wish) (args rest : List ℕ) (left w m v : Option (List ℕ)) (a b : Option (List Request)) (request : Request) (result : Greeted P) → wish ≡ Wants request → m ≡ gained w args → IsServed May Named Gives request m v a b result → Ends May Named Gives wish args rest left w v a b result
ends_served May Named Gives wish args rest left w m v a b request (greeted.Ready welcome) is e s = (request, is, gained_on w m v args (ready_text welcome.id) e s.0, s.1, s.2, s.3)
ends_served May Named Gives wish args rest left w m v a b request (greeted.Refused status) is e s = (gained_on w m v args (error_text status) e s.3, ByDoor request s.0 is s.1 s.2 s.4)
ends_served May Named Gives wish args rest left w m v a b request greeted.Ended is e s = absurd s
ends_served May Named Gives wish args rest left w m v a b request greeted.ReadFault is e s = absurd s
ends_served May Named Gives wish args rest left w m v a b request greeted.WriteFault is e s = (s.0, reply_to May Named wish rest s.0 request is s.1, front_on w m v args s.0 e s.2, wished wish a b request is s.3)
ends_served May Named Gives wish args rest left w m v a b request greeted.NoMemory is e s = (s.0, reply_to May Named wish rest s.0 request is s.1, front_on w m v args s.0 e s.2, wished wish a b request is s.3)

ends_refused : {P : Type 0} (May : Request → Refused → Type 0) (Named : Request → List ℕ → Type 0) (Gives : Request → Welcome P → Type 0) (wish : Wish) (args rest : List ℕ) (left w m v : Option (List ℕ)) (a b : Option (List Request)) (status : ℕ) (result : Greeted P) → RefusedEarly wish rest status → m ≡ gained w args → b ≡ a → IsToldError status m v result → Ends May Named Gives wish args rest left w v a b result
ends_refused May Named Gives wish args rest left w m v a b status (greeted.Ready welcome) early e same t = absurd t
ends_refused May Named Gives wish args rest left w m v a b status (greeted.Refused told) early e same t = (gained_on w m v args (error_text told) e t.1, ByForm (subst (λ (s : ℕ). RefusedEarly wish rest s) (sym t.0) early) same)
ends_refused May Named Gives wish args rest left w m v a b status greeted.Ended early e same t = absurd t
ends_refused May Named Gives wish args rest left w m v a b status greeted.ReadFault early e same t = absurd t
ends_refused May Named Gives wish args rest left w m v a b status greeted.WriteFault early e same t = (error_text status, EarlyReply status early refl, front_on w m v args (error_text status) e t, Unasked same)
ends_refused May Named Gives wish args rest left w m v a b status greeted.NoMemory early e same t = (error_text status, EarlyReply status early refl, front_on w m v args (error_text status) e t, Unasked same)

no_reply : (w m v : Option (List ℕ)) (args : List ℕ) → v ≡ m → GainedFront w m args → GainedFront w v (args ++ [])
no_reply w m v args written f = subst (λ (l : List ℕ). GainedFront w v l) (sym (append-nil args)) (f.0, f.1, written ∙ f.2)

-- what is wanted asks the door
wants_so : (wish : Wish) (request : Request) (F : Type 0) → wish ≡ Wants request → UnlessWanted wish F
wants_so wish request F is = subst (λ (w : Wish). UnlessWanted w F) (sym is) tt

whatever : (wish : Wish) (F : Type 0) → F → UnlessWanted wish F
whatever Unfinished F f = f
whatever (Refuses status) F f = f
whatever (Wants request) F f = tt

module _ {P : Type 0} (id_of : List ℕ → Option (List ℕ)) (gives : Request → Welcome P → Type 0) (before after : DoorView) (a b w m v : Option (List ℕ)) (asked_mid : Option (List Request)) (unread rest : List ℕ) (empty : unread ≡ []) (same : asked_mid ≡ before.asked) where
  made : (result : Result Request Stop) (greeted : Greeted P) (h : HasAsked id_of before.sessions a b w m unread rest result) → UnlessWanted (asks h.known h.instructions) (Told before.sessions after.sessions Same) → Ends (MayRefuse id_of before after) (Names id_of before after) gives (asks h.known h.instructions) (args_for (selected h.known h.instructions)) rest b w v before.asked after.asked greeted → IsGreeting id_of gives before after a b w v rest greeted
  made result greeted h unasked ends = record {
    bytes = h.bytes;
    instructions = h.instructions;
    known = h.known;
    came_is = h.came_is;
    split = subst (λ (l : List ℕ). Splits (l ++ h.bytes) h.instructions rest) empty h.split;
    no_further = h.no_further;
    looked = h.looked;
    unasked = unasked;
    ends = ends;
  }

  pub greeted_ok : (request : Request) (greeted : Greeted P) → HasAsked id_of before.sessions a b w m unread rest (Ok request) → IsServed (MayRefuse id_of before after) (Names id_of before after) gives request m v asked_mid after.asked greeted → IsGreeting id_of gives before after a b w v rest greeted
  greeted_ok request greeted h s = made (Ok request) greeted h (wants_so _ request _ h.answers)
      (ends_served _ _ _ _ _ rest b w m v before.asked after.asked request greeted h.answers h.wrote
      (subst (λ (x : Option (List Request)). IsServed (MayRefuse id_of before after) (Names id_of before after) gives request m v x after.asked greeted) same s))

  pub greeted_refused : (status : ℕ) (s : Stop) (greeted : Greeted P) → Told before.sessions after.sessions Same → after.asked ≡ asked_mid → HasAsked id_of before.sessions a b w m unread rest (Err s) → s ≡ stop.Refused status → IsToldError status m v greeted → IsGreeting id_of gives before after a b w v rest greeted
  greeted_refused status s greeted still kept h0 is t =
      let h = subst (λ (x : Stop). HasAsked id_of before.sessions a b w m unread rest (Err x)) is h0 in
      made (Err (stop.Refused status)) greeted h (whatever (asks h.known h.instructions) _ still)
      (ends_refused _ _ _ _ _ rest b w m v before.asked after.asked status greeted h.answers h.wrote (kept ∙ same) t)

  module _ (still : Told before.sessions after.sessions Same) (kept : after.asked ≡ asked_mid) (written : v ≡ m) (s : Stop) (h0 : HasAsked id_of before.sessions a b w m unread rest (Err s)) where
    pub greeted_ended : s ≡ stop.Ended → IsGreeting {P = P} id_of gives before after a b w v rest greeted.Ended
    greeted_ended is =
        let h = subst (λ (x : Stop). HasAsked id_of before.sessions a b w m unread rest (Err x)) is h0 in
        made (Err stop.Ended) greeted.Ended h (whatever (asks h.known h.instructions) _ still) (h.answers.0, h.answers.1, h.answers.2, written ∙ h.wrote, kept ∙ same)

    pub greeted_unread : s ≡ stop.ReadFault → IsGreeting {P = P} id_of gives before after a b w v rest greeted.ReadFault
    greeted_unread is =
        let h = subst (λ (x : Stop). HasAsked id_of before.sessions a b w m unread rest (Err x)) is h0 in
        made (Err stop.ReadFault) greeted.ReadFault h (whatever (asks h.known h.instructions) _ still) (h.answers, written ∙ h.wrote, kept ∙ same)

    pub greeted_unwritten : s ≡ stop.WriteFault → IsGreeting {P = P} id_of gives before after a b w v rest greeted.WriteFault
    greeted_unwritten is =
        let h = subst (λ (x : Stop). HasAsked id_of before.sessions a b w m unread rest (Err x)) is h0 in
        made (Err stop.WriteFault) greeted.WriteFault h (whatever (asks h.known h.instructions) _ still) ([], NoReply h.answers refl, no_reply w m v _ written h.wrote, Unasked (kept ∙ same))

    pub greeted_short : s ≡ stop.NoMemory → IsGreeting {P = P} id_of gives before after a b w v rest greeted.NoMemory
    greeted_short is =
        let h = subst (λ (x : Stop). HasAsked id_of before.sessions a b w m unread rest (Err x)) is h0 in
        made (Err stop.NoMemory) greeted.NoMemory h (whatever (asks h.known h.instructions) _ still) ([], NoReply h.answers refl, no_reply w m v _ written h.wrote, Unasked (kept ∙ same))

-- the rest under another name
pub with_rest : {P : Type 0} (id_of : List ℕ → Option (List ℕ)) (gives : Request → Welcome P → Type 0) (before after : DoorView) (a b w v : Option (List ℕ)) (rest now : List ℕ) (result : Greeted P) → now ≡ rest → IsGreeting id_of gives before after a b w v rest result → IsGreeting id_of gives before after a b w v now result
with_rest id_of gives before after a b w v rest now result same g = subst (λ (l : List ℕ). IsGreeting id_of gives before after a b w v l result) (sym same) g
