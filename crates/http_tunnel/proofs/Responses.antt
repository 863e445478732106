-- What the kinds of request come to.
use Rattle.std.proofs.Common.{◌≡◌, inl, inr, ℕ, List, ◌++◌, Bool, true, false, refl, ap, sym, ◌∙◌, subst, arith}
use Rattle.std.specs.Prelude.{Option, Result, Ok, Err, IfErr}
use Rattle.gate_model.specs.declared.entry.Entry.{Entry}
use Rattle.gate_model.specs.session.History.{History}
use Rattle.turn_lock.specs.declared.view.View.{View}
use Rattle.http_front.specs.declared.response.Response.{Response}
use Rattle.guac_handshake.specs.Views.{DoorView}
use Rattle.guac_handshake.specs.declared.request.Request.{Request}
use Rattle.guac_handshake.specs.declared.welcome.Welcome.{Welcome}
use Rattle.shared_desk.specs.declared.place.Place.{Place}
use Rattle.id_table.specs.Maps.{Shelved}
use Rattle.http_tunnel.specs.Places.{HasGiven}
use Rattle.http_tunnel.specs.Requests.{IsTunnelRefusal, Serves, without_body}
use Rattle.http_tunnel.specs.Reads.{mark_of}
use Rattle.http_tunnel.specs.Routes.{IsAsked}
use Rattle.http_front.specs.Refusals.{IsResponse, status_of}
use Rattle.http_tunnel.specs.Tunnels.{answer_with, read_answer, refused_read}
use Rattle.http_tunnel.specs.Writes.{IsRefusedWrite, WriteCause, WritesBody, without_value}
use Rattle.http_tunnel.specs.declared.reading.TunnelEnd.{TunnelEnd}
use Rattle.http_tunnel.specs.declared.reading.TunnelRefusal.{TunnelRefusal}
use Rattle.http_tunnel.specs.declared.reading.TunnelRefusal.TheVariants as tunnel
use Rattle.http_front.specs.declared.refusal.Refusal.{Refusal}
use Rattle.http_front.specs.declared.refusal.Refusal.TheVariants.{NotFound, Form, Method, Dial, Busy, Conflict, Forbidden, TooMany, Closed, NoMemory}
use Rattle.http_tunnel.specs.declared.route.Route.{Route}
use Rattle.http_tunnel.specs.declared.route.Route.TheVariants as route
use Rattle.http_tunnel.specs.declared.tunnel.Tunnel.{Tunnel}

-- ---- reads and writes of a tunnel are refused for few causes

read_refused : (r : TunnelRefusal) → IsTunnelRefusal (refused_read r)
read_refused tunnel.NoViewer = tt
read_refused (tunnel.Worn n) = tt
read_refused tunnel.NoMemory = tt

answer_kind : (all : List ℕ) (end : Result TunnelEnd TunnelRefusal) → IfErr (answer_with all end) IsTunnelRefusal
answer_kind all (Ok end) = tt
answer_kind all (Err r) = read_refused r

pub read_kind : (kept text : List ℕ) (end : Result TunnelEnd TunnelRefusal) (result : Result (List ℕ) Refusal) → result ≡ read_answer kept text end → IfErr result IsTunnelRefusal
read_kind kept text end result is = subst (λ (r : Result (List ℕ) Refusal). IfErr r IsTunnelRefusal) (sym is) (answer_kind (kept ++ (text ++ mark_of end)) end)

cause_kind : (r : Refusal) (viewer : ℕ) (seen : History) → WriteCause r viewer seen → IsTunnelRefusal r
cause_kind NotFound viewer seen c = tt
cause_kind Closed viewer seen c = tt
cause_kind NoMemory viewer seen c = tt
cause_kind Form viewer seen c = tt
cause_kind Method viewer seen c = c
cause_kind Dial viewer seen c = c
cause_kind Busy viewer seen c = c
cause_kind Conflict viewer seen c = c
cause_kind Forbidden viewer seen c = c
cause_kind TooMany viewer seen c = c

refused_kind : (r : Refusal) (viewer : ℕ) (v w : View Entry) (body : List ℕ) → IsRefusedWrite viewer v w body r → IsTunnelRefusal r
refused_kind r viewer v w body (inl k) = subst IsTunnelRefusal (sym k.1) tt
refused_kind r viewer v w body (inr (inl k)) = subst IsTunnelRefusal (sym k.1) tt
refused_kind r viewer v w body (inr (inr k)) = cause_kind r viewer w.seen k.2.cause

done_kind : (viewer : ℕ) (v w : View Entry) (body : List ℕ) (done : Result Bool Refusal) → WritesBody viewer v w body done → IfErr (without_value done) IsTunnelRefusal
done_kind viewer v w body (Ok ended) k = tt
done_kind viewer v w body (Err r) k = refused_kind r viewer v w body k

pub write_kind : (viewer : ℕ) (v w : View Entry) (body : List ℕ) (done : Result Bool Refusal) (result : Result (Unit {0}) Refusal) → result ≡ without_value done → WritesBody viewer v w body done → IfErr result IsTunnelRefusal
write_kind viewer v w body done result is k = subst (λ (r : Result (Unit {0}) Refusal). IfErr r IsTunnelRefusal) (sym is) (done_kind viewer v w body done k)

-- .. so neither a dial nor a start failed
pub not_dial : {A : Type 0} (r : Result A Refusal) (P : Type 0) → IfErr r IsTunnelRefusal → r ≡ Err Dial → P
not_dial {A} r P k e = absurd (subst (λ (x : Result A Refusal). IfErr x IsTunnelRefusal) e k)

pub not_busy : {A : Type 0} (r : Result A Refusal) (P : Type 0) → IfErr r IsTunnelRefusal → r ≡ Err Busy → P
not_busy {A} r P k e = absurd (subst (λ (x : Result A Refusal). IfErr x IsTunnelRefusal) e k)

body_kind : (r : Result (Unit {0}) Refusal) → IfErr r IsTunnelRefusal → IfErr (without_body r) IsTunnelRefusal
body_kind (Ok d) k = tt
body_kind (Err e) k = k

pub written_kind : (r : Result (Unit {0}) Refusal) (told : Result (List ℕ) Refusal) → told ≡ without_body r → IfErr r IsTunnelRefusal → IfErr told IsTunnelRefusal
written_kind r told is k = subst (λ (x : Result (List ℕ) Refusal). IfErr x IsTunnelRefusal) (sym is) (body_kind r k)

abbrev pub err_of : Refusal → Result (List ℕ) Refusal
err_of r = Err r

abbrev refusal_in : Result (List ℕ) Refusal → Refusal
refusal_in (Ok body) = NoMemory
refusal_in (Err r) = r

err_same : (x y : Refusal) → err_of x ≡ err_of y → x ≡ y
err_same x y e = ap refusal_in e

pub asked_dial : (r : Refusal) (P : Type 0) → IsAsked (route.Refused r) → err_of r ≡ err_of Dial → P
asked_dial r P asked e = absurd (subst (λ (x : Refusal). IsAsked (route.Refused x)) (err_same r Dial e) asked)

pub asked_busy : (r : Refusal) (P : Type 0) → IsAsked (route.Refused r) → err_of r ≡ err_of Busy → P
asked_busy r P asked e = absurd (subst (λ (x : Refusal). IsAsked (route.Refused x)) (err_same r Busy e) asked)

-- ---- the statuses

status_dial : (r : Refusal) → status_of r ≡ 502 → r ≡ Dial
status_dial NotFound e = absurd (omega (arith, e))
status_dial Form e = absurd (omega (arith, e))
status_dial Method e = absurd (omega (arith, e))
status_dial Dial e = refl
status_dial Busy e = absurd (omega (arith, e))
status_dial Conflict e = absurd (omega (arith, e))
status_dial Forbidden e = absurd (omega (arith, e))
status_dial TooMany e = absurd (omega (arith, e))
status_dial Closed e = absurd (omega (arith, e))
status_dial NoMemory e = absurd (omega (arith, e))

status_busy : (r : Refusal) → status_of r ≡ 503 → r ≡ Busy
status_busy NotFound e = absurd (omega (arith, e))
status_busy Form e = absurd (omega (arith, e))
status_busy Method e = absurd (omega (arith, e))
status_busy Dial e = absurd (omega (arith, e))
status_busy Busy e = refl
status_busy Conflict e = absurd (omega (arith, e))
status_busy Forbidden e = absurd (omega (arith, e))
status_busy TooMany e = absurd (omega (arith, e))
status_busy Closed e = absurd (omega (arith, e))
status_busy NoMemory e = absurd (omega (arith, e))

pub dial_answered : (answered : Result (List ℕ) Refusal) (response : Response) → IsResponse answered response → response.status ≡ 502 → answered ≡ Err Dial
dial_answered (Ok body) response r e = absurd (let z : 200 ≡ 502 = sym r.0 ∙ e in omega (arith, z))
dial_answered (Err refusal) response r e = ap Err (status_dial refusal (sym r.0 ∙ e))

pub busy_answered : (answered : Result (List ℕ) Refusal) (response : Response) → IsResponse answered response → response.status ≡ 503 → answered ≡ Err Busy
busy_answered (Ok body) response r e = absurd (let z : 200 ≡ 503 = sym r.0 ∙ e in omega (arith, z))
busy_answered (Err refusal) response r e = ap Err (status_busy refusal (sym r.0 ∙ e))

-- a place that went back is no fault of a helper
pub given_helper : (id_of : List ℕ → Option (List ℕ)) (P : List ℕ → Type 0) (back : Bool) (before after : DoorView) → HasGiven id_of P back before after → after.helper ≡ before.helper
given_helper id_of P false before after g = ap DoorView.helper g
given_helper id_of P true before after g = g.2.helper

-- what was done for the same request
pub served_as : (id_of : List ℕ → Option (List ℕ)) (gives : Request → Welcome Place → Type 0) (before after : DoorView) (drawn : Option (ℕ → List ℕ)) (told told1 : Option (Shelved Tunnel)) (body : List ℕ) (answered : Result (List ℕ) Refusal) (r q : Route) → r ≡ q → Serves id_of gives before after drawn told told1 body answered q
    → Serves id_of gives before after drawn told told1 body answered r
served_as id_of gives before after drawn told told1 body answered r q same k = subst (λ (x : Route). Serves id_of gives before after drawn told told1 body answered x) (sym same) k
