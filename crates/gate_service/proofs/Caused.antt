-- Why a connection ended, by why what served it did.
use Rattle.std.proofs.Common.{◌≡◌, ◌⊎◌, inl, inr, ℕ, List, [], Option, sym, subst, arith}
use Rattle.gate_outside.specs.Helpers.{NeverFell}
use Rattle.guac_handshake.specs.Views.{DoorView}
use Rattle.guac_handshake.specs.declared.request.Request.{Request}
use Rattle.guac_handshake.specs.declared.welcome.Welcome.{Welcome}
use Rattle.http_front.specs.Requests.{OnEnded}
use Rattle.http_front.specs.declared.request.Incoming.{Incoming}
use Rattle.http_front.specs.declared.request.Incoming.TheVariants as incoming
use Rattle.http_front.specs.declared.response.Response.{Response}
use Rattle.gate_service.specs.Requests.{IsSilent, Wrote}
use Rattle.gate_service.specs.declared.requests.HttpEnd.{HttpEnd}
use Rattle.gate_service.specs.declared.requests.HttpEnd.TheVariants.{Ended, ReadFault}
use Rattle.shared_desk.specs.declared.place.Place.{Place}
use Rattle.ws_tunnel.specs.Served.{AsksDoor}
use Rattle.ws_tunnel.specs.declared.ends.WsRun.{WsRun}

-- where a response is due, the bytes didn't end, and no read failed
silent_ended : (came : Incoming) (end : HttpEnd) → IsSilent came end → end ≡ Ended → came ≡ incoming.Ended
silent_ended came end (inl s) is = s.0
silent_ended came end (inr s) is = absurd (let f = s.1 in cc)

silent_fault : (came : Incoming) (end : HttpEnd) → IsSilent came end → end ≡ ReadFault → came ≡ incoming.ReadFault
silent_fault came end (inl s) is = absurd (let f = s.1 in cc)
silent_fault came end (inr s) is = s.0

module _ (is_due : Response → Type 0) (came : Incoming) (end : HttpEnd) (written : List ℕ) where
  pub came_ended : ((response : Response) × is_due response × Wrote response end written) ⊎ (IsSilent came end × (written ≡ [])) → end ≡ Ended → came ≡ incoming.Ended
  came_ended (inl a) is = absurd (subst (λ (e : HttpEnd). Wrote a.0 e written) is a.2)
  came_ended (inr s) is = silent_ended came end s.0 is

  pub came_fault : ((response : Response) × is_due response × Wrote response end written) ⊎ (IsSilent came end × (written ≡ [])) → end ≡ ReadFault → came ≡ incoming.ReadFault
  came_fault (inl a) is = absurd (subst (λ (e : HttpEnd). Wrote a.0 e written) is a.2)
  came_fault (inr s) is = silent_fault came end s.0 is

-- what is known of bytes that ended
pub ended_so : (came : Incoming) (P : Type 0) → came ≡ incoming.Ended → OnEnded came P → P
ended_so came P is on = subst (λ (c : Incoming). OnEnded c P) is on

-- no count falls while a door is asked for a viewer over messages
pub asked_later : (id_of : List ℕ → Option (List ℕ)) (gives : Request → Welcome Place → Type 0) (before after : DoorView) (left : Option (List (List ℕ))) (run : WsRun) → AsksDoor id_of gives before after left run → NeverFell before.helper after.helper
asked_later id_of gives before after left run (inl none) = subst (λ (v : DoorView). NeverFell before.helper v.helper) (sym none.same) (record { dials = omega arith; starts = omega arith })
asked_later id_of gives before after left run (inr asked) = let faults = asked.door.faults in record { dials = faults.dials.1; starts = faults.starts.1 }
