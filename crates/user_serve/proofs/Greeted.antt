-- What a greeting read and wrote, in bytes alone.
use Rattle.std.proofs.Common.{◌≡◌, ℕ, List, ◌++◌, take, drop, Option, refl, sym}
use Rattle.std.proofs.lemmas.List.{take-append-drop}
use Rattle.gate_model.specs.Sequences.{BeginsWith}
use Rattle.gate_outside.specs.Edge.{GainedFront, came, gained}
use Rattle.guac_handshake.specs.Asks.{Wish, asks, selected}
use Rattle.guac_handshake.specs.Views.{DoorView, MayRefuse, Names}
use Rattle.guac_handshake.specs.Greetings.{EarlyReply, Ends, IsGreeting, IsReplyTo, NoReply, ReadyReply, RefusalReply}
use Rattle.guac_handshake.specs.Texts.{args_for}
use Rattle.guac_handshake.specs.declared.greeted.Greeted.{Greeted}
use Rattle.guac_handshake.specs.declared.greeted.Greeted.TheVariants.{Ready, Refused, Ended, ReadFault, WriteFault, NoMemory}
use Rattle.guac_handshake.specs.declared.refused.Refused as door
use Rattle.guac_handshake.specs.declared.request.Request.{Request}
use Rattle.guac_handshake.specs.declared.welcome.Welcome.{Welcome}
use Rattle.user_serve.specs.Greets.{GreetRun, HasReplied}

-- a sink gained bytes of which this is told
abbrev pub Gains : Option (List ℕ) → Option (List ℕ) → (List ℕ → Type 0) → Type 0
Gains old new told = (written : List ℕ) × (new ≡ gained old written) × told written

front_gained : (old new : Option (List ℕ)) (text : List ℕ) → GainedFront old new text → Gains old new (λ written. BeginsWith text written)
front_gained old new text front = (take front.0 text, front.2, (drop front.0 text, sym (take-append-drop front.0 text)))

reply_free : (May : Request → door.Refused → Type 0) (Named : Request → List ℕ → Type 0) (wish : Wish) (rest text : List ℕ) → IsReplyTo May Named wish rest text → IsReplyTo (λ request refusal. Unit {0}) (λ request id. Unit {0}) wish rest text
reply_free May Named wish rest text (NoReply waits e) = NoReply waits e
reply_free May Named wish rest text (EarlyReply status early e) = EarlyReply status early e
reply_free May Named wish rest text (RefusalReply q r is may e) = RefusalReply q r is tt e
reply_free May Named wish rest text (ReadyReply q id is named e) = ReadyReply q id is tt e

module _ {P : Type 0} (May : Request → door.Refused → Type 0) (Named : Request → List ℕ → Type 0) (Gives : Request → Welcome P → Type 0) (wish : Wish) (args rest : List ℕ) (left before now : Option (List ℕ)) (asked_before asked_now : Option (List Request)) where
  replied : (end : Greeted P) → Ends May Named Gives wish args rest left before now asked_before asked_now end → Gains before now (HasReplied wish args rest end)
  replied (Ready welcome) e = (_, e.2, (e.0, e.1, refl))
  replied (Refused status) e = (_, e.0, refl)
  replied Ended e = (args, e.3, (e.0, e.1, refl))
  replied ReadFault e = (args, e.1, (e.0, refl))
  replied WriteFault e = let f = front_gained before now (args ++ e.0) e.2 in (f.0, f.1, (e.0, reply_free May Named wish rest e.0 e.1, f.2))
  replied NoMemory e = let f = front_gained before now (args ++ e.0) e.2 in (f.0, f.1, (e.0, reply_free May Named wish rest e.0 e.1, f.2))

-- the bytes of a greeting
pub record Greeted_by {P : Type 0} (left_old left_new written_old written_new : Option (List ℕ)) (rest : List ℕ) (end : Greeted P) : Type 0 where
  pub read : List ℕ
  pub written : List ℕ
  pub came_is : left_old ≡ came read left_new
  pub gained_is : written_new ≡ gained written_old written
  pub ran : GreetRun read rest written end

pub greeted : {P : Type 0} (id_of : List ℕ → Option (List ℕ)) (gives : Request → Welcome P → Type 0) (before after : DoorView) (left_old left_new written_old written_new : Option (List ℕ)) (rest : List ℕ) (end : Greeted P)
    → IsGreeting id_of gives before after left_old left_new written_old written_new rest end → Greeted_by left_old left_new written_old written_new rest end
greeted id_of gives before after left_old left_new written_old written_new rest end g =
    let r = replied (MayRefuse id_of before after) (Names id_of before after) gives (asks g.known g.instructions) (args_for (selected g.known g.instructions)) rest left_new written_old written_new before.asked after.asked end g.ends in record {
      read = g.bytes;
      written = r.0;
      came_is = g.came_is;
      gained_is = r.1;
      ran = record { instructions = g.instructions; known = g.known; splits = g.split; no_further = g.no_further; replied = r.2 };
    }
