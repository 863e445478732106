-- What a greeting read and wrote, by its end, in bytes alone (this project's own).
use Rattle.std.specs.Prelude.{◌≡◌, ℕ, Bool, List, ◌++◌}
use Rattle.gate_model.specs.Sequences.{BeginsWith}
use Rattle.guac_framing.specs.Found.{IsUnfinished}
use Rattle.guac_handshake.specs.declared.greeted.Greeted.{Greeted}
use Rattle.guac_handshake.specs.declared.greeted.Greeted.TheVariants.{Ready, Refused, Ended, ReadFault, WriteFault, NoMemory}
use Rattle.guac_handshake.specs.declared.request.Request.{Request}
use Rattle.guac_handshake.specs.Asks.{ReadsNoFurther, Wish, Unfinished, Wants, asks, selected}
use Rattle.guac_handshake.specs.Greetings.{IsReplyTo}
use Rattle.guac_handshake.specs.Splits.{Splits}
use Rattle.guac_handshake.specs.Texts.{args_for, error_text, ready_text}

-- the parameters, then what the end has, or a front of such a text
abbrev pub HasReplied : {P : Type 0} → Wish → List ℕ → List ℕ → Greeted P → List ℕ → Type 0
HasReplied wish args rest (Ready welcome) written = (request : Request) × (wish ≡ Wants request) × (written ≡ args ++ ready_text welcome.id)
HasReplied wish args rest (Refused status) written = written ≡ args ++ error_text status
HasReplied wish args rest Ended written = (wish ≡ Unfinished) × IsUnfinished rest × (written ≡ args)
HasReplied wish args rest ReadFault written = (wish ≡ Unfinished) × (written ≡ args)
HasReplied wish args rest WriteFault written = (text : List ℕ) × IsReplyTo (λ request refusal. Unit {0}) (λ request id. Unit {0}) wish rest text × BeginsWith (args ++ text) written
HasReplied wish args rest NoMemory written = (text : List ℕ) × IsReplyTo (λ request refusal. Unit {0}) (λ request id. Unit {0}) wish rest text × BeginsWith (args ++ text) written

-- the bytes read are instructions, none behind those that settle what is asked, and then the rest; and what was written
-- is by what they ask
pub record GreetRun {P : Type 0} (read rest written : List ℕ) (end : Greeted P) : Type 0 where
  pub instructions : List (List (List ℕ))
  pub known : Bool
  pub splits : Splits read instructions rest
  pub no_further : ReadsNoFurther (asks known) instructions
  pub replied : HasReplied (asks known instructions) (args_for (selected known instructions)) rest end written
