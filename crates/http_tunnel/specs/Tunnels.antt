-- What a request does to the tunnels, where their shelf tells what is there (this project's own).
use Rattle.std.specs.Prelude.{◌≡◌, ◌⊎◌, ℕ, Bool, true, false, ◌||◌, if◌then◌else◌, List, [], ◌++◌, Option, Some, None, IfSome, is_some, Result, Ok, Err}
use Rattle.gate_model.specs.declared.instr.Instr.{Instr}
use Rattle.gate_model.specs.session.History.{History, is_full}
use Rattle.gate_model.specs.session.Rights.{is_live}
use Rattle.id_table.specs.Maps.{Changed, Same, Shelved}
use Rattle.shared_desk.specs.Members.{Stays, ViewerState}
use Rattle.http_tunnel.specs.Reads.{HasRead, IsWanting, mark_of}
use Rattle.http_tunnel.specs.declared.read.Left.{Left}
use Rattle.http_tunnel.specs.declared.read.Lent.{Lent}
use Rattle.http_tunnel.specs.declared.read.Taken.{Taken}
use Rattle.http_tunnel.specs.declared.read.Taken.TheVariants as taken
use Rattle.http_tunnel.specs.declared.reading.TunnelEnd.{TunnelEnd}
use Rattle.http_tunnel.specs.declared.reading.TunnelEnd.TheVariants.{Open, Ended}
use Rattle.http_tunnel.specs.declared.reading.TunnelRefusal.{TunnelRefusal}
use Rattle.http_tunnel.specs.declared.reading.TunnelRefusal.TheVariants as tunnel
use Rattle.http_front.specs.declared.refusal.Refusal.{Refusal}
use Rattle.http_front.specs.declared.refusal.Refusal.TheVariants.{NotFound, Closed, NoMemory}
use Rattle.http_tunnel.specs.declared.tunnel.Tunnel.{Tunnel}

-- between two requests each tunnel that is there has its reader's pass, and none goes
abbrev pub IsHome : Option (Option Tunnel) → Type 0
IsHome None = Unit {0}
IsHome (Some None) = ⊥
IsHome (Some (Some t)) = (is_some t.reader ≡ true) × (t.gone ≡ false)

abbrev pub AreHome : Option (Shelved Tunnel) → Type 0
AreHome told = IfSome told (λ m. (id : List ℕ) → IsHome (m id))

-- ---- a read

-- a tunnel whose reader's pass and text were taken out, and one that got them back
abbrev pub without_reader : Tunnel → Tunnel
without_reader t = record t { reader = None; kept = [] }

abbrev pub with_reader : Tunnel → ViewerState → List ℕ → Tunnel
with_reader t reader kept = record t { reader = Some reader; kept = kept }

-- a tunnel gave its reader's pass and its text, or had no pass to give
abbrev pub GivesReader : Tunnel → Tunnel → Option Lent → Type 0
GivesReader t u None = (t.reader ≡ None) × (u ≡ t)
GivesReader t u (Some lent) = (t.reader ≡ Some lent.reader) × (t.kept ≡ lent.kept) × (u ≡ without_reader t)

-- .. a tunnel that was lent, and is there again
abbrev pub HasTakenFrom : List ℕ → Tunnel → Taken → Shelved Tunnel → Shelved Tunnel → Type 0
HasTakenFrom id t taken.Absent m n = ⊥
HasTakenFrom id t taken.Away m n = (t.reader ≡ None) × Changed id (Some (Some t)) m n
HasTakenFrom id t (taken.Lent lent) m n = (t.reader ≡ Some lent.reader) × (t.kept ≡ lent.kept) × Changed id (Some (Some (without_reader t))) m n

-- the pass and the text were taken out of the tunnel of the ID, if there is one
abbrev pub HasBegun : List ℕ → Shelved Tunnel → Shelved Tunnel → Option Lent → Type 0
HasBegun id m n None = (m id ≡ None) × Same m n
HasBegun id m n (Some lent) = (t : Tunnel) × (m id ≡ Some (Some t)) × (t.reader ≡ Some lent.reader) × (t.kept ≡ lent.kept) × Changed id (Some (Some (without_reader t))) m n

-- .. where another read may have it, which none has between two requests
abbrev pub HasTaken : List ℕ → Shelved Tunnel → Shelved Tunnel → Taken → Type 0
HasTaken id m n taken.Absent = HasBegun id m n None
HasTaken id m n taken.Away = ⊥
HasTaken id m n (taken.Lent lent) = HasBegun id m n (Some lent)

-- they were put back, or the tunnel went
abbrev pub HasEndedOf : List ℕ → Tunnel → ViewerState → Left → Bool → Shelved Tunnel → Shelved Tunnel → Type 0
HasEndedOf id t reader left back m n = (back ≡ (left.ended || t.gone)) × Changed id (if back then None else Some (Some (with_reader t reader left.kept))) m n

abbrev pub HasEnded : List ℕ → ViewerState → Left → Bool → Shelved Tunnel → Shelved Tunnel → Type 0
HasEnded id reader left back m n = (t : Tunnel) → m id ≡ Some (Some t) → HasEndedOf id t reader left back m n

-- the text that a tunnel keeps after a read, of what it kept and what was read
abbrev pub kept_with : List ℕ → Result TunnelEnd TunnelRefusal → List ℕ
kept_with all (Ok end) = []
kept_with all (Err refused) = all

abbrev pub kept_by : List ℕ → List ℕ → Result TunnelEnd TunnelRefusal → List ℕ
kept_by kept text end = kept_with (kept ++ text) end

-- the closing instruction was delivered
abbrev pub is_last : TunnelEnd → Bool
is_last Open = false
is_last Ended = true

abbrev pub is_end : Result TunnelEnd TunnelRefusal → Bool
is_end (Ok end) = is_last end
is_end (Err refused) = false

abbrev pub refused_read : TunnelRefusal → Refusal
refused_read tunnel.NoViewer = NotFound
refused_read (tunnel.Worn entries) = Closed
refused_read tunnel.NoMemory = NoMemory

-- the body is what was kept, what was read and the mark of the end; a refusal is that of the read
abbrev pub answer_with : List ℕ → Result TunnelEnd TunnelRefusal → Result (List ℕ) Refusal
answer_with all (Ok end) = Ok all
answer_with all (Err refused) = Err (refused_read refused)

abbrev pub read_answer : List ℕ → List ℕ → Result TunnelEnd TunnelRefusal → Result (List ℕ) Refusal
read_answer kept text end = answer_with (kept ++ (text ++ mark_of end)) end

pub record IsAnswered (kept text : List ℕ) (end : Result TunnelEnd TunnelRefusal) (result : Result (List ℕ) Refusal) (left : Left) : Type 0 where
  pub answered : result ≡ read_answer kept text end
  pub kept_now : left.kept ≡ kept_by kept text end
  pub ended : left.ended ≡ is_end end

-- why a read was refused: its viewer isn't there, its session may have no more entries, or memory was wanting
abbrev pub RefusedCause : Result TunnelEnd TunnelRefusal → ℕ → History → List Instr → Type 0
RefusedCause (Ok end) viewer seen more = Unit {0}
RefusedCause (Err tunnel.NoViewer) viewer seen more = is_live seen viewer ≡ false
RefusedCause (Err (tunnel.Worn entries)) viewer seen more = is_full seen ≡ true
RefusedCause (Err tunnel.NoMemory) viewer seen more = IsWanting viewer seen more

-- one read of the tunnel of the ID; a place went back exactly where the tunnel went
pub record IsReadOf (id : List ℕ) (back : Bool) (result : Result (List ℕ) Refusal) (m n : Shelved Tunnel) : Type 0 where
  pub tunnel : Tunnel
  pub there : m id ≡ Some (Some tunnel)
  pub reader : ViewerState
  pub had : tunnel.reader ≡ Some reader
  pub now : ViewerState
  pub stays : Stays reader now
  pub text : List ℕ
  pub end : Result TunnelEnd TunnelRefusal
  pub read : HasRead reader.viewer reader.view now.view text end
  pub answered : result ≡ read_answer tunnel.kept text end
  pub cause : RefusedCause end reader.viewer now.view.seen read.more
  pub removed : back ≡ is_end end
  pub left : Changed id (if back then None else Some (Some (with_reader tunnel now (kept_by tunnel.kept text end)))) m n

-- there is no such tunnel, or it was read
abbrev pub ReadOf : List ℕ → Bool → Result (List ℕ) Refusal → Shelved Tunnel → Shelved Tunnel → Type 0
ReadOf id back result m n = ((m id ≡ None) × (back ≡ false) × (result ≡ Err NotFound) × Same m n) ⊎ IsReadOf id back result m n
