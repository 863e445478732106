-- Why a greeting ends.
use Rattle.std.proofs.Common.{◌≡◌, ℕ, ◌≤◌, List, Option, Ok, Err, refl, sym, ◌∙◌, subst, inl, inr, arith}
use Rattle.std.specs.Prelude.{Result, IfErr}
use Rattle.gate_outside.specs.Edge.{Rose}
use Rattle.guac_handshake.specs.declared.greeted.Greeted.{Greeted}
use Rattle.guac_handshake.specs.declared.greeted.Greeted.TheVariants as greeted
use Rattle.guac_handshake.specs.declared.expected.Expected.{Expected}
use Rattle.guac_handshake.specs.declared.refused.Refused.{Refused}
use Rattle.guac_handshake.specs.declared.refused.Refused.TheVariants as refused
use Rattle.guac_handshake.specs.declared.request.Request.{Request}
use Rattle.guac_handshake.specs.declared.stop.Stop.{Stop}
use Rattle.guac_handshake.specs.declared.stop.Stop.TheVariants as stop
use Rattle.guac_handshake.specs.declared.welcome.Welcome.{Welcome}
use Rattle.guac_handshake.specs.Causes.{IsEarly}
use Rattle.guac_handshake.specs.Greetings.{IfReady, IsServed, IsToldError, IsToldReady, stopped_as}
use Rattle.guac_handshake.specs.Heard.{HasHeard, StopsAt}
use Rattle.guac_handshake.specs.Statuses.{status_of}

-- a count rose later, or rose from the same
pub rose_after : (a b c : ℕ) → a ≤ b → Rose b c → Rose a c
rose_after a b c later rose = omega arith

pub rose_from : (a b c : ℕ) → b ≡ a → Rose b c → Rose a c
rose_from a b c same rose = subst (λ (x : ℕ). Rose x c) same rose

-- a reading of one instruction ends early
early_stop : (s : Stop) (rest : List ℕ) (left : Option (List ℕ)) → StopsAt s rest left → IsEarly ⊥ s
early_stop (stop.Refused status) rest left h = inr h.0
early_stop stop.Ended rest left h = tt
early_stop stop.ReadFault rest left h = tt
early_stop stop.WriteFault rest left h = absurd h
early_stop stop.NoMemory rest left h = tt

pub early_heard : {A : Type 0} (expected : Expected) (a b : Option (List ℕ)) (unread rest : List ℕ) (s : Stop) (result : Result A Stop) → HasHeard expected a b unread rest (Err s) → result ≡ Err s → IfErr result (IsEarly ⊥)
early_heard {A = A} expected a b unread rest s result h e = subst (λ (r : Result A Stop). IfErr r (IsEarly ⊥)) (sym e) (early_stop s rest b h.heard.1)

early_any : (C : Type 0) (s : Stop) → IsEarly ⊥ s → IsEarly C s
early_any C (stop.Refused status) h = h
early_any C stop.Ended h = tt
early_any C stop.ReadFault h = tt
early_any C stop.WriteFault h = absurd h
early_any C stop.NoMemory h = tt

-- the same at an end that is handed on
pub early_on : {A : Type 0} (C : Type 0) (s : Stop) (result : Result A Stop) → IsEarly ⊥ s → result ≡ Err s → IfErr result (IsEarly C)
early_on {A = A} C s result h e = subst (λ (r : Result A Stop). IfErr r (IsEarly C)) (sym e) (early_any C s h)

pub early_end : {A : Type 0} (C : Type 0) (result : Result A Stop) → IfErr result (IsEarly ⊥) → IfErr result (IsEarly C)
early_end C (Ok a) h = tt
early_end C (Err s) h = early_any C s h

-- want of memory, and a failed write
pub early_short : {A : Type 0} (C : Type 0) (result : Result A Stop) → result ≡ Err stop.NoMemory → IfErr result (IsEarly C)
early_short {A = A} C result e = subst (λ (r : Result A Stop). IfErr r (IsEarly C)) (sym e) tt

pub early_unwritten : {A : Type 0} (C : Type 0) (result : Result A Stop) → C → result ≡ Err stop.WriteFault → IfErr result (IsEarly C)
early_unwritten {A = A} C result cause e = subst (λ (r : Result A Stop). IfErr r (IsEarly C)) (sym e) cause

-- a status of the door's isn't early
pub not_early : (C : Type 0) (s : Stop) (status : ℕ) → IsEarly C s → s ≡ stop.Refused status → (status ≡ 519 → ⊥) × (status ≡ 513 → ⊥)
not_early C s status h is =
    elim (subst (λ (x : Stop). IsEarly C x) is h) [
      | inl e ↦ ((λ f. absurd (omega arith)), (λ f. absurd (omega arith)))
      | inr e ↦ ((λ f. absurd (omega arith)), (λ f. absurd (omega arith)))
    ]

dial_status : (r : Refused) → status_of r ≡ 519 → r ≡ refused.Dial
dial_status refused.NoMemory e = absurd (omega arith)
dial_status refused.Busy e = absurd (omega arith)
dial_status refused.Absent e = absurd (omega arith)
dial_status refused.Conflict e = absurd (omega arith)
dial_status refused.Dial e = refl
dial_status refused.Closed e = absurd (omega arith)
dial_status refused.Worn e = absurd (omega arith)
dial_status refused.Forbidden e = absurd (omega arith)
dial_status refused.TooMany e = absurd (omega arith)

busy_status : (r : Refused) → status_of r ≡ 513 → r ≡ refused.Busy
busy_status refused.NoMemory e = absurd (omega arith)
busy_status refused.Busy e = refl
busy_status refused.Absent e = absurd (omega arith)
busy_status refused.Conflict e = absurd (omega arith)
busy_status refused.Dial e = absurd (omega arith)
busy_status refused.Closed e = absurd (omega arith)
busy_status refused.Worn e = absurd (omega arith)
busy_status refused.Forbidden e = absurd (omega arith)
busy_status refused.TooMany e = absurd (omega arith)

module _ {P : Type 0} where
  -- a write failed
  pub stopped_write : (s : Stop) → stopped_as {P = P} s ≡ greeted.WriteFault → s ≡ stop.WriteFault
  stopped_write (stop.Refused status) e = absurd (cc)
  stopped_write stop.Ended e = absurd (cc)
  stopped_write stop.ReadFault e = absurd (cc)
  stopped_write stop.WriteFault e = refl
  stopped_write stop.NoMemory e = absurd (cc)

  module _ (w v : Option (List ℕ)) where
    pub ready_not_refused : (told : Welcome P) (status : ℕ) (result : Greeted P) → IsToldReady told w v result → result ≡ greeted.Refused status → ⊥
    ready_not_refused told status result t e = subst (λ (r : Greeted P). IsToldReady told w v r) e t

    pub ready_fresh : (F : P → List ℕ → Type 0) (told : Welcome P) (result : Greeted P) → F told.place told.first → IsToldReady told w v result → IfReady result F
    ready_fresh F told (greeted.Ready welcome) h t = subst (λ (x : Welcome P). F x.place x.first) (sym t.0) h
    ready_fresh F told (greeted.Refused status) h t = tt
    ready_fresh F told greeted.Ended h t = tt
    ready_fresh F told greeted.ReadFault h t = tt
    ready_fresh F told greeted.WriteFault h t = tt
    ready_fresh F told greeted.NoMemory h t = tt

    pub error_fresh : (F : P → List ℕ → Type 0) (told : ℕ) (result : Greeted P) → IsToldError told w v result → IfReady result F
    error_fresh F told (greeted.Ready welcome) t = absurd t
    error_fresh F told (greeted.Refused status) t = tt
    error_fresh F told greeted.Ended t = tt
    error_fresh F told greeted.ReadFault t = tt
    error_fresh F told greeted.WriteFault t = tt
    error_fresh F told greeted.NoMemory t = tt

    -- the status that was told
    pub told_status : (told status : ℕ) (result : Greeted P) → IsToldError told w v result → result ≡ greeted.Refused status → told ≡ status
    told_status told status result t e = sym ((subst (λ (r : Greeted P). IsToldError told w v r) e t).0)

    pub error_read : (told : ℕ) (result : Greeted P) → IsToldError told w v result → result ≡ greeted.ReadFault → ⊥
    error_read told result t e = subst (λ (r : Greeted P). IsToldError told w v r) e t

    pub told_dial : (r : Refused) (told : ℕ) (result : Greeted P) → told ≡ status_of r → IsToldError told w v result → result ≡ greeted.Refused 519 → r ≡ refused.Dial
    told_dial r told result is t e = dial_status r (sym is ∙ told_status told 519 result t e)

    pub told_busy : (r : Refused) (told : ℕ) (result : Greeted P) → told ≡ status_of r → IsToldError told w v result → result ≡ greeted.Refused 513 → r ≡ refused.Busy
    told_busy r told result is t e = busy_status r (sym is ∙ told_status told 513 result t e)

    pub served_read : (May : Request → Refused → Type 0) (Named : Request → List ℕ → Type 0) (Gives : Request → Welcome P → Type 0) (request : Request) (a b : Option (List Request)) (result : Greeted P) → IsServed May Named Gives request w v a b result → result ≡ greeted.ReadFault → ⊥
    served_read May Named Gives request a b result t e = subst (λ (r : Greeted P). IsServed May Named Gives request w v a b r) e t
