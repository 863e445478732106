-- What one read of a viewer came to, by the history that it found.
use Rattle.std.proofs.Common.{◌≡◌, ◌⊎◌, inl, inr, ℕ, List, [], ◌∷◌, ◌++◌, length, Bool, true, false, true≢false, refl, ap, sym, ◌∙◌, subst}
use Rattle.std.specs.Prelude.{Option, Some, None, Contains, Result, Ok, Err, not, ◌&&◌, ◌==◌, nat_lt, if◌then◌else◌}
use Rattle.gate_model.specs.declared.answer.Answer.TheVariants.{Read as was_read}
use Rattle.gate_model.specs.declared.entry.Entry.{Entry}
use Rattle.gate_model.specs.declared.entry.Entry.TheVariants.{Read, Leave}
use Rattle.gate_model.specs.declared.event.Event.TheVariants.{Read as read}
use Rattle.gate_model.specs.declared.how.How.{How}
use Rattle.gate_model.specs.declared.how.How.TheVariants.{Suffix, Fresh as Picture}
use Rattle.gate_model.specs.declared.instr.Instr.{Instr}
use Rattle.gate_model.specs.declared.read_answer.ReadAnswer.{ReadAnswer}
use Rattle.gate_model.specs.declared.read_answer.ReadAnswer.TheVariants.{Frames, Fresh, Ended as read_ended, Empty, Hold}
use Rattle.gate_model.specs.declared.read_refusal.ReadRefusal.{ReadRefusal}
use Rattle.gate_model.specs.declared.read_refusal.ReadRefusal.TheVariants.{NoViewer as read_no_viewer, Worn as read_worn, NoMemory as read_no_memory}
use Rattle.gate_model.specs.session.Calls.{Step, stop_of, updated_as}
use Rattle.gate_model.specs.session.Delivered.{closed_by, ended, farewell_to, is_some_list, position}
use Rattle.gate_model.specs.session.History.{History, is_closed, is_full, newest}
use Rattle.gate_model.specs.session.Refusals.{first_of, only_if, read_stop}
use Rattle.gate_model.specs.session.Rights.{is_live}
use Rattle.gate_model.specs.session.Waiting.{waiting}
use Rattle.gate_model.specs.Limits.{most_waiting}
use Rattle.gate_model.specs.Sequences.{IsLater}
use Rattle.turn_lock.proofs.Elements.{later_trans}
use Rattle.turn_lock.specs.declared.view.View.{View}
use Rattle.desk_core.specs.Calls.{read_answer}
use Rattle.shared_desk.specs.Called.{Answers, Gives, Turned}
use Rattle.shared_desk.proofs.Lasting.{ReadCause, ended_as, mapped_read, read_inj}
use Rattle.ws_tunnel.specs.Answered.{IsNothing, IsReadAfter}
use Rattle.ws_tunnel.specs.Runs.{IsRefusal, WsCause, over_of}
use Rattle.ws_tunnel.specs.declared.ends.WsEnd.{WsEnd}
use Rattle.ws_tunnel.specs.declared.ends.WsEnd.TheVariants.{Left, Worn, NoMemory}

-- ---- a read that adds nothing

same_some : {A : Type 0} (x y : A) → Some x ≡ Some y → x ≡ y
same_some x y e = cc

same_ok : (r : Result Bool WsEnd) (x y : Bool) → r ≡ Ok x → r ≡ Ok y → x ≡ y
same_ok r x y a b = let z : Ok x ≡ Ok y = sym a ∙ b in cc

abbrev chain : (away over none held full : Bool) (m n : ℕ) → Option (Result ReadAnswer ReadRefusal)
chain away over none held full m n = first_of (only_if away (Err read_no_viewer) ∷ only_if over (Ok read_ended) ∷ only_if none (Ok Empty) ∷ only_if held (Ok (Hold m)) ∷ only_if full (Err (read_worn n)) ∷ [])

-- what it says of the session, where its viewer wasn't at its end
abbrev Says : Bool → Result ReadAnswer ReadRefusal → Type 0
Says closed (Ok (Frames n stamp over)) = ⊥
Says closed (Ok (Fresh stamp over)) = ⊥
Says closed (Ok read_ended) = ⊥
Says closed (Ok Empty) = closed ≡ false
Says closed (Ok (Hold n)) = closed ≡ false
Says closed (Err refused) = Unit {0}

says : (away over none held full closed : Bool) (m n : ℕ) (r : Result ReadAnswer ReadRefusal) → over ≡ false → (none ≡ true → closed ≡ false) → (held ≡ true → closed ≡ false) → chain away over none held full m n ≡ Some r → Says closed r
says true over none held full closed m n r going empty holds e = subst (λ (x : Result ReadAnswer ReadRefusal). Says closed x) (same_some (Err read_no_viewer) r e) tt
says false true none held full closed m n r going empty holds e = absurd (true≢false going)
says false false true held full closed m n r going empty holds e = subst (λ (x : Result ReadAnswer ReadRefusal). Says closed x) (same_some (Ok Empty) r e) (empty refl)
says false false false true full closed m n r going empty holds e = subst (λ (x : Result ReadAnswer ReadRefusal). Says closed x) (same_some (Ok (Hold m)) r e) (holds refl)
says false false false false true closed m n r going empty holds e = subst (λ (x : Result ReadAnswer ReadRefusal). Says closed x) (same_some (Err (read_worn n)) r e) tt
says false false false false false closed m n r going empty holds e = absurd (let z : None ≡ Some r = e in cc)

open_where : (a b : Bool) → (not a && b) ≡ true → a ≡ false
open_where true b e = absurd (true≢false (sym e))
open_where false b e = refl

says_after : (g : History) (viewer : ℕ) (r : Result ReadAnswer ReadRefusal) → ended g viewer ≡ false → read_stop g viewer ≡ Some r → Says (is_closed g) r
says_after g viewer r going e =
    says (not (is_live g viewer)) (ended g viewer) (not (is_closed g) && position g viewer == newest g) (not (is_closed g) && nat_lt most_waiting (waiting g viewer)) (not (is_closed g) && is_full g) (is_closed g) (waiting g viewer) (length g) r going
    (λ t. open_where (is_closed g) (position g viewer == newest g) t) (λ t. open_where (is_closed g) (nat_lt most_waiting (waiting g viewer)) t) e

-- .. so its answer gives nothing and the session is open
nothing_in : (answer : ReadAnswer) (closed over : Bool) → Says closed (Ok answer) → over_of (Ok answer) ≡ Ok over → IsNothing answer × (closed ≡ false) × (over ≡ false)
nothing_in (Frames n stamp c) closed over s e = absurd s
nothing_in (Fresh stamp c) closed over s e = absurd s
nothing_in read_ended closed over s e = absurd s
nothing_in Empty closed over s e = (tt, s, sym (same_ok (over_of (Ok Empty)) false over refl e))
nothing_in (Hold n) closed over s e = (tt, s, sym (same_ok (over_of (Ok (Hold n))) false over refl e))

-- ---- a read that adds its entry

over_updated : (g : History) (viewer : ℕ) (how : How) → over_of (Ok (updated_as g viewer how)) ≡ Ok (is_closed g)
over_updated g viewer Suffix = refl
over_updated g viewer (Picture is) = refl

-- ---- a read that was answered

pub record ReadTold (viewer : ℕ) (found seen : History) (over : Bool) : Type 0 where
  pub read_after : IsReadAfter viewer found seen
  pub closes : is_closed found ≡ true → over ≡ true
  pub over_is : ended seen viewer ≡ over

told_by : (viewer : ℕ) (g seen : History) (answer : ReadAnswer) (over : Bool) (added : List Entry) → ended g viewer ≡ false → over_of (Ok answer) ≡ Ok over → Step g (read viewer) (was_read (Ok answer)) added → seen ≡ added ++ g → ReadTold viewer g seen over
told_by viewer g seen answer over [] going is s there =
    let k = nothing_in answer (is_closed g) over (says_after g viewer (Ok answer) going (mapped_read (read_stop g viewer) (Ok answer) s.1)) is in record {
      read_after = inl (answer, k.0, s);
      closes = λ c. absurd (true≢false (sym c ∙ k.1));
      over_is = ap (λ (h : History). ended h viewer) there ∙ (going ∙ sym k.2);
    }
told_by viewer g seen answer over (e ∷ []) going is s there =
    let a = s.1.1 in
    let now : seen ≡ Read viewer a.0 ∷ g = there ∙ ap (λ (x : Entry). x ∷ g) a.3 in
    let flag : over ≡ is_closed g = same_ok (over_of (Ok answer)) over (is_closed g) is (ap over_of (read_inj (Ok answer) (Ok (updated_as g viewer a.0)) a.2) ∙ over_updated g viewer a.0) in record {
      read_after = inr (a.0, ([], now));
      closes = λ c. flag ∙ c;
      over_is = ap (λ (h : History). ended h viewer) now ∙ (ended_as g viewer a.0 going ∙ sym flag);
    }
told_by viewer g seen answer over (e ∷ x ∷ es) going is s there = absurd s.1

told_ok : (viewer : ℕ) (v w : View Entry) (answer : ReadAnswer) (over : Bool) (before after : List ℕ) (t : Turned v w (Answers (read viewer) (Ok (was_read (Ok answer))) before after)) → ended t.before viewer ≡ false → over_of (Ok answer) ≡ Ok over → ReadTold viewer t.before w.seen over
told_ok viewer v w answer over before after t going is = told_by viewer t.before w.seen answer over t.added going is t.did_it.0 (ap (λ (x : View Entry). x.seen) t.after)

pub told : (viewer : ℕ) (v w : View Entry) (r : Result ReadAnswer ReadRefusal) (over : Bool) (before after : List ℕ) (t : Gives v (read viewer) (read_answer r) w before after) → ended t.before viewer ≡ false → over_of r ≡ Ok over → ReadTold viewer t.before w.seen over
told viewer v w (Ok (Frames n stamp closed)) over before after t going is = told_ok viewer v w (Frames n stamp closed) over before after t going is
told viewer v w (Ok (Fresh stamp closed)) over before after t going is = told_ok viewer v w (Fresh stamp closed) over before after t going is
told viewer v w (Ok read_ended) over before after t going is = told_ok viewer v w read_ended over before after t going is
told viewer v w (Ok Empty) over before after t going is = told_ok viewer v w Empty over before after t going is
told viewer v w (Ok (Hold n)) over before after t going is = told_ok viewer v w (Hold n) over before after t going is
told viewer v w (Err read_no_viewer) over before after t going is = absurd (let z : Err Left ≡ Ok over = is in cc)
told viewer v w (Err (read_worn n)) over before after t going is = absurd (let z : Err Worn ≡ Ok over = is in cc)
told viewer v w (Err read_no_memory) over before after t going is = absurd (let z : Err NoMemory ≡ Ok over = is in cc)

-- .. by want of memory, where nothing else stopped it
pub stopped_alone : (viewer : ℕ) (v w : View Entry) (r : Result ReadAnswer ReadRefusal) (before after : List ℕ) (t : Gives v (read viewer) (read_answer r) w before after) → over_of r ≡ Err NoMemory → stop_of t.before (read viewer) ≡ None
stopped_alone viewer v w (Ok (Frames n stamp closed)) before after t is = absurd (let z : Ok closed ≡ Err NoMemory = is in cc)
stopped_alone viewer v w (Ok (Fresh stamp closed)) before after t is = absurd (let z : Ok closed ≡ Err NoMemory = is in cc)
stopped_alone viewer v w (Ok read_ended) before after t is = absurd (let z : Ok true ≡ Err NoMemory = is in cc)
stopped_alone viewer v w (Ok Empty) before after t is = absurd (let z : Ok false ≡ Err NoMemory = is in cc)
stopped_alone viewer v w (Ok (Hold n)) before after t is = absurd (let z : Ok false ≡ Err NoMemory = is in cc)
stopped_alone viewer v w (Err read_no_viewer) before after t is = absurd (let z : Err Left ≡ Err NoMemory = is in cc)
stopped_alone viewer v w (Err (read_worn n)) before after t is = absurd (let z : Err Worn ≡ Err NoMemory = is in cc)
stopped_alone viewer v w (Err read_no_memory) before after t is = t.did_it.0

-- a read that was refused
same_end : (r : Result Bool WsEnd) (x y : WsEnd) → r ≡ Err x → r ≡ Err y → x ≡ y
same_end r x y a b = let z : Err x ≡ Err y = sym a ∙ b in cc

pub refused : (viewer : ℕ) (h : History) (r : Result ReadAnswer ReadRefusal) (end : WsEnd) → over_of r ≡ Err end → (is_live h viewer ≡ false → Contains h (Leave viewer)) → ReadCause r viewer h → IsRefusal end × WsCause end viewer h
refused viewer h (Ok (Frames n stamp closed)) end is left c = absurd (let z : Ok closed ≡ Err end = is in cc)
refused viewer h (Ok (Fresh stamp closed)) end is left c = absurd (let z : Ok closed ≡ Err end = is in cc)
refused viewer h (Ok read_ended) end is left c = absurd (let z : Ok true ≡ Err end = is in cc)
refused viewer h (Ok Empty) end is left c = absurd (let z : Ok false ≡ Err end = is in cc)
refused viewer h (Ok (Hold n)) end is left c = absurd (let z : Ok false ≡ Err end = is in cc)
refused viewer h (Err read_no_viewer) end is left c = subst (λ (x : WsEnd). IsRefusal x × WsCause x viewer h) (same_end (over_of (Err read_no_viewer)) Left end refl is) (tt, left c)
refused viewer h (Err (read_worn n)) end is left c = subst (λ (x : WsEnd). IsRefusal x × WsCause x viewer h) (same_end (over_of (Err (read_worn n))) Worn end refl is) (tt, c)
refused viewer h (Err read_no_memory) end is left c = subst (λ (x : WsEnd). IsRefusal x × WsCause x viewer h) (same_end (over_of (Err read_no_memory)) NoMemory end refl is) (tt, tt)

-- ---- what stays later

pub read_later : (viewer : ℕ) (found seen later : History) → IsLater seen later → IsReadAfter viewer found seen → IsReadAfter viewer found later
read_later viewer found seen later l (inl k) = inl k
read_later viewer found seen later l (inr k) = inr (k.0, later_trans (Read viewer k.0 ∷ found) seen later k.1 l)

some_first : (xs ys : List Instr) → is_some_list xs ≡ true → is_some_list (xs ++ ys) ≡ true
some_first [] ys some = absurd (true≢false (sym some))
some_first (x ∷ xs) ys some = refl

ended_more : (viewer : ℕ) (more g : History) → ended g viewer ≡ true → ended (more ++ g) viewer ≡ true
ended_more viewer [] g e = e
ended_more viewer (x ∷ more) g e = some_first (farewell_to (more ++ g) viewer) (closed_by (more ++ g) viewer x) (ended_more viewer more g e)

pub ended_later : (viewer : ℕ) (g h : History) → IsLater g h → ended g viewer ≡ true → ended h viewer ≡ true
ended_later viewer g h l e = ap (λ (x : History). ended x viewer) l.1 ∙ ended_more viewer l.0 g e
