-- What the steps of a read of a tunnel come to.
use Rattle.std.proofs.Common.{◌≡◌, inl, inr, ℕ, List, ◌++◌, length, Bool, true, false, refl, ap, sym, ◌∙◌, subst, append-nil}
use Rattle.std.specs.Prelude.{Option, Some, None, IfSome, is_some, Result, Ok, Err, not, ◌&&◌, ◌||◌, ◌==◌, nat_lt, if◌then◌else◌}
use Rattle.gate_model.specs.declared.read_answer.ReadAnswer.TheVariants.{Ended as read_ended, Empty, Hold}
use Rattle.gate_model.specs.declared.read_refusal.ReadRefusal.TheVariants.{NoViewer as read_no_viewer, Worn as read_worn}
use Rattle.gate_model.specs.declared.instr.Instr.{Instr}
use Rattle.gate_model.specs.session.Delivered.{ended, position}
use Rattle.gate_model.specs.session.History.{History, is_closed, is_full, newest}
use Rattle.gate_model.specs.session.Refusals.{read_stop}
use Rattle.gate_model.specs.session.Rights.{is_live}
use Rattle.gate_model.specs.session.Waiting.{waiting}
use Rattle.gate_model.specs.Limits.{most_waiting}
use Rattle.id_table.specs.Maps.{Changed, IsLent, Same, Shelved, Told, had}
use Rattle.shared_desk.specs.Members.{Stays, ViewerState}
use Rattle.http_tunnel.specs.Reads.{HasRead, TunnelCause, mark_of}
use Rattle.http_tunnel.specs.Tunnels.{AreHome, GivesReader, HasBegun, HasEnded, HasEndedOf, HasTaken, HasTakenFrom, IsAnswered, IsHome, IsReadOf, ReadOf, RefusedCause, answer_with, is_end, kept_with, with_reader, without_reader}
use Rattle.http_tunnel.specs.declared.read.Left.{Left}
use Rattle.http_tunnel.specs.declared.read.Lent.{Lent}
use Rattle.http_tunnel.specs.declared.read.Taken.{Taken}
use Rattle.http_tunnel.specs.declared.read.Taken.TheVariants as taken
use Rattle.http_tunnel.specs.declared.reading.TunnelEnd.{TunnelEnd}
use Rattle.http_tunnel.specs.declared.reading.TunnelRefusal.{TunnelRefusal}
use Rattle.http_tunnel.specs.declared.reading.TunnelRefusal.TheVariants.{NoViewer, Worn, NoMemory}
use Rattle.http_front.specs.declared.refusal.Refusal.{Refusal}
use Rattle.http_front.specs.declared.refusal.Refusal.TheVariants.{NotFound}
use Rattle.http_tunnel.specs.declared.tunnel.Tunnel.{Tunnel}
use Rattle.shared_desk.proofs.Lasting.{mapped_read}
use Rattle.http_tunnel.proofs.Looks.{chain, stops_after}
use Rattle.http_tunnel.proofs.Shelves.{Lends, after_told, all_changed, all_same, changed_after, changed_none, changed_twice, same_refl, same_trans, some_inj, told_as, told_none, told_on, told_with}

-- ---- why it was refused

away_is : (away over none held full : Bool) (m n : ℕ) → chain away over none held full m n ≡ Some (Err read_no_viewer) → away ≡ true
away_is true over none held full m n e = refl
away_is false true none held full m n e = absurd (let z : Some (Ok read_ended) ≡ Some (Err read_no_viewer) = e in cc)
away_is false false true held full m n e = absurd (let z : Some (Ok Empty) ≡ Some (Err read_no_viewer) = e in cc)
away_is false false false true full m n e = absurd (let z : Some (Ok (Hold m)) ≡ Some (Err read_no_viewer) = e in cc)
away_is false false false false true m n e = absurd (let z : Some (Err (read_worn n)) ≡ Some (Err read_no_viewer) = e in cc)
away_is false false false false false m n e = absurd (let z : None ≡ Some (Err read_no_viewer) = e in cc)

full_is : (away over none held full : Bool) (m n k : ℕ) → chain away over none held full m n ≡ Some (Err (read_worn k)) → full ≡ true
full_is true over none held full m n k e = absurd (let z : Some (Err read_no_viewer) ≡ Some (Err (read_worn k)) = e in cc)
full_is false true none held full m n k e = absurd (let z : Some (Ok read_ended) ≡ Some (Err (read_worn k)) = e in cc)
full_is false false true held full m n k e = absurd (let z : Some (Ok Empty) ≡ Some (Err (read_worn k)) = e in cc)
full_is false false false true full m n k e = absurd (let z : Some (Ok (Hold m)) ≡ Some (Err (read_worn k)) = e in cc)
full_is false false false false true m n k e = refl
full_is false false false false false m n k e = absurd (let z : None ≡ Some (Err (read_worn k)) = e in cc)

-- .. of the viewer's read after the history
away_after : (h : History) (viewer : ℕ) → stops_after h viewer ≡ Some (Err read_no_viewer) → not (is_live h viewer) ≡ true
away_after h viewer e = away_is (not (is_live h viewer)) (ended h viewer) (not (is_closed h) && position h viewer == newest h) (not (is_closed h) && nat_lt most_waiting (waiting h viewer)) (not (is_closed h) && is_full h) (waiting h viewer) (length h) e

full_after : (h : History) (viewer k : ℕ) → stops_after h viewer ≡ Some (Err (read_worn k)) → (not (is_closed h) && is_full h) ≡ true
full_after h viewer k e = full_is (not (is_live h viewer)) (ended h viewer) (not (is_closed h) && position h viewer == newest h) (not (is_closed h) && nat_lt most_waiting (waiting h viewer)) (not (is_closed h) && is_full h) (waiting h viewer) (length h) k e

not_true : (b : Bool) → not b ≡ true → b ≡ false
not_true false e = refl
not_true true e = absurd (let z : false ≡ true = e in cc)

and_right : (a b : Bool) → (a && b) ≡ true → b ≡ true
and_right true b e = e
and_right false b e = absurd (let z : false ≡ true = e in cc)

cause_of : (end : Result TunnelEnd TunnelRefusal) (viewer : ℕ) (seen : History) (more : List Instr) → TunnelCause end viewer seen more → RefusedCause end viewer seen more
cause_of (Ok end) viewer seen more c = tt
cause_of (Err NoViewer) viewer seen more c = not_true (is_live seen viewer) (away_after seen viewer (mapped_read (read_stop seen viewer) (Err read_no_viewer) c))
cause_of (Err (Worn n)) viewer seen more c = and_right (not (is_closed seen)) (is_full seen) (full_after seen viewer n (mapped_read (read_stop seen viewer) (Err (read_worn n)) c))
cause_of (Err NoMemory) viewer seen more c = c

-- ---- its beginning

-- looks that found another read there, of which there is none
pub record StillHome (a b : Option (Shelved Tunnel)) : Type 0 where
  pub same : Told a b Same
  pub home : AreHome b

pub still_none : (a : Option (Shelved Tunnel)) → AreHome a → StillHome a a
still_none a h = record { same = told_none Same a a refl same_refl; home = h }

module _ (id : List ℕ) where
  pub home_not_lent : (a : Option (Shelved Tunnel)) → AreHome a → IfSome a (λ m. ¬ (IsLent id m))
  home_not_lent None h = tt
  home_not_lent (Some m) h = λ lent. subst IsHome lent (h id)

  pub took_from : (t u : Tunnel) (lent : Lent) (a b : Option (Shelved Tunnel)) → Told a b (Changed id (Some (Some u))) → GivesReader t u (Some lent) → Told a b (HasTakenFrom id t (taken.Lent lent))
  took_from t u lent a b back g = told_as (Changed id (Some (Some u))) (HasTakenFrom id t (taken.Lent lent)) a b back (λ m n is c. (g.0, g.1, subst (λ (x : Tunnel). Changed id (Some (Some x)) m n) g.2 c))

  pub took_none : (t u : Tunnel) (a b : Option (Shelved Tunnel)) → Told a b (Changed id (Some (Some u))) → GivesReader t u None → Told a b (HasTakenFrom id t taken.Away)
  took_none t u a b back g = told_as (Changed id (Some (Some u))) (HasTakenFrom id t taken.Away) a b back (λ m n is c. (g.0, subst (λ (x : Tunnel). Changed id (Some (Some x)) m n) g.1 c))

  pub was_absent : (a b : Option (Shelved Tunnel)) → Told a b (Lends id None) → Told a b (λ m n. HasTaken id m n taken.Absent)
  was_absent a b lend = told_as (Lends id None) (λ m n. HasTaken id m n taken.Absent) a b lend (λ m n is p. (p.0, changed_none id None m n p.0 p.1))

  pub took_out : (t : Tunnel) (a b c : Option (Shelved Tunnel)) (r : Taken) → AreHome a → Told a b (Lends id (Some t)) → Told b c (HasTakenFrom id t r) → Told a c (λ m n. HasTaken id m n r)
  took_out t a b c taken.Absent h lend then_ = told_on (Lends id (Some t)) (HasTakenFrom id t taken.Absent) (λ m n. HasTaken id m n taken.Absent) a b c lend then_ (λ m k n is p q. absurd q)
  took_out t a b c taken.Away h lend then_ = told_on (Lends id (Some t)) (HasTakenFrom id t taken.Away) (λ m n. HasTaken id m n taken.Away) a b c lend then_ (λ m k n is p q.
      let home : IsHome (m id) = subst AreHome is h id in
      let there : is_some t.reader ≡ true = (subst IsHome p.0 home).0 in
      let z : false ≡ true = sym (ap is_some q.0) ∙ there in
      absurd (let w : false ≡ true = z in cc))
  took_out t a b c (taken.Lent lent) h lend then_ = told_on (Lends id (Some t)) (HasTakenFrom id t (taken.Lent lent)) (λ m n. HasTaken id m n (taken.Lent lent)) a b c lend then_
      (λ m k n is p q. (t, p.0, q.0, q.1, changed_twice id (Some None) (Some (Some (without_reader t))) m k n p.1 q.2))

  pub still_on : (a b c : Option (Shelved Tunnel)) → StillHome a b → Told b c (λ m n. HasTaken id m n taken.Away) → StillHome a c
  still_on a b c s away = record {
    same = told_on Same (λ m n. HasTaken id m n taken.Away) Same a b c s.same away (λ m k n is p q. absurd q);
    home = after_told (λ m n. HasTaken id m n taken.Away) (λ m. (i : List ℕ) → IsHome (m i)) (λ m. (i : List ℕ) → IsHome (m i)) b c away s.home (λ m n h q. absurd q);
  }

  pub begun_none : (a b c : Option (Shelved Tunnel)) → StillHome a b → Told b c (λ m n. HasTaken id m n taken.Absent) → Told a c (λ m n. HasBegun id m n None)
  begun_none a b c s absent = told_on Same (λ m n. HasTaken id m n taken.Absent) (λ m n. HasBegun id m n None) a b c s.same absent (λ m k n is p q. (sym (p id) ∙ q.0, same_trans m k n p q.1))

  pub begun : (lent : Lent) (a b c : Option (Shelved Tunnel)) → StillHome a b → Told b c (λ m n. HasTaken id m n (taken.Lent lent)) → Told a c (λ m n. HasBegun id m n (Some lent))
  begun lent a b c s took = told_on Same (λ m n. HasTaken id m n (taken.Lent lent)) (λ m n. HasBegun id m n (Some lent)) a b c s.same took
      (λ m k n is p q. (q.0, sym (p id) ∙ q.1, q.2, q.3, changed_after id (Some (Some (without_reader q.0))) m k n p q.4))

  -- ---- its end

  pub there_not_lent : (a : Option (Shelved Tunnel)) → IfSome a (λ m. (t : Tunnel) × (m id ≡ Some (Some t))) → IfSome a (λ m. ¬ (IsLent id m))
  there_not_lent None h = tt
  there_not_lent (Some m) h = λ lent. absurd (let z : Some (Some h.0) ≡ Some None = sym h.1 ∙ lent in cc)

  pub put_there : (t : Tunnel) (a b : Option (Shelved Tunnel)) → Told a b (Changed id (Some (Some t))) → IfSome b (λ m. (u : Tunnel) × (m id ≡ Some (Some u)))
  put_there t None None c = tt
  put_there t None (Some n) c = absurd c
  put_there t (Some m) None c = absurd c
  put_there t (Some m) (Some n) c = (t, c.0)

  pub begun_there : (lent : Lent) (a b : Option (Shelved Tunnel)) → Told a b (λ m n. HasBegun id m n (Some lent)) → IfSome b (λ m. (u : Tunnel) × (m id ≡ Some (Some u)))
  begun_there lent None None c = tt
  begun_there lent None (Some n) c = absurd c
  begun_there lent (Some m) None c = absurd c
  begun_there lent (Some m) (Some n) c = (without_reader c.0, c.4.0)

  pub removed_some : (t : Tunnel) (a b : Option (Shelved Tunnel)) → Told a b (λ m n. (m id ≡ had (Some t)) × Changed id None m n) → Told a b (λ m n. (true ≡ true) × Changed id None m n)
  removed_some t a b r = told_as (λ m n. (m id ≡ had (Some t)) × Changed id None m n) (λ m n. (true ≡ true) × Changed id None m n) a b r (λ m n is p. (refl, p.1))

  pub removed_none : (a b : Option (Shelved Tunnel)) (R : Shelved Tunnel → Shelved Tunnel → Type 0) (x : Option (Option Tunnel)) → IfSome a (λ m. (t : Tunnel) × (m id ≡ Some (Some t))) → Told a b (λ m n. (m id ≡ None) × Changed id x m n) → Told a b R
  removed_none a b R x there r = told_with (λ m n. (m id ≡ None) × Changed id x m n) R (λ m. (t : Tunnel) × (m id ≡ Some (Some t))) a b r there (λ m n h p. absurd (let z : Some (Some h.0) ≡ None = sym h.1 ∙ p.0 in cc))

  module _ (t : Tunnel) (reader : ViewerState) (left : Left) where
    pub ended_gone : (back : Bool) (a b c : Option (Shelved Tunnel)) → (left.ended || t.gone) ≡ true → Told a b (Changed id (Some (Some t))) → Told b c (λ m n. (back ≡ true) × Changed id None m n) → Told a c (HasEndedOf id t reader left back)
    ended_gone back a b c goes put gone = told_on (Changed id (Some (Some t))) (λ m n. (back ≡ true) × Changed id None m n) (HasEndedOf id t reader left back) a b c put gone
        (λ m k n is p q. (q.0 ∙ sym goes, subst (λ (x : Bool). Changed id (if x then None else Some (Some (with_reader t reader left.kept))) m n) (sym q.0) (changed_twice id (Some (Some t)) None m k n p q.1)))

    pub ended_there : (a b : Option (Shelved Tunnel)) → (left.ended || t.gone) ≡ false → Told a b (Changed id (Some (Some (with_reader t reader left.kept)))) → Told a b (HasEndedOf id t reader left false)
    ended_there a b stays put = told_as (Changed id (Some (Some (with_reader t reader left.kept)))) (HasEndedOf id t reader left false) a b put (λ m n is p. (sym stays, p))

    pub ended_lent : (back : Bool) (a b c : Option (Shelved Tunnel)) → Told a b (Lends id (Some t)) → Told b c (HasEndedOf id t reader left back) → Told a c (HasEnded id reader left back)
    ended_lent back a b c lend end = told_on (Lends id (Some t)) (HasEndedOf id t reader left back) (HasEnded id reader left back) a b c lend end (λ m k n is p q u there.
        subst (λ (x : Tunnel). HasEndedOf id x reader left back m n) (some_inj t u (sym p.0 ∙ there)) (q.0, changed_twice id (Some None) (if back then None else Some (Some (with_reader t reader left.kept))) m k n p.1 q.1))

pub answered_as : (kept text all : List ℕ) (end : Result TunnelEnd TunnelRefusal) (result : Result (List ℕ) Refusal) (left : Left) → all ≡ kept ++ (text ++ mark_of end) → result ≡ answer_with all end → left.kept ≡ kept_with all end → left.ended ≡ is_end end → IsAnswered kept text end result left
answered_as kept text all end result left is answer keeps last = record { answered = answer ∙ ap (λ (bs : List ℕ). answer_with bs end) is; kept_now = keeps ∙ (ap (λ (bs : List ℕ). kept_with bs end) is ∙ by end); ended = last }
  where
    by : (e : Result TunnelEnd TunnelRefusal) → kept_with (kept ++ (text ++ mark_of e)) e ≡ kept_with (kept ++ text) e
    by (Ok end) = refl
    by (Err refused) = ap (λ (bs : List ℕ). kept ++ bs) (append-nil text)

-- the two facts that a request keeps
first_told : (P : Shelved Tunnel → Shelved Tunnel → Type 0) (a c : Option (Shelved Tunnel)) → Told a c (λ m n. P m n × ((i : List ℕ) → IsHome (n i))) → Told a c P
first_told P a c t = told_as (λ m n. P m n × ((i : List ℕ) → IsHome (n i))) P a c t (λ m n is p. p.0)

home_told : (P : Shelved Tunnel → Shelved Tunnel → Type 0) (a c : Option (Shelved Tunnel)) → Told a c (λ m n. P m n × ((i : List ℕ) → IsHome (n i))) → AreHome c
home_told P None None t = tt
home_told P None (Some n) t = absurd t
home_told P (Some m) None t = absurd t
home_told P (Some m) (Some n) t = t.1

pub kept_both : (P : Shelved Tunnel → Shelved Tunnel → Type 0) (a c : Option (Shelved Tunnel)) → Told a c (λ m n. P m n × ((i : List ℕ) → IsHome (n i))) → Told a c P × AreHome c
kept_both P a c t = (first_told P a c t, home_told P a c t)

-- ---- the whole read

module _ (id : List ℕ) (lent : Lent) (now : ViewerState) (left : Left) (text : List ℕ) (end : Result TunnelEnd TunnelRefusal) (result : Result (List ℕ) Refusal) where
  read_to : (back : Bool) (m k n : Shelved Tunnel) → ((i : List ℕ) → IsHome (m i)) → HasBegun id m k (Some lent) → HasEnded id now left back k n → Stays lent.reader now → HasRead lent.reader.viewer lent.reader.view now.view text end → IsAnswered lent.kept text end result left
      → IsReadOf id back result m n × ((i : List ℕ) → IsHome (n i))
  read_to back m k n home b e same_pass did answer =
      let t = b.0 in
      let k_id : k id ≡ Some (Some (without_reader t)) = b.4.0 in
      let done = e (without_reader t) k_id in
      let stays : t.gone ≡ false = (subst IsHome b.1 (home id)).1 in
      let last : back ≡ is_end end = done.0 ∙ (ap (λ (x : Bool). left.ended || x) stays ∙ (or_false left.ended ∙ answer.ended)) in
      let kept : left.kept ≡ kept_with (t.kept ++ text) end = answer.kept_now ∙ ap (λ (bs : List ℕ). kept_with (bs ++ text) end) (sym b.3) in
      let changed : Changed id (if back then None else Some (Some (with_reader t now (kept_with (t.kept ++ text) end)))) m n =
      changed_twice id (Some (Some (without_reader t))) (if back then None else Some (Some (with_reader t now (kept_with (t.kept ++ text) end)))) m k n b.4 (subst (λ (bs : List ℕ). Changed id (if back then None else Some (Some (with_reader t now bs))) k n) kept done.1) in (
        record {
          tunnel = t;
          there = b.1;
          reader = lent.reader;
          had = b.2;
          now = now;
          stays = same_pass;
          text = text;
          end = end;
          read = did;
          answered = answer.answered ∙ ap (λ (bs : List ℕ). answer_with (bs ++ (text ++ mark_of end)) end) (sym b.3);
          cause = cause_of end lent.reader.viewer now.view.seen did.more did.cause;
          removed = last;
          left = changed;
        },
        all_changed IsHome id (if back then None else Some (Some (with_reader t now (kept_with (t.kept ++ text) end)))) m n home (stays_home back stays) changed,
      )
    where
      or_false : (b : Bool) → (b || false) ≡ b
      or_false true = refl
      or_false false = refl

      stays_home : (x : Bool) → b.0.gone ≡ false → IsHome (if x then None else Some (Some (with_reader b.0 now (kept_with (b.0.kept ++ text) end))))
      stays_home true g = tt
      stays_home false g = (refl, g)

  pub read_done : (back : Bool) (a b c : Option (Shelved Tunnel)) → AreHome a → Told a b (λ m n. HasBegun id m n (Some lent)) → Told b c (HasEnded id now left back) → Stays lent.reader now → HasRead lent.reader.viewer lent.reader.view now.view text end → IsAnswered lent.kept text end result left
      → Told a c (ReadOf id back result) × AreHome c
  read_done back a b c home begin ends same_pass did answer = kept_both (ReadOf id back result) a c (told_on (λ m n. HasBegun id m n (Some lent)) (HasEnded id now left back) (λ m n. ReadOf id back result m n × ((i : List ℕ) → IsHome (n i))) a b c begin ends
      (λ m k n is p q. let r = read_to back m k n (subst AreHome is home) p q same_pass did answer in (inr r.0, r.1)))

pub read_absent : (id : List ℕ) (a b : Option (Shelved Tunnel)) → AreHome a → Told a b (λ m n. HasBegun id m n None) → Told a b (ReadOf id false (Err NotFound)) × AreHome b
read_absent id a b home t = kept_both (ReadOf id false (Err NotFound)) a b (told_with (λ m n. HasBegun id m n None) (λ m n. ReadOf id false (Err NotFound) m n × ((i : List ℕ) → IsHome (n i))) (λ m. (i : List ℕ) → IsHome (m i)) a b t home (λ m n h p. (inl (p.0, refl, refl, p.1), all_same IsHome m n h p.1)))
