-- A session that its owner has joined, and the host that shares it.
use Rattle.std.proofs.Common.{◌≡◌, ℕ, ◌+◌, List, [], ◌∷◌, ◌++◌, inr, Option, Some, None, refl, ap, sym, ◌∙◌, subst}
use Rattle.std.specs.Prelude.{Ok, Err}
use Rattle.std.specs.Option.{option_map}
use Rattle.gate_model.specs.session.Calls.{Step}
use Rattle.gate_model.specs.session.Delivered.{delivered}
use Rattle.gate_model.specs.session.History.{History, joined, newest, share_mode}
use Rattle.gate_model.specs.session.Refusals.{join_refusal}
use Rattle.gate_model.specs.session.Roles.{grant_of}
use Rattle.gate_model.specs.session.Runs.{handed_out}
use Rattle.gate_model.specs.session.Steps.{StartStep}
use Rattle.gate_model.specs.text.Text.{texts}
use Rattle.gate_model.specs.declared.answer.Answer.TheVariants.{Join as joined_as}
use Rattle.gate_model.specs.declared.entry.Entry.{Entry}
use Rattle.gate_model.specs.declared.entry.Entry.TheVariants.{Join, Start}
use Rattle.gate_model.specs.declared.event.Event.TheVariants.{Join as join}
use Rattle.gate_model.specs.declared.instr.Instr.{Instr}
use Rattle.gate_model.specs.declared.join_refusal.JoinRefusal.{JoinRefusal}
use Rattle.gate_model.specs.declared.joined.Joined.{Joined}
use Rattle.gate_model.specs.declared.faces.Faces.{Faces}
use Rattle.gate_model.specs.declared.setup.Setup.{Setup}
use Rattle.gate_model.specs.declared.sharing.Asked.{Asked}
use Rattle.gate_model.specs.declared.sharing.Asked.TheVariants.{Owner}
use Rattle.gate_model.specs.declared.sharing.Role.{Role}
use Rattle.gate_model.specs.declared.sharing.Role.TheVariants.{Control}
use Rattle.guac_handshake.specs.declared.ask.Ask.{Ask}
use Rattle.desk_core.specs.Calls.{Ended, Opened, join_answer}
use Rattle.desk_core.specs.Desk.{DeskState, Stands}
use Rattle.turn_lock.specs.declared.view.View.{View}
use Rattle.shared_desk.specs.Hosts.{HasBegun, HostState, IsFresh, IsOpening}
use Rattle.shared_desk.specs.declared.place.Place.{Place}
use Rattle.service_door.specs.Begun.{HasOpened, HasSetup, most_entries}

-- ---- a join that is answered with a viewer

not_joined : (o : Option JoinRefusal) (j : Joined) → option_map (λ r. joined_as (Err r)) o ≡ Some (joined_as (Ok j)) → ⊥
not_joined None j e = let w : None ≡ Some (joined_as (Ok j)) = e in cc
not_joined (Some r) j e = let w : Some (joined_as (Err r)) ≡ Some (joined_as (Ok j)) = e in cc

none_of : (o : Option JoinRefusal) → option_map (λ r. joined_as (Err r)) o ≡ None → o ≡ None
none_of None e = refl
none_of (Some r) e = absurd (let w : Some (joined_as (Err r)) ≡ None = e in cc)

-- what it adds
pub record JoinAdds (g : History) (asked : Asked) (j : Joined) (added : List Entry) : Type 0 where
  pub first : List Instr
  pub adds : added ≡ Join j.viewer j.role first ∷ []
  pub next : j.viewer ≡ joined g + 1
  pub granted : grant_of (share_mode g) asked ≡ Ok j.role
  pub unstopped : join_refusal g asked ≡ None

pub join_adds : (g : History) (asked : Asked) (j : Joined) (added : List Entry) → Step g (join asked) (joined_as (Ok j)) added → JoinAdds g asked j added
join_adds g asked j [] s = absurd (not_joined (join_refusal g asked) j s.1)
join_adds g asked j (e ∷ []) s =
    let is : j ≡ record { viewer = joined g + 1; role = s.1.1.0; stamp = newest g } = let w = s.1.1.4 in cc in
    record {
      first = s.1.1.1;
      adds = rw is (ap (λ (x : Entry). x ∷ []) s.1.1.5);
      next = ap (λ (x : Joined). x.viewer) is;
      granted = s.1.1.2 ∙ ap (λ (r : Role). Ok r) (sym (ap (λ (x : Joined). x.role) is));
      unstopped = none_of (join_refusal g asked) s.1.0;
    }
join_adds g asked j (e ∷ f ∷ es) s = absurd s.1

-- ---- the owner's join

-- a Start as it is set up, and the Join of viewer 1, who may type; the text is what that gave it
pub record IsOwned (setup : Setup) (h : History) (text : List ℕ) : Type 0 where
  pub stamp : ℕ
  pub frame : List Instr
  pub first : List Instr
  pub seen : h ≡ Join 1 Control first ∷ Start setup.cols setup.rows setup.mode setup.term setup.faces setup.entries stamp frame ∷ []
  pub gave : text ≡ texts (delivered h 1)

abbrev starts : (setup : Setup) (stamp : ℕ) (frame : List Instr) → Entry
starts setup stamp frame = Start setup.cols setup.rows setup.mode setup.term setup.faces setup.entries stamp frame

may_type : (mode : _) (role : Role) → grant_of mode Owner ≡ Ok role → role ≡ Control
may_type mode role e = let w : Ok Control ≡ Ok role = e in cc

owned_from : (setup : Setup) (stamp : ℕ) (frame : List Instr) (j : Joined) (added : List Entry) (h : History) (text : List ℕ) → JoinAdds (starts setup stamp frame ∷ []) Owner j added → h ≡ added ++ (starts setup stamp frame ∷ [])
    → text ≡ texts (handed_out (starts setup stamp frame ∷ []) (join Owner) (joined_as (Ok j)) added) → IsOwned setup h text
owned_from setup stamp frame j added h text a is given =
    let g : History = starts setup stamp frame ∷ [] in
    let one : j.viewer ≡ 1 = a.next in
    let may : j.role ≡ Control = may_type setup.mode j.role a.granted in
    let now : h ≡ Join j.viewer j.role a.first ∷ g = is ∙ ap (λ (es : List Entry). es ++ g) a.adds in
    let seen : h ≡ Join 1 Control a.first ∷ g = now ∙ (ap (λ (v : ℕ). Join v j.role a.first ∷ g) one ∙ ap (λ (r : Role). Join 1 r a.first ∷ g) may) in
    record {
      stamp = stamp;
      frame = frame;
      first = a.first;
      seen = seen;
      gave = given ∙ (ap (λ (es : List Entry). texts (handed_out g (join Owner) (joined_as (Ok j)) es)) a.adds
          ∙ (ap (λ (x : History). texts (delivered x j.viewer)) (sym now) ∙ ap (λ (v : ℕ). texts (delivered h v)) one));
    }

owned_step : (setup : Setup) (now : ℕ) (entry : Entry) (j : Joined) (added : List Entry) (h : History) (text : List ℕ) → StartStep setup now entry → Step (entry ∷ []) (join Owner) (joined_as (Ok j)) added → h ≡ added ++ (entry ∷ [])
    → text ≡ texts (handed_out (entry ∷ []) (join Owner) (joined_as (Ok j)) added) → IsOwned setup h text
owned_step setup now entry j added h text s step is given =
    let same : entry ≡ starts setup _ s.1 = s.4 in
    owned_from setup _ s.1 j added h text
    (subst (λ (e : Entry). JoinAdds (e ∷ []) Owner j added) same (join_adds (entry ∷ []) Owner j added step))
    (is ∙ ap (λ (e : Entry). added ++ (e ∷ [])) same)
    (given ∙ ap (λ (e : Entry). texts (handed_out (e ∷ []) (join Owner) (joined_as (Ok j)) added)) same)

-- a desk that was started and that its owner has joined
pub record IsReady (setup : Setup) (d : DeskState) (text : List ℕ) : Type 0 where
  pub stands : Stands d d.past
  pub owned : IsOwned setup d.past text

pub ready : (setup : Setup) (now : ℕ) (old new : DeskState) (j : Joined) (before after : List ℕ) → before ≡ [] → Opened setup now old → ((h : History) → Stands old h → Ended h (join Owner) (join_answer (Ok j)) old new before after) → IsReady setup new after
ready setup now old new j before after none o step =
    let a = step (o.entry ∷ []) o.stands in record {
      stands = subst (Stands new) (sym a.stands.past) a.stands;
      owned = owned_step setup now o.entry j a.added new.past after o.step a.step a.stands.past (a.appended ∙ ap (λ (b : List ℕ). b ++ texts (handed_out (o.entry ∷ []) (join Owner) (joined_as (Ok j)) a.added)) none);
    }

pub opens : (setup : Setup) (d : DeskState) (text : List ℕ) → IsReady setup d text → IsOpening d.past
opens setup d text r = inr (starts setup r.owned.stamp r.owned.frame, Control, r.owned.first, r.owned.seen)

-- ---- the host that shares it

same_role : (role : Role) (first given : List Instr) (e f : Entry) → Join 1 role first ∷ e ∷ [] ≡ Join 1 Control given ∷ f ∷ [] → role ≡ Control
same_role role first given e f is = cc

pub opened : (faces : Faces) (ask : Ask) (setup : Setup) (h : History) (host : HostState) (place : Place) (text : List ℕ) → HasSetup ask faces setup → IsOwned setup h text → HasBegun h host (Some place) → HasOpened faces ask host place text
opened faces ask setup h host place text s o b = record {
  started = record {
    stamp = o.stamp;
    frame = o.frame;
    first = o.first;
    seen = ap (λ (v : View Entry). v.seen) b.1 ∙ (o.seen ∙ named);
    role = same_role place.role b.6.1 o.first b.6.0 _ (sym b.6.2 ∙ o.seen);
    seat = record {
      sessions = (b.4, sym b.7.session ∙ b.4);
      viewers = (b.5, sym b.7.viewer ∙ b.5);
    };
  };
  linked = b.2;
  fresh = subst (IsFresh place) (sym o.gave) b.7;
}
  where
    named : Join 1 Control o.first ∷ starts setup o.stamp o.frame ∷ [] ≡ Join 1 Control o.first ∷ Start ask.cols ask.rows ask.mode ask.term faces most_entries o.stamp o.frame ∷ []
    named = ap (λ (c : ℕ). Join 1 Control o.first ∷ Start c setup.rows setup.mode setup.term setup.faces setup.entries o.stamp o.frame ∷ []) s.cols
        ∙ (ap (λ (r : ℕ). Join 1 Control o.first ∷ Start ask.cols r setup.mode setup.term setup.faces setup.entries o.stamp o.frame ∷ []) s.rows
        ∙ (ap (λ (m : _). Join 1 Control o.first ∷ Start ask.cols ask.rows m setup.term setup.faces setup.entries o.stamp o.frame ∷ []) s.mode
        ∙ (ap (λ (t : List ℕ). Join 1 Control o.first ∷ Start ask.cols ask.rows ask.mode t setup.faces setup.entries o.stamp o.frame ∷ []) s.term
        ∙ (ap (λ (f : Faces). Join 1 Control o.first ∷ Start ask.cols ask.rows ask.mode ask.term f setup.entries o.stamp o.frame ∷ []) s.faces
        ∙ ap (λ (n : ℕ). Join 1 Control o.first ∷ Start ask.cols ask.rows ask.mode ask.term faces n o.stamp o.frame ∷ []) s.entries))))
