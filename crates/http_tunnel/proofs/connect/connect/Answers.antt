use Rattle.std.proofs.Common.{ℕ, List, Ok, Err, refl, ap, sym, subst, ◌∙◌}
use Rattle.uuid.specs.Text.{hyphenated_text, lower}
use Rattle.id_table.specs.Maps.{Same, Told}
use Rattle.guac_handshake.specs.Doors.{Grants}
use Rattle.guac_handshake.specs.Opening.{HasMoved}
use Rattle.guac_handshake.specs.Views.{DoorView, Names}
use Rattle.guac_handshake.proofs.Touching.{named_on}
use Rattle.guac_handshake.specs.declared.form_refusal.FormRefusal.TheVariants as form
use Rattle.http_tunnel.proofs.Connecting.{counted_as, dialed, extended, has_room, less_more, long_id, not_dialed, not_started, started, still_granted, still_refused, text_added, text_refused}
use Rattle.http_tunnel.proofs.Places.{moved_back, moved_none}
use Rattle.http_tunnel.proofs.Shelves.{same_refl, told_none}
use Rattle.http_tunnel.proofs.connect.connect.Goals as goal

pub returns-in_default-clause-connected : goal.returns-in_default-clause-connected
returns-in_default-clause-connected g c = record { opened = Err form.NoMemory; asked = refl; answers = refl; sessions = moved_none g.D.Door.id_of form.NoMemory _; out = refl; tunnels = told_none Same _ _ refl same_refl }

pub returns-in-Err-clause-connected : goal.returns-in-Err-clause-connected
returns-in-Err-clause-connected g c = record {
  opened = Err c.in-Err.refusal;
  asked = still_refused g.D.Door.id_of _ _ (Grants (g.D.Door.begun c.open_form.new.door) (g.D.Door.joined c.open_form.new.door)) (λ request welcome. Unit {0}) _ c.in-Err.refusal c.in-Err.ensures.answers.opened;
  answers = ap Err c.refused_form.ensures;
  sessions = c.in-Err.ensures.answers.moves.sessions;
  out = c.in-Err.ensures.answers.moves.out;
  tunnels = told_none Same _ _ refl same_refl;
}

pub returns-in-Err-clause-faults : goal.returns-in-Err-clause-faults
returns-in-Err-clause-faults g c = counted_as _ _ _ refl (λ e. dialed c.in-Err.refusal c.refused_form.result c.refused_form.ensures e) (λ e. started c.in-Err.refusal c.refused_form.result c.refused_form.ensures e) c.in-Err.ensures.answers.faults

pub unwrap-requires : goal.unwrap-requires
unwrap-requires g c = has_room c.extend_from_slice.result _ _ _ c.in-Ok.ensures.exact c.in-Ok.ensures.len (long_id _ _ (c.as_bytes.ensures.value ∙ c.encode_lower-text.ensures.text)) c.extend_from_slice.ensures.full

pub returns-in-Ok-add_tunnel-clause-connected : goal.returns-in-Ok-add_tunnel-clause-connected
returns-in-Ok-add_tunnel-clause-connected g c =
    let o = c.in-Ok-open_form.ensures.answers.opened in
    let welcome = c.in-Ok-open_form.welcome in
    let same = c.in-Ok-add_tunnel.ensures.same in
    let text = c.as_bytes.ensures.value ∙ (c.encode_lower-text.ensures.text ∙ ap (λ (bs : List ℕ). hyphenated_text lower bs) c.hyphenated.ensures) in
    let before = g.D.Door.view c.args.door.now in
    record {
      opened = Ok welcome;
      asked = (o.0, o.1, ap (λ (d : g.row.D.Denot). (g.D.Door.view d).asked) same ∙ o.2, still_granted c.open_form.new.door c.add_tunnel.new.door (λ d. Names g.D.Door.id_of before (g.D.Door.view d) o.0 welcome.id) same o.3, still_granted c.open_form.new.door c.add_tunnel.new.door (λ d. Grants (g.D.Door.begun d) (g.D.Door.joined d) o.0 welcome) same o.4);
      answers = c.in-Ok-open_form.ensures.fresh;
      sessions = still_granted c.open_form.new.door c.add_tunnel.new.door (λ d. Told before.sessions (g.D.Door.view d).sessions (HasMoved g.D.Door.id_of (Ok welcome))) same c.in-Ok-open_form.ensures.answers.moves.sessions;
      out = ap (λ (d : g.row.D.Denot). (g.D.Door.view d).out) same ∙ c.in-Ok-open_form.ensures.answers.moves.out;
      tunnels = text_added welcome c.of.result c.in-Ok-add_tunnel.id _ (g.T.Shelf.told c.args.tunnels.now) (g.T.Shelf.told c.add_tunnel.new.tunnels)
          (c.of.ensures ∙ (extended c.extend_from_slice.result c.unwrap.result _ _ _ c.extend_from_slice.ensures.items c.unwrap.ensures c.in-Ok.ensures.items ∙ text)) c.in-Ok-add_tunnel.ensures.added;
    }

pub returns-in-Err-add_tunnel-clause-connected : goal.returns-in-Err-add_tunnel-clause-connected
returns-in-Err-add_tunnel-clause-connected g c =
    let o = c.in-Ok-open_form.ensures.answers.opened in
    let moves = c.in-Ok-open_form.ensures.answers.moves in
    let gives = c.in-Err-add_tunnel.ensures.gives in
    record {
      opened = Ok c.in-Ok-open_form.welcome;
      asked = (o.0, o.1, gives.asked ∙ o.2, named_on g.D.Door.id_of (g.D.Door.view c.args.door.now) (g.D.Door.view c.open_form.new.door) (g.D.Door.view c.add_tunnel.new.door) o.0 _ gives.ids o.3, tt);
      answers = c.in-Err-add_tunnel.ensures.kind;
      sessions = moved_back g.D.Door.id_of c.in-Ok-open_form.welcome _ _ _ moves.sessions gives.ids;
      out = less_more _ _ _ moves.out gives.out;
      tunnels = text_refused c.in-Ok-open_form.welcome c.in-Err-add_tunnel.refusal _ (g.T.Shelf.told c.args.tunnels.now) (g.T.Shelf.told c.add_tunnel.new.tunnels) c.in-Err-add_tunnel.ensures.added;
    }

pub returns-in-Err-add_tunnel-clause-faults : goal.returns-in-Err-add_tunnel-clause-faults
returns-in-Err-add_tunnel-clause-faults g c = counted_as _ _ _ c.in-Err-add_tunnel.ensures.gives.helper (λ e. not_dialed c.in-Err-add_tunnel.refusal _ c.in-Err-add_tunnel.ensures.kind e) (λ e. not_started c.in-Err-add_tunnel.refusal _ c.in-Err-add_tunnel.ensures.kind e) c.in-Ok-open_form.ensures.answers.faults
