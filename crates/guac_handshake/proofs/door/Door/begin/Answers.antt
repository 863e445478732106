use Rattle.std.proofs.Common.{◌∙◌, ap, rules}
use Rattle.guac_handshake.specs.Views.{DoorView}
use Rattle.guac_handshake.proofs.Undone.{undone}
use Rattle.guac_handshake.proofs.door.Door.begin.Goals as goal

pub returns-then-is_err-clause-begins : goal.returns-then-is_err-clause-begins
returns-then-is_err-clause-begins g c = record {
  sessions = undone _ _ _ _ _ c.in_ok-welcome.ensures.begins.sessions (c.note.ensures.notes.sessions ∙ ap (λ (v : DoorView). v.sessions) c.way-way.ensures.same) c.undo.ensures.undoes.sessions;
  conflict = search rules;
  out = search rules;
  asked = search rules;
  helper = search rules;
}

pub returns-then-is_err-2-clause-begins : goal.returns-then-is_err-2-clause-begins
returns-then-is_err-2-clause-begins g c = record {
  sessions = undone _ _ _ _ _ c.in_ok-welcome.ensures.begins.sessions (c.note-then-is_err-2.ensures.notes.sessions ∙ ap (λ (v : DoorView). v.sessions) (c.way-way-2.ensures.same ∙ c.way-way.ensures.same)) c.undo-then-is_err-2.ensures.undoes.sessions;
  conflict = search rules;
  out = search rules;
  asked = search rules;
  helper = search rules;
}
