-- Worked facts of what waits for a viewer's acknowledgement: a session of its owner and a recorder.
use Rattle.std.proofs.Common.{◌≡◌, ℕ, ◌+◌, zero, suc, [], ◌∷◌, refl}
use Rattle.std.specs.Prelude.{map, Some, None, Ok, Err}
use Rattle.gate_model.specs.declared.faces.Faces.TheVariants.{Ascii}
use Rattle.gate_model.specs.declared.act.Act.TheVariants.{Sync as sync_act, Nop}
use Rattle.gate_model.specs.declared.cause.Cause.TheVariants.{Stopped}
use Rattle.gate_model.specs.declared.how.How.TheVariants.{Suffix, Fresh as Picture}
use Rattle.gate_model.specs.declared.read_answer.ReadAnswer.TheVariants.{Empty, Hold}
use Rattle.gate_model.specs.declared.read_refusal.ReadRefusal.TheVariants.{Worn as read_worn}
use Rattle.gate_model.specs.declared.sharing.Role.TheVariants.{Control, Keep}
use Rattle.gate_model.specs.declared.sharing.Share.TheVariants.{Nobody}
use Rattle.gate_model.specs.declared.instr.Instr.TheVariants.{Sync}
use Rattle.gate_model.specs.declared.entry.Entry.TheVariants.{Start, Feed, Join, Read, Write, Close}
use Rattle.gate_model.specs.session.History.{History}
use Rattle.gate_model.specs.session.Refusals.{read_stop}
use Rattle.gate_model.specs.session.Waiting.{awaited, waiting}

abbrev opened : History
opened = Join 2 Keep (Sync 1 ∷ []) ∷ Join 1 Control (Sync 1 ∷ []) ∷ Start 2 1 Nobody [] Ascii 99 1 (Sync 1 ∷ []) ∷ []

-- two frames, which both were given
abbrev read_all : History
read_all = Read 2 Suffix ∷ Read 1 Suffix ∷ Feed (66 ∷ []) 7 (Sync 7 ∷ []) ∷ Feed (65 ∷ []) 4 (Sync 4 ∷ []) ∷ opened

-- what a join gives waits, and so does each frame that a read gives; nothing waits for a recorder, or for one who
-- isn't there
owner_waits : map (λ h. awaited h 1) (opened ∷ read_all ∷ []) ≡ (1 ∷ []) ∷ (1 ∷ 4 ∷ 7 ∷ []) ∷ []
owner_waits = refl

others_wait : map (λ v. waiting read_all v) (1 ∷ 2 ∷ 3 ∷ []) ≡ 3 ∷ 0 ∷ 0 ∷ []
others_wait = refl

-- an acknowledgement takes what is up to its stamp, which need be none that was given; one above the position has no
-- effect, and older ones come too late
acknowledged : map (λ acts. awaited (Write 1 acts ∷ read_all) 1) ((sync_act 1 ∷ []) ∷ (sync_act 5 ∷ Nop ∷ []) ∷ (sync_act 7 ∷ []) ∷ (sync_act 8 ∷ []) ∷ (sync_act 7 ∷ sync_act 1 ∷ []) ∷ []) ≡ (4 ∷ 7 ∷ []) ∷ (7 ∷ []) ∷ [] ∷ (1 ∷ 4 ∷ 7 ∷ []) ∷ [] ∷ []
acknowledged = refl

-- another viewer's acknowledgement is its own
others_acknowledge : awaited (Write 2 (sync_act 7 ∷ []) ∷ read_all) 1 ≡ 1 ∷ 4 ∷ 7 ∷ []
others_acknowledge = refl

-- a picture counts as its one stamp, and what a closed session gives doesn't count
pictures : awaited (Read 1 (Picture (Sync 7 ∷ [])) ∷ Feed (65 ∷ []) 7 (Sync 7 ∷ []) ∷ opened) 1 ≡ 1 ∷ 7 ∷ []
pictures = refl

after_a_close : awaited (Read 1 Suffix ∷ Close Stopped ∷ Feed (65 ∷ []) 7 (Sync 7 ∷ []) ∷ opened) 1 ≡ 1 ∷ []
after_a_close = refl

-- ---- a read that is held

-- so many frames, which both were given, and one more
abbrev fed : ℕ → History
fed zero = opened
fed (suc n) = Feed (13 ∷ []) (n + 2) (Sync (n + 2) ∷ []) ∷ fed n

abbrev behind : ℕ → History
behind n = Feed (13 ∷ []) (n + 2) (Sync (n + 2) ∷ []) ∷ Read 2 Suffix ∷ Read 1 Suffix ∷ fed n

-- where 64 wait, one is given more, and where 65 do, one is held; a recorder never is
held : map (λ n. read_stop (behind n) 1) (63 ∷ 64 ∷ []) ≡ None ∷ Some (Ok (Hold 65)) ∷ []
held = refl

recorder_isnt_held : map (λ n. read_stop (behind n) 2) (64 ∷ 96 ∷ []) ≡ None ∷ Some (Err (read_worn 102)) ∷ []
recorder_isnt_held = refl

-- an acknowledgement of the oldest, or the end of the session, lets the viewer go on; one of a stamp that it wasn't
-- given doesn't
let_go : map (λ e. read_stop (e ∷ behind 64) 1) (Write 1 (sync_act 1 ∷ []) ∷ Close Stopped ∷ Write 1 (sync_act 66 ∷ []) ∷ Write 2 (sync_act 65 ∷ []) ∷ []) ≡ None ∷ None ∷ Some (Ok (Hold 65)) ∷ Some (Ok (Hold 65)) ∷ []
let_go = refl

-- one that has every frame is told so first, and a full session holds before it is worn
held_in_turn : map (λ h. read_stop h 1) ((Read 1 Suffix ∷ fed 64) ∷ behind 96 ∷ []) ≡ Some (Ok Empty) ∷ Some (Ok (Hold 97)) ∷ []
held_in_turn = refl
