-- What brings a viewer up to date: frames that are kept, or a picture.
use Rattle.std.proofs.Common.{◌≡◌, ℕ, ◌+◌, ◌*◌, ◌≤◌, List, ◌++◌, length, Bool, true, false, ap, sym, ◌∙◌, subst, append_assoc, arith}
use Rattle.std.specs.Prelude.{IsTrue, None, Some}
use Rattle.std.proofs.lemmas.List.{length-map}
use Rattle.gate_model.specs.declared.how.How.TheVariants.{Suffix, Fresh as Picture}
use Rattle.gate_model.specs.declared.instr.Instr.{Instr}
use Rattle.gate_model.specs.declared.read_answer.ReadAnswer.TheVariants.{Frames, Fresh}
use Rattle.gate_model.specs.picture.Buffers.{Makes}
use Rattle.gate_model.specs.picture.KeyGrid.{KeyGrid}
use Rattle.gate_model.specs.picture.Shape.{Shape}
use Rattle.gate_model.specs.terminal.Screens.{AreColoured}
use Rattle.gate_model.specs.text.Text.{texts}
use Rattle.gate_model.specs.session.Calls.{Updates, lacked}
use Rattle.gate_model.specs.session.Delivered.{closing, handed, position}
use Rattle.gate_model.specs.session.History.{History, size_now, frames, frames_after, instructions, newest, is_closed}
use Rattle.gate_model.specs.session.Kept.{Covers}
use Rattle.gate_model.specs.session.Refusals.{read_stop}
use Rattle.gate_model.specs.session.Steps.{IsScreenSize}
use Rattle.gate_model.specs.session.WholeLaws.{MakingRestores}
use Rattle.gate_model.proofs.Histories.{legal-size}
use Rattle.gate_model.proofs.Painted.{coloured-at}
use Rattle.display_history.specs.Keeping.{HasKept, after_stamp, covers}
use Rattle.display_history.specs.Laws.{CoversHistory, TextsGoAfter, texts_of}
use Rattle.viewer_book.specs.declared.viewer.Viewer.{Viewer}
use Rattle.viewer_book.specs.Book.{viewer_at}
use Rattle.desk_core.specs.declared.desk.update.Update.{Update}
use Rattle.desk_core.specs.Desk.{DeskState, Stands}
use Rattle.desk_core.specs.Farewell.{farewell_of}
use Rattle.desk_core.specs.Frames.{joined_texts}
use Rattle.desk_core.specs.Parts.{Brings, Pictures}
use Rattle.desk_core.proofs.Following.{drawn_cols, drawn_rows}
use Rattle.desk_core.proofs.FrameTexts.{joined_is, texts-append}
use Rattle.desk_core.specs.Viewers.{IsBehind}
use Rattle.desk_core.proofs.Telling.{closing_is, is_below, not_above, reading}

-- ---- a picture

-- what was drawn can be drawn again
pub drawn_size : (d : DeskState) (h : History) → Stands d h → IsScreenSize d.drawing.screen.cols d.drawing.screen.rows
drawn_size d h s = rw (drawn_cols d.drawing h s.legal s.drawing, drawn_rows d.drawing h s.legal s.drawing) (legal-size h s.legal)

pub drawn_colours : (d : DeskState) (h : History) → Stands d h → AreColoured d.drawing.screen.keys
drawn_colours d h s = subst (λ (g : KeyGrid). AreColoured g.keys) (sym s.drawing.screen) (coloured-at h)

pub pictures : (d : DeskState) (h : History) (is : List Instr) (stamp : ℕ) → Stands d h → MakingRestores → stamp ≡ d.frames.stamp → Shape d.drawing.screen.cols d.drawing.screen.rows is stamp → Makes is d.drawing.screen d.drawing.keys
    → length is ≤ 3 + 40 * (d.drawing.screen.cols * d.drawing.screen.rows + 1024) → Pictures h is
pictures d h is stamp s restoring now shape makes few =
    let cols = drawn_cols d.drawing h s.legal s.drawing in
    let lines = drawn_rows d.drawing h s.legal s.drawing in
    record {
      shows = subst (λ (t : ℕ). Shape (size_now h).columns (size_now h).rows is t) (now ∙ s.frames.stamp) (subst (λ (k : ℕ). Shape (size_now h).columns k is stamp) lines (subst (λ (k : ℕ). Shape k d.drawing.screen.rows is stamp) cols shape));
      restores = restoring h d.drawing.keys is s.drawing.layers (subst (λ (g : KeyGrid). Makes is g d.drawing.keys) s.drawing.screen makes);
      few = subst (λ (k : ℕ). length is ≤ 3 + 40 * ((size_now h).columns * k + 1024)) lines (subst (λ (k : ℕ). length is ≤ 3 + 40 * (k * d.drawing.screen.rows + 1024)) cols few);
    }

-- ---- what a read gives

-- its text, and that of the closing instruction
text_given : (d : DeskState) (h : History) (is : List Instr) → Stands d h → texts is ++ texts (farewell_of d.cause) ≡ texts (is ++ closing h)
text_given d h is s = sym (texts-append is (farewell_of d.cause)) ∙ ap (λ (xs : List Instr). texts (is ++ xs)) (sym (closing_is d h s))

-- the frames above the viewer's position
module _ (d : DeskState) (h : History) (v t : ℕ) (fs : List (ℕ × List ℕ)) (s : Stands d h) (after : TextsGoAfter) (at : t ≡ position h v) (is : (all : List (ℕ × List ℕ)) → HasKept d.frames.kept all → fs ≡ after_stamp t all) where
  are_lacked : fs ≡ texts_of (frames_after (position h v) (frames h))
  are_lacked = is (texts_of (frames h)) s.frames.kept ∙ (sym (after t (frames h)) ∙ ap (λ (n : ℕ). texts_of (frames_after n (frames h))) at)

  pub frames_bring : CoversHistory → IsTrue (covers d.frames.kept t) → (n stamp : ℕ) (closed : Bool) → n ≡ length fs → stamp ≡ d.frames.stamp → closed ≡ is_closed h → Brings h v record { how = Suffix; answer = Frames n stamp closed }
  frames_bring exactly covered n stamp closed count now shut =
      let long : n ≡ lacked h v = count ∙ (ap length are_lacked ∙ length-map (frames_after (position h v) (frames h)) (λ (f : ℕ × List Instr). (f.0, texts f.1))) in
      record {
        updates = subst (Covers h) at ((exactly h s.legal d.frames.kept s.frames.kept t).0 covered);
        restores = tt;
        few = tt;
        answers = ap (λ (m : ℕ). Frames m stamp closed) long ∙ (ap (λ (m : ℕ). Frames (lacked h v) m closed) (now ∙ s.frames.stamp) ∙ ap (Frames (lacked h v) (newest h)) shut);
      }

  pub frames_given : (before new : List ℕ) → new ≡ before ++ joined_texts fs ++ texts (farewell_of d.cause) → new ≡ before ++ texts (handed h (position h v) Suffix ++ closing h)
  frames_given before new gains =
      let lacking : List (ℕ × List Instr) = frames_after (position h v) (frames h) in
      gains ∙ (append_assoc before (joined_texts fs) (texts (farewell_of d.cause)) ∙ ap (λ (xs : List ℕ). before ++ xs) (ap (λ (ks : List (ℕ × List ℕ)). joined_texts ks ++ texts (farewell_of d.cause)) are_lacked ∙ (ap (λ (xs : List ℕ). xs ++ texts (farewell_of d.cause)) (joined_is lacking) ∙ text_given d h (instructions lacking) s)))

-- a picture in their place, where not all of them are kept
pub picture_brings : (d : DeskState) (h : History) (v t : ℕ) (is : List Instr) (stamp : ℕ) (closed : Bool) → Stands d h → CoversHistory → t ≡ position h v → covers d.frames.kept t ≡ false → Pictures h is → stamp ≡ d.frames.stamp → closed ≡ is_closed h
    → Brings h v record { how = Picture is; answer = Fresh stamp closed }
picture_brings d h v t is stamp closed s exactly at uncovered p now shut = record {
  updates = (λ all. not_so (covers d.frames.kept t) uncovered ((exactly h s.legal d.frames.kept s.frames.kept t).1 (subst (Covers h) (sym at) all)), p.shows);
  restores = p.restores;
  few = p.few;
  answers = ap (λ (m : ℕ). Fresh m closed) (now ∙ s.frames.stamp) ∙ ap (Fresh (newest h)) shut;
}
  where
    not_so : (b : Bool) → b ≡ false → IsTrue b → ⊥
    not_so true e q = let w : true ≡ false = e in cc
    not_so false e q = let w : false ≡ true = q in cc

pub picture_given : (d : DeskState) (h : History) (v : ℕ) (is : List Instr) (before new : List ℕ) → Stands d h → new ≡ before ++ texts is ++ texts (farewell_of d.cause) → new ≡ before ++ texts (handed h (position h v) (Picture is) ++ closing h)
picture_given d h v is before new s gains = gains ∙ (append_assoc before (texts is) (texts (farewell_of d.cause)) ∙ ap (λ (xs : List ℕ). before ++ xs) (text_given d h is s))

-- ---- a viewer that is brought up to date

pub is_behind : (d : DeskState) (h : History) (v : ℕ) (u : Update) (closed : Bool) (w : Viewer) → Stands d h → read_stop h v ≡ None → Brings h v u → CoversHistory → closed ≡ is_closed h → viewer_at d.book v ≡ Some w → IsBehind d.frames u.how closed w
is_behind d h v u closed w s free brings exactly shut found =
    let r = reading d h v s free in
    let seat = s.book.seated v w found in
    record {
      reached = not_above d h v w s found;
      lacks = λ stays. is_below d h v w s found (r.behind (sym shut ∙ stays));
      few = λ stays. omega (arith, ap length seat.waiting, r.few (sym shut ∙ stays));
      kept = λ stays suffix. (exactly h s.legal d.frames.kept s.frames.kept w.position).1 (subst (Covers h) (sym seat.position) (subst (Updates h (position h v)) suffix brings.updates));
    }
