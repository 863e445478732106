-- A viewer that a read has brought up to date is what the history then says of it.
use Rattle.std.proofs.Common.{◌≡◌, ℕ, List, [], ◌∷◌, ◌++◌, map, Bool, true, false, Some, refl, ap, ap₂, sym, ◌∙◌}
use Rattle.std.specs.Prelude.{nat_lt, ◌==◌, if◌then◌else◌}
use Rattle.std.proofs.lemmas.Bool.{eq-eqb}
use Rattle.gate_model.specs.declared.how.How.{How}
use Rattle.gate_model.specs.declared.how.How.TheVariants.{Suffix, Fresh}
use Rattle.gate_model.specs.declared.instr.Instr.{Instr}
use Rattle.gate_model.specs.declared.entry.Entry.TheVariants.{Read}
use Rattle.gate_model.specs.text.Text.{texts}
use Rattle.gate_model.specs.session.Calls.{Updates}
use Rattle.gate_model.specs.session.Delivered.{handed, position}
use Rattle.gate_model.specs.session.History.{History, frames, frames_after, is_closed, newest}
use Rattle.gate_model.specs.session.Steps.{Legal}
use Rattle.gate_model.specs.session.Waiting.{awaited, is_keep, stamps_in}
use Rattle.gate_model.proofs.Facts.{Facts}
use Rattle.display_history.specs.Keeping.{after_stamp, last_stamp}
use Rattle.display_history.specs.Laws.{texts_of}
use Rattle.viewer_book.specs.declared.viewer.Viewer.{Viewer}
use Rattle.desk_core.specs.Viewers.{IsSeated, brought}
use Rattle.desk_core.proofs.Awaiting.{last_above, stamps_handed}
use Rattle.desk_core.proofs.Bringing.{given}
use Rattle.desk_core.proofs.Seating.{Reached}

-- the viewer stays who it was
pub brought-number : (all : List (ℕ × List ℕ)) (p t : ℕ) (how : How) (closed : Bool) (w : Viewer) → (brought all p t how closed w).number ≡ w.number
brought-number all p t how true w = refl
brought-number all p t Suffix false w = (given (after_stamp p all) w).number
brought-number all p t (Fresh is) false w = refl

-- the frames above a stamp, each with its text
texts-after : (t : ℕ) (fs : List (ℕ × List Instr)) → after_stamp t (texts_of fs) ≡ texts_of (frames_after t fs)
texts-after t [] = refl
texts-after t (f ∷ fs) = cases (nat_lt t f.0) (texts-after t fs)
  where
    cases : (b : Bool) → after_stamp t (texts_of fs) ≡ texts_of (frames_after t fs) → (if b then (f.0, texts f.1) ∷ after_stamp t (texts_of fs) else after_stamp t (texts_of fs)) ≡ texts_of (if b then f ∷ frames_after t fs else frames_after t fs)
    cases true rest = ap (λ (gs : List (ℕ × List ℕ)). (f.0, texts f.1) ∷ gs) rest
    cases false rest = rest

stamps_of_texts : (fs : List (ℕ × List Instr)) → map (λ (f : ℕ × List ℕ). f.0) (texts_of fs) ≡ map (λ (f : ℕ × List Instr). f.0) fs
stamps_of_texts [] = refl
stamps_of_texts (f ∷ fs) = ap (λ (ts : List ℕ). f.0 ∷ ts) (stamps_of_texts fs)

-- in a closed session nothing more waits
waits_as_before : (h : History) (v : ℕ) (how : How) (stamps : List ℕ) → is_closed h ≡ true → stamps ≡ awaited h v → stamps ≡ awaited (Read v how ∷ h) v
waits_as_before h v how stamps shut is = rw shut is

-- in an open one what was given does, but for a recorder
waits_for_given : (h : History) (v : ℕ) (how : How) (w : Viewer) (stamps : List ℕ) → is_closed h ≡ false → IsSeated h v w → stamps ≡ stamps_in (handed h (position h v) how)
    → (if is_keep (Some w.role) then w.waiting else w.waiting ++ stamps) ≡ awaited (Read v how ∷ h) v
waits_for_given h v how w stamps stays s is =
    let itself : (v == v) ≡ true = eq-eqb v v refl in
    rw (stays, itself, s.role) (ap₂ (λ (before given : List ℕ). if is_keep (Some w.role) then before else before ++ given) s.waiting is)

pub reached : (h : History) (v : ℕ) (how : How) (t : ℕ) (closed : Bool) (w : Viewer) → Legal h → Facts h → Updates h (position h v) how → t ≡ newest h → closed ≡ is_closed h → IsSeated h v w
    → Reached w (brought (texts_of (frames h)) (position h v) t how closed w) t closed (awaited (Read v how ∷ h) v)
reached h v how t true w l f u now shut s = record { role = refl; position = refl; ended = refl; mods = refl; waiting = waits_as_before h v how w.waiting (sym shut) s.waiting }
reached h v Suffix t false w l f u now shut s =
    let p : ℕ = position h v in
    let fs : List (ℕ × List ℕ) = after_stamp p (texts_of (frames h)) in
    let lacking : fs ≡ texts_of (frames_after p (frames h)) = texts-after p (frames h) in
    let g = given fs w in
    record {
      role = g.role;
      position = g.position ∙ (ap₂ last_stamp s.position lacking ∙ (last_above h p l f.stamps (f.stand v) ∙ sym now));
      ended = g.ended;
      mods = g.mods;
      waiting = g.waiting ∙ waits_for_given h v Suffix w (map (λ (x : ℕ × List ℕ). x.0) fs) (sym shut) s (ap (map (λ (x : ℕ × List ℕ). x.0)) lacking ∙ (stamps_of_texts (frames_after p (frames h)) ∙ sym (stamps_handed h p Suffix l u)));
    }
reached h v (Fresh is) t false w l f u now shut s = record {
  role = refl;
  position = refl;
  ended = refl;
  mods = refl;
  waiting = waits_for_given h v (Fresh is) w (t ∷ []) (sym shut) s (ap (λ (n : ℕ). n ∷ []) now ∙ sym (stamps_handed h (position h v) (Fresh is) l u));
}
