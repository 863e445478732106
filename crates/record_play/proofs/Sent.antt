-- A recording of what the gateway sent: its instructions are the first ones that were given.
use Rattle.std.proofs.Common.{◌≡◌, ℕ, ◌+◌, ◌-◌, ◌<◌, ◌≤◌, List, [], ◌∷◌, ◌++◌, length, drop, take, refl, ap, sym, ◌∙◌, length-append, length-drop, arith, append_assoc}
use Rattle.std.specs.Prelude.{Some}
use Rattle.std.proofs.lemmas.List.{append_cancel_left, drop-drop, take-append-drop}
use Rattle.gate_model.specs.declared.instr.Instr.{Instr}
use Rattle.gate_model.specs.declared.instr.Instr.TheVariants.{Sync}
use Rattle.gate_model.specs.picture.Shape.{AreReadable}
use Rattle.gate_model.specs.session.Delivered.{delivered}
use Rattle.gate_model.specs.text.ServerMeaning.{instr_of}
use Rattle.gate_model.specs.text.Text.{elements_of, text, texts}
use Rattle.gate_model.proofs.MeaningLaws.{read_back}
use Rattle.gate_model.proofs.Readable.{delivered-readable}
use Rattle.gate_model.proofs.Spelt.{prefix_free}
use Rattle.gate_model.proofs.TextLaws.{text_spells}
use Rattle.record_play.specs.Laws.{SyncsShowTheScreen}
use Rattle.record_play.specs.Recorded.{HasRead, IsNext, Placed, instrs_of, through}
use Rattle.record_play.proofs.Unique.{goes_on}

-- these were given first, and the text of the others is what is left
record Given (is : List Instr) (bytes rest : List ℕ) (placed : List Placed) : Type 0 where
  more : List Instr
  split : is ≡ instrs_of placed ++ more
  readable : AreReadable more
  left : texts more ≡ drop (through placed) bytes ++ rest
  within : through placed ≤ length bytes

-- the next one that was given is the next one of the recording
next_given : (more : List Instr) (bytes rest : List ℕ) (k : ℕ) (p : Placed) → AreReadable more → texts more ≡ drop k bytes ++ rest → k ≤ length bytes → k < p.end → IsNext bytes k p
    → (others : List Instr) × (more ≡ p.instr ∷ others) × AreReadable others × (texts others ≡ drop p.end bytes ++ rest)
next_given [] bytes rest k p readable left low on next = absurd (omega (arith, on, next.1.within, ap length left, length-append (drop k bytes) rest, length-drop k bytes))
next_given (i ∷ others) bytes rest k p readable left low on next =
    let own = take (p.end - k) (drop k bytes) in
    let end : k + (p.end - k) ≡ p.end = omega (arith, on) in
    let cut : drop k bytes ++ rest ≡ own ++ (drop p.end bytes ++ rest) =
    ap (λ (l : List ℕ). l ++ rest) (sym (take-append-drop (p.end - k) (drop k bytes)) ∙ ap (λ (l : List ℕ). own ++ l) (drop-drop (p.end - k) k bytes ∙ ap (λ (n : ℕ). drop n bytes) end))
    ∙ append_assoc own (drop p.end bytes) rest in
    let both : text i ++ texts others ≡ own ++ (drop p.end bytes ++ rest) = left ∙ cut in
    let same = prefix_free (text i) own (texts others) (drop p.end bytes ++ rest) (elements_of i) next.0 (text_spells i readable.0) next.1.spelled both in
    let instr : i ≡ p.instr = (let w : Some i ≡ Some p.instr = sym (read_back i readable.0) ∙ (ap instr_of same.1 ∙ next.2) in cc) in (
      others,
      ap (λ (j : Instr). j ∷ others) instr,
      readable.1,
      append_cancel_left (text i) (texts others) (drop p.end bytes ++ rest) (both ∙ ap (λ (l : List ℕ). l ++ (drop p.end bytes ++ rest)) (sym same.0)),
    )

given_so_far : (is : List Instr) (bytes rest : List ℕ) (placed : List Placed) → AreReadable is → texts is ≡ bytes ++ rest → HasRead bytes placed → Given is bytes rest placed
given_so_far is bytes rest [] readable left read = record { more = is; split = refl; readable = readable; left = left; within = omega arith }
given_so_far is bytes rest (p ∷ older) readable left read =
    let so_far = given_so_far is bytes rest older readable left read.2 in
    let next = next_given so_far.more bytes rest (through older) p so_far.readable so_far.left so_far.within (goes_on bytes (through older) p.end read.0.0 read.0.1) read.0 in
    record {
      more = next.0;
      split = so_far.split ∙ (ap (λ (l : List Instr). instrs_of older ++ l) next.1 ∙ sym (append_assoc (instrs_of older) (p.instr ∷ []) next.0));
      readable = next.2;
      left = next.3;
      within = read.0.1.within;
    }

pub shows_screen : SyncsShowTheScreen
shows_screen h viewer stamp end bytes rest older legal faithful sent read =
    let given = given_so_far (delivered h viewer) bytes rest (record { instr = Sync stamp; end = end } ∷ older) (delivered-readable h legal viewer) sent read in
    (faithful viewer stamp (instrs_of older) (given.more, given.split)).drawn
