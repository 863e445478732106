-- Data bytes that a host shows, one run after the other.
use Rattle.std.proofs.Common.{◌≡◌, ℕ, zero, suc, true, false, ◌+◌, ◌-◌, ◌≤◌, ◌<◌, List, [], ◌∷◌, ◌++◌, length, map, take, drop, get_or, refl, ap, sym, ◌∙◌, subst, arith, append-nil, append_assoc}
use Rattle.std.proofs.lemmas.List.{take_all, take_more, take_rest, length-take-le, length-drop}
use Rattle.std.proofs.Math.Seq.{take-add}
use Rattle.std.specs.Prelude.{◌==◌, Option, Some, None}
use Rattle.std.specs.List.{cons_option}
use Rattle.ecma_parser.specs.declared.parser.Parser.{Parser}
use Rattle.ecma_parser.specs.Parser.{HasRead}
use Rattle.gate_model.specs.declared.control.Control.{Control}
use Rattle.gate_model.specs.declared.control.Control.TheVariants.{Print}
use Rattle.gate_model.specs.terminal.Characters.{characters}
use Rattle.gate_model.specs.terminal.Controls.{controls}
use Rattle.gate_model.specs.terminal.Effects.{effect}
use Rattle.gate_model.specs.terminal.Replies.{reports_from}
use Rattle.gate_model.specs.terminal.Screens.{after_controls}
use Rattle.gate_model.specs.telnet.TelnetTokens.{doubled}
use Rattle.gate_model.specs.terminal.Terminal.{Terminal}
use Rattle.gate_model.proofs.ReplyLaws.{doubled-append, reports_from-append}
use Rattle.gate_model.proofs.ScreenLaws.{after_controls-append}
use Rattle.desk_core.specs.declared.host.Host.{Host}
use Rattle.desk_core.specs.Host.{Shows, Showed, ShowedSome}

-- ---- what a run shows

pub shows_none : (heard : List ℕ) (t : Terminal) (a : List ℕ) → Shows heard [] t t a a
shows_none heard t a = record {
  completed = [];
  completes = ap (λ (bs : List ℕ). controls (characters bs)) (append-nil heard) ∙ sym (append-nil (controls (characters heard)));
  screen = refl;
  appended = sym (append-nil a);
}

-- .. and then another
pub shows_on : (heard xs ys : List ℕ) (t u v : Terminal) (a b d : List ℕ) → Shows heard xs t u a b → Shows (heard ++ xs) ys u v b d → Shows heard (xs ++ ys) t v a d
shows_on heard xs ys t u v a b d first next =
    let cs = first.completed in
    let ds = next.completed in
    let said = doubled (reports_from t cs) in
    record {
      completed = cs ++ ds;
      completes =
          ap (λ (bs : List ℕ). controls (characters bs)) (sym (append_assoc heard xs ys))
          ∙ next.completes
          ∙ ap (λ (es : List Control). es ++ ds) first.completes
          ∙ append_assoc (controls (characters heard)) cs ds;
      screen = next.screen ∙ ap (λ (w : Terminal). after_controls w ds) first.screen ∙ sym (after_controls-append t cs ds);
      appended =
          next.appended
          ∙ ap (λ (w : List ℕ). w ++ doubled (reports_from u ds)) first.appended
          ∙ append_assoc a said (doubled (reports_from u ds))
          ∙ ap (λ (w : Terminal). a ++ (said ++ doubled (reports_from w ds))) first.screen
          ∙ ap (λ (w : List ℕ). a ++ w) (sym (ap doubled (reports_from-append t cs ds) ∙ doubled-append (reports_from t cs) (reports_from (after_controls t cs) ds)));
    }

pub showed_none : (h : Host) (a : List ℕ) → Showed h h [] a a
showed_none h a = record {
  parser = λ heard p. subst (HasRead h.parser) (sym (append-nil heard)) p;
  shows = λ heard p. shows_none heard h.screen a;
  options = refl;
  wire = refl;
}

pub showed_on : (old mid new : Host) (xs ys a b d : List ℕ) → Showed old mid xs a b → Showed mid new ys b d → Showed old new (xs ++ ys) a d
showed_on old mid new xs ys a b d first next = record {
  parser = λ heard p. subst (HasRead new.parser) (append_assoc heard xs ys) (next.parser (heard ++ xs) (first.parser heard p));
  shows = λ heard p. shows_on heard xs ys old.screen mid.screen new.screen a b d (first.shows heard p) (next.shows (heard ++ xs) (first.parser heard p));
  options = next.options ∙ first.options;
  wire = next.wire ∙ first.wire;
}

-- how many bytes are left
pub length-rest : (bytes : List ℕ) (i : ℕ) → length (take (length bytes - i) (drop i bytes)) ≡ length bytes - i
length-rest bytes i = ap length (take_rest bytes i) ∙ length-drop i bytes

-- the next bytes of a piece
pub showed_more : (old mid new : Host) (bytes a b d : List ℕ) (i n : ℕ) → Showed old mid (take i bytes) a b → ShowedSome mid new n (take (length bytes - i) (drop i bytes)) b d
    → Showed old new (take (i + n) bytes) a d
showed_more old mid new bytes a b d i n first next =
    subst (λ (run : List ℕ). Showed old new run a d)
    (ap (λ (rest : List ℕ). take i bytes ++ take n rest) (take_rest bytes i) ∙ sym (take-add i n bytes))
    (showed_on old mid new (take i bytes) (take n (take (length bytes - i) (drop i bytes))) a b d first next.showed)

pub showed_all : (old new : Host) (bytes a b : List ℕ) (n : ℕ) → length bytes ≤ n → Showed old new (take n bytes) a b → Showed old new bytes a b
showed_all old new bytes a b n done showed = subst (λ (run : List ℕ). Showed old new run a b) (take_all n bytes done) showed

-- ---- printable text

pub not_empty : (n : ℕ) → (n == 0) ≡ false → 0 < n
not_empty zero e = absurd (let w : true ≡ false = e in cc)
not_empty (suc n) e = omega arith

prints_silent : (t : Terminal) (text : List ℕ) → reports_from t (map Print text) ≡ []
prints_silent t [] = refl
prints_silent t (c ∷ text) = prints_silent (effect (Print c) t) text

pub text_showed : (old : Host) (s : Terminal) (bytes text a : List ℕ) → (n : ℕ) × (n ≤ length bytes) × (text ≡ take n bytes) → 0 < length text
    → ((heard : List ℕ) → HasRead old.parser heard → controls (characters (heard ++ text)) ≡ controls (characters heard) ++ map Print text)
    → ((heard : List ℕ) → HasRead old.parser heard → HasRead old.parser (heard ++ text))
    → s ≡ after_controls old.screen (map Print text) → ShowedSome old record { wire = old.wire; options = old.options; parser = old.parser; screen = s } (length text) bytes a a
text_showed old s bytes text a (n, within, is) some completes reads printed =
    let long : length text ≡ n = ap length is ∙ length-take-le n bytes within in
    let front : text ≡ take (length text) bytes = is ∙ ap (λ k. take k bytes) (sym long) in
    let new : Host = record { wire = old.wire; options = old.options; parser = old.parser; screen = s } in
    record {
      some = omega (arith, some);
      within = omega (arith, long, within);
      showed = subst (λ (run : List ℕ). Showed old new run a a) front record {
        parser = reads;
        shows = λ heard p. record {
          completed = map Print text;
          completes = completes heard p;
          screen = printed;
          appended = sym (ap (λ (w : List ℕ). a ++ doubled w) (prints_silent old.screen text) ∙ append-nil a);
        };
        options = refl;
        wire = refl;
      };
    }

-- ---- a control function

pub next_showed : (old : Host) (p : Parser) (v : Terminal) (completed : List Control) (bytes a d : List ℕ) (n : ℕ) → 1 ≤ n → n ≤ length bytes
    → ((heard : List ℕ) → HasRead old.parser heard → controls (characters (heard ++ take n bytes)) ≡ controls (characters heard) ++ completed)
    → ((heard : List ℕ) → HasRead old.parser heard → HasRead p (heard ++ take n bytes))
    → v ≡ after_controls old.screen completed → d ≡ a ++ doubled (reports_from old.screen completed)
    → ShowedSome old record { wire = old.wire; options = old.options; parser = p; screen = v } n bytes a d
next_showed old p v completed bytes a d n some within completes reads screen said = record {
  some = some;
  within = within;
  showed = record {
    parser = reads;
    shows = λ heard h. record {
      completed = completed;
      completes = completes heard h;
      screen = screen;
      appended = said;
    };
    options = refl;
    wire = refl;
  };
}

-- where nothing was read yet
pub skip_showed : (old new : Host) (p : Parser) (bytes a d : List ℕ) (n k : ℕ) → n ≡ 0 → ((heard : List ℕ) → HasRead old.parser heard → HasRead p (heard ++ take n bytes))
    → ShowedSome record { wire = old.wire; options = old.options; parser = p; screen = old.screen } new k bytes a d → ShowedSome old new k bytes a d
skip_showed old new p bytes a d n k none reads next =
    let same : (heard : List ℕ) → HasRead old.parser heard → HasRead p heard = λ heard h.
    subst (HasRead p) (ap (λ m. heard ++ take m bytes) none ∙ append-nil heard) (reads heard h) in
    record {
      some = next.some;
      within = next.within;
      showed = record {
        parser = λ heard h. next.showed.parser heard (same heard h);
        shows = λ heard h. next.showed.shows heard (same heard h);
        options = next.showed.options;
        wire = next.showed.wire;
      };
    }

-- ---- one byte

pair_listed : (first second : Option Control) → cons_option first (cons_option second []) ≡ cons_option first [] ++ cons_option second []
pair_listed None second = refl
pair_listed (Some c) second = refl

-- the control functions of a pair, one after the other
shows_pair : (heard run : List ℕ) (t u v : Terminal) (a b d : List ℕ) (first second : Option Control)
    → controls (characters (heard ++ run)) ≡ controls (characters heard) ++ cons_option first (cons_option second [])
    → u ≡ after_controls t (cons_option first []) → b ≡ a ++ doubled (reports_from t (cons_option first []))
    → v ≡ after_controls u (cons_option second []) → d ≡ b ++ doubled (reports_from u (cons_option second [])) → Shows heard run t v a d
shows_pair heard run t u v a b d first second completes is_u is_b is_v is_d =
    let xs : List Control = cons_option first [] in
    let ys : List Control = cons_option second [] in
    let first_said : List ℕ = doubled (reports_from t xs) in
    let both : reports_from t (xs ++ ys) ≡ reports_from t xs ++ reports_from u ys = reports_from-append t xs ys ∙ ap (λ (w : Terminal). reports_from t xs ++ reports_from w ys) (sym is_u) in
    record {
      completed = xs ++ ys;
      completes = completes ∙ ap (λ (cs : List Control). controls (characters heard) ++ cs) (pair_listed first second);
      screen = is_v ∙ (ap (λ (w : Terminal). after_controls w ys) is_u ∙ sym (after_controls-append t xs ys));
      appended = is_d ∙ (ap (λ (w : List ℕ). w ++ doubled (reports_from u ys)) is_b ∙ (append_assoc a first_said (doubled (reports_from u ys))
          ∙ ap (λ (w : List ℕ). a ++ w) (sym (doubled-append (reports_from t xs) (reports_from u ys)) ∙ ap doubled (sym both))));
    }

pub byte_showed : (old : Host) (p : Parser) (u v : Terminal) (first second : Option Control) (bytes a b d : List ℕ) → 1 ≤ length bytes
    → ((heard : List ℕ) → HasRead old.parser heard → controls (characters (heard ++ get_or bytes 0 0 ∷ [])) ≡ controls (characters heard) ++ cons_option first (cons_option second []))
    → ((heard : List ℕ) → HasRead old.parser heard → HasRead p (heard ++ get_or bytes 0 0 ∷ []))
    → u ≡ after_controls old.screen (cons_option first []) → b ≡ a ++ doubled (reports_from old.screen (cons_option first []))
    → v ≡ after_controls u (cons_option second []) → d ≡ b ++ doubled (reports_from u (cons_option second []))
    → ShowedSome old record { wire = old.wire; options = old.options; parser = p; screen = v } 1 bytes a d
byte_showed old p u v first second bytes a b d some completes reads is_u is_b is_v is_d =
    let new : Host = record { wire = old.wire; options = old.options; parser = p; screen = v } in
    let front : get_or bytes 0 0 ∷ [] ≡ take 1 bytes = sym (take_more bytes 0 0 (omega (arith, some))) in
    record {
      some = omega arith;
      within = some;
      showed = subst (λ (run : List ℕ). Showed old new run a d) front record {
        parser = reads;
        shows = λ heard h. shows_pair heard (get_or bytes 0 0 ∷ []) old.screen u v a b d first second (completes heard h) is_u is_b is_v is_d;
        options = refl;
        wire = refl;
      };
    }
