-- After one history a call has one answer and adds the same entries, where its frames are told.
use Rattle.std.proofs.Common.{◌≡◌, ℕ, ◌+◌, List, [], ◌∷◌, ◌++◌, refl, ap, sym, ◌∙◌, subst, append-nil, arith}
use Rattle.std.specs.Prelude.{Option, Some, None, Result, Ok}
use Rattle.std.proofs.lemmas.Bool.{eq-eqb}
use Rattle.std.proofs.lemmas.List.{append_cancel_right}
use Rattle.gate_model.specs.declared.answer.Answer.{Answer}
use Rattle.gate_model.specs.declared.answer.Answer.TheVariants.{Join as joined_as, Read as was_read}
use Rattle.gate_model.specs.declared.cause.Cause.{Cause}
use Rattle.gate_model.specs.declared.cause.Cause.TheVariants.{ServerEnd, LinkFault, Stopped, Worn}
use Rattle.gate_model.specs.declared.entry.Entry.{Entry}
use Rattle.gate_model.specs.declared.entry.Entry.TheVariants.{Start, Feed, Size, Join, Read, Write, Take, Leave, Close}
use Rattle.gate_model.specs.declared.event.Event.{Event}
use Rattle.gate_model.specs.declared.event.Event.TheVariants.{Feed as feed, Join as join, Read as read, Write as write, Resize as resize, Take as take_most, Leave as leave, Close as close}
use Rattle.gate_model.specs.declared.how.How.{How}
use Rattle.gate_model.specs.declared.how.How.TheVariants.{Suffix, Fresh as Picture}
use Rattle.gate_model.specs.declared.instr.Instr.{Instr}
use Rattle.gate_model.specs.declared.forbidden.Forbidden.{Forbidden}
use Rattle.gate_model.specs.declared.setup.Setup.{Setup}
use Rattle.gate_model.specs.declared.sharing.Role.{Role}
use Rattle.gate_model.specs.picture.Shape.{AreReadable}
use Rattle.gate_model.specs.session.Calls.{Adds, Step, Updates, updated_as}
use Rattle.gate_model.specs.session.Delivered.{closing, delivered, farewell, given, position}
use Rattle.gate_model.specs.session.History.{History, joined, newest, next_stamp}
use Rattle.gate_model.specs.session.Steps.{StartStep}
use Rattle.gate_model.proofs.Readable.{readable_both}
use Rattle.gate_script.specs.Told.{framing, framings}
use Rattle.gate_script.proofs.OneText.{line_same}

-- ---- what a read gives

readable_farewell : (cause : Cause) → AreReadable (farewell cause ∷ [])
readable_farewell ServerEnd = (tt, tt)
readable_farewell LinkFault = (omega arith, tt)
readable_farewell Stopped = (omega arith, tt)
readable_farewell Worn = (omega arith, tt)

readable_closing : (h : History) → AreReadable (closing h)
readable_closing [] = tt
readable_closing (Start cols rows mode term faces entries stamp frame ∷ g) = readable_closing g
readable_closing (Feed bytes stamp frame ∷ g) = readable_closing g
readable_closing (Size viewer cols rows stamp frame ∷ g) = readable_closing g
readable_closing (Join viewer role first ∷ g) = readable_closing g
readable_closing (Read viewer how ∷ g) = readable_closing g
readable_closing (Write viewer acts ∷ g) = readable_closing g
readable_closing (Take count ∷ g) = readable_closing g
readable_closing (Leave viewer ∷ g) = readable_closing g
readable_closing (Close cause ∷ g) = readable_farewell cause

-- a picture, and the closing instruction in a closed session
picture_given : (h : History) (viewer : ℕ) (is : List Instr) → given h (delivered h viewer) viewer (Read viewer (Picture is)) ≡ is ++ closing h
picture_given h viewer is = rw (eq-eqb viewer viewer refl) refl

-- whether each frame is kept decides how the viewer is brought up to date, and the line tells the picture
how_same : (h : History) (viewer t : ℕ) (one other : How) (x y : List ℕ) → Updates h t one → Updates h t other → framing h (Read viewer one) ++ x ≡ framing h (Read viewer other) ++ y → one ≡ other
how_same h viewer t Suffix Suffix x y u w e = refl
how_same h viewer t Suffix (Picture js) x y u w e = absurd (w.0 u)
how_same h viewer t (Picture is) Suffix x y u w e = absurd (u.0 w)
how_same h viewer t (Picture is) (Picture js) x y u w e =
    let given_one = given h (delivered h viewer) viewer (Read viewer (Picture is)) in
    let given_other = given h (delivered h viewer) viewer (Read viewer (Picture js)) in
    let fine : (ks : List Instr) → AreReadable ks → AreReadable (given h (delivered h viewer) viewer (Read viewer (Picture ks))) = λ ks r. subst AreReadable (sym (picture_given h viewer ks)) (readable_both ks (closing h) r (readable_closing h)) in
    let same : given_one ≡ given_other = line_same viewer given_one given_other x y (fine is u.1.in_range) (fine js w.1.in_range) e in
    ap (λ (l : List Instr). Picture l) (append_cancel_right is js (closing h) (sym (picture_given h viewer is) ∙ (same ∙ picture_given h viewer js)))

-- ---- a call

ok_is : (r s : Role) → ◌≡◌ {A = Result Role Forbidden} (Ok r) (Ok s) → r ≡ s
ok_is r s e = cc

adds_same : (h : History) (event : Event) (r s : Answer) (a b : Entry) (x y : List ℕ) → Adds h event r a → Adds h event s b → framing h a ++ x ≡ framing h b ++ y → (r ≡ s) × (a ≡ b)
adds_same h (feed bytes now) r s a b x y one other e =
    let stamp : ℕ = next_stamp (newest h) now in
    let is : one.1 ≡ other.1 = line_same 0 one.1 other.1 x y one.2.in_range other.2.in_range (ap (λ (k : Entry). framing h k ++ x) (sym one.4) ∙ (e ∙ ap (λ (k : Entry). framing h k ++ y) other.4)) in
    (one.3 ∙ sym other.3, one.4 ∙ (ap (λ (l : List Instr). Feed bytes stamp l) is ∙ sym other.4))
adds_same h (join asked) r s a b x y one other e =
    let viewer : ℕ = joined h + 1 in
    let role : one.0 ≡ other.0 = ok_is one.0 other.0 (sym one.2 ∙ other.2) in
    let is : one.1 ≡ other.1 = line_same viewer one.1 other.1 x y one.3.in_range other.3.in_range (ap (λ (k : Entry). framing h k ++ x) (sym one.5) ∙ (e ∙ ap (λ (k : Entry). framing h k ++ y) other.5)) in (
      one.4 ∙ (ap (λ (k : Role). joined_as (Ok record { viewer = viewer; role = k; stamp = newest h })) role ∙ sym other.4),
      one.5 ∙ (ap (λ (k : Role). Join viewer k one.1) role ∙ (ap (λ (l : List Instr). Join viewer other.0 l) is ∙ sym other.5)),
    )
adds_same h (read viewer) r s a b x y one other e =
    let how : one.0 ≡ other.0 = how_same h viewer (position h viewer) one.0 other.0 x y one.1 other.1 (ap (λ (k : Entry). framing h k ++ x) (sym one.3) ∙ (e ∙ ap (λ (k : Entry). framing h k ++ y) other.3)) in
    (one.2 ∙ (ap (λ (k : How). was_read (Ok (updated_as h viewer k))) how ∙ sym other.2), one.3 ∙ (ap (λ (k : How). Read viewer k) how ∙ sym other.3))
adds_same h (write viewer acts) r s a b x y one other e = (one.0 ∙ sym other.0, one.1 ∙ sym other.1)
adds_same h (resize viewer cols rows) r s a b x y one other e =
    let stamp : ℕ = newest h + 1 in
    let is : one.0 ≡ other.0 = line_same 0 one.0 other.0 x y one.1.in_range other.1.in_range (ap (λ (k : Entry). framing h k ++ x) (sym one.4) ∙ (e ∙ ap (λ (k : Entry). framing h k ++ y) other.4)) in
    (one.3 ∙ sym other.3, one.4 ∙ (ap (λ (l : List Instr). Size viewer cols rows stamp l) is ∙ sym other.4))
adds_same h (take_most most) r s a b x y one other e = (one.0 ∙ sym other.0, one.1 ∙ sym other.1)
adds_same h (leave viewer) r s a b x y one other e = (one.0 ∙ sym other.0, one.1 ∙ sym other.1)
adds_same h (close cause) r s a b x y one other e = (one.0 ∙ sym other.0, one.1 ∙ sym other.1)

-- the frames of one entry
alone : (h : History) (a b : Entry) (x y : List ℕ) → framings h (a ∷ []) ++ x ≡ framings h (b ∷ []) ++ y → framing h a ++ x ≡ framing h b ++ y
alone h a b x y e = ap (λ (l : List ℕ). l ++ x) (sym (append-nil (framing h a))) ∙ (e ∙ ap (λ (l : List ℕ). l ++ y) (append-nil (framing h b)))

pub some_answer : (r s : Answer) → Some r ≡ Some s → r ≡ s
some_answer r s e = cc

pub not_both : {A : Type 0} → (r : Answer) (o : Option Answer) → o ≡ Some r → o ≡ None → A
not_both r o e f = absurd (let w : Some r ≡ None = sym e ∙ f in cc)

pub step_same : (h : History) (event : Event) (r s : Answer) (added others : List Entry) (x y : List ℕ) → Step h event r added → Step h event s others → framings h added ++ x ≡ framings h others ++ y → (r ≡ s) × (added ≡ others)
step_same h event r s [] [] x y one other e = (some_answer r s (sym one.1 ∙ other.1), refl)
step_same h event r s [] (b ∷ []) x y one other e = not_both r _ one.1 other.1.0
step_same h event r s (a ∷ []) [] x y one other e = not_both s _ other.1 one.1.0
step_same h event r s (a ∷ []) (b ∷ []) x y one other e =
    let w = adds_same h event r s a b x y one.1.1 other.1.1 (alone h a b x y e) in
    (w.0, ap (λ (k : Entry). k ∷ []) w.1)
step_same h event r s (a ∷ c ∷ es) others x y one other e = absurd one.1
step_same h event r s [] (b ∷ c ∷ es) x y one other e = absurd other.1
step_same h event r s (a ∷ []) (b ∷ c ∷ es) x y one other e = absurd other.1

-- ---- the opening of a session

pub start_same : (setup : Setup) (now : ℕ) (a b : Entry) (x y : List ℕ) → StartStep setup now a → StartStep setup now b → framings [] (a ∷ []) ++ x ≡ framings [] (b ∷ []) ++ y → a ≡ b
start_same setup now a b x y one other e =
    let stamp : ℕ = next_stamp 0 now in
    let is : one.1 ≡ other.1 = line_same 0 one.1 other.1 x y one.2.in_range other.2.in_range (ap (λ (k : Entry). framing [] k ++ x) (sym one.4) ∙ (alone [] a b x y e ∙ ap (λ (k : Entry). framing [] k ++ y) other.4)) in
    one.4 ∙ (ap (λ (l : List Instr). Start setup.cols setup.rows setup.mode setup.term setup.faces setup.entries stamp l) is ∙ sym other.4)
