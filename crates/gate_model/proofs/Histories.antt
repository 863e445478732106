-- What each entry does to the parts of a history, for the proofs above.
use Rattle.std.proofs.Common.{◌≡◌, ℕ, zero, suc, ◌<◌, ◌≤◌, length, length-append, arith, List, [], ◌∷◌, ◌++◌, refl, ap, sym, ◌∙◌, subst, append-nil}
use Rattle.std.specs.Prelude.{nat_lt}
use Rattle.std.proofs.lemmas.Grind.{flat_map-append}
use Rattle.std.proofs.lemmas.List.Elements.{filter-append}
use Rattle.std.proofs.lemmas.Bool.{lt-ltb}
use Rattle.gate_model.specs.declared.act.Act.{Act}
use Rattle.gate_model.specs.declared.cause.Cause.{Cause}
use Rattle.gate_model.specs.declared.instr.Instr.{Instr}
use Rattle.gate_model.specs.declared.entry.Entry.{Entry}
use Rattle.gate_model.specs.declared.entry.Entry.TheVariants.{Start, Feed, Size, Join, Read, Write, Take, Leave, Close}
use Rattle.gate_model.specs.declared.how.How.{How}
use Rattle.gate_model.specs.declared.sharing.Role.{Role}
use Rattle.gate_model.specs.declared.control.Control.{Control}
use Rattle.gate_model.specs.terminal.Screens.{after_controls, completed, functions, screen}
use Rattle.gate_model.specs.telnet.TelnetTokens.{tokens}
use Rattle.gate_model.specs.terminal.Resizing.{resized}
use Rattle.gate_model.specs.terminal.Sizes.{Opening, ScreenSize, Cut, AreWithin}
use Rattle.std.proofs.lemmas.List.{append_cancel_left}
use Rattle.std.proofs.lemmas.List.Elements.{All-append}
use Rattle.gate_model.specs.session.Entries.{fed, framed}
use Rattle.gate_model.specs.session.History.{History, at, bytes, cuts, columns, rows, faces, first_size, opening, size_now, frames, frames_after, instructions, all_frames}
use Rattle.gate_model.specs.declared.answer.Answer.{Answer}
use Rattle.gate_model.specs.declared.event.Event.{Event}
use Rattle.gate_model.specs.session.Calls.{Step}
use Rattle.gate_model.specs.session.Steps.{IsScreenSize, Legal}
use Rattle.gate_model.proofs.Added.{IsNext, next}
use Rattle.gate_model.proofs.Cuts.{functions_more, screens-go-on, screens-turn}

-- a Feed
pub all_frames-feed : (h : History) (bs : List ℕ) (t : ℕ) (frame : List Instr) → all_frames (Feed bs t frame ∷ h) ≡ all_frames h ++ frame
all_frames-feed h bs t frame = flat_map-append (λ (p : ℕ × List Instr). p.1) (frames h) ((t, frame) ∷ []) ∙ ap (λ (xs : List Instr). all_frames h ++ xs) (append-nil frame)

-- a Size
pub all_frames-size : (h : History) (v c r t : ℕ) (frame : List Instr) → all_frames (Size v c r t frame ∷ h) ≡ all_frames h ++ frame
all_frames-size h v c r t frame = flat_map-append (λ (p : ℕ × List Instr). p.1) (frames h) ((t, frame) ∷ []) ∙ ap (λ (xs : List Instr). all_frames h ++ xs) (append-nil frame)

-- the changes of size stand among the bytes
within_longer : (n m : ℕ) (cs : List Cut) → n ≤ m → AreWithin n cs → AreWithin m cs
within_longer n m cs le w = λ i d lt. omega (arith, w i d lt, le)

within_both : (n : ℕ) (xs ys : List Cut) → AreWithin n xs → AreWithin n ys → AreWithin n (xs ++ ys)
within_both n xs ys a b = All-append (λ (cut : Cut). cut.after ≤ n) xs ys a b

pub cuts_within : (h : History) → AreWithin (length (bytes h)) (cuts h)
cuts_within [] = λ i d lt. absurd (omega (arith, lt))
cuts_within (Size v c r t frame ∷ g) =
    let same : length (bytes g ++ []) ≡ length (bytes g) = ap length (append-nil (bytes g)) in
    within_longer (length (bytes g)) (length (bytes g ++ [])) (cuts (Size v c r t frame ∷ g)) (omega (arith, same))
    (within_both (length (bytes g)) (cuts g) (record { after = length (bytes g); size = record { columns = c; rows = r } } ∷ []) (cuts_within g) (one_within (length (bytes g)) record { columns = c; rows = r }))
  where
    one_within : (n : ℕ) (s : ScreenSize) → AreWithin n (record { after = n; size = s } ∷ [])
    one_within n s zero d lt = omega arith
    one_within n s (suc i) d lt = absurd (omega (arith, lt))
cuts_within (Start cols lines mode term faces entries stamp frame ∷ g) = within_longer (length (bytes g)) (length (bytes g ++ [])) (cuts g) (omega (arith, length-append (bytes g) [])) (cuts_within g)
cuts_within (Feed bs t frame ∷ g) = within_longer (length (bytes g)) (length (bytes g ++ bs)) (cuts g) (omega (arith, length-append (bytes g) bs)) (cuts_within g)
cuts_within (Join viewer role first ∷ g) = within_longer (length (bytes g)) (length (bytes g ++ [])) (cuts g) (omega (arith, length-append (bytes g) [])) (cuts_within g)
cuts_within (Read viewer how ∷ g) = within_longer (length (bytes g)) (length (bytes g ++ [])) (cuts g) (omega (arith, length-append (bytes g) [])) (cuts_within g)
cuts_within (Write viewer acts ∷ g) = within_longer (length (bytes g)) (length (bytes g ++ [])) (cuts g) (omega (arith, length-append (bytes g) [])) (cuts_within g)
cuts_within (Take count ∷ g) = within_longer (length (bytes g)) (length (bytes g ++ [])) (cuts g) (omega (arith, length-append (bytes g) [])) (cuts_within g)
cuts_within (Leave viewer ∷ g) = within_longer (length (bytes g)) (length (bytes g ++ [])) (cuts g) (omega (arith, length-append (bytes g) [])) (cuts_within g)
cuts_within (Close cause ∷ g) = within_longer (length (bytes g)) (length (bytes g ++ [])) (cuts g) (omega (arith, length-append (bytes g) [])) (cuts_within g)

-- the screen after a Feed, and after a Size
pub at-feed : (h : History) (bs : List ℕ) (t : ℕ) (frame : List Instr) (cs : List Control) → functions (tokens (bytes h ++ bs)) ≡ functions (tokens (bytes h)) ++ cs → at (Feed bs t frame ∷ h) ≡ after_controls (at h) cs
at-feed h bs t frame cs more =
    screens-go-on (opening h) (bytes h) bs (cuts h) (cuts_within h)
    ∙ ap (after_controls (at h)) (append_cancel_left (functions (tokens (bytes h))) (completed (bytes h) bs) cs (sym (functions_more (bytes h) bs) ∙ more))

pub at-size : (h : History) (v c r t : ℕ) (frame : List Instr) → at (Size v c r t frame ∷ h) ≡ resized c r (at h)
at-size h v c r t frame =
    ap (λ (bs : List ℕ). screen (opening h) bs (cuts h ++ record { after = length (bytes h); size = record { columns = c; rows = r } } ∷ [])) (append-nil (bytes h))
    ∙ screens-turn (opening h) (bytes h) (cuts h) record { columns = c; rows = r }

-- the frames after a stamp that is older than the new one
pub frames_after-feed : (h : History) (s t : ℕ) (frame : List Instr) → s < t → frames_after s (frames h ++ (t, frame) ∷ []) ≡ frames_after s (frames h) ++ (t, frame) ∷ []
frames_after-feed h s t frame lt = filter-append (λ (p : ℕ × List Instr). nat_lt s p.0) (frames h) ((t, frame) ∷ []) ∙ ap (λ (xs : List (ℕ × List Instr)). frames_after s (frames h) ++ xs) (rw (lt-ltb s t lt) refl)

-- an entry without bytes and without a frame, at any history that goes on the same way
pub record IsPlain (e : Entry) : Type 0 where
  pub no_bytes : fed e ≡ []
  pub no_frame : framed e ≡ []
  pub no_start : (g : History) → (columns (e ∷ g) ≡ columns g) × ((rows (e ∷ g) ≡ rows g) × ((cuts (e ∷ g) ≡ cuts g) × ((size_now (e ∷ g) ≡ size_now g) × (faces (e ∷ g) ≡ faces g))))

pub plain-join : (viewer : ℕ) (role : Role) (first : List Instr) → IsPlain (Join viewer role first)
plain-join viewer role first = record { no_bytes = refl; no_frame = refl; no_start = λ g. (refl, (refl, (refl, (refl, refl)))) }

pub plain-read : (viewer : ℕ) (how : How) → IsPlain (Read viewer how)
plain-read viewer how = record { no_bytes = refl; no_frame = refl; no_start = λ g. (refl, (refl, (refl, (refl, refl)))) }

pub plain-write : (viewer : ℕ) (acts : List Act) → IsPlain (Write viewer acts)
plain-write viewer acts = record { no_bytes = refl; no_frame = refl; no_start = λ g. (refl, (refl, (refl, (refl, refl)))) }

pub plain-take : (count : ℕ) → IsPlain (Take count)
plain-take count = record { no_bytes = refl; no_frame = refl; no_start = λ g. (refl, (refl, (refl, (refl, refl)))) }

pub plain-leave : (viewer : ℕ) → IsPlain (Leave viewer)
plain-leave viewer = record { no_bytes = refl; no_frame = refl; no_start = λ g. (refl, (refl, (refl, (refl, refl)))) }

pub plain-close : (cause : Cause) → IsPlain (Close cause)
plain-close cause = record { no_bytes = refl; no_frame = refl; no_start = λ g. (refl, (refl, (refl, (refl, refl)))) }

pub at-plain : (h : History) (e : Entry) → IsPlain e → at (e ∷ h) ≡ at h
at-plain h e p =
    let b : bytes (e ∷ h) ≡ bytes h = rw p.no_bytes (append-nil (bytes h)) in
    let start : opening (e ∷ h) ≡ opening h =
    ap (λ (s : ScreenSize). record { size = s; faces = faces (e ∷ h) }) (ap (λ c. record { columns = c; rows = rows (e ∷ h) }) (p.no_start h).0 ∙ ap (λ r. record { columns = columns h; rows = r }) (p.no_start h).1.0)
    ∙ ap (λ f. record { size = first_size h; faces = f }) (p.no_start h).1.1.1.1 in
    ap (λ (s : Opening). screen s (bytes (e ∷ h)) (cuts (e ∷ h))) start
    ∙ (ap (λ (bs : List ℕ). screen (opening h) bs (cuts (e ∷ h))) b ∙ ap (screen (opening h) (bytes h)) (p.no_start h).1.1.0)

pub all_frames-plain : (h : History) (e : Entry) → IsPlain e → all_frames (e ∷ h) ≡ all_frames h
all_frames-plain h e p = let f : frames (e ∷ h) ≡ frames h = rw p.no_frame (append-nil (frames h)) in ap instructions f

-- what a legal history has
pub legal-size : (h : History) → Legal h → IsScreenSize (size_now h).columns (size_now h).rows
legal-size [] l = absurd l
legal-size (e ∷ []) l = subst (λ (x : Entry). IsScreenSize (size_now (x ∷ [])).columns (size_now (x ∷ [])).rows) (sym l.2.4) l.2.0.size
legal-size (e ∷ f ∷ g) l = sized_next (f ∷ g) e (next e f g l) (legal-size (f ∷ g) l.0)
  where
    sized_next : (g : History) (e : Entry) → IsNext g e → IsScreenSize (size_now g).columns (size_now g).rows → IsScreenSize (size_now (e ∷ g)).columns (size_now (e ∷ g)).rows
    sized_next g (Size v c r t frame) n s = n.size
    sized_next g (Feed bs t frame) n s = s
    sized_next g (Join viewer role first) n s = s
    sized_next g (Read viewer how) n s = s
    sized_next g (Write viewer acts) n s = s
    sized_next g (Take count) n s = s
    sized_next g (Leave viewer) n s = s
    sized_next g (Close cause) n s = s
    sized_next g (Start cols lines mode term faces entries stamp frame) n s = absurd n

-- one entry more is legal where a call adds it
pub legal-more : (h : History) (event : Event) (answer : Answer) (e : Entry) → Legal h → Step h event answer (e ∷ []) → Legal (e ∷ h)
legal-more [] event answer e l s = absurd l
legal-more (f ∷ g) event answer e l s = (l, event, answer, s)
