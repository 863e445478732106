-- How more bytes go on with the pieces that were cut, and how a run ends.
use Rattle.std.proofs.Common.{◌≡◌, ℕ, zero, suc, ◌<◌, ◌≤◌, List, [], ◌∷◌, ◌++◌, inl, inr, length, take, drop, refl, ap, sym, ◌∙◌, subst, append_assoc, append-nil, reverse, ◌+◌, ◌-◌, length-drop, arith}
use Rattle.std.specs.Prelude.{Some, None, Option, Result, Ok, Err, Bool, false, nat_lt}
use Rattle.std.specs.List.{list_any}
use Rattle.std.proofs.lemmas.List.{take-append-drop, reverse-append, reverse-reverse, take_all}
use Rattle.std.proofs.lemmas.Bool.{lt-ltb}
use Rattle.std.proofs.Math.Seq.{take-add}
use Rattle.gate_model.specs.Sequences.{IsLater}
use Rattle.gate_model.specs.text.Reading.{read as read_stream, after}
use Rattle.gate_model.proofs.Cutting.{resumes, read-whole, read-unfinished}
use Rattle.std.specs.Prelude.{◌^◌}
use Rattle.gate_outside.specs.Edge.{AtEnd, came, Rose}
use Rattle.gate_script.specs.declared.session.Session.{Session}
use Rattle.gate_outside.proofs.Moved.{came-none}
use Rattle.script_grammar.specs.declared.text_form.TextForm.{TextForm}
use Rattle.script_grammar.specs.declared.text_form.TextForm.TheVariants.{Draw, Script}
use Rattle.gate_script.specs.declared.run.Run.{Run}
use Rattle.script_grammar.specs.declared.size.Size.{Size}
use Rattle.gate_script.specs.declared.stop.Stop.{Stop}
use Rattle.gate_script.specs.declared.stop.Stop.TheVariants.{ReadFault, WriteFault, NoMemory, Refused}
use Rattle.script_grammar.specs.Pieces.{first_piece, whole_pieces, all_pieces, last_piece}
use Rattle.script_grammar.specs.declared.line.Line.TheVariants.{Server, Read, Acknowledge, Done}
use Rattle.script_grammar.specs.declared.order.Order.{Order}
use Rattle.script_grammar.specs.declared.order.Order.TheVariants.{Told as told, Untold as untold}
use Rattle.script_grammar.specs.Lines.{draw_lines}
use Rattle.script_grammar.specs.Grammar.{ending, judged, total, starts, script_grammar, lines_of, most_of, whole_lines, all_lines}
use Rattle.gate_script.specs.Sinks.{Sinks}
use Rattle.gate_script.specs.Running.{StoppedIn, HasDone, HasCut, LastEnds, AllDone, RunEnds, AtEndUnless, IsReady, IsReadyFor, sight_of}
use Rattle.script_grammar.proofs.PieceLaws.{pieces_are_read, begun}
use Rattle.gate_script.proofs.RunLaws.{stopped-later, all_done}

reverse-cons : {A : Type 0} (x : A) (xs : List A) → reverse (x ∷ xs) ≡ reverse xs ++ x ∷ []
reverse-cons x xs = reverse-append (x ∷ []) xs

-- a piece has some bytes
some_most : (form : TextForm) → 0 < most_of form
some_most (Draw size) = omega arith
some_most (Script entries) = omega arith

nothing-whole : (form : TextForm) → first_piece (most_of form) [] ≡ None
nothing-whole (Draw size) = refl
nothing-whole (Script entries) = refl

-- all that was done so far
pub done_so_far : (form : TextForm) (pieces : List (List ℕ)) (r : Run) (b n : Sinks) → HasDone form pieces r b n → AllDone (lines_of form pieces) b n
done_so_far form pieces r b n had = all_done (sight_of form) (lines_of form pieces) r b n had.at

-- a call stopped for want of memory after these orders
pub short_after : (orders all : List Order) (b n : Sinks) → AllDone orders b n → IsLater orders all → StoppedIn all NoMemory b n
short_after orders all b n d more = record { orders = orders; first = more; done = d }

-- the lines of more pieces go on with those of these
pub lines-later : (form : TextForm) (ps qs : List (List ℕ)) → IsLater ps qs → IsLater (lines_of form ps) (lines_of form qs)
lines-later form ps qs p = subst (λ (l : List (List ℕ)). IsLater (lines_of form ps) (lines_of form l)) (sym p.1) (more form p.0)
  where
    draws : (size : Size) (ms : List (List ℕ)) → IsLater (draw_lines size ps) (draw_lines size (ms ++ ps))
    draws size [] = ([], refl)
    draws size (m ∷ ms) = let q = draws size ms in (untold (Acknowledge 1) ∷ untold (Read 1) ∷ told (Server m) ∷ q.0, ap (λ (l : List Order). untold (Acknowledge 1) ∷ untold (Read 1) ∷ told (Server m) ∷ l) q.1)

    scripts : (entries : ℕ) (ms : List (List ℕ)) → IsLater (script_grammar entries ps) (script_grammar entries (ms ++ ps))
    scripts entries [] = ([], refl)
    scripts entries (m ∷ ms) =
        let q = scripts entries ms in
        let order : Order = told (judged entries (list_any starts (script_grammar entries (ms ++ ps))) (total (ms ++ ps)) m) in
        (order ∷ q.0, ap (λ (l : List Order). order ∷ l) q.1)

    more : (form : TextForm) (ms : List (List ℕ)) → IsLater (lines_of form ps) (lines_of form (ms ++ ps))
    more (Draw size) ms = draws size ms
    more (Script entries) ms = scripts entries ms

-- the lines at the end of the input go on with the others
pub ending-later : (form : TextForm) (lines : List Order) → IsLater lines (ending form lines)
ending-later (Draw size) lines = (told Done ∷ [], refl)
ending-later (Script entries) lines = ([], refl)

module _ (form : TextForm) where
  module _ (before piece : List ℕ) (pieces : List (List ℕ)) (cut : read_stream (first_piece (most_of form)) before ≡ (reverse pieces, piece)) where
    cut-more : (more : List ℕ) → read_stream (first_piece (most_of form)) (before ++ more) ≡ after (reverse pieces) (read_stream (first_piece (most_of form)) (piece ++ more))
    cut-more more = resumes (first_piece (most_of form)) (pieces_are_read (most_of form) (some_most form)) before more ∙ ap (λ (r : List (List ℕ) × List ℕ). after r.0 (read_stream (first_piece (most_of form)) (r.1 ++ more))) cut

    -- the bytes make the piece whole
    cut-whole : (front : List ℕ) → first_piece (most_of form) (piece ++ front) ≡ Some ((piece ++ front) ∷ [], []) → read_stream (first_piece (most_of form)) (before ++ front) ≡ (reverse ((piece ++ front) ∷ pieces), [])
    cut-whole front is_whole =
        let one : read_stream (first_piece (most_of form)) (piece ++ front) ≡ ((piece ++ front) ∷ [], []) = read-whole (first_piece (most_of form)) (pieces_are_read (most_of form) (some_most form)) (piece ++ front) [] ((piece ++ front) ∷ []) is_whole
        ∙ ap (after ((piece ++ front) ∷ [])) (read-unfinished (first_piece (most_of form)) (pieces_are_read (most_of form) (some_most form)) [] (nothing-whole form)) in
        cut-more front ∙ (ap (after (reverse pieces)) one ∙ ap (λ (ps : List (List ℕ)). (ps, [])) (sym (reverse-cons (piece ++ front) pieces)))

    -- the piece isn't whole yet
    cut-open : (front : List ℕ) → first_piece (most_of form) (piece ++ front) ≡ None → read_stream (first_piece (most_of form)) (before ++ front) ≡ (reverse pieces, piece ++ front)
    cut-open front open_ = cut-more front ∙ (ap (after (reverse pieces)) (read-unfinished (first_piece (most_of form)) (pieces_are_read (most_of form) (some_most form)) (piece ++ front) open_) ∙ ap (λ (ps : List (List ℕ)). (ps, piece ++ front)) (append-nil (reverse pieces)))

    -- the pieces so far stay the first ones
    pieces-later : (more : List ℕ) → IsLater pieces (reverse (whole_pieces (most_of form) (before ++ more)))
    pieces-later more =
        let others : List (List ℕ) = (read_stream (first_piece (most_of form)) (piece ++ more)).0 in
        (reverse others, ap (λ (r : List (List ℕ) × List ℕ). reverse r.0) (cut-more more) ∙ (reverse-append (reverse pieces) others ∙ ap (λ (ps : List (List ℕ)). reverse others ++ ps) (reverse-reverse pieces)))

    -- all the pieces, the newest first
    all-none : length piece ≡ 0 → reverse (all_pieces (most_of form) before) ≡ pieces
    all-none empty =
        ap (λ (r : List (List ℕ) × List ℕ). reverse (r.0 ++ last_piece r.1)) cut ∙ (ap (λ (l : List (List ℕ)). reverse (reverse pieces ++ l)) (none piece empty) ∙ (ap reverse (append-nil (reverse pieces)) ∙ reverse-reverse pieces))
      where
        none : (p : List ℕ) → length p ≡ 0 → last_piece p ≡ []
        none [] e = refl
        none (b ∷ bs) e = absurd (omega (arith, e))

    all-last : 0 < length piece → reverse (all_pieces (most_of form) before) ≡ piece ∷ pieces
    all-last some =
        ap (λ (r : List (List ℕ) × List ℕ). reverse (r.0 ++ last_piece r.1)) cut ∙ (ap (λ (l : List (List ℕ)). reverse (reverse pieces ++ l)) (last piece some) ∙ (reverse-append (reverse pieces) (piece ∷ []) ∙ ap (λ (l : List (List ℕ)). piece ∷ l) (reverse-reverse pieces)))
      where
        last : (p : List ℕ) → 0 < length p → last_piece p ≡ p ∷ []
        last [] lt = absurd (omega (arith, lt))
        last (b ∷ bs) lt = refl

  module _ (before piece : List ℕ) (r r' : Run) (b n n' : Sinks) (h : HasCut form before piece r b n) where
    -- no memory for the bytes of the piece
    pub not_kept : (bytes : List ℕ) → StoppedIn (whole_lines form (before ++ bytes)) NoMemory b n
    not_kept bytes = short_after (lines_of form h.pieces) (whole_lines form (before ++ bytes)) b n (done_so_far form h.pieces r b n h.has_done)
        (lines-later form h.pieces (reverse (whole_pieces (most_of form) (before ++ bytes))) (pieces-later before piece h.pieces h.cut bytes))

    -- the piece became whole, and was done
    pub piece_done : (front : List ℕ) (own rest : List ℕ) → own ≡ piece ++ front → rest ≡ [] → first_piece (most_of form) (piece ++ front) ≡ Some ((piece ++ front) ∷ [], []) → HasDone form (own ∷ h.pieces) r' b n' → HasCut form (before ++ front) rest r' b n'
    piece_done front own rest own_is rest_is is_whole had = record {
      pieces = (piece ++ front) ∷ h.pieces;
      cut = cut-whole before piece h.pieces h.cut front is_whole ∙ ap (λ (l : List ℕ). (reverse ((piece ++ front) ∷ h.pieces), l)) (sym rest_is);
      begun = ap (first_piece (most_of form)) rest_is ∙ nothing-whole form;
      has_done = subst (λ (l : List ℕ). HasDone form (l ∷ h.pieces) r' b n') own_is had;
    }

    -- it became whole, and a call stopped in it
    pub piece_stopped : (bytes : List ℕ) (count : ℕ) (own : List ℕ) (stop : Stop) → own ≡ piece ++ take count bytes → first_piece (most_of form) (piece ++ take count bytes) ≡ Some ((piece ++ take count bytes) ∷ [], [])
        → StoppedIn (lines_of form (own ∷ h.pieces)) stop b n' → StoppedIn (whole_lines form (before ++ bytes)) stop b n'
    piece_stopped bytes count own stop own_is is_whole s =
        let front : List ℕ = take count bytes in
        let rest : List ℕ = drop count bytes in
        let all : (before ++ front) ++ rest ≡ before ++ bytes = append_assoc before front rest ∙ ap (λ (l : List ℕ). before ++ l) (take-append-drop count bytes) in
        let cut = cut-whole before piece h.pieces h.cut front is_whole in
        stopped-later (lines_of form ((piece ++ front) ∷ h.pieces)) (whole_lines form (before ++ bytes)) stop b n'
        (lines-later form ((piece ++ front) ∷ h.pieces) (reverse (whole_pieces (most_of form) (before ++ bytes)))
        (subst (λ (l : List ℕ). IsLater ((piece ++ front) ∷ h.pieces) (reverse (whole_pieces (most_of form) l))) all (pieces-later (before ++ front) [] ((piece ++ front) ∷ h.pieces) cut rest)))
        (subst (λ (l : List ℕ). StoppedIn (lines_of form (l ∷ h.pieces)) stop b n') own_is s)

    -- it isn't whole yet
    pub piece_goes_on : (front own : List ℕ) → own ≡ piece ++ front → first_piece (most_of form) (piece ++ front) ≡ None → HasCut form (before ++ front) own r b n
    piece_goes_on front own own_is open_ = record {
      pieces = h.pieces;
      cut = cut-open before piece h.pieces h.cut front open_ ∙ ap (λ (l : List ℕ). (reverse h.pieces, l)) (sym own_is);
      begun = ap (first_piece (most_of form)) own_is ∙ open_;
      has_done = h.has_done;
    }

    -- the input ended with a piece
    pub ended_whole : (own : List ℕ) (result : Result (Unit {0}) Stop) → own ≡ piece → length own ≡ 0 → LastEnds (ending form (lines_of form h.pieces)) result b n' → LastEnds (all_lines form before) result b n'
    ended_whole own result is empty e = subst (λ (ps : List (List ℕ)). LastEnds (ending form (lines_of form ps)) result b n') (sym (all-none before piece h.pieces h.cut (omega (arith, ap length is, empty)))) e

    -- it ended in the midst of one
    pub ended_amidst : (own : List ℕ) (result : Result (Unit {0}) Stop) → own ≡ piece → 0 < length own → LastEnds (ending form (lines_of form (own ∷ h.pieces))) result b n' → LastEnds (all_lines form before) result b n'
    ended_amidst own result is some e = subst (λ (ps : List (List ℕ)). LastEnds (ending form (lines_of form ps)) result b n') (ap (λ (l : List ℕ). l ∷ h.pieces) is ∙ sym (all-last before piece h.pieces h.cut (omega (arith, ap length is, some)))) e

    pub stopped_amidst : (own : List ℕ) (stop : Stop) → own ≡ piece → 0 < length own → StoppedIn (lines_of form (own ∷ h.pieces)) stop b n' → StoppedIn (all_lines form before) stop b n'
    stopped_amidst own stop is some s = subst (λ (ps : List (List ℕ)). StoppedIn (ending form (lines_of form ps)) stop b n') (ap (λ (l : List ℕ). l ∷ h.pieces) is ∙ sym (all-last before piece h.pieces h.cut (omega (arith, ap length is, some))))
        (stopped-later (lines_of form (own ∷ h.pieces)) (ending form (lines_of form (own ∷ h.pieces))) stop b n' (ending-later form (lines_of form (own ∷ h.pieces))) s)

    -- the source failed
    pub read_failed : AllDone (whole_lines form before) b n
    read_failed = subst (λ (ps : List (List ℕ)). AllDone (lines_of form ps) b n) (sym (ap (λ (q : List (List ℕ) × List ℕ). reverse q.0) h.cut ∙ reverse-reverse h.pieces)) (done_so_far form h.pieces r b n h.has_done)

  -- nothing was read yet
  pub cut_nothing : (r : Run) (b n : Sinks) (piece : List ℕ) → piece ≡ [] → HasDone form [] r b n → HasCut form [] piece r b n
  cut_nothing r b n piece is had = record {
    pieces = [];
    cut = read-unfinished (first_piece (most_of form)) (pieces_are_read (most_of form) (some_most form)) [] (nothing-whole form) ∙ ap (λ (l : List ℕ). ([], l)) (sym is);
    begun = ap (first_piece (most_of form)) is ∙ nothing-whole form;
    has_done = had;
  }

  -- a call stopped in the bytes
  pub run_stopped : (bytes : List ℕ) (left : Option (List ℕ)) (Fault : Type 0) (b n : Sinks) (stop : Stop) → StoppedIn (whole_lines form bytes) stop b n → RunEnds form bytes left Fault (Err stop) b n
  run_stopped bytes left Fault b n WriteFault s = inl s
  run_stopped bytes left Fault b n NoMemory s = inl s
  run_stopped bytes left Fault b n (Refused refused) s = inl s
  run_stopped bytes left Fault b n ReadFault s = absurd s

  -- the input ended
  pub run_finished : (bytes : List ℕ) (left : Option (List ℕ)) (Fault : Type 0) (b n : Sinks) (result : Result (Unit {0}) Stop) → AtEnd left → LastEnds (all_lines form bytes) result b n → RunEnds form bytes left Fault result b n
  run_finished bytes left Fault b n (Ok u) at_end e = (at_end, e)
  run_finished bytes left Fault b n (Err WriteFault) at_end e = inr (at_end, e)
  run_finished bytes left Fault b n (Err NoMemory) at_end e = inr (at_end, e)
  run_finished bytes left Fault b n (Err (Refused refused)) at_end e = inr (at_end, e)
  run_finished bytes left Fault b n (Err ReadFault) at_end e = absurd e

-- nothing was read, for want of memory
pub no_room : (form : TextForm) (piece : List ℕ) (r : Run) (left : Option (List ℕ)) (Fault : Type 0) (b n : Sinks) → HasCut form [] piece r b n → RunEnds form [] left Fault (Err NoMemory) b n
no_room form piece r left Fault b n h = inl (short_after (whole_lines form []) (whole_lines form []) b n (read_failed form [] piece r r b n n h) ([], refl))

-- no bytes make no pieces
pub no_pieces : (form : TextForm) → reverse (whole_pieces (most_of form) []) ≡ []
no_pieces form = ap (λ (q : List (List ℕ) × List ℕ). reverse q.0) (read-unfinished (first_piece (most_of form)) (pieces_are_read (most_of form) (some_most form)) [] (nothing-whole form))

pub no_piece : (form : TextForm) → first_piece (most_of form) [] ≡ None
no_piece form = nothing-whole form

-- a fault of the source that a part of the run met is one of the run
pub fault_earlier : (form : TextForm) (bytes : List ℕ) (left : Option (List ℕ)) (Fault Fault' : Type 0) (stop : Stop) (b n : Sinks) → (Fault → Fault') → RunEnds form bytes left Fault (Err stop) b n → RunEnds form bytes left Fault' (Err stop) b n
fault_earlier form bytes left Fault Fault' ReadFault b n more ends = (more ends.0, ends.1)
fault_earlier form bytes left Fault Fault' WriteFault b n more ends = ends
fault_earlier form bytes left Fault Fault' NoMemory b n more ends = ends
fault_earlier form bytes left Fault Fault' (Refused refused) b n more ends = ends

-- the last read gave nothing, and the input was finished
pub read_ends : (form form1 form2 : TextForm) (some : Bool) (bytes piece : List ℕ) (r : Run) (left : Option (List ℕ)) (Fault : Type 0) (b n n' : Sinks) (result : Result (Unit {0}) Stop) → form1 ≡ form → form2 ≡ form1 → some ≡ false
    → AtEndUnless some left × HasCut form1 bytes piece r b n → (HasCut form2 bytes piece r b n → LastEnds (all_lines form2 bytes) result b n') → RunEnds form bytes left Fault result b n'
read_ends form form1 form2 some bytes piece r left Fault b n n' result is1 is2 none h finish =
    let both : form2 ≡ form = is2 ∙ is1 in
    run_finished form bytes left Fault b n' result (subst (λ (x : Bool). AtEndUnless x left) none h.0)
    (subst (λ (x : TextForm). LastEnds (all_lines x bytes) result b n') both (finish (subst (λ (x : TextForm). HasCut x bytes piece r b n) (sym is2) h.1)))

-- what a run has read is bounded
pub few_read : (r : Run) → IsReady r → r.read ≤ 2 ^ 56
few_read r ready = by_form r.form r.state.session ready.form
  where
    by_form : (form : TextForm) (session : Option Session) → IsReadyFor form session r.read → r.read ≤ 2 ^ 56
    by_form (Draw size) None p = absurd p.0
    by_form (Draw size) (Some s) p = omega (arith, p.1, p.0.few)
    by_form (Script entries) session p = omega (arith, p.1)

pub short_piece : (form : TextForm) (piece : List ℕ) → first_piece (most_of form) piece ≡ None → length piece < 262146
short_piece (Draw size) piece e = omega (arith, (begun 65536 piece e).short)
short_piece (Script entries) piece e = omega (arith, (begun 262146 piece e).short)

-- a count that rose in a later part of a call rose in the call
pub rose-later : (a b c : ℕ) → a ≤ b → Rose b c → Rose a c
rose-later a b c le rose = omega (arith, le, rose)

-- where a read gave no bytes, the source is at its end
pub at_end_unless : (count : ℕ) (into : List ℕ) (old new : Option (List ℕ)) → old ≡ came (take count into) new → (count ≡ 0 → AtEnd old) → AtEndUnless (nat_lt 0 count) new
at_end_unless zero into old new is end = subst AtEnd (is ∙ came-none new) (end refl)
at_end_unless (suc n) into old new is end = rw (lt-ltb 0 (suc n) (omega arith)) tt

-- the rest of some bytes from a place on, as a slice is seen
rest_of : (at : ℕ) (bytes : List ℕ) → take (length bytes - at) (drop at bytes) ≡ drop at bytes
rest_of at bytes = take_all (length bytes - at) (drop at bytes) (omega (arith, length-drop at bytes))

-- bytes up to a place, and a part of the rest
pub taken : (before bytes : List ℕ) (at n : ℕ) → (before ++ take at bytes) ++ take n (take (length bytes - at) (drop at bytes)) ≡ before ++ take (at + n) bytes
taken before bytes at n = ap (λ (l : List ℕ). (before ++ take at bytes) ++ take n l) (rest_of at bytes) ∙ (append_assoc before (take at bytes) (take n (drop at bytes)) ∙ ap (λ (l : List ℕ). before ++ l) (sym (take-add at n bytes)))

-- bytes up to a place, and all the rest
pub taken-all : (before bytes : List ℕ) (at : ℕ) → (before ++ take at bytes) ++ take (length bytes - at) (drop at bytes) ≡ before ++ bytes
taken-all before bytes at = ap (λ (l : List ℕ). (before ++ take at bytes) ++ l) (rest_of at bytes) ∙ (append_assoc before (take at bytes) (drop at bytes) ∙ ap (λ (l : List ℕ). before ++ l) (take-append-drop at bytes))
