-- A change of size: what the desk's parts leave, and that a desk that stood for a history stands for it with a Size more.
use Rattle.std.proofs.Common.{◌≡◌, ℕ, ◌+◌, ◌≤◌, List, [], ◌∷◌, ◌++◌, length, refl, ap, sym, ◌∙◌, subst, append-nil, arith}
use Rattle.std.specs.Prelude.{None, Ok}
use Rattle.ecma_parser.specs.Parser.{HasRead}
use Rattle.gate_model.specs.declared.answer.Answer.{Answer}
use Rattle.gate_model.specs.declared.answer.Answer.TheVariants.{Resize as was_resized}
use Rattle.gate_model.specs.declared.entry.Entry.{Entry}
use Rattle.gate_model.specs.declared.entry.Entry.TheVariants.{Size}
use Rattle.gate_model.specs.declared.event.Event.{Event}
use Rattle.gate_model.specs.declared.event.Event.TheVariants.{Resize as resize}
use Rattle.gate_model.specs.declared.instr.Instr.{Instr}
use Rattle.gate_model.specs.Limits.{most_buffers}
use Rattle.gate_model.specs.picture.Buffers.{Renews, new_keys}
use Rattle.gate_model.specs.picture.KeyGrid.{KeyGrid}
use Rattle.gate_model.specs.picture.Shape.{Shape}
use Rattle.gate_model.specs.session.Calls.{Step}
use Rattle.gate_model.specs.session.History.{History, at, bytes, frames, newest}
use Rattle.gate_model.specs.session.Output.{sent}
use Rattle.gate_model.specs.session.Refusals.{resize_refusal}
use Rattle.gate_model.specs.session.Steps.{Legal}
use Rattle.gate_model.specs.telnet.OptionAnswers.{Switches, if_on, size_text}
use Rattle.gate_model.specs.telnet.TelnetTokens.{tokens}
use Rattle.gate_model.specs.terminal.Resizing.{resized}
use Rattle.gate_model.specs.terminal.ScreenLaws.{scrolled_more}
use Rattle.gate_model.specs.terminal.Screens.{AreColoured, data_of, shown}
use Rattle.gate_model.specs.terminal.Sizes.{IsScreenSize}
use Rattle.gate_model.specs.terminal.Terminal.{Terminal}
use Rattle.gate_model.proofs.Grown.{growing-next}
use Rattle.gate_model.proofs.Histories.{at-size, legal-more}
use Rattle.gate_model.proofs.Layered.{drawn-layers, layers-size, held-size}
use Rattle.gate_model.proofs.Painted.{coloured-at}
use Rattle.gate_model.proofs.Stepping.{resize_step}
use Rattle.display_history.specs.Keeping.{HasKept}
use Rattle.display_history.specs.Laws.{texts_of}
use Rattle.telnet_options.specs.Options.{switches}
use Rattle.telnet_wire.specs.Wire as wire
use Rattle.desk_core.specs.declared.host.Heard.{Heard}
use Rattle.desk_core.specs.Calls.{Answered}
use Rattle.desk_core.specs.Desk.{DeskState, IsWaiting, Stands}
use Rattle.desk_core.specs.Drawing.{DrawingState, DrawsOver, HasDrawn, Redraws}
use Rattle.desk_core.specs.Frames.{AddsFrame, FramesState}
use Rattle.desk_core.specs.Host.{HasHeard, Turned}
use Rattle.desk_core.specs.Log.{LogState, with_entry}
use Rattle.desk_core.proofs.FrameTexts.{texts_of-more}
use Rattle.desk_core.proofs.Seating.{same, waits_on, book-same}
use Rattle.desk_core.proofs.Standing.{log_of, waits-more}

-- the host that has heard the same, and whose screen has another size
turned : (d : DeskState) (h : History) (v c r t : ℕ) (frame : List Instr) (g : Heard) (s : Stands d h) → Turned d.host c r g → HasHeard g.host (at (Size v c r t frame ∷ h)) s.host.scrolled (bytes (Size v c r t frame ∷ h))
turned d h v c r t frame g s turns =
    let e : Entry = Size v c r t frame in
    let before = s.host.heard in
    subst (λ (bs : List ℕ). HasHeard g.host (at (e ∷ h)) s.host.scrolled bs) (sym (append-nil (bytes h))) record {
      wire = subst (λ k. wire.HasRead k (bytes h)) (sym turns.wire) before.wire;
      taken = record {
        options = ap switches turns.options ∙ before.taken.options;
        parser = subst (λ k. HasRead k (data_of (tokens (bytes h)))) (sym turns.parser) before.taken.parser;
        screen = ap (scrolled_more s.host.scrolled) turns.screen ∙ (ap (resized c r) before.taken.screen ∙ sym (at-size h v c r t frame));
      };
    }

-- what its screen shows
shows_of : (d : DeskState) (h : History) (v c r t : ℕ) (frame : List Instr) (g : Heard) → Stands d h → Turned d.host c r g → shown g.host.screen ≡ shown (at (Size v c r t frame ∷ h))
shows_of d h v c r t frame g s turns = ap shown (turned d h v c r t frame g s turns).taken.screen

pub turned_colours : (d : DeskState) (h : History) (c r : ℕ) (g : Heard) → Stands d h → Turned d.host c r g → AreColoured (shown g.host.screen).keys
turned_colours d h c r g s turns = subst (λ (m : KeyGrid). AreColoured m.keys) (sym (shows_of d h 0 c r 0 [] g s turns)) (coloured-at (Size 0 c r 0 [] ∷ h))

-- what the host is told
told_of : (d : DeskState) (h : History) (v c r t : ℕ) (frame : List Instr) (g : Heard) → Stands d h → Turned d.host c r g → g.replies.items ≡ sent h (Size v c r t frame)
told_of d h v c r t frame g s turns = turns.told ∙ ap (λ (on : Switches). if_on on.own_size (size_text c r)) s.host.heard.taken.options

resized_desk : (d : DeskState) (h : History) (v c r t : ℕ) (frame : List Instr) (l : LogState) (g : Heard) (outgoing : List ℕ) (f : FramesState) (drawing : DrawingState) (event : Event) (answer : Answer) → Stands d h → Step h event answer (Size v c r t frame ∷ [])
    → Turned d.host c r g → DrawsOver d.drawing g.host.screen t frame drawing
    → l ≡ with_entry (log_of d) (Size v c r t frame) → outgoing ≡ d.outgoing ++ g.replies.items → AddsFrame d.frames f t frame
    → Stands record d { host = g.host; outgoing = outgoing; frames = f; drawing = drawing; past = l.past; entries = l.entries } (Size v c r t frame ∷ h)
resized_desk d h v c r t frame l g outgoing f drawing event answer s step turns draws logs waiting shows =
    let e : Entry = Size v c r t frame in
    let legal : Legal (e ∷ h) = legal-more h event answer e s.legal step in
    let now : shown g.host.screen ≡ shown (at (e ∷ h)) = shows_of d h v c r t frame g s turns in
    let over : Renews (shown (at h)) d.drawing.keys frame (shown (at (e ∷ h))) drawing.keys =
    subst (λ (k : KeyGrid). Renews (shown (at h)) d.drawing.keys frame k drawing.keys) now (subst (λ (k : KeyGrid). Renews k d.drawing.keys frame (shown g.host.screen) drawing.keys) s.drawing.screen draws.renews) in
    let drawn : HasDrawn drawing (e ∷ h) = record {
      screen = draws.screen ∙ now;
      layers = layers-size h v c r t frame d.drawing.keys drawing.keys s.drawing.layers over;
      held = held-size h v c r t frame d.drawing.keys drawing.keys s.drawing.held
          (subst (λ (k : KeyGrid). length (d.drawing.keys ++ new_keys d.drawing.keys k.keys) ≤ most_buffers → drawing.keys ≡ d.drawing.keys ++ new_keys d.drawing.keys k.keys) now draws.gains);
    } in
    record {
      legal = legal;
      drawn = drawn-layers h e drawing.keys s.drawn drawn.layers;
      restoring = (s.restoring, tt);
      growing = growing-next h e d.drawing.keys drawing.keys legal draws.stays s.drawing.layers drawn.layers s.growing;
      frugal = (s.frugal, tt);
      setup = record { cols = s.setup.cols; rows = s.setup.rows; mode = s.setup.mode; term = s.setup.term; entries = s.setup.entries };
      host = record { scrolled = s.host.scrolled; heard = turned d h v c r t frame g s turns };
      outgoing = subst (λ (xs : List ℕ). IsWaiting xs (e ∷ h)) (sym waiting) (waits-more d.outgoing g.replies.items h e s.outgoing (told_of d h v c r t frame g s turns) refl);
      frames = record {
        kept = subst (HasKept f.kept) (sym (texts_of-more (frames h) t frame)) (shows.kept (texts_of (frames h)) s.frames.kept);
        newest = shows.newest;
        stamp = shows.stamp;
      };
      drawing = drawn;
      book = book-same d.book h e s.book refl refl (λ u. same h e u refl refl refl refl refl refl (waits_on h u));
      past = ap (λ (k : LogState). k.past) logs ∙ ap (λ (es : List Entry). e ∷ es) s.past;
      entries = omega (arith, ap (λ (k : LogState). k.entries) logs, s.entries);
      cause = s.cause;
    }

pub added_size : (d : DeskState) (h : History) (v c r t : ℕ) (g : Heard) (frame : List Instr) (l : LogState) (outgoing : List ℕ) (f : FramesState) (drawing : DrawingState) → Stands d h → IsScreenSize c r → resize_refusal h v c r ≡ None → t ≡ d.frames.stamp + 1
    → Turned d.host c r g → Redraws d.drawing g.host.screen t frame drawing
    → l ≡ with_entry (log_of d) (Size v c r t frame) → outgoing ≡ d.outgoing ++ g.replies.items → AddsFrame d.frames f t frame
    → Answered h (resize v c r) (was_resized (Ok t)) record d { host = g.host; outgoing = outgoing; frames = f; drawing = drawing; past = l.past; entries = l.entries } [] []
added_size d h v c r t g frame l outgoing f drawing s size allowed is_next turns draws logs waits shows =
    let next : t ≡ newest h + 1 = omega (arith, is_next, s.frames.stamp) in
    let shape : Shape c r frame t = subst (λ (m : Terminal). Shape (shown m).cols (shown m).rows frame t) turns.screen draws.over.shape in
    let step : Step h (resize v c r) (was_resized (Ok t)) (Size v c r t frame ∷ []) = resize_step h v c r t frame size allowed next shape draws.opens in
    record {
      added = Size v c r t frame ∷ [];
      step = step;
      stands = resized_desk d h v c r t frame l g outgoing f drawing (resize v c r) (was_resized (Ok t)) s step turns draws.over logs waits shows;
      appended = refl;
    }
