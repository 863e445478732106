-- What the host's bytes leave of a desk's host, and that its screen can be drawn.
use Rattle.std.proofs.Common.{◌≡◌, ℕ, ◌+◌, List, [], ◌++◌, length, drop, Bool, ap, sym, ◌∙◌, subst, arith}
use Rattle.std.specs.Prelude.{if◌then◌else◌}
use Rattle.gate_model.specs.declared.act.Act.{Act}
use Rattle.gate_model.specs.declared.mods.Mods.{Mods}
use Rattle.gate_model.specs.picture.KeyGrid.{KeyGrid}
use Rattle.gate_model.specs.declared.token.Token.{Token}
use Rattle.gate_model.specs.telnet.TelnetTokens.{tokens, unfinished_token}
use Rattle.gate_model.specs.terminal.Replies.{replies_on}
use Rattle.gate_model.specs.terminal.Sizes.{ScreenSize, size_after, sized}
use Rattle.gate_model.specs.session.History.{History, at, bytes, cuts, first_size, opening, size_now, terminal_type}
use Rattle.gate_model.specs.session.Output.{answered, typed}
use Rattle.gate_model.specs.session.Rights.{may, mods, held_after}
use Rattle.gate_model.specs.terminal.Screens.{AreColoured, after_controls, completed, shown}
use Rattle.gate_model.specs.session.Steps.{IsScreenSize, Legal}
use Rattle.gate_model.specs.terminal.Terminal.{Terminal}
use Rattle.std.proofs.Math.Seq.{drop-append_seam}
use Rattle.gate_model.proofs.Cuts.{replies-go-on}
use Rattle.gate_model.proofs.Histories.{cuts_within, legal-size}
use Rattle.gate_model.proofs.Painted.{painted-at, size-in-force}
use Rattle.gate_model.proofs.ScreenLaws.{after_controls-keeps, coloured-shown}
use Rattle.gate_model.proofs.Sized.{sized_of}
use Rattle.gate_model.proofs.TokenLaws.{tokens-cut}
use Rattle.desk_core.specs.declared.host.Heard.{Heard}
use Rattle.desk_core.specs.declared.host.Host.{Host}
use Rattle.desk_core.specs.declared.typing.Typed.{Typed}
use Rattle.desk_core.specs.Desk.{DeskState, Stands}
use Rattle.desk_core.specs.Drawing.{DrawingState, HasDrawn}
use Rattle.desk_core.specs.Host.{HasHeard}
use Rattle.desk_core.specs.Parts.{Follows, Types}
use Rattle.desk_core.proofs.Seating.{mods_now}

-- ---- sizes

-- what is drawn has the size in force
pub drawn_cols : (d : DrawingState) (h : History) → Legal h → HasDrawn d h → d.screen.cols ≡ (size_now h).columns
drawn_cols d h legal has = ap (λ (s : KeyGrid). s.cols) has.screen ∙ (sized_of h legal).cols

pub drawn_rows : (d : DrawingState) (h : History) → Legal h → HasDrawn d h → d.screen.rows ≡ (size_now h).rows
drawn_rows d h legal has = ap (λ (s : KeyGrid). s.rows) has.screen ∙ (sized_of h legal).rows

-- ---- the host after more bytes

-- its screen counts the lines that they scrolled
hears : (d : DeskState) (h : History) (host : Host) (bs : List ℕ) → Stands d h
    → ((before : List ℕ) (n : ℕ) (t : Terminal) → HasHeard d.host t n before → HasHeard host (after_controls t (completed before bs)) (n + d.host.screen.shift) (before ++ bs))
    → HasHeard host (after_controls (at h) (completed (bytes h) bs)) (at h).shift (bytes h ++ bs)
hears d h host bs s goes_on =
    let counted : d.host.screen.shift + s.host.scrolled ≡ (at h).shift = ap (λ (m : Terminal). m.shift) s.host.heard.taken.screen in
    let before : s.host.scrolled + d.host.screen.shift ≡ (at h).shift = omega (arith, counted) in
    subst (λ (n : ℕ). HasHeard host (after_controls (at h) (completed (bytes h) bs)) n (bytes h ++ bs)) before (goes_on (bytes h) s.host.scrolled (at h) s.host.heard)

-- what they are answered
replied : (d : DeskState) (h : History) (bs term replies : List ℕ) (cols rows : ℕ) → Stands d h → term ≡ d.setup.term → cols ≡ d.drawing.screen.cols → rows ≡ d.drawing.screen.rows
    → ((before : List ℕ) (n : ℕ) (t : Terminal) (given : List Token) → HasHeard d.host t n before → tokens (before ++ bs) ≡ tokens before ++ given → replies ≡ replies_on (sized cols rows) term t (tokens before) given)
    → replies ≡ drop (length (answered h (bytes h))) (answered h (bytes h ++ bs))
replied d h bs term replies cols rows s same wide high says =
    let given = tokens (unfinished_token (bytes h) ++ bs) in
    let e : tokens (bytes h ++ bs) ≡ tokens (bytes h) ++ given = (tokens-cut (bytes h) bs).given in
    let now = size_after (first_size h) (cuts h) in
    let force : sized cols rows ≡ now =
    ap (λ (c : ℕ). sized c rows) (wide ∙ drawn_cols d.drawing h s.legal s.drawing) ∙ (ap (sized (size_now h).columns) (high ∙ drawn_rows d.drawing h s.legal s.drawing) ∙ sym (size-in-force h s.legal)) in
    let more = replies_on now (terminal_type h) (at h) (tokens (bytes h)) given in
    let all : answered h (bytes h ++ bs) ≡ answered h (bytes h) ++ more = replies-go-on (opening h) (terminal_type h) (bytes h) bs (cuts h) given (cuts_within h) e in
    says (bytes h) s.host.scrolled (at h) given s.host.heard e
    ∙ (ap (λ (z : ScreenSize). replies_on z term (at h) (tokens (bytes h)) given) force
    ∙ (ap (λ (xs : List ℕ). replies_on now xs (at h) (tokens (bytes h)) given) (same ∙ s.setup.term)
    ∙ sym (ap (drop (length (answered h (bytes h)))) all ∙ drop-append_seam (answered h (bytes h)) more)))

pub follows : (d : DeskState) (h : History) (bs term : List ℕ) (cols rows : ℕ) (r : Heard) → Stands d h → term ≡ d.setup.term → cols ≡ d.drawing.screen.cols → rows ≡ d.drawing.screen.rows
    → ((before : List ℕ) (n : ℕ) (t : Terminal) → HasHeard d.host t n before → HasHeard r.host (after_controls t (completed before bs)) (n + d.host.screen.shift) (before ++ bs))
    → ((before : List ℕ) (n : ℕ) (t : Terminal) (given : List Token) → HasHeard d.host t n before → tokens (before ++ bs) ≡ tokens before ++ given → r.replies.items ≡ replies_on (sized cols rows) term t (tokens before) given)
    → Follows h bs r
follows d h bs term cols rows r s same wide high goes_on says = record { host = hears d h r.host bs s goes_on; replies = replied d h bs term r.replies.items cols rows s same wide high says }

-- ---- what such a host shows can be drawn

module _ (h : History) (host : Host) (n : ℕ) (bs : List ℕ) (legal : Legal h) (heard : HasHeard host (after_controls (at h) (completed (bytes h) bs)) n (bytes h ++ bs)) where
  pub cols_of : (shown host.screen).cols ≡ (size_now h).columns
  cols_of = ap (λ (m : Terminal). m.grid.cols) heard.taken.screen ∙ ((after_controls-keeps (at h) (completed (bytes h) bs)).columns ∙ (sized_of h legal).cols)

  pub rows_of : (shown host.screen).rows ≡ (size_now h).rows
  rows_of = ap (λ (m : Terminal). m.grid.rows) heard.taken.screen ∙ ((after_controls-keeps (at h) (completed (bytes h) bs)).rows ∙ (sized_of h legal).rows)

  pub size_of : IsScreenSize (shown host.screen).cols (shown host.screen).rows
  size_of = rw (cols_of, rows_of) (legal-size h legal)

  pub colours_of : AreColoured (shown host.screen).keys
  colours_of =
      let t = after_controls (at h) (completed (bytes h) bs) in
      subst (λ (m : Terminal). AreColoured (shown m).keys) (sym heard.taken.screen) (coloured-shown t ((after_controls-keeps (at h) (completed (bytes h) bs)).painted (painted-at h)).cells)

-- what a viewer's acts send, and the modifiers that it then holds
pub types_of : (d : DeskState) (h : History) (v : ℕ) (acts : List Act) (t : Typed) (may_type : Bool) (held : Mods) (cursor_mode : Bool) → Stands d h → may_type ≡ may h v → held ≡ mods h v → cursor_mode ≡ d.host.screen.modes.cursor_keys
    → t.bytes.items ≡ (if may_type then typed cursor_mode held acts else []) → t.held ≡ (if may_type then held_after held acts else held) → Types h v acts t
types_of d h v acts t may_type held cursor_mode s is_may is_held is_mode bytes after =
    let mode : cursor_mode ≡ (at h).modes.cursor_keys = is_mode ∙ ap (λ (m : Terminal). m.modes.cursor_keys) s.host.heard.taken.screen in
    record {
      bytes = bytes ∙ (ap (λ (q : Bool). if q then typed cursor_mode held acts else []) is_may ∙ (ap (λ (q : Bool). if may h v then typed q held acts else []) mode ∙ ap (λ (m : Mods). if may h v then typed (at h).modes.cursor_keys m acts else []) is_held));
      held = after ∙ (ap (λ (q : Bool). if q then held_after held acts else held) is_may ∙ (ap (λ (m : Mods). if may h v then held_after m acts else m) is_held ∙ mods_now h v acts));
    }
