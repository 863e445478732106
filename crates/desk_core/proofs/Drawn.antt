-- What is drawn, after each entry.
use Rattle.std.proofs.Common.{◌≡◌, ℕ, ◌-◌, ◌≤◌, ◌^◌, min, List, [], ◌∷◌, ◌++◌, length, ap, sym, ◌∙◌, subst, append-nil, arith}
use Rattle.gate_model.specs.declared.entry.Entry.{Entry}
use Rattle.gate_model.specs.declared.entry.Entry.TheVariants.{Start, Feed}
use Rattle.gate_model.specs.declared.instr.Instr.{Instr}
use Rattle.gate_model.specs.declared.setup.Setup.{Setup}
use Rattle.gate_model.specs.Limits.{most_buffers}
use Rattle.gate_model.specs.picture.KeyGrid.{KeyGrid}
use Rattle.gate_model.specs.picture.Buffers.{AreLayers, Buffers, Renews, new_keys}
use Rattle.gate_model.specs.session.Cost.{AllFrugal, changes, cost, keys_shown, rise}
use Rattle.gate_model.specs.picture.Layers.{Layers, draw, nothing}
use Rattle.gate_model.specs.terminal.Screens.{shown}
use Rattle.gate_model.specs.picture.Shape.{Shape}
use Rattle.gate_model.specs.terminal.Terminal.{Terminal}
use Rattle.gate_model.specs.session.History.{History, at, all_frames}
use Rattle.gate_model.proofs.Histories.{IsPlain, at-plain}
use Rattle.gate_model.proofs.Layering.{changes-few_lines}
use Rattle.gate_model.proofs.Layered.{layers-plain, keys_shown-plain, layers-feed, held-feed, frugal-feed}
use Rattle.desk_core.specs.Drawing.{DrawingState, Draws, DrawsOver, HasDrawn}

-- an entry without bytes and without a frame
pub drawn_still : (d : DrawingState) (h : History) (e : Entry) → IsPlain e → HasDrawn d h → HasDrawn d (e ∷ h)
drawn_still d h e p has =
    let same : keys_shown (e ∷ h) ≡ keys_shown h = keys_shown-plain h e p in
    record {
      screen = has.screen ∙ ap shown (sym (at-plain h e p));
      layers = layers-plain h e d.keys p has.layers;
      held = subst (λ (keys : Buffers). length keys ≤ most_buffers → d.keys ≡ keys) (sym same) has.held;
    }

-- a Feed, whose frame was drawn over what was there
module _ (d new : DrawingState) (h : History) (bs : List ℕ) (t : ℕ) (frame : List Instr) (screen : Terminal) (has : HasDrawn d h) (now : shown screen ≡ shown (at (Feed bs t frame ∷ h))) (draws : Draws d screen t frame new) where
  abbrev after : KeyGrid
  after = shown (at (Feed bs t frame ∷ h))

  renews : Renews (shown (at h)) d.keys frame after new.keys
  renews = subst (λ (s : KeyGrid). Renews (shown (at h)) d.keys frame s new.keys) now (subst (λ (s : KeyGrid). Renews s d.keys frame (shown screen) new.keys) has.screen draws.over.renews)

  gains : length (d.keys ++ new_keys d.keys after.keys) ≤ most_buffers → new.keys ≡ d.keys ++ new_keys d.keys after.keys
  gains = subst (λ (s : KeyGrid). length (d.keys ++ new_keys d.keys s.keys) ≤ most_buffers → new.keys ≡ d.keys ++ new_keys d.keys s.keys) now draws.over.gains

  pub drawn_on : HasDrawn new (Feed bs t frame ∷ h)
  drawn_on = record {
    screen = draws.over.screen ∙ now;
    layers = layers-feed h bs t frame d.keys new.keys has.layers renews;
    held = held-feed h bs t frame d.keys new.keys has.held gains;
  }

  costs : length (d.keys ++ new_keys d.keys after.keys) ≤ most_buffers → length frame ≤ cost (length (changes (shown (at h)) after screen.shift)) (length (new_keys d.keys after.keys))
  costs =
      subst (λ (s : KeyGrid). length (d.keys ++ new_keys d.keys s.keys) ≤ most_buffers → length frame ≤ cost (length (changes (shown (at h)) s screen.shift)) (length (new_keys d.keys s.keys))) now
      (subst (λ (s : KeyGrid). length (d.keys ++ new_keys d.keys (shown screen).keys) ≤ most_buffers → length frame ≤ cost (length (changes s (shown screen) screen.shift)) (length (new_keys d.keys (shown screen).keys))) has.screen draws.costs)

  pub frugal_on : AllFrugal h → screen.shift ≡ rise (Feed bs t frame) h → AllFrugal (Feed bs t frame ∷ h)
  frugal_on frugal rises = frugal-feed h bs t frame d.keys screen.shift frugal has.held rises costs

-- a frame over the old screen
pub drawn_shown : (old new : DrawingState) (t : Terminal) (stamp : ℕ) (frame : List Instr) (s : KeyGrid) (keys : Buffers) → s ≡ shown t → new.screen ≡ s → new.keys ≡ keys
    → Shape s.cols s.rows frame stamp → Renews old.screen old.keys frame s keys → length old.keys ≤ length keys
    → (length (old.keys ++ new_keys old.keys s.keys) ≤ most_buffers → keys ≡ old.keys ++ new_keys old.keys s.keys)
    → DrawsOver old t stamp frame new
drawn_shown old new t stamp frame s keys is screen held shape renews stays gains = record {
  screen = screen ∙ is;
  shape = subst (λ (g : KeyGrid). Shape g.cols g.rows frame stamp) is shape;
  renews = subst (λ (g : KeyGrid). Renews old.screen old.keys frame g new.keys) is (subst (λ (ks : Buffers). Renews old.screen old.keys frame s ks) (sym held) renews);
  stays = omega (arith, stays, ap length held);
  gains = subst (λ (g : KeyGrid). length (old.keys ++ new_keys old.keys g.keys) ≤ most_buffers → new.keys ≡ old.keys ++ new_keys old.keys g.keys) is (λ small. held ∙ gains small);
}

-- .. of a screen of the same size, which counts the lines no further than 2^32 - 1
pub drawn_over : (old new : DrawingState) (t : Terminal) (stamp shift : ℕ) (frame : List Instr) (s : KeyGrid) (keys : Buffers) → s ≡ shown t → shift ≡ min t.shift (2 ^ 32 - 1) → old.screen.rows ≤ 2 ^ 32 - 1 → new.screen ≡ s → new.keys ≡ keys
    → Shape s.cols s.rows frame stamp → Renews old.screen old.keys frame s keys → length old.keys ≤ length keys
    → (length (old.keys ++ new_keys old.keys s.keys) ≤ most_buffers → keys ≡ old.keys ++ new_keys old.keys s.keys)
    → (length (old.keys ++ new_keys old.keys s.keys) ≤ most_buffers → length frame ≤ cost (length (changes old.screen s shift)) (length (new_keys old.keys s.keys)))
    → Draws old t stamp frame new
drawn_over old new t stamp shift frame s keys is capped few screen held shape renews stays gains costs =
    let same : changes old.screen s shift ≡ changes old.screen s t.shift = ap (changes old.screen s) capped ∙ changes-few_lines old.screen s t.shift (2 ^ 32 - 1) few in
    let told : length (old.keys ++ new_keys old.keys s.keys) ≤ most_buffers → length frame ≤ cost (length (changes old.screen s t.shift)) (length (new_keys old.keys s.keys)) =
    subst (λ (places : List ℕ). length (old.keys ++ new_keys old.keys s.keys) ≤ most_buffers → length frame ≤ cost (length places) (length (new_keys old.keys s.keys))) same costs in
    record {
      over = drawn_shown old new t stamp frame s keys is screen held shape renews stays gains;
      costs = subst (λ (g : KeyGrid). length (old.keys ++ new_keys old.keys g.keys) ≤ most_buffers → length frame ≤ cost (length (changes old.screen g t.shift)) (length (new_keys old.keys g.keys))) is told;
    }

-- where no key is new, no buffer is
pub no_buffer : (before keys next : Buffers) → new_keys before keys ≡ [] → length before ≤ most_buffers → (length (before ++ new_keys before keys) ≤ most_buffers → next ≡ before ++ new_keys before keys) → before ≡ next
no_buffer before keys next none few gains =
    let same : before ++ new_keys before keys ≡ before = ap (λ (ks : Buffers). before ++ ks) none ∙ append-nil before in
    let small : length (before ++ new_keys before keys) ≤ most_buffers = subst (λ (ks : Buffers). length ks ≤ most_buffers) (sym same) few in
    sym (gains small ∙ same)

-- the first frame alone
pub drawn_first : (d : DrawingState) (setup : Setup) (stamp : ℕ) (frame : List Instr) (screen : Terminal) → let h = Start setup.cols setup.rows setup.mode setup.term setup.faces setup.entries stamp frame ∷ [] in
    shown screen ≡ shown (at h) → d.screen ≡ shown screen → AreLayers (draw nothing frame) (shown screen) d.keys → (length (new_keys [] (shown screen).keys) ≤ most_buffers → d.keys ≡ new_keys [] (shown screen).keys) → HasDrawn d h
drawn_first d setup stamp frame screen now is drawn held =
    let h : History = Start setup.cols setup.rows setup.mode setup.term setup.faces setup.entries stamp frame ∷ [] in
    let every : all_frames h ≡ frame = append-nil frame in
    record {
      screen = is ∙ now;
      layers = subst (λ (m : Layers). AreLayers m (shown (at h)) d.keys) (ap (draw nothing) (sym every)) (subst (λ (s : KeyGrid). AreLayers (draw nothing frame) s d.keys) now drawn);
      held = subst (λ (s : KeyGrid). length (new_keys [] s.keys) ≤ most_buffers → d.keys ≡ new_keys [] s.keys) now held;
    }
