-- What each entry does to the layers that all frames leave, and to the keys and the costs of a history.
use Rattle.std.proofs.Common.{◌≡◌, ℕ, ◌≤◌, List, [], ◌∷◌, ◌++◌, length, refl, ap, sym, ◌∙◌, subst, arith, length-append}
use Rattle.gate_model.specs.declared.instr.Instr.{Instr}
use Rattle.gate_model.specs.declared.entry.Entry.{Entry}
use Rattle.gate_model.specs.declared.entry.Entry.TheVariants.{Start, Feed, Size, Join, Read, Write, Take, Leave, Close}
use Rattle.gate_model.specs.Limits.{most_buffers}
use Rattle.gate_model.specs.picture.KeyGrid.{KeyGrid}
use Rattle.gate_model.specs.picture.Layers.{Layers, draw, nothing}
use Rattle.gate_model.specs.picture.Buffers.{Buffers, AreLayers, Renews, new_keys}
use Rattle.gate_model.specs.terminal.Screens.{shown}
use Rattle.gate_model.specs.session.History.{History, at, all_frames}
use Rattle.gate_model.specs.session.Truth.{AllDrawn, all_layers}
use Rattle.gate_model.specs.session.Cost.{changes, cost, keys_shown, rise, AllFrugal}
use Rattle.gate_model.proofs.Drawing.{draw-append}
use Rattle.gate_model.proofs.Histories.{IsPlain, at-plain, all_frames-plain, all_frames-feed, all_frames-size}
use Rattle.gate_model.proofs.Layering.{layers-drawn}

-- ---- an entry without bytes and without a frame

pub layers-plain : (h : History) (e : Entry) (keys : Buffers) → IsPlain e → AreLayers (all_layers h) (shown (at h)) keys → AreLayers (all_layers (e ∷ h)) (shown (at (e ∷ h))) keys
layers-plain h e keys p a = rw (all_frames-plain h e p, at-plain h e p) a

pub keys_shown-plain : (h : History) (e : Entry) → IsPlain e → keys_shown (e ∷ h) ≡ keys_shown h
keys_shown-plain h (Start cols rows mode term faces entries t frame) p = absurd (let w : [] ≡ (t, frame) ∷ [] = sym p.no_frame in cc)
keys_shown-plain h (Feed bs t frame) p = absurd (let w : [] ≡ (t, frame) ∷ [] = sym p.no_frame in cc)
keys_shown-plain h (Size v c r t frame) p = absurd (let w : [] ≡ (t, frame) ∷ [] = sym p.no_frame in cc)
keys_shown-plain h (Join v role first) p = refl
keys_shown-plain h (Read v how) p = refl
keys_shown-plain h (Write v acts) p = refl
keys_shown-plain h (Take count) p = refl
keys_shown-plain h (Leave v) p = refl
keys_shown-plain h (Close cause) p = refl

-- ---- a Feed

pub layers-feed : (h : History) (bs : List ℕ) (t : ℕ) (frame : List Instr) (before after : Buffers) → AreLayers (all_layers h) (shown (at h)) before → Renews (shown (at h)) before frame (shown (at (Feed bs t frame ∷ h))) after
    → AreLayers (all_layers (Feed bs t frame ∷ h)) (shown (at (Feed bs t frame ∷ h))) after
layers-feed h bs t frame before after a renews =
    let drawn : draw nothing (all_frames (Feed bs t frame ∷ h)) ≡ draw (all_layers h) frame = ap (draw nothing) (all_frames-feed h bs t frame) ∙ draw-append nothing (all_frames h) frame in
    subst (λ (m : Layers). AreLayers m (shown (at (Feed bs t frame ∷ h))) after) (sym drawn) (renews (all_layers h) a)

-- the keys shown before are few where those shown after are
few_before : (held fresh : Buffers) → length (held ++ fresh) ≤ most_buffers → length held ≤ most_buffers
few_before held fresh few = omega (arith, few, length-append held fresh)

-- the buffers hold just the keys that were shown, while these are few
pub held-feed : (h : History) (bs : List ℕ) (t : ℕ) (frame : List Instr) (before after : Buffers) → (length (keys_shown h) ≤ most_buffers → before ≡ keys_shown h)
    → (length (before ++ new_keys before (shown (at (Feed bs t frame ∷ h))).keys) ≤ most_buffers → after ≡ before ++ new_keys before (shown (at (Feed bs t frame ∷ h))).keys)
    → length (keys_shown (Feed bs t frame ∷ h)) ≤ most_buffers → after ≡ keys_shown (Feed bs t frame ∷ h)
held-feed h bs t frame before after held gains few =
    let s : KeyGrid = shown (at (Feed bs t frame ∷ h)) in
    let is : before ≡ keys_shown h = held (few_before (keys_shown h) (new_keys (keys_shown h) s.keys) few) in
    subst (λ (keys : Buffers). length (keys ++ new_keys keys s.keys) ≤ most_buffers → after ≡ keys ++ new_keys keys s.keys) is gains few

pub frugal-feed : (h : History) (bs : List ℕ) (t : ℕ) (frame : List Instr) (before : Buffers) (shift : ℕ) → AllFrugal h → (length (keys_shown h) ≤ most_buffers → before ≡ keys_shown h) → shift ≡ rise (Feed bs t frame) h
    → (length (before ++ new_keys before (shown (at (Feed bs t frame ∷ h))).keys) ≤ most_buffers
    → length frame ≤ cost (length (changes (shown (at h)) (shown (at (Feed bs t frame ∷ h))) shift)) (length (new_keys before (shown (at (Feed bs t frame ∷ h))).keys)))
    → AllFrugal (Feed bs t frame ∷ h)
frugal-feed h bs t frame before shift frugal held rises costs = (
  frugal,
  λ few.
      let s : KeyGrid = shown (at (Feed bs t frame ∷ h)) in
      let is : before ≡ keys_shown h = held (few_before (keys_shown h) (new_keys (keys_shown h) s.keys) few) in
      let by_keys = subst (λ (keys : Buffers). length (keys ++ new_keys keys s.keys) ≤ most_buffers → length frame ≤ cost (length (changes (shown (at h)) s shift)) (length (new_keys keys s.keys))) is costs in
      subst (λ (n : ℕ). length frame ≤ cost (length (changes (shown (at h)) s n)) (length (new_keys (keys_shown h) s.keys))) rises (by_keys few),
)

-- ---- a Size

pub layers-size : (h : History) (v c r t : ℕ) (frame : List Instr) (before after : Buffers) → AreLayers (all_layers h) (shown (at h)) before → Renews (shown (at h)) before frame (shown (at (Size v c r t frame ∷ h))) after
    → AreLayers (all_layers (Size v c r t frame ∷ h)) (shown (at (Size v c r t frame ∷ h))) after
layers-size h v c r t frame before after a renews =
    let drawn : draw nothing (all_frames (Size v c r t frame ∷ h)) ≡ draw (all_layers h) frame = ap (draw nothing) (all_frames-size h v c r t frame) ∙ draw-append nothing (all_frames h) frame in
    subst (λ (m : Layers). AreLayers m (shown (at (Size v c r t frame ∷ h))) after) (sym drawn) (renews (all_layers h) a)

pub held-size : (h : History) (v c r t : ℕ) (frame : List Instr) (before after : Buffers) → (length (keys_shown h) ≤ most_buffers → before ≡ keys_shown h)
    → (length (before ++ new_keys before (shown (at (Size v c r t frame ∷ h))).keys) ≤ most_buffers → after ≡ before ++ new_keys before (shown (at (Size v c r t frame ∷ h))).keys)
    → length (keys_shown (Size v c r t frame ∷ h)) ≤ most_buffers → after ≡ keys_shown (Size v c r t frame ∷ h)
held-size h v c r t frame before after held gains few =
    let s : KeyGrid = shown (at (Size v c r t frame ∷ h)) in
    let is : before ≡ keys_shown h = held (few_before (keys_shown h) (new_keys (keys_shown h) s.keys) few) in
    subst (λ (keys : Buffers). length (keys ++ new_keys keys s.keys) ≤ most_buffers → after ≡ keys ++ new_keys keys s.keys) is gains few

-- ---- any entry

-- what is drawn, from the layers
pub drawn-layers : (h : History) (e : Entry) (keys : Buffers) → AllDrawn h → AreLayers (all_layers (e ∷ h)) (shown (at (e ∷ h))) keys → AllDrawn (e ∷ h)
drawn-layers h e keys drawn a = (drawn, layers-drawn (all_layers (e ∷ h)) (shown (at (e ∷ h))) keys a)
