-- What a key's buffer is, as the calls leave it.
use Rattle.std.proofs.Common.{◌≡◌, ℕ, subst, replicate, ◌<◌, ◌≤◌, ℤ, negsuc, List, ◌++◌, length, refl, sym, ap, ◌∙◌, append-nil, arith}
use Rattle.std.specs.Prelude.{Option, Some, None, IfSome, slice_get, slice_index_or}
use Rattle.std.proofs.lemmas.List.{get_or-replicate, length-replicate}
use Rattle.std.proofs.lemmas.List.Elements.{All-from_get_or, All-set}
use Rattle.std.proofs.lemmas.Option.{slice_get_within}
use Rattle.gate_model.specs.declared.instr.Instr.{Instr}
use Rattle.gate_model.specs.declared.key.Key.{Key}
use Rattle.gate_model.specs.picture.Buffers.{Buffers}
use Rattle.glyph_cache.specs.declared.slot.SlotKind.{SlotKind}
use Rattle.glyph_cache.specs.declared.slot.SlotKind.TheVariants.{Held as Known, Made, Reused}
use Rattle.glyph_cache.specs.Cache.{CacheState, Gets, IsCache}
use Rattle.frame_draw.specs.Strokes.{painting}
use Rattle.frame_draw.specs.Along.{Holds, IsBufferOf}
use Rattle.frame_draw.specs.declared.drawer.Held.{Held}
use Rattle.frame_draw.specs.Recent.{AreBuffers, remembered}
use Rattle.frame_draw.proofs.Entries.{get_before}
use Rattle.frame_draw.proofs.Allowed.{held_is_painted}

-- the key of the place before
pub held_again : (list : List Instr) (keys : Buffers) (was key : Key) (layer : ℤ) → was ≡ key → IsBufferOf keys was layer → Holds list keys key layer list keys
held_again list keys was key layer same b = record {
  kind = Known;
  n = b.n;
  number = b.number;
  small = b.small;
  gets = (b.got ∙ ap (λ (k : Key). Some k) same, refl);
  painted = sym (ap (λ (is : List Instr). list ++ is) (held_is_painted layer key) ∙ append-nil list);
}

within : (kind : SlotKind) (n : ℕ) (key : Key) (keys more : Buffers) → Gets keys key kind n more → length more ≤ 1024 → n < 1024
within Known n key keys more g few = omega (arith, slice_get_within keys n key g.0, ap length g.1, few)
within Made n key keys more g few = g.2
within Reused n key keys more g few = g.2

-- the key that a cache found or took a buffer for
pub held_now : (list longer : List Instr) (keys : Buffers) (more : CacheState) (key : Key) (kind : SlotKind) (answered layer : ℤ)
    → (n : ℕ) × (answered ≡ negsuc n) × Gets keys key kind n more.keys → IsCache more → longer ≡ list ++ painting kind answered key → layer ≡ answered
    → Holds list keys key layer longer more.keys
held_now list longer keys more key kind answered layer g cache painted same = record {
  kind = kind;
  n = g.0;
  number = same ∙ g.1;
  small = within kind g.0 key keys more.keys g.2 cache.few;
  gets = g.2;
  painted = painted ∙ ap (λ (k : ℤ). list ++ painting kind k key) (sym same);
}

-- ---- the keys that are remembered
-- a buffer that isn't taken stays
stays_buffer : (kind : SlotKind) (n : ℕ) (key was : Key) (keys more : Buffers) (layer : ℤ) → (kind ≡ Reused → ⊥) → Gets keys key kind n more → IsBufferOf keys was layer → IsBufferOf more was layer
stays_buffer Known n key was keys more layer ne g b = subst (λ (ks : Buffers). IsBufferOf ks was layer) (sym g.1) b
stays_buffer Made n key was keys more layer ne g b = record {
  n = b.n;
  number = b.number;
  small = b.small;
  got = ap (λ (ks : Buffers). slice_get ks b.n) g.3 ∙ (get_before keys key b.n (λ e. omega (arith, e, slice_get_within keys b.n was b.got)) ∙ b.got);
}
stays_buffer Reused n key was keys more layer ne g b = absurd (ne refl)

all_stay : (kind : SlotKind) (n : ℕ) (key : Key) (keys more : Buffers) (recent : List (Option Held)) → (kind ≡ Reused → ⊥) → Gets keys key kind n more → AreBuffers keys recent → AreBuffers more recent
all_stay kind n key keys more recent ne g all i d lt = cases (slice_index_or recent i d) (all i d lt)
  where
    cases : (o : Option Held) → IfSome o (λ h. IsBufferOf keys h.key h.layer) → IfSome o (λ h. IsBufferOf more h.key h.layer)
    cases None b = tt
    cases (Some h) b = stays_buffer kind n key h.key keys more h.layer ne g b

abbrev nobody : Option Held
nobody = None

pub none_held : (keys : Buffers) → AreBuffers keys (replicate 1024 nobody)
none_held keys = All-from_get_or (λ o. IfSome o (λ h. IsBufferOf keys h.key h.layer)) (replicate 1024 nobody) nobody (λ i lt. subst (λ (o : Option Held). IfSome o (λ h. IsBufferOf keys h.key h.layer)) (sym (none_at i lt)) tt)
  where
    none_at : (i : ℕ) → i < length (replicate 1024 nobody) → slice_index_or (replicate 1024 nobody) i nobody ≡ nobody
    none_at i lt = get_or-replicate 1024 i nobody nobody (omega (arith, lt, length-replicate 1024 nobody))

pub all_held : (keys more : Buffers) (key : Key) (kind : SlotKind) (n : ℕ) (at : ℕ) (held : Held) (recent later : List (Option Held))
    → later ≡ remembered kind recent at held → Gets keys key kind n more → IsBufferOf more held.key held.layer → AreBuffers keys recent → AreBuffers more later
all_held keys more key Known n at held recent later e g b all =
    subst (AreBuffers more) (sym e) (All-set (λ o. IfSome o (λ h. IsBufferOf more h.key h.layer)) recent at (Some held) b (all_stay Known n key keys more recent (λ f. absurd (cc)) g all))
all_held keys more key Made n at held recent later e g b all =
    subst (AreBuffers more) (sym e) (All-set (λ o. IfSome o (λ h. IsBufferOf more h.key h.layer)) recent at (Some held) b (all_stay Made n key keys more recent (λ f. absurd (cc)) g all))
all_held keys more key Reused n at held recent later e g b all =
    subst (AreBuffers more) (sym e) (All-set (λ o. IfSome o (λ h. IsBufferOf more h.key h.layer)) (replicate 1024 None) at (Some held) b (none_held more))

-- one that is remembered
pub one_held : (keys : Buffers) (recent : List (Option Held)) (i : ℕ) (d : Option Held) (held : Held) → AreBuffers keys recent → i < length recent → slice_index_or recent i d ≡ Some held → IsBufferOf keys held.key held.layer
one_held keys recent i d held all lt e = subst (λ (o : Option Held). IfSome o (λ h. IsBufferOf keys h.key h.layer)) e (all i d lt)
