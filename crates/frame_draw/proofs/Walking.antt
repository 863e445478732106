-- The loop over the places of a screen.
use Rattle.std.proofs.Common.{◌≡◌, ℕ, zero, suc, ◌+◌, ◌*◌, ◌/◌, ◌%◌, ◌<◌, ◌≤◌, ℤ, List, [], ◌∷◌, ◌++◌, length, Bool, true, false, refl, sym, ap, subst, ◌∙◌, arith}
use Rattle.std.specs.Prelude.{Option, slice_index_or}
use Rattle.gate_model.specs.declared.instr.Instr.{Instr}
use Rattle.gate_model.specs.declared.key.Key.{Key}
use Rattle.gate_model.specs.picture.KeyGrid.{KeyGrid}
use Rattle.gate_model.specs.picture.Pictures.{key_at, blank_key}
use Rattle.gate_model.specs.session.Steps.{IsScreenSize}
use Rattle.gate_model.specs.picture.Buffers.{Buffers, is_held, new_keys}
use Rattle.frame_draw.specs.declared.drawer.Held.{Held}
use Rattle.frame_draw.specs.declared.wanted.Wanted.{Wanted}
use Rattle.frame_draw.specs.Strokes.{cell_copy}
use Rattle.frame_draw.specs.Cells.{Places}
use Rattle.frame_draw.specs.Along.{Along, Fits, Holds, IsBufferOf, IsLeft, is_next}
use Rattle.frame_draw.specs.Recent.{AreBuffers}
use Rattle.frame_draw.proofs.NewKeys.{none_new}
use Rattle.frame_draw.proofs.Left.{left_copied, left_passed, next_is}
use Rattle.frame_draw.proofs.Going.{along_copied, along_held, along_none, along_passed, buffer_of}

pub record IsGoing (now : KeyGrid) (wanted : Wanted) (first : List Instr) (before : Buffers) (place at : ℕ) (recent : List (Option Held)) (list : List Instr) (keys : Buffers) : Type 0 where
  pub recent_held : AreBuffers keys recent
  pub early : at ≤ place
  pub along : (rest : Places) (copies : ℕ → Bool) → Fits now rest copies → IsLeft now.cols (length now.keys) copies wanted 0 0
      → IsLeft now.cols (length now.keys) copies wanted at place × Along now first before rest copies place place list keys
  pub kept : new_keys before now.keys ≡ [] → keys ≡ before

pub going_none : (now : KeyGrid) (wanted : Wanted) (list : List Instr) (keys : Buffers) (recent : List (Option Held)) → AreBuffers keys recent → IsGoing now wanted list keys 0 0 recent list keys
going_none now wanted list keys recent r = record {
  recent_held = r;
  early = omega arith;
  along = λ rest copies fits left. (left, along_none now list keys rest copies);
  kept = λ none. refl;
}

-- what stays where no key is new
pub still_kept : (now : KeyGrid) (before keys more : Buffers) (place : ℕ) (key : Key) → place < length now.keys → key ≡ key_at now.keys place
    → (new_keys before now.keys ≡ [] → keys ≡ before) → (is_held keys key ≡ true → more ≡ keys) → new_keys before now.keys ≡ [] → more ≡ before
still_kept now before keys more place key in_place is kept same none =
    let was : keys ≡ before = kept none in
    let held : is_held keys key ≡ true = ap (λ (k : Key). is_held keys k) is ∙ (ap (λ (ks : Buffers). is_held ks (key_at now.keys place)) was ∙ none_new before now.keys place blank_key none in_place) in
    same held ∙ was

-- what the call for the place's key leaves
pub record IsHeld (now : KeyGrid) (place : ℕ) (key : Key) (held : Held) (list : List Instr) (keys : Buffers) (longer : List Instr) (more : Buffers) : Type 0 where
  pub in_place : place < length now.keys
  pub read : key ≡ key_at now.keys place
  pub named : held.key ≡ key
  pub holds : Holds list keys key held.layer longer more
  pub kept : is_held keys key ≡ true → more ≡ keys

module _ (now : KeyGrid) (wanted : Wanted) (first : List Instr) (before : Buffers) (place at : ℕ) (recent : List (Option Held)) (list : List Instr) (keys : Buffers)
    (key : Key) (held : Held) (longer : List Instr) (more : Buffers) (h : IsHeld now place key held list keys longer more) (g : IsGoing now wanted first before place at recent list keys) where
  held_place : Holds list keys (key_at now.keys place) held.layer longer more
  held_place = subst (λ (k : Key). Holds list keys k held.layer longer more) h.read h.holds

  buffer_here : IsBufferOf more held.key held.layer
  buffer_here = subst (λ (k : Key). IsBufferOf more k held.layer) (sym h.named) (buffer_of list longer keys more key held.layer h.holds)

  pub going_passed : (later : List (Option Held)) → AreBuffers more later → is_next wanted at place now.cols ≡ false → IsGoing now wanted first before (place + 1) at later longer more
  going_passed later r off = record {
    recent_held = r;
    early = omega (arith, g.early);
    along = λ rest copies fits left.
        let a = g.along rest copies fits left in
        let no : copies place ≡ false = sym (next_is now.cols (length now.keys) copies wanted at place h.in_place a.0) ∙ off in (
          left_passed now.cols (length now.keys) copies wanted at place h.in_place no a.0,
          along_passed now first before rest copies place longer more fits no (along_held now first before rest copies place list longer keys more held.layer h.in_place held_place a.1),
        );
    kept = still_kept now before keys more place key h.in_place h.read g.kept h.kept;
  }

  pub going_copied : (later : List (Option Held)) → AreBuffers more later → (longest : List Instr) → IsScreenSize now.cols now.rows → length now.keys ≡ now.rows * now.cols
      → longest ≡ longer ++ cell_copy held.layer (place % now.cols) (place / now.cols) ∷ [] → is_next wanted at place now.cols ≡ true
      → IsGoing now wanted first before (place + 1) (at + 1) later longest more
  going_copied later r longest size full added on = record {
    recent_held = r;
    early = omega (arith, g.early);
    along = λ rest copies fits left.
        let a = g.along rest copies fits left in
        let yes : copies place ≡ true = sym (next_is now.cols (length now.keys) copies wanted at place h.in_place a.0) ∙ on in
        let here : IsBufferOf more (key_at now.keys place) held.layer = subst (λ (k : Key). IsBufferOf more k held.layer) (h.named ∙ h.read) buffer_here in (
          left_copied now.cols (length now.keys) copies wanted at place h.in_place yes a.0,
          along_copied now first before rest copies place longer longest more held.layer size full h.in_place yes here added
              (along_held now first before rest copies place list longer keys more held.layer h.in_place held_place a.1),
        );
    kept = still_kept now before keys more place key h.in_place h.read g.kept h.kept;
  }

-- the key that is read at a place, whatever stands past the end
any_default : (keys : List Key) (i : ℕ) (d e : Key) → i < length keys → slice_index_or keys i d ≡ slice_index_or keys i e
any_default [] i d e lt = absurd (omega arith)
any_default (k ∷ keys) zero d e lt = refl
any_default (k ∷ keys) (suc i) d e lt = any_default keys i d e (omega (arith, lt))

pub read_is : (slice keys : List Key) (place : ℕ) (d : Key) → slice ≡ keys → place < length slice → slice_index_or slice place d ≡ key_at keys place
read_is slice keys place d e lt = any_default slice place d blank_key lt ∙ ap (λ (ks : List Key). key_at ks place) e

-- .. and the loop's end
pub going_ends : (now : KeyGrid) (wanted : Wanted) (first : List Instr) (before : Buffers) (place at : ℕ) (recent : List (Option Held)) (list : List Instr) (keys : Buffers)
    → place ≡ length now.keys → IsGoing now wanted first before place at recent list keys
    → (rest : Places) (copies : ℕ → Bool) → Fits now rest copies → IsLeft now.cols (length now.keys) copies wanted 0 0 → Along now first before rest copies (length now.keys) (length now.keys) list keys
going_ends now wanted first before place at recent list keys e g rest copies fits left =
    subst (λ (n : ℕ). Along now first before rest copies n n list keys) e (g.along rest copies fits left).1

-- the layer and the columns as they were read
pub copy_added : (list longer : List Instr) (i : Instr) (told layer : ℤ) (place read cols : ℕ) → longer ≡ list ++ i ∷ [] → i ≡ cell_copy told (place % read) (place / read) → told ≡ layer → read ≡ cols
    → longer ≡ list ++ cell_copy layer (place % cols) (place / cols) ∷ []
copy_added list longer i told layer place read cols added is itself same =
    added ∙ (ap (λ (j : Instr). list ++ j ∷ []) is
    ∙ (ap (λ (k : ℤ). list ++ cell_copy k (place % read) (place / read) ∷ []) itself
    ∙ ap (λ (n : ℕ). list ++ cell_copy layer (place % n) (place / n) ∷ []) same))

pub test_is : (b : Bool) (wanted : Wanted) (at place read cols : ℕ) → b ≡ is_next wanted at place read → read ≡ cols → is_next wanted at place cols ≡ b
test_is b wanted at place read cols told same = sym (told ∙ ap (λ (n : ℕ). is_next wanted at place n) same)
