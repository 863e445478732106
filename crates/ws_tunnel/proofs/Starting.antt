-- A viewer that has just joined isn't at its end, since it never read.
use Rattle.std.proofs.Common.{◌≡◌, ◌⊎◌, inl, inr, ℕ, ◌+◌, ◌<◌, ◌≤◌, List, [], ◌∷◌, ◌++◌, Bool, true, false, true≢false, refl, ap, sym, ◌∙◌, subst, append-nil, arith}
use Rattle.std.specs.Prelude.{not, ◌&&◌, ◌||◌, ◌==◌, if◌then◌else◌}
use Rattle.std.proofs.lemmas.Bool.{eqb-true, ne_eqb}
use Rattle.gate_model.specs.declared.entry.Entry.{Entry}
use Rattle.gate_model.specs.declared.entry.Entry.TheVariants.{Start, Feed, Size, Join, Read, Write, Take, Leave, Close}
use Rattle.gate_model.specs.declared.instr.Instr.{Instr}
use Rattle.gate_model.specs.declared.sharing.Role.{Role}
use Rattle.gate_model.specs.session.Delivered.{closing, ended, farewell_to, is_some_list}
use Rattle.gate_model.specs.session.History.{History, joined}
use Rattle.gate_model.specs.session.Rights.{is_live}
use Rattle.gate_model.specs.session.Steps.{Legal}
use Rattle.gate_model.proofs.Added.{IsNext, next}
use Rattle.shared_desk.specs.Hosts.{IsFresh}
use Rattle.shared_desk.specs.declared.place.Place.{Place}
use Rattle.shared_desk.proofs.Lasting.{some_seen}
use Rattle.ws_tunnel.specs.Runs.{IsStart}

and_left : (a b : Bool) → (a && b) ≡ true → a ≡ true
and_left true b e = refl
and_left false b e = e

or_false : (a b : Bool) → a ≡ false → (a || b) ≡ true → b ≡ true
or_false true b none e = absurd (true≢false none)
or_false false b none e = e

either_live : (a b c : Bool) → (a || (b && c)) ≡ true → (a ≡ true) ⊎ (b ≡ true)
either_live true b c e = inl refl
either_live false b c e = inr (and_left b c e)

-- who is there has joined
live_next : (v : ℕ) (e : Entry) (h : History) → IsNext h e → (is_live h v ≡ true → v ≤ joined h) → is_live (e ∷ h) v ≡ true → v ≤ joined (e ∷ h)
live_next v (Start c r m t k n s f) h is ih live = absurd is
live_next v (Feed b s f) h is ih live = ih (and_left (is_live h v) true live)
live_next v (Size w c r s f) h is ih live = ih (and_left (is_live h v) true live)
live_next v (Join w role first) h is ih live = by (either_live (w == v) (is_live h v) true live)
  where
    by : ((w == v) ≡ true) ⊎ (is_live h v ≡ true) → v ≤ joined h + 1
    by (inl here) = omega (arith, eqb-true w v here, is.is_next)
    by (inr old) = omega (arith, ih old)
live_next v (Read w how) h is ih live = ih (and_left (is_live h v) true live)
live_next v (Write w acts) h is ih live = ih (and_left (is_live h v) true live)
live_next v (Take n) h is ih live = ih (and_left (is_live h v) true live)
live_next v (Leave w) h is ih live = ih (and_left (is_live h v) (not (w == v)) live)
live_next v (Close c) h is ih live = ih (and_left (is_live h v) true live)

pub live_joined : (v : ℕ) (h : History) → Legal h → is_live h v ≡ true → v ≤ joined h
live_joined v [] legal live = absurd legal
live_joined v (e ∷ []) legal live = absurd (let none : is_live (e ∷ []) v ≡ false = ap (λ (x : Entry). is_live (x ∷ []) v) legal.2.4 in true≢false (sym live ∙ none))
live_joined v (e ∷ f ∷ g) legal live = live_next v e (f ∷ g) (next e f g legal) (λ old. live_joined v (f ∷ g) legal.0 old) live

fewer : (v : ℕ) (e : Entry) (h : History) → joined (e ∷ h) < v → joined h < v
fewer v (Start c r m t k n s f) h few = few
fewer v (Feed b s f) h few = few
fewer v (Size w c r s f) h few = few
fewer v (Join w role first) h few = omega (arith, few)
fewer v (Read w how) h few = few
fewer v (Write w acts) h few = few
fewer v (Take n) h few = few
fewer v (Leave w) h few = few
fewer v (Close c) h few = few

none_next : (v : ℕ) (e : Entry) (h : History) → IsNext h e → ((w : ℕ) → is_live h w ≡ true → w ≤ joined h) → joined h < v → farewell_to h v ≡ [] → farewell_to (e ∷ h) v ≡ []
none_next v (Start c r m t k n s f) h is joins few so_far = append-nil (farewell_to h v) ∙ so_far
none_next v (Feed b s f) h is joins few so_far = append-nil (farewell_to h v) ∙ so_far
none_next v (Size w c r s f) h is joins few so_far = append-nil (farewell_to h v) ∙ so_far
none_next v (Join w role first) h is joins few so_far = append-nil (farewell_to h v) ∙ so_far
none_next v (Read w how) h is joins few so_far =
    let apart : (w == v) ≡ false = ne_eqb w v (λ same. omega (arith, joins w is.live, few, same)) in
    ap (λ (b : Bool). farewell_to h v ++ (if b then closing h else [])) apart ∙ (append-nil (farewell_to h v) ∙ so_far)
none_next v (Write w acts) h is joins few so_far = append-nil (farewell_to h v) ∙ so_far
none_next v (Take n) h is joins few so_far = append-nil (farewell_to h v) ∙ so_far
none_next v (Leave w) h is joins few so_far = append-nil (farewell_to h v) ∙ so_far
none_next v (Close c) h is joins few so_far = append-nil (farewell_to h v) ∙ so_far

-- who hasn't joined was told no end
never_told : (v : ℕ) (h : History) → Legal h → joined h < v → farewell_to h v ≡ []
never_told v [] legal few = absurd legal
never_told v (e ∷ []) legal few = ap (λ (x : Entry). farewell_to (x ∷ []) v) legal.2.4
never_told v (e ∷ f ∷ g) legal few =
    let less = fewer v e (f ∷ g) few in
    none_next v e (f ∷ g) (next e f g legal) (λ w live. live_joined w (f ∷ g) legal.0 live) less (never_told v (f ∷ g) legal.0 less)

just_joined : (v : ℕ) (role : Role) (first : List Instr) (before : History) → Legal (Join v role first ∷ before) → ended (Join v role first ∷ before) v ≡ false
just_joined v role first [] legal = absurd (let z = legal.2.4 in cc)
just_joined v role first (f ∷ g) legal =
    let joins = next (Join v role first) f g legal in
    ap is_some_list (append-nil (farewell_to (f ∷ g) v) ∙ never_told v (f ∷ g) legal.0 (omega (arith, joins.is_next)))

pub started : (place : Place) (text : List ℕ) → IsFresh place text → IsStart place.reader.viewer place.reader.view place.writer.view text
started place text f = record {
  seen = f.reader ∙ sym f.writer;
  some = some_seen place.reader.view.seen f.sound.legal;
  none = f.none;
  text = f.text;
  going = ap (λ (h : History). ended h place.reader.viewer) f.reader ∙ just_joined place.reader.viewer place.role f.first f.before (subst (λ (h : History). Legal h) f.reader f.sound.legal);
}
