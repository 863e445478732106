-- Acts are put into a session, up to one that is refused.
use Rattle.std.proofs.Common.{◌≡◌, inl, inr, ℕ, List, [], ◌∷◌, ◌++◌, refl, ap, sym, ◌∙◌, subst, append-nil}
use Rattle.std.specs.Prelude.{Result, Ok, Err}
use Rattle.gate_model.specs.declared.act.Act.{Act}
use Rattle.gate_model.specs.declared.entry.Entry.{Entry}
use Rattle.gate_model.specs.declared.write_refusal.WriteRefusal.{WriteRefusal}
use Rattle.gate_model.specs.declared.write_refusal.WriteRefusal.TheVariants.{NoViewer, Closed, Worn, NoMemory}
use Rattle.gate_model.proofs.Causes.{closed_with_cause}
use Rattle.turn_lock.specs.declared.view.View.{View}
use Rattle.shared_desk.specs.Members.{IsSound, KnowsViewer}
use Rattle.shared_desk.proofs.Lasting.{closes_seen, left_seen}
use Rattle.viewer_acts.specs.Parts.{AreParts, Part, joined, parts_of}
use Rattle.viewer_acts.specs.Doing.{HasWritten, WritesSome}
use Rattle.viewer_acts.proofs.Cuts.{are_parts, joined_more, joined_of}
use Rattle.ws_tunnel.specs.Runs.{HasPut, PutsSome, put_of}
use Rattle.ws_tunnel.specs.declared.ends.WsEnd.{WsEnd}

parts_front : (parts others : List Part) → AreParts (parts ++ others) → AreParts parts
parts_front [] others k = tt
parts_front (part ∷ parts) others k = (k.0, parts_front parts others k.1)

module _ (viewer : ℕ) (v w : View Entry) (acts : List Act) where
  some : (r : WriteRefusal) → (s : WritesSome viewer v w acts r) → PutsSome viewer v w acts (joined (s.lost ∷ s.left))
  some r s = record {
    parts = s.parts;
    are_parts = parts_front s.parts (s.lost ∷ s.left) (subst (λ (ps : List Part). AreParts ps) s.split (are_parts acts));
    acts_are = sym (joined_of acts) ∙ (ap joined s.split ∙ joined_more s.parts (s.lost ∷ s.left));
    wrote = s.wrote;
  }

  puts : (r : Result (Unit {0}) WriteRefusal) → HasWritten viewer v w acts r → IsSound w.seen → KnowsViewer viewer w → HasPut viewer v w acts (put_of r)
  puts (Ok done) k sound knows = ([], record { parts = parts_of acts; are_parts = are_parts acts; acts_are = sym (append-nil (joined (parts_of acts)) ∙ joined_of acts); wrote = k }, inl refl)
  puts (Err (Closed c)) k sound knows = (joined (k.lost ∷ k.left), some (Closed c) k, inr ((closed_with_cause w.seen c k.cause).0, (c, closes_seen w.seen c k.cause)))
  puts (Err NoViewer) k sound knows = (joined (k.lost ∷ k.left), some NoViewer k, tt, left_seen viewer knows.first w.seen sound.legal knows.joined k.cause)
  puts (Err (Worn n)) k sound knows = (joined (k.lost ∷ k.left), some (Worn n) k, tt, k.cause)
  puts (Err NoMemory) k sound knows = (joined (k.lost ∷ k.left), some NoMemory k, tt, k.cause)

  -- .. told by its equal, where the viewer is the one at the beginning
  pub puts_as : (m : ℕ) (r : Result (Unit {0}) WriteRefusal) (result : Result (Unit {0}) WsEnd) → m ≡ viewer → result ≡ put_of r → HasWritten viewer v w acts r → IsSound w.seen → KnowsViewer m w → HasPut viewer v w acts result
  puts_as m r result same is k sound knows = subst (λ (x : Result (Unit {0}) WsEnd). HasPut viewer v w acts x) (sym is) (puts r k sound (subst (λ (n : ℕ). KnowsViewer n w) same knows))
