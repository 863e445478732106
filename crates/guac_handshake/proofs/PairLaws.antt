-- The pairs of a form, one after the other.
use Rattle.std.proofs.Common.{◌≡◌, ℕ, List, [], ◌∷◌, ◌++◌, map, All, Result, Err, IfErr, ap, sym, subst, ◌∙◌}
use Rattle.std.proofs.lemmas.List.{append_assoc, append-nil}
use Rattle.std.proofs.lemmas.List.Elements.{All-head, All-push, All-tail}
use Rattle.form_urlencoded.specs.Form.{decode, parse}
use Rattle.form_urlencoded.specs.Parse.{raw_pairs_left}
use Rattle.form_urlencoded.specs.declared.reading.RawPairs.{RawPairs}
use Rattle.guac_handshake.specs.Forms.{IsText, StoppedBy}
use Rattle.guac_handshake.specs.declared.form_refusal.FormRefusal.{FormRefusal}
use Rattle.guac_handshake.specs.declared.form_refusal.FormRefusal.TheVariants.{Form, Door, NoMemory}

-- the pair that an encoded one stands for
abbrev pub pair_of : List ℕ × List ℕ → List ℕ × List ℕ
pair_of pair = (decode pair.0, decode pair.1)

abbrev pub pairs_to_come : RawPairs → List (List ℕ × List ℕ)
pairs_to_come it = map pair_of (raw_pairs_left it)

-- what was read and what is to come are the pairs of the body, and what was read is text
pub record Goes (body : List ℕ) (it : RawPairs) (so_far : List (List ℕ × List ℕ)) : Type 0 where
  pub all : so_far ++ pairs_to_come it ≡ parse body
  pub texts : All IsText so_far

-- what is to come with a pair at its front
come : (name value : List ℕ) (it on : RawPairs) → raw_pairs_left it ≡ (name, value) ∷ raw_pairs_left on → pairs_to_come it ≡ (decode name, decode value) ∷ pairs_to_come on
come name value it on left = ap (λ (ps : List (List ℕ × List ℕ)). map pair_of ps) left

pub step : (body name value : List ℕ) (it on : RawPairs) (so_far now : List (List ℕ × List ℕ)) → Goes body it so_far → raw_pairs_left it ≡ (name, value) ∷ raw_pairs_left on → now ≡ so_far ++ (decode name, decode value) ∷ [] → IsText (decode name, decode value) → Goes body on now
step body name value it on so_far now goes left put text = record {
  all = ap (λ (ps : List (List ℕ × List ℕ)). ps ++ pairs_to_come on) put ∙ append_assoc so_far ((decode name, decode value) ∷ []) (pairs_to_come on) ∙ ap (λ (ps : List (List ℕ × List ℕ)). so_far ++ ps) (sym (come name value it on left)) ∙ goes.all;
  texts = subst (λ (ps : List (List ℕ × List ℕ)). All IsText ps) (sym put) (All-push IsText so_far (decode name, decode value) goes.texts text);
}

behind : (ps qs : List (List ℕ × List ℕ)) → All IsText (ps ++ qs) → All IsText qs
behind [] qs all = all
behind (p ∷ ps) qs all = behind ps qs (All-tail IsText p (ps ++ qs) all)

pub refused : (body name value : List ℕ) (it on : RawPairs) (so_far : List (List ℕ × List ℕ)) → Goes body it so_far → raw_pairs_left it ≡ (name, value) ∷ raw_pairs_left on → (IsText (decode name, decode value) → ⊥) → All IsText (parse body) → ⊥
refused body name value it on so_far goes left not all = not (All-head IsText (decode name, decode value) (pairs_to_come on)
    (subst (λ (ps : List (List ℕ × List ℕ)). All IsText ps) (come name value it on left) (behind so_far (pairs_to_come it) (subst (λ (ps : List (List ℕ × List ℕ)). All IsText ps) (sym goes.all) all))))

pub done : (body : List ℕ) (it : RawPairs) (so_far : List (List ℕ × List ℕ)) → Goes body it so_far → raw_pairs_left it ≡ [] → so_far ≡ parse body
done body it so_far goes left = sym (append-nil so_far) ∙ ap (λ (ps : List (List ℕ × List ℕ)). so_far ++ map pair_of ps) (sym left) ∙ goes.all

-- a form that is refused at one pair
pub stopped : {A B : Type 0} (body name value : List ℕ) (it on : RawPairs) (so_far : List (List ℕ × List ℕ)) (r : Result A FormRefusal) (s : Result B FormRefusal) (e : FormRefusal) → Goes body it so_far → raw_pairs_left it ≡ (name, value) ∷ raw_pairs_left on → r ≡ Err e → IfErr r (StoppedBy (IsText (decode name, decode value) → ⊥)) → s ≡ Err e → IfErr s (StoppedBy (All IsText (parse body) → ⊥))
stopped body name value it on so_far r s e goes left was kind now =
    subst (λ q. IfErr q (StoppedBy (All IsText (parse body) → ⊥))) (sym now) (by e (subst (λ q. IfErr q (StoppedBy (IsText (decode name, decode value) → ⊥))) was kind))
  where
    by : (f : FormRefusal) → StoppedBy (IsText (decode name, decode value) → ⊥) f → StoppedBy (All IsText (parse body) → ⊥) f
    by Form not = refused body name value it on so_far goes left not
    by NoMemory u = tt
    by (Door d) u = u
