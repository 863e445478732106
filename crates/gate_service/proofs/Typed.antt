-- What is pasted is typed from the byte on that was looked at.
use Rattle.std.proofs.Common.{◌≡◌, ◌<◌, ℕ, List, [], ◌∷◌, ◌++◌, Bool, Option, Some, None, refl, ap, sym, ◌∙◌}
use Rattle.std.specs.Prelude.{option_map}
use Rattle.clip_stream.specs.Pasted.{pasted}
use Rattle.clip_stream.specs.Sources.{IsOver, on_left, rest_of}
use Rattle.clip_stream.specs.declared.paster.Paster.{Paster}
use Rattle.gate_outside.specs.Edge.{AtEnd, came}
use Rattle.gate_service.specs.Typings.{typed_from}

-- .. where it was fed
pub typed_behind : (p q : Paster) (byte : ℕ) (left : Option (List ℕ)) → ((more : List ℕ) → rest_of p more ≡ pasted more) → ((more : List ℕ) → rest_of p (byte ∷ more) ≡ rest_of q more) → came [] (on_left q left) ≡ option_map pasted (came (byte ∷ []) left)
typed_behind p q byte None fresh fed = refl
typed_behind p q byte (Some rest) fresh fed = ap Some (sym (fed rest) ∙ fresh (byte ∷ rest))

-- .. where none was
pub typed_first : (p : Paster) (left : Option (List ℕ)) → ((more : List ℕ) → rest_of p more ≡ pasted more) → came [] (on_left p left) ≡ option_map pasted (came [] left)
typed_first p None fresh = refl
typed_first p (Some rest) fresh = ap Some (fresh rest)

-- where nothing is to be given any more, the source is at its end
pub over_end : (p : Paster) (left : Option (List ℕ)) → IsOver p → AtEnd (on_left p left)
over_end p None over = tt
over_end p (Some rest) over = over.1 rest

-- what is typed is the same where what is left is
pub typed_same : (a b : Bool) (left was : Option (List ℕ)) → a ≡ b → left ≡ was → typed_from a left ≡ typed_from b was
typed_same a b left was e f = ap (λ (k : Bool). typed_from k left) e ∙ ap (typed_from b) f
