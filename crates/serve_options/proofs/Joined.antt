-- What texts give, of which some were read.
use Rattle.std.proofs.Common.{◌≡◌, List, [], ◌∷◌, ◌++◌, None, Some, ap, append_assoc, refl, sym}
use Rattle.std.specs.Prelude.{Option}
use Rattle.serve_options.specs.Values.{and_more}

module _ {A : Type 0} where
  -- those that were read, and then those that are left, where each of these is one
  abbrev pub joined : List A → Option (List A) → Option (List A)
  joined first None = None
  joined first (Some more) = Some (first ++ more)

  pub joined_none : (more : Option (List A)) → more ≡ joined [] more
  joined_none None = refl
  joined_none (Some more) = refl

  pub joined_more : (first : List A) (a : A) (more : Option (List A)) → joined first (and_more (Some a) more) ≡ joined (first ++ (a ∷ [])) more
  joined_more first a None = refl
  joined_more first a (Some more) = ap (λ (l : List A). Some l) (sym (append_assoc first (a ∷ []) more))
