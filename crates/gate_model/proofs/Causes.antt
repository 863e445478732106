-- A session has a cause just where it is closed.
use Rattle.std.proofs.Common.{◌≡◌, [], ◌∷◌, true, false, refl, ap}
use Rattle.std.specs.Prelude.{Some, None}
use Rattle.gate_model.specs.declared.cause.Cause.{Cause}
use Rattle.gate_model.specs.declared.entry.Entry.TheVariants.{Start, Feed, Size, Join, Read, Write, Take, Leave, Close}
use Rattle.gate_model.specs.session.History.{History, is_closed}
use Rattle.gate_model.specs.session.Delivered.{closing, farewell}
use Rattle.gate_model.specs.session.Refusals.{close_cause}

pub open_without_cause : (h : History) → close_cause h ≡ None → is_closed h ≡ false
open_without_cause [] e = refl
open_without_cause (Start cols rows mode term faces entries stamp frame ∷ g) e = open_without_cause g e
open_without_cause (Feed bytes stamp frame ∷ g) e = open_without_cause g e
open_without_cause (Size viewer cols rows stamp frame ∷ g) e = open_without_cause g e
open_without_cause (Join viewer role first ∷ g) e = open_without_cause g e
open_without_cause (Read viewer how ∷ g) e = open_without_cause g e
open_without_cause (Write viewer acts ∷ g) e = open_without_cause g e
open_without_cause (Take count ∷ g) e = open_without_cause g e
open_without_cause (Leave viewer ∷ g) e = open_without_cause g e
open_without_cause (Close cause ∷ g) e = absurd (let w : Some cause ≡ None = e in cc)

pub closed_with_cause : (h : History) (cause : Cause) → close_cause h ≡ Some cause → (is_closed h ≡ true) × (closing h ≡ farewell cause ∷ [])
closed_with_cause [] cause e = absurd (let w : None ≡ Some cause = e in cc)
closed_with_cause (Start cols rows mode term faces entries stamp frame ∷ g) cause e = closed_with_cause g cause e
closed_with_cause (Feed bytes stamp frame ∷ g) cause e = closed_with_cause g cause e
closed_with_cause (Size viewer cols rows stamp frame ∷ g) cause e = closed_with_cause g cause e
closed_with_cause (Join viewer role first ∷ g) cause e = closed_with_cause g cause e
closed_with_cause (Read viewer how ∷ g) cause e = closed_with_cause g cause e
closed_with_cause (Write viewer acts ∷ g) cause e = closed_with_cause g cause e
closed_with_cause (Take count ∷ g) cause e = closed_with_cause g cause e
closed_with_cause (Leave viewer ∷ g) cause e = closed_with_cause g cause e
closed_with_cause (Close kept ∷ g) cause e = let same : kept ≡ cause = (let w : Some kept ≡ Some cause = e in cc) in (refl, ap (λ (c : Cause). farewell c ∷ []) same)
