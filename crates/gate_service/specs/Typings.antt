-- A source in which what is pasted may be typed as keys (this project's own).
use Rattle.std.specs.Prelude.{ℕ, ◌+◌, min, List, Bool, true, false, Option, Some, None, option_map}
use Rattle.std.specs.Option.{is_some}
use Rattle.clip_stream.specs.Pasted.{pasted}
use Rattle.clip_stream.specs.Sources.{on_left}
use Rattle.clip_stream.specs.declared.paster.Paster.{Paster}
use Rattle.gate_outside.specs.Edge.{most_faults}
use Rattle.gate_service.specs.declared.typing.Typing.{Typing}

-- what is given of what is left: that itself, before pastes have begun
abbrev pub typed_by : Option Paster → Option (List ℕ) → Option (List ℕ)
typed_by None left = left
typed_by (Some pastes) left = on_left pastes left

-- what is given once pastes begin, if they haven't begun
abbrev pub typed_from : Bool → Option (List ℕ) → Option (List ℕ)
typed_from true left = left
typed_from false left = option_map pasted left

module _ {S : Type 0} where
  -- the inner source
  abbrev pub inner_of : Typing S → S
  inner_of s = s.source

  -- what types its pastes, once they have begun
  abbrev pub pastes_of : Typing S → Option Paster
  pastes_of s = s.pastes

  -- pastes have begun
  abbrev pub has_begun : Typing S → Bool
  has_begun s = is_some s.pastes

  -- how many reads were given up
  abbrev pub given_up : Typing S → ℕ
  given_up s = s.given_up

  -- what is still to be given, where the inner source tells what is left
  abbrev pub left_of : (S → Option (List ℕ)) → Typing S → Option (List ℕ)
  left_of left s = typed_by s.pastes (left s.source)

  -- the inner source's faults and the reads that were given up
  abbrev pub faults_of : (S → ℕ) → Typing S → ℕ
  faults_of faults s = min (faults s.source + s.given_up) most_faults
